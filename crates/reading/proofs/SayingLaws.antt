-- Laws of a teller. Assumes nothing.
use mathlib.Core.Path.{◌≡◌, refl, ap}
use mathlib.Core.List.{List, [], ◌∷◌}
use Prim.Native.Nat.{ℕ, ◌≤◌, ◌<◌}
use native.Mathlib.Omega.{arith}
use Rattle.reading.specs.Saying.{over, on, says, Turn, Gives, ends, goes, gives}

module _ {S A : Type 0} (step : S → Turn S A) where
  -- more steps are enough too
  pub within : {s : S} {l : List A} {k : ℕ} (f : ℕ) → k ≤ f → Gives step s l k → Gives step s l f
  within f h (ends j e p) = ends f e (omega arith)
  within f h (goes j e g p) = goes f e g (omega arith)
  within f h (gives j e g p) = gives f e g (omega arith)

  -- by what a step is
  pub by_says : {s s' : S} {a : A} {l : List A} {k : ℕ} (f : ℕ) → step s ≡ record { said = says a; state = s' } → Gives step s' l k → k < f → Gives step s (a ∷ l) f
  by_says {s = s} {l = l} {k = k} f e g h =
      let g' : Gives step (step s).state l k = rw e g in
      gives f (ap (λ (t : Turn S A). t.said) e) g' h

  pub by_on : {s s' : S} {l : List A} {k : ℕ} (f : ℕ) → step s ≡ record { said = on; state = s' } → Gives step s' l k → k < f → Gives step s l f
  by_on {s = s} {l = l} {k = k} f e g h =
      let g' : Gives step (step s).state l k = rw e g in
      goes f (ap (λ (t : Turn S A). t.said) e) g' h

  pub by_over : {s s' : S} (f : ℕ) → step s ≡ record { said = over; state = s' } → 0 < f → Gives step s [] f
  by_over f e h = ends f (ap (λ (t : Turn S A). t.said) e) h

  -- A MACHINE GIVES ONE LIST
  pub one_list : {s : S} {l m : List A} {j k : ℕ} → Gives step s l j → Gives step s m k → l ≡ m
  one_list (ends j e p) (ends k f q) = refl
  one_list (ends j e p) (goes k f h q) = let z : ◌≡◌ {A = ℕ} 0 1 = cc in absurd (omega arith)
  one_list (ends j e p) (gives k f h q) = let z : ◌≡◌ {A = ℕ} 0 1 = cc in absurd (omega arith)
  one_list (goes j e g p) (ends k f q) = let z : ◌≡◌ {A = ℕ} 0 1 = cc in absurd (omega arith)
  one_list (goes j e g p) (goes k f h q) = one_list g h
  one_list (goes j e g p) (gives k f h q) = let z : ◌≡◌ {A = ℕ} 0 1 = cc in absurd (omega arith)
  one_list (gives j e g p) (ends k f q) = let z : ◌≡◌ {A = ℕ} 0 1 = cc in absurd (omega arith)
  one_list (gives j e g p) (goes k f h q) = let z : ◌≡◌ {A = ℕ} 0 1 = cc in absurd (omega arith)
  one_list (gives {a = a} j e g p) (gives {a = b} k f h q) =
      let tails = one_list g h in
      let heads : a ≡ b = cc in
      cc
