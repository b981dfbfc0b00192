-- A teller to its end, and what holds of the state behind it. Assumes nothing.
use Prim.Native.Nat.{ℕ, ◌<◌}
use mathlib.Core.Path.{◌≡◌, ap}
use mathlib.Core.List.{List, [], ◌∷◌}
use Rattle.reading.specs.Saying as saying
use Rattle.reading.specs.Saying.{over, on, says, Turn, Gives}

-- from s the teller says the things of l and then that all is over, within f steps, and P holds of the state behind that
pub data Tells {S A : Type 0} (step : S → Turn S A) (P : S → Type 0) : S → List A → ℕ → Type 0 where
  ends : {s : S} (f : ℕ) → (step s).said ≡ over → P (step s).state → 0 < f → Tells step P s [] f
  goes : {s : S} {l : List A} {k : ℕ} (f : ℕ) → (step s).said ≡ on → Tells step P (step s).state l k → k < f → Tells step P s l f
  gives : {s : S} {a : A} {l : List A} {k : ℕ} (f : ℕ) → (step s).said ≡ says a → Tells step P (step s).state l k → k < f → Tells step P s (a ∷ l) f

module _ {S A : Type 0} (step : S → Turn S A) (P : S → Type 0) where
  pub only_given : {s : S} {l : List A} {f : ℕ} → Tells step P s l f → Gives step s l f
  only_given (ends f e h p) = saying.ends f e p
  only_given (goes f e t p) = saying.goes f e (only_given t) p
  only_given (gives f e t p) = saying.gives f e (only_given t) p

  -- by what a step is
  pub by_says : {s s' : S} {a : A} {l : List A} {k : ℕ} (f : ℕ) → step s ≡ record { said = says a; state = s' } → Tells step P s' l k → k < f
      → Tells step P s (a ∷ l) f
  by_says {s = s} {l = l} {k = k} f e g h =
      let g' : Tells step P (step s).state l k = rw e g in
      gives f (ap (λ (t : Turn S A). t.said) e) g' h

  pub by_on : {s s' : S} {l : List A} {k : ℕ} (f : ℕ) → step s ≡ record { said = on; state = s' } → Tells step P s' l k → k < f → Tells step P s l f
  by_on {s = s} {l = l} {k = k} f e g h =
      let g' : Tells step P (step s).state l k = rw e g in
      goes f (ap (λ (t : Turn S A). t.said) e) g' h

  pub by_over : {s s' : S} (f : ℕ) → step s ≡ record { said = over; state = s' } → P s' → 0 < f → Tells step P s [] f
  by_over {s = s} f e h p =
      let h' : P (step s).state = rw e h in
      ends f (ap (λ (t : Turn S A). t.said) e) h' p
