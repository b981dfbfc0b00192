-- A player that says all its lines, with few turns between them that say nothing. Assumes nothing.
use Prim.Native.Nat.{ℕ, zero, suc, ◌+◌, ◌≤◌, ◌<◌}
use mathlib.Core.Path.{◌≡◌, refl, ap}
use mathlib.Core.List.{List, [], ◌∷◌, ◌++◌}
use native.Mathlib.Omega.{arith}
use lib.ListN.{length}
use Rattle.reading.specs.Saying.{over, on, says, refused}
use Rattle.play_text.specs.declared.Entry.{Entry}
use Rattle.play_rules.specs.declared.Player.{Player}
use Rattle.play_rules.specs.Turns.{Go, go, Goes, here, quietly, saying}

module _ (turn : Player → Go) where
  -- from p the lines of l are said, and then that all is over; the next of these within k turns, each further one within 4,000,010
  pub data Tells : Player → List Entry → ℕ → Type 0 where
    ends : {p : Player} (k : ℕ) → (turn p).said ≡ over → Tells p [] k
    rests : {p : Player} {l : List Entry} {j : ℕ} (k : ℕ) → (turn p).said ≡ on → Tells (turn p).state l j → j < k → Tells p l k
    tells : {p : Player} {a : Entry} {l : List Entry} {j : ℕ} (k : ℕ) → (turn p).said ≡ says a → Tells (turn p).state l j → j < 4000010 → Tells p (a ∷ l) k

  pub weaken : {p : Player} {l : List Entry} {j : ℕ} (k : ℕ) → j ≤ k → Tells p l j → Tells p l k
  weaken k h (ends j e) = ends k e
  weaken k h (rests j e t b) = rests k e t (omega arith)
  weaken k h (tells j e t b) = tells k e t b

  pub by_rest : {p p' : Player} {l : List Entry} {j : ℕ} (k : ℕ) → turn p ≡ go on p' → Tells p' l j → j < k → Tells p l k
  by_rest {p = p} {l = l} {j = j} k e t b =
      let t' : Tells (turn p).state l j = rw e t in
      rests k (ap (λ (g : Go). g.said) e) t' b

  pub by_tell : {p p' : Player} {a : Entry} {l : List Entry} {j : ℕ} (k : ℕ) → turn p ≡ go (says a) p' → Tells p' l j → j < 4000010 → Tells p (a ∷ l) k
  by_tell {p = p} {l = l} {j = j} k e t b =
      let t' : Tells (turn p).state l j = rw e t in
      tells k (ap (λ (g : Go). g.said) e) t' b

  pub by_end : {p p' : Player} (k : ℕ) → turn p ≡ go over p' → Tells p [] k
  by_end k e = ends k (ap (λ (g : Go). g.said) e)

  goes_least : {p q : Player} {entries : List Entry} {n : ℕ} → Goes turn p entries n q → length entries ≤ n
  goes_least here = omega arith
  goes_least (quietly e g) = let h = goes_least g in omega arith
  goes_least (saying e g) = let h = goes_least g in omega arith

  -- on the way to a player that says the rest, b turns say nothing
  pub goes_tells : {p q : Player} {entries rest : List Entry} {n k : ℕ} → Goes turn p entries n q → (b : ℕ) → n ≤ length entries + b → Tells q rest k → k + b < 4000010 → Tells p (entries ++ rest) (k + b)
  goes_tells {k = k} here b h t m = weaken (k + b) (omega arith) t
  goes_tells (quietly e g) zero h t m = let l = goes_least g in absurd (omega arith)
  goes_tells {k = k} (quietly e g) (suc b) h t m = rests (k + suc b) e (goes_tells g b (omega arith) t (omega arith)) (omega arith)
  goes_tells {k = k} (saying e g) b h t m = tells (k + b) e (goes_tells g b (omega arith) t m) m

  -- a player that went on: what is left
  pub record Left (q : Player) (l entries : List Entry) (n k : ℕ) : Type 0 where
    pub rest : List Entry
    pub within : ℕ
    pub told : Tells q rest within
    pub low : within < 4000010
    pub joined : l ≡ entries ++ rest
    pub few : entries ≡ [] → n ≤ k

  longer : {q : Player} {l entries : List Entry} {n j k : ℕ} → j < k → Left q l entries n j → Left q l entries (suc n) k
  longer b i = record { rest = i.rest; within = i.within; told = i.told; low = i.low; joined = i.joined; few = λ e. let f = i.few e in omega arith }

  said : {q : Player} {l entries : List Entry} {n j : ℕ} (a b : Entry) (k : ℕ) → a ≡ b → Left q l entries n j → Left q (b ∷ l) (a ∷ entries) (suc n) k
  said a b k e i =
      record {
        rest = i.rest;
        within = i.within;
        told = i.told;
        low = i.low;
        joined = rw e (ap (λ (z : List Entry). b ∷ z) i.joined);
        few = λ z. absurd (let y : ◌≡◌ {A = ℕ} 0 1 = cc in omega arith);
      }

  pub left : {p q : Player} {entries l : List Entry} {n k : ℕ} → Goes turn p entries n q → Tells p l k → k < 4000010 → Left q l entries n k
  left {l = l} {k = k} here t m = record { rest = l; within = k; told = t; low = m; joined = refl; few = λ e. omega arith }
  left (quietly e g) (ends k f) m = absurd (let y : ◌≡◌ {A = ℕ} 0 1 = cc in omega arith)
  left (quietly e g) (rests k f t b) m = longer b (left g t (omega arith))
  left (quietly e g) (tells k f t b) m = absurd (let y : ◌≡◌ {A = ℕ} 0 1 = cc in omega arith)
  left (saying e g) (ends k f) m = absurd (let y : ◌≡◌ {A = ℕ} 0 1 = cc in omega arith)
  left (saying e g) (rests k f t b) m = absurd (let y : ◌≡◌ {A = ℕ} 0 1 = cc in omega arith)
  left (saying {entry = a} e g) (tells {a = b} k f t h) m =
      let q : a ≡ b = cc in
      said a b k q (left g t h)

  pub never_refused : {p : Player} {l : List Entry} {k : ℕ} (number place : ℕ) → Tells p l k → (turn p).said ≡ refused number place → ⊥
  never_refused number place (ends k f) e = let y : ◌≡◌ {A = ℕ} 0 1 = cc in omega arith
  never_refused number place (rests k f t b) e = let y : ◌≡◌ {A = ℕ} 0 1 = cc in omega arith
  never_refused number place (tells k f t b) e = let y : ◌≡◌ {A = ℕ} 0 1 = cc in omega arith

  pub over_none : {p : Player} {l : List Entry} {k : ℕ} → Tells p l k → (turn p).said ≡ over → l ≡ []
  over_none (ends k f) e = refl
  over_none (rests k f t b) e = absurd (let y : ◌≡◌ {A = ℕ} 0 1 = cc in omega arith)
  over_none (tells k f t b) e = absurd (let y : ◌≡◌ {A = ℕ} 0 1 = cc in omega arith)
