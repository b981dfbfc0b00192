-- A teller: it says things, one small step at a time.
use Rattle.std.specs.Prelude.{◌≡◌, List, [], ◌∷◌, ℕ, ◌<◌}

-- what a step says: that all is over; nothing, go on; a thing; or a refusal's number and place
pub data Said (A : Type 0) : Type 0 where
  over : Said A
  on : Said A
  says : A → Said A
  refused : ℕ → ℕ → Said A

-- Document 01: "When an answer is an enum, a definition states this paper's number and values for each enum case". A refusal has its own number and place;
-- all else is 0, "done", at 0, and the thing that is said is its value
abbrev pub said_number : {A : Type 0} → Said A → ℕ
said_number over = 0
said_number on = 0
said_number (says a) = 0
said_number (refused k p) = k

abbrev pub said_place : {A : Type 0} → Said A → ℕ
said_place over = 0
said_place on = 0
said_place (says a) = 0
said_place (refused k p) = p

abbrev pub said_things : {A : Type 0} → Said A → List A
said_things over = []
said_things on = []
said_things (says a) = a ∷ []
said_things (refused k p) = []

pub record Turn (S A : Type 0) : Type 0 where
  pub said : Said A
  pub state : S

-- from s the teller says the things of l, one after the other, and then that all is over, within f steps
pub data Gives {S A : Type 0} (step : S → Turn S A) : S → List A → ℕ → Type 0 where
  ends : {s : S} (f : ℕ) → (step s).said ≡ over → 0 < f → Gives step s [] f
  goes : {s : S} {l : List A} {k : ℕ} (f : ℕ) → (step s).said ≡ on → Gives step (step s).state l k → k < f → Gives step s l f
  gives : {s : S} {a : A} {l : List A} {k : ℕ} (f : ℕ) → (step s).said ≡ says a → Gives step (step s).state l k → k < f → Gives step s (a ∷ l) f
