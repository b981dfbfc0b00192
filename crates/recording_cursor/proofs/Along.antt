-- A teller that goes along with another gives what that one gives. Assumes nothing.
use Prim.Native.Nat.{ℕ}
use mathlib.Core.Path.{◌≡◌, ap, ◌∙◌}
use mathlib.Core.List.{List}
use Rattle.reading.specs.Saying.{Said, Turn, Gives, ends, goes, gives}
use Rattle.reading.proofs.SayingLaws.{by_over, by_on, by_says}

abbrev turn : {T A : Type 0} → T → Said A → Turn T A
turn t w = record { said = w; state = t }

-- `other` says at the view of a state what `step` says at the state, as long as P holds
module _ {S T A : Type 0} (step : S → Turn S A) (other : T → Turn T A) (view : S → T) (P : S → Type 0)
    (same : (s : S) → P s → other (view s) ≡ turn (view (step s).state) (step s).said) (keeps : (s : S) → P s → P (step s).state) where
  pub gives_along : {s : S} {l : List A} {f : ℕ} → P s → Gives step s l f → Gives other (view s) l f
  gives_along {s = s} h (ends f e p) = by_over other f (same s h ∙ ap (turn (view (step s).state)) e) p
  gives_along {s = s} h (goes f e g p) = by_on other f (same s h ∙ ap (turn (view (step s).state)) e) (gives_along (keeps s h) g) p
  gives_along {s = s} h (gives f e g p) = by_says other f (same s h ∙ ap (turn (view (step s).state)) e) (gives_along (keeps s h) g) p
