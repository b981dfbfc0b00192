-- What is answered about bodies is within document 01's limits. Assumes nothing.
use mathlib.Core.Path.{◌≡◌, refl, ap}
use mathlib.Core.List.{List, [], ◌∷◌}
use Prim.Native.Nat.{ℕ, zero, suc, ◌-◌, ◌≤◌}
use native.Mathlib.Omega.{arith}
use lib.ListN.{length, take, drop, length-take, length-drop}
use lib.Dec.{eqb}
use Rattle.arith.proofs.PickLaws.{pick_both}
use Rattle.log_line.specs.declared.Line.TheVariants.{Loop}
use Rattle.log_rules.specs.Lines.{lines_of, next_line}
use Rattle.log_rules.specs.Whole.{check_of}
use Rattle.log_rules.proofs.PlaceLaws.{had_at, next_le}
use Rattle.log_rules.proofs.Limits.{check_limits}
use Rattle.log_body.specs.declared.Answer.{Answer}
use Rattle.log_body.specs.Bodies.{begins_loop, body_check_of, done_from, between, body_of}
use Rattle.log_body.proofs.PartLaws.{here}

-- the number of a body's answer is in the table and its place in the log; where it is not refused the body starts in the log, and is a part of it

pub body_answer : (log : List ℕ) (o : ℕ) → ((body_check_of log o).number ≤ 19) × ((body_check_of log o).place ≤ 60000)
unfolding body_check_of
body_answer log o =
    let c = check_limits log in
    let In : Answer → Type 0 = λ a. (a.number ≤ 19) × (a.place ≤ 60000) in
    pick_both In (eqb (check_of log).number 0)
    (pick_both In (begins_loop log o) (omega arith, omega arith) (omega arith, omega arith)) (omega (arith, c.number), c.place)

pub body_start : (log : List ℕ) (o : ℕ) → (body_check_of log o).number ≡ 0 → (length log ≤ 60000) × (next_line log o ≤ length log)
body_start log o h =
    let w = here log o h in
    let l = had_at log o (Loop w.turns) w.from w.read in
    (l.short, next_le log o (omega (arith, l.inside)))

retaken : (n : ℕ) (l : List ℕ) → take (length (take n l)) l ≡ take n l
retaken zero l = refl
retaken (suc n) [] = refl
retaken (suc n) (a ∷ l) = ap (λ (x : List ℕ). a ∷ x) (retaken n l)

between_part : (log : List ℕ) (from : ℕ) → take (length (between log from)) (drop from log) ≡ between log from
unfolding between
between_part log from = retaken (done_from 0 from (lines_of (drop from log)) - from) (drop from log)

pub body_is_part : (log : List ℕ) (o : ℕ) → take (length (body_of log o)) (drop (next_line log o) log) ≡ body_of log o
unfolding body_of
body_is_part log o =
    pick_both (λ (b : List ℕ). take (length b) (drop (next_line log o) log) ≡ b) (eqb (body_check_of log o).number 0)
    {a = between log (next_line log o)} {b = []} (between_part log (next_line log o)) refl

pub body_length : (log : List ℕ) (o : ℕ) → length (body_of log o) ≤ length log
body_length log o =
    let e = ap length (body_is_part log o) in
    let f = simp (length-take, length-drop) at e in
    omega arith
