-- Answers about a log: each part of the number can be had again, and the body of a loop is the part of the log that the answer says. Assumes
-- nothing.
use Rattle.std.specs.Prelude.{Ok}
use Prim.Native.Nat.{ℕ, ◌+◌, ◌*◌, ◌/◌, ◌%◌, ◌^◌, ◌≤◌, ◌<◌}
use mathlib.Core.Path.{◌≡◌}
use mathlib.Core.List.{List}
use mathlib.Core.Bool.{Bool, true, false}
use native.Mathlib.Omega.{arith}
use borrow.Author.Tests.{eq-eqb}
use lib.ListN.{length, take, drop}
use Rattle.arith.specs.Pick.{pick}
use Rattle.log_line.specs.declared.Line.{Line}
use Rattle.log_rules.specs.Lines.{next_line}
use Rattle.log_rules.specs.Reading.{read_at}
use Rattle.log_rules.proofs.PlaceLaws.{had_at}
use Rattle.log_body.specs.Bodies.{body_check_of, body_of}
use Rattle.log_body.proofs.Limits.{body_answer, body_start, body_length, body_is_part}
use Rattle.c_log.specs.Logs.{log_packed, check_value, body_value, body_packed}

-- the parts of an answer
pub apart : (number place value : ℕ) → number < 2 ^ 8 → place < 2 ^ 24
    → (log_packed number place value % 2 ^ 8 ≡ number) × (log_packed number place value / 2 ^ 8 % 2 ^ 24 ≡ place) × (log_packed number place value / 2 ^ 32 ≡ value)
apart number place value h k = (omega arith, omega arith, omega arith)

-- the parts of a check's value
pub value_apart : (clocks : ℕ) (pal : Bool) → clocks ≤ 2000000000 → (check_value clocks pal % 2 ^ 31 ≡ clocks) × (check_value clocks pal / 2 ^ 31 ≡ pick pal 1 0)
value_apart clocks true h = (omega arith, omega arith)
value_apart clocks false h = (omega arith, omega arith)

module _ (log : List ℕ) (o : ℕ) where
  -- what `body_value` adds up
  pub body_value_is : (body_check_of log o).number ≡ 0 → (l : Line) (start : ℕ) → read_at log o ≡ Ok (l, start) → (part : List ℕ) → part ≡ body_of log o
      → (start + 65536 * length part ≡ body_value log o) × (start + 65536 * length part < 2 ^ 32)
  unfolding body_value
  body_value_is h l start e part f =
      let s = (had_at log o l start e).on in
      let a = body_start log o h in
      let b = body_length log o in
      rw (f, s) (rw (eq-eqb (body_check_of log o).number 0 h), omega arith)

  -- THE BODY AS A PART OF THE LOG: where the answer's number is 0, so many bytes from its start on
  pub body_part_is : body_packed log o % 2 ^ 8 ≡ 0 → take (body_packed log o / 2 ^ 48) (drop (body_packed log o / 2 ^ 32 % 2 ^ 16) log) ≡ body_of log o
  unfolding body_value
  body_part_is e =
      let l = body_answer log o in
      let n : (body_check_of log o).number ≡ 0 = omega arith in
      let a = body_start log o n in
      let b = body_length log o in
      let v : body_value log o ≡ next_line log o + 2 ^ 16 * length (body_of log o) = rw (eq-eqb (body_check_of log o).number 0 n) in
      let w = (apart (body_check_of log o).number (body_check_of log o).place (body_value log o) (omega arith) (omega arith)).2 in
      let from : body_packed log o / 2 ^ 32 % 2 ^ 16 ≡ next_line log o = rw (w, v) (omega arith) in
      let size : body_packed log o / 2 ^ 48 ≡ length (body_of log o) = omega arith in
      rw (from, size) (body_is_part log o)
