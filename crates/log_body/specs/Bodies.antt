-- A loop's body. Document 01: "The bytes between a loop line and its `done` can be had as a part of the log itself; number and place come as a
-- separate answer."
use Rattle.std.specs.Prelude.{ℕ, ◌+◌, ◌-◌, Bool, true, false, List, [], ◌∷◌, length, get_or, take, drop, eqb, Result, Ok, Err}
use Rattle.refusal.specs.declared.Refusal.{Refusal}
use Rattle.arith.specs.Pick.{pick, both, either}
use Rattle.log_line.specs.declared.Line.{Line}
use Rattle.log_line.specs.declared.Line.TheVariants.{Header, Machine, One, Loop, Done, Stop, NoForm, NoRegister}
use Rattle.log_line.specs.Said.{line_of}
use Rattle.log_rules.specs.Lines.{lines_of, next_line}
use Rattle.log_rules.specs.Reading.{read_at}
use Rattle.log_rules.specs.Whole.{check_of}
use Rattle.log_body.specs.declared.Answer.{Answer}

-- a line begins at the log's start and behind each line feed
unfoldable pub begins_line : List ℕ → ℕ → Bool
begins_line log at = either (eqb at 0) (eqb (get_or log (at - 1) 0) 10)

unfoldable pub is_loop : Line → Bool
is_loop (Loop n) = true
is_loop Header = false
is_loop Machine = false
is_loop (One a) = false
is_loop Done = false
is_loop (Stop n) = false
is_loop NoForm = false
is_loop NoRegister = false

unfoldable pub reads_loop : Result (Line × ℕ) Refusal → Bool
reads_loop (Ok (l, next)) = is_loop l
reads_loop (Err e) = false

-- a loop line begins at a place
unfoldable pub begins_loop : List ℕ → ℕ → Bool
begins_loop log at = both (begins_line log at) (reads_loop (read_at log at))

-- 12 at 0: "no loop line begins at the offset asked for"; "Numbers 11 and 12 follow all other log checks"
unfoldable pub body_check_of : List ℕ → ℕ → Answer
body_check_of log at =
    pick (eqb (check_of log).number 0)
    (pick (begins_loop log at) (record { number = 0; place = 0 })
    (record { number = 12; place = 0 }))
    (record { number = (check_of log).number; place = (check_of log).place })

-- a `done` line, and how many loops are open behind a line where d are
unfoldable pub is_done : Line → Bool
is_done Done = true
is_done Header = false
is_done Machine = false
is_done (One a) = false
is_done (Loop n) = false
is_done (Stop n) = false
is_done NoForm = false
is_done NoRegister = false

unfoldable pub inner : ℕ → Line → ℕ
inner d (Loop n) = d + 1
inner d Done = d - 1
inner d Header = d
inner d Machine = d
inner d (One a) = d
inner d (Stop n) = d
inner d NoForm = d
inner d NoRegister = d

-- where the `done` begins that closes a loop, d loops being open inside it: the first line of ls begins at `at`
unfoldable pub done_from : ℕ → ℕ → List (List ℕ) → ℕ
done_from d at [] = at
done_from d at (l ∷ ls) = pick (both (is_done (line_of l)) (eqb d 0)) at (done_from (inner d (line_of l)) (at + length l) ls)

-- the bytes from behind the line at a place to the `done` that closes it
unfoldable pub between : List ℕ → ℕ → List ℕ
between log from = take (done_from 0 from (lines_of (drop from log)) - from) (drop from log)

-- "an empty part" on refusal
unfoldable pub body_of : List ℕ → ℕ → List ℕ
body_of log at = pick (eqb (body_check_of log at).number 0) (between log (next_line log at)) []
