-- Helper: nobody has to believe this; what the code finds at a place of the log, by its bytes. That it is what folding the tree says is proved.
use Rattle.std.specs.Prelude.{ℕ, zero, suc, ◌+◌, ◌*◌, ◌-◌, ◌/◌, ◌%◌, ◌≤◌, min, ◌≡◌, List, [], ◌∷◌, ◌++◌, Bool, length, take, drop, get_or, leb, ltb, eqb, Result, Ok, Err}
use Rattle.refusal.specs.declared.Refusal.{Refusal}
use Rattle.arith.specs.Pick.{pick, both}
use Rattle.text.specs.Key.{starts_with}
use Rattle.text.specs.Decimal.{decimal_text}
use Rattle.log_line.specs.declared.Line.{Line}
use Rattle.log_line.specs.declared.Line.TheVariants.{Header, Machine, One, Loop, Done, Stop, NoForm, NoRegister}
use Rattle.log_line.specs.Printed.{line_text}
use Rattle.log_rules.specs.declared.Block.{Block}
use Rattle.log_rules.specs.declared.Block.TheVariants.{Closed, Stopped}
use Rattle.log_rules.specs.Reading.{read_at}
use Rattle.log_rules.specs.Block.{read_block, block_answer}
use Rattle.log_fold.specs.declared.Move.{Move}

abbrev pub plain_move : ℕ → Move
plain_move e = record { count = 0; until = e; next = e }

abbrev pub loop_move : ℕ → ℕ → ℕ → Move
loop_move at e c = record { count = c; until = e; next = at + c * (e - at) }

-- where a wait, write or read at a place ends; else the place
abbrev pub act_line : ℕ → ℕ → Line → ℕ
act_line at next Header = at
act_line at next Machine = at
act_line at next (One a) = next
act_line at next (Loop n) = at
act_line at next Done = at
act_line at next (Stop n) = at
act_line at next NoForm = at
act_line at next NoRegister = at

abbrev pub act_end_by : ℕ → Result (Line × ℕ) Refusal → ℕ
act_end_by at (Ok (l, next)) = act_line at next l
act_end_by at (Err e) = at

unfoldable pub act_end : List ℕ → ℕ → ℕ
act_end log at = act_end_by at (read_at log at)

-- how many bytes two lists have alike at their front
unfoldable pub alike : List ℕ → List ℕ → ℕ
alike [] t = 0
alike (a ∷ s) [] = 0
alike (a ∷ s) (b ∷ t) = pick (eqb b a) (suc (alike s t)) 0

-- the first place from `at` on whose byte is not the one m bytes further on, or behind which m bytes further on the log ends
unfoldable pub run_end : List ℕ → ℕ → ℕ → ℕ
run_end log at m = at + alike (drop at log) (drop (at + m) log)

-- a mark holds m and such a place for some earlier place of the log; it serves as long as that is not passed
abbrev pub Mark : List ℕ → ℕ → ℕ → Type 0
Mark log at v = at ≤ v % 65536 → run_end log at (v / 65536) ≡ v % 65536

pub record Marked (log : List ℕ) (at : ℕ) (marks : List ℕ) : Type 0 where
  pub size : length marks ≡ 16
  pub each : (i : ℕ) → Mark log at (get_or marks i 0)

-- m bytes, and r bytes behind the first of them that are each the one m bytes further on, are so many copies of the m bytes; 255 at most
abbrev pub copies_in : ℕ → ℕ → ℕ
copies_in r m = min 255 (r / m + 1)

-- how many copies of the bytes b stand at the front of s; n at most
unfoldable pub copies_of : ℕ → List ℕ → List ℕ → ℕ
copies_of zero b s = 0
copies_of (suc n) b s = pick (starts_with b s) (suc (copies_of n b (drop (length b) s))) 0

unfoldable pub copies_at : List ℕ → ℕ → ℕ → ℕ
copies_at log at e = copies_of 255 (take (e - at) (drop at log)) (drop at log)

-- c copies of m bytes become a loop in a log of k turns so far; the loop's two lines have 16 bytes and the digits of c
unfoldable pub suits_of : ℕ → ℕ → ℕ → Bool
suits_of k m c = both (leb 2 c) (both (ltb (16 + length (decimal_text c) + m) (c * m)) (leb (k + c) 1000000))

-- the first of n ends behind e that suits
unfoldable pub chosen_in : ℕ → List ℕ → ℕ → ℕ → ℕ → ℕ → Move
chosen_in zero log at k next e = plain_move next
chosen_in (suc n) log at k next e =
    pick (eqb (act_end log e) e) (plain_move next)
    (pick (suits_of k (act_end log e - at) (copies_at log at (act_end log e))) (loop_move at (act_end log e) (copies_at log at (act_end log e)))
    (chosen_in n log at k next (act_end log e)))

abbrev pub block_end : ℕ → Result Block Refusal → ℕ
block_end next (Ok (Closed p q t)) = q
block_end next (Ok (Stopped p q n t)) = next
block_end next (Err e) = next

abbrev pub line_move : List ℕ → ℕ → ℕ → ℕ → Line → Move
line_move log at k next Header = plain_move next
line_move log at k next Machine = plain_move next
line_move log at k next (One a) = chosen_in 16 log at k next at
line_move log at k next (Loop n) = plain_move (block_end next (block_answer (read_block log next 1)))
line_move log at k next Done = plain_move next
line_move log at k next (Stop n) = plain_move next
line_move log at k next NoForm = plain_move next
line_move log at k next NoRegister = plain_move next

abbrev pub move_by : List ℕ → ℕ → ℕ → Result (Line × ℕ) Refusal → Move
move_by log at k (Ok (l, next)) = line_move log at k next l
move_by log at k (Err e) = plain_move (length log)

unfoldable pub move_of : List ℕ → ℕ → ℕ → Move
move_of log at k = move_by log at k (read_at log at)

-- what is written for the bytes s: as they are, or as the body of a loop of c turns
unfoldable pub loop_text : ℕ → List ℕ → List ℕ
loop_text c s = line_text (Loop c) ++ (s ++ line_text Done)

unfoldable pub move_text : ℕ → List ℕ → List ℕ
move_text c s = pick (eqb c 0) s (loop_text c s)
