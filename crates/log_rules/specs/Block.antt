-- Document 01: "a block holds lines and a line may open a block": reading a block of lines from a place of the log, by recursive descent. That this is
-- the judgement line by line, and the tree that the lines stand for, is proved (proofs/Descent).
use Rattle.std.specs.Prelude.{ℕ, zero, suc, ◌+◌, ◌*◌, ◌≤◌, min, ◌≡◌, List, length, Result, Ok, Err}
use Rattle.refusal.specs.declared.Refusal.{Refusal}
use Rattle.refusal.specs.Refusal.{refusal}
use Rattle.log_line.specs.declared.Act.{Act}
use Rattle.log_line.specs.declared.Line.{Line}
use Rattle.log_line.specs.declared.Line.TheVariants.{Header, Machine, One, Loop, Done, Stop, NoForm, NoRegister}
use Rattle.log_rules.specs.declared.Totals.{Totals}
use Rattle.log_rules.specs.declared.Part.{Part}
use Rattle.log_rules.specs.declared.Part.TheVariants.{Acts, Close, Halt}
use Rattle.log_rules.specs.declared.Step.{Step}
use Rattle.log_rules.specs.declared.Step.TheVariants.{Plain, Open}
use Rattle.log_rules.specs.declared.Block.{Block}
use Rattle.log_rules.specs.declared.Block.TheVariants.{Closed, Stopped}
use Rattle.log_rules.specs.Reading.{standing, read_in}
use Rattle.log_rules.specs.Tree.{Tree, end, act, loop, acts, act_clocks, clocks, turns}

-- what the lines from a place on come to: a block, the place of its `done` and the place behind it; a block, the place of its `stop`, the place
-- behind it and the number there; or a refusal's number and place
pub data Got : Type 0 where
  closed : Tree → ℕ → ℕ → Got
  stopped : Tree → ℕ → ℕ → ℕ → Got
  refused : ℕ → ℕ → Got

-- what one line comes to, with the block that it opens, and the place behind it
pub data LinePiece : Type 0 where
  one : Act → ℕ → LinePiece
  many : ℕ → Tree → ℕ → LinePiece
  shut : ℕ → ℕ → LinePiece
  halt : ℕ → ℕ → ℕ → LinePiece
  bad : ℕ → ℕ → LinePiece

-- what a line says by itself: all of its piece, or that it begins a block of n turns at a place
pub data Begun : Type 0 where
  whole : LinePiece → Begun
  opens : ℕ → ℕ → Begun

-- the line at `at` says l and is right there, and the next one begins at `next`; behind a log's head no line that is right there says `log=1` or
-- `machine=pal`, or is at fault
unfoldable pub begun : ℕ → ℕ → Line → Begun
begun at next Header = whole (bad 14 at)
begun at next Machine = whole (bad 14 at)
begun at next (One a) = whole (one a next)
begun at next (Loop n) = opens n next
begun at next Done = whole (shut at next)
begun at next (Stop n) = whole (halt at next n)
begun at next NoForm = whole (bad 14 at)
begun at next NoRegister = whole (bad 4 at)

unfoldable pub begun_by : ℕ → Result (Line × ℕ) Refusal → Begun
begun_by at (Ok (l, next)) = begun at next l
begun_by at (Err e) = whole (bad e.number e.place)

-- where d loops are open
unfoldable pub read_begun : List ℕ → ℕ → ℕ → Begun
read_begun log at d = begun_by at (read_in (standing log at d) log at)

-- the loop line's piece, from its body
unfoldable pub looped : ℕ → Got → LinePiece
looped n (closed b p q) = many n b q
looped n (stopped b p q m) = bad 8 p
looped n (refused k p) = bad k p

-- `rec` reads a block from a place at a depth
unfoldable pub piece : (ℕ → ℕ → Got) → ℕ → Begun → LinePiece
piece rec d (whole q) = q
piece rec d (opens n p) = looped n (rec p (d + 1))

-- an act, or a loop, in front of what the lines behind it come to
unfoldable pub before : (Tree → Tree) → Got → Got
before f (closed b p q) = closed (f b) p q
before f (stopped b p q m) = stopped (f b) p q m
before f (refused k p) = refused k p

unfoldable pub onward : (ℕ → Got) → LinePiece → Got
onward rec (one a p) = before (act a) (rec p)
onward rec (many n b p) = before (loop n b) (rec p)
onward rec (shut p q) = closed end p q
onward rec (halt p q n) = stopped end p q n
onward rec (bad k p) = refused k p

-- a block, read in at most f lines
unfoldable pub block_in : ℕ → List ℕ → ℕ → ℕ → Got
block_in zero log at d = refused 18 at
block_in (suc f) log at d = onward (λ p. block_in f log p d) (piece (block_in f log) d (read_begun log at d))

-- a log has no more lines than bytes
unfoldable pub read_block : List ℕ → ℕ → ℕ → Got
read_block log at d = block_in (suc (length log)) log at d

unfoldable pub read_part : List ℕ → ℕ → ℕ → LinePiece
read_part log at d = piece (read_block log) d (read_begun log at d)

-- the tree that was read
unfoldable pub got_tree : Got → Tree
got_tree (closed b p q) = b
got_tree (stopped b p q n) = b
got_tree (refused k p) = end

-- what the code answers: totals are cut off just above what a log may have

abbrev pub cut : ℕ → ℕ → ℕ → Totals
cut c t a = record { clocks = min 2000000001 c; turns = min 1000001 t; items = min 1000001 a }

abbrev pub no_totals : Totals
no_totals = record { clocks = 0; turns = 0; items = 0 }

abbrev pub sum_of : Totals → Totals → Totals
sum_of a b = cut (a.clocks + b.clocks) (a.turns + b.turns) (a.items + b.items)

abbrev pub times_of : ℕ → Totals → Totals
times_of n a = cut (n * a.clocks) (n * (1 + a.turns)) (n * a.items)

pub record Small (t : Totals) : Type 0 where
  pub clocks : t.clocks ≤ 2000000001
  pub turns : t.turns ≤ 1000001
  pub items : t.items ≤ 1000001

unfoldable pub totals : Tree → Totals
totals t = cut (clocks t) (turns t) (length (acts t))

unfoldable pub block_answer : Got → Result Block Refusal
block_answer (closed b p q) = Ok (Closed p q (totals b))
block_answer (stopped b p q n) = Ok (Stopped p q n (totals b))
block_answer (refused k p) = Err (refusal k p)

unfoldable pub part_answer : LinePiece → Result Part Refusal
part_answer (one a p) = Ok (Acts p (cut (act_clocks a) 1 1))
part_answer (many n b p) = Ok (Acts p (cut (n * clocks b) (n * (1 + turns b)) (n * length (acts b))))
part_answer (shut p q) = Ok (Close p q)
part_answer (halt p q n) = Ok (Halt p q n)
part_answer (bad k p) = Err (refusal k p)

abbrev pub plain_step : Result Part Refusal → Result Step Refusal
plain_step (Ok p) = Ok (Plain p)
plain_step (Err e) = Err e

unfoldable pub step_answer : Begun → Result Step Refusal
step_answer (whole q) = plain_step (part_answer q)
step_answer (opens n p) = Ok (Open n p)

abbrev pub SmallBlock : Result Block Refusal → Type 0
SmallBlock (Ok (Closed p q t)) = Small t
SmallBlock (Ok (Stopped p q n t)) = Unit {0}
SmallBlock (Err e) = Unit {0}

abbrev pub loop_part : ℕ → Result Block Refusal → Result Part Refusal
loop_part n (Ok (Closed p q t)) = Ok (Acts q (times_of n t))
loop_part n (Ok (Stopped p q m t)) = Err (refusal 8 p)
loop_part n (Err e) = Err e

-- Document 01: "When an answer is an enum, a definition states this paper's number and values for each enum case": a block that was read is 0 at 0
-- with its totals, a refusal its number and place
abbrev pub block_number : Result Block Refusal → ℕ
block_number (Ok (Closed p q t)) = 0
block_number (Ok (Stopped p q n t)) = 0
block_number (Err e) = e.number

abbrev pub block_place : Result Block Refusal → ℕ
block_place (Ok (Closed p q t)) = 0
block_place (Ok (Stopped p q n t)) = 0
block_place (Err e) = e.place

abbrev pub block_totals : Result Block Refusal → Totals
block_totals (Ok (Closed p q t)) = t
block_totals (Ok (Stopped p q n t)) = t
block_totals (Err e) = no_totals

-- the same of what the lines come to
abbrev pub got_number : Got → ℕ
got_number (closed b p q) = 0
got_number (stopped b p q n) = 0
got_number (refused k p) = k

abbrev pub got_place : Got → ℕ
got_place (closed b p q) = 0
got_place (stopped b p q n) = 0
got_place (refused k p) = p

abbrev pub got_totals : Got → Totals
got_totals (closed b p q) = totals b
got_totals (stopped b p q n) = totals b
got_totals (refused k p) = no_totals

-- an answer has them
abbrev pub BlockIs : Got → Result Block Refusal → Type 0
BlockIs g r = (block_number r ≡ got_number g) × (block_place r ≡ got_place g) × (block_totals r ≡ got_totals g)
