-- Laws of reading a block: one line at a time, with no count of lines. Assumes nothing.
use Rattle.std.specs.Prelude.{Result, Ok, Err}
use mathlib.Core.Path.{◌≡◌, refl, ap, sym, ◌∙◌}
use mathlib.Core.List.{List}
use Prim.Native.Nat.{ℕ, zero, suc, ◌+◌, ◌*◌, ◌≤◌, ◌<◌}
use native.Mathlib.Omega.{arith}
use lib.ListN.{length}
use Rattle.refusal.specs.declared.Refusal.{Refusal}
use Rattle.log_line.specs.declared.Line.{Line}
use Rattle.log_rules.specs.declared.Totals.{Totals}
use Rattle.log_rules.specs.declared.Step.{Step}
use Rattle.log_rules.specs.declared.Step.TheVariants.{Plain, Open}
use Rattle.log_rules.specs.declared.Part.{Part}
use Rattle.log_rules.specs.declared.Part.TheVariants.{Acts, Close, Halt}
use Rattle.log_rules.specs.declared.Block.{Block}
use Rattle.log_rules.specs.declared.Block.TheVariants.{Closed, Stopped}
use Rattle.log_rules.specs.Lines.{bytes_at}
use Rattle.log_rules.specs.Reading.{standing, read_in}
use Rattle.log_fault.proofs.Standing.{act as acts-on, opens as opened-on, closes as closes-on, ends as ends_on}
use Rattle.log_rules.specs.Tree.{Tree, act, loop, acts, act_clocks, clocks, turns}
use Rattle.log_rules.specs.Block.{Got, closed, stopped, refused, LinePiece, one, many, shut, halt, bad, Begun, whole, opens, begun, begun_by, read_begun, looped, piece, before, onward, block_in, read_block, read_part, cut, no_totals, sum_of, Small, totals, block_answer, part_answer, plain_step, step_answer, SmallBlock, loop_part}
use Rattle.log_rules.proofs.PlaceLaws.{HadIn, had_in, Stands, head, tells, inner, stands, next_pos, next_le}
use Rattle.log_rules.proofs.TotalLaws.{sum_sum, none_sum, small_cut, act_sum, loop_sum, times_totals}

-- WHERE A BLOCK ENDS

-- a block that is closed is so behind `at`
abbrev pub Behind : ℕ → ℕ → Got → Type 0
Behind at most (closed b p q) = (at ≤ p) × (p < q) × (q ≤ most)
Behind at most (stopped b p q m) = Unit {0}
Behind at most (refused k p) = Unit {0}

abbrev pub PieceBehind : ℕ → ℕ → LinePiece → Type 0
PieceBehind at most (one a p) = (at < p) × (p ≤ most)
PieceBehind at most (many n b p) = (at < p) × (p ≤ most)
PieceBehind at most (shut p q) = (at ≤ p) × (p < q) × (q ≤ most)
PieceBehind at most (halt p q n) = Unit {0}
PieceBehind at most (bad k p) = Unit {0}

-- and a block is opened only below eight
abbrev pub BegunBehind : ℕ → ℕ → ℕ → Begun → Type 0
BegunBehind at most d (whole q) = PieceBehind at most q
BegunBehind at most d (opens n p) = (at < p) × (p ≤ most) × (d < 8)

looped_behind : (at next most n : ℕ) (g : Got) → at < next → Behind next most g → PieceBehind at most (looped n g)
unfolding looped
looped_behind at next most n (closed b p q) h r = (omega arith, r.2)
looped_behind at next most n (stopped b p q m) h r = tt
looped_behind at next most n (refused k p) h r = tt

begun_behind : (at next d most : ℕ) (l : Line) → at < next → next ≤ most → Stands at d l → BegunBehind at most d (begun at next l)
unfolding begun
begun_behind at next d most l h k (head z) = tt
begun_behind at next d most l h k (tells z) = tt
begun_behind at next d most l h k (inner z acts-on) = (h, k)
begun_behind at next d most l h k (inner z (opened-on e)) = (h, k, e)
begun_behind at next d most l h k (inner z (closes-on e)) = (omega arith, h, k)
begun_behind at next d most l h k (inner z (ends_on e)) = tt

piece_behind : (rec : ℕ → ℕ → Got) (at d most : ℕ) (s : Begun) → BegunBehind at most d s → ((p : ℕ) → Behind p most (rec p (d + 1))) → PieceBehind at most (piece rec d s)
unfolding piece
piece_behind rec at d most (whole q) h r = h
piece_behind rec at d most (opens n p) h r = looped_behind at p most n (rec p (d + 1)) h.0 (r p)

before_behind : (at p most : ℕ) (f : Tree → Tree) (g : Got) → at < p → Behind p most g → Behind at most (before f g)
unfolding before
before_behind at p most f (closed b q r) h k = (omega arith, k.1, k.2)
before_behind at p most f (stopped b q r m) h k = tt
before_behind at p most f (refused n q) h k = tt

onward_behind : (rec : ℕ → Got) (at most : ℕ) (q : LinePiece) → PieceBehind at most q → ((p : ℕ) → Behind p most (rec p)) → Behind at most (onward rec q)
unfolding onward
onward_behind rec at most (one a p) h r = before_behind at p most (act a) (rec p) h.0 (r p)
onward_behind rec at most (many n b p) h r = before_behind at p most (loop n b) (rec p) h.0 (r p)
onward_behind rec at most (shut p q) h r = h
onward_behind rec at most (halt p q n) h r = tt
onward_behind rec at most (bad k p) h r = tt

begun_by_behind : (log : List ℕ) (at d : ℕ) (r : Result (Line × ℕ) Refusal) → HadIn (standing log at d) log at r → BegunBehind at (length log) d (begun_by at r)
unfolding begun_by
begun_by_behind log at d (Ok (l, next)) h =
    begun_behind at next d (length log) l (rw h.on (next_pos log at h.inside)) (rw h.on (let z : at ≤ length log = omega (arith, h.inside) in next_le log at z))
    (stands log at d (bytes_at log at) l h.found)
begun_by_behind log at d (Err e) h = tt

-- every line that is read leads on
pub begun_on : (log : List ℕ) (at d : ℕ) → BegunBehind at (length log) d (read_begun log at d)
unfolding read_begun
begun_on log at d = begun_by_behind log at d (read_in (standing log at d) log at) (had_in (standing log at d) log at)

in_behind : (f : ℕ) (log : List ℕ) (at d : ℕ) → Behind at (length log) (block_in f log at d)
unfolding block_in
in_behind zero log at d = tt
in_behind (suc f) log at d =
    onward_behind (λ p. block_in f log p d) at (length log) (piece (block_in f log) d (read_begun log at d))
    (piece_behind (block_in f log) at d (length log) (read_begun log at d) (begun_on log at d) (λ p. in_behind f log p (d + 1)))
    (λ p. in_behind f log p d)

pub got_behind : (log : List ℕ) (at d : ℕ) → Behind at (length log) (read_block log at d)
unfolding read_block
got_behind log at d = in_behind (suc (length log)) log at d

-- THE COUNT OF LINES DOES NOT MATTER
piece_cong : (rec rec' : ℕ → ℕ → Got) (at d most : ℕ) (s : Begun) → BegunBehind at most d s → ((p : ℕ) → at < p → p ≤ most → rec p (d + 1) ≡ rec' p (d + 1)) → piece rec d s ≡ piece rec' d s
unfolding piece
piece_cong rec rec' at d most (whole q) h r = refl
piece_cong rec rec' at d most (opens n p) h r = ap (looped n) (r p h.0 h.1)

onward_cong : (rec rec' : ℕ → Got) (at most : ℕ) (q : LinePiece) → PieceBehind at most q → ((p : ℕ) → at < p → p ≤ most → rec p ≡ rec' p) → onward rec q ≡ onward rec' q
unfolding onward
onward_cong rec rec' at most (one a p) h r = ap (before (act a)) (r p h.0 h.1)
onward_cong rec rec' at most (many n b p) h r = ap (before (loop n b)) (r p h.0 h.1)
onward_cong rec rec' at most (shut p q) h r = refl
onward_cong rec rec' at most (halt p q n) h r = refl
onward_cong rec rec' at most (bad k p) h r = refl

-- one line more changes nothing where there were enough
module _ (log : List ℕ) (at d f : ℕ) (r : (p e : ℕ) → at < p → p ≤ length log → block_in (suc f) log p e ≡ block_in f log p e) where
  more_step : block_in (suc (suc f)) log at d ≡ block_in (suc f) log at d
  unfolding block_in
  more_step =
      ap (onward (λ p. block_in (suc f) log p d)) (piece_cong (block_in (suc f) log) (block_in f log) at d (length log) (read_begun log at d) (begun_on log at d) (λ p. r p (d + 1)))
      ∙ onward_cong (λ p. block_in (suc f) log p d) (λ p. block_in f log p d) at (length log) (piece (block_in f log) d (read_begun log at d))
      (piece_behind (block_in f log) at d (length log) (read_begun log at d) (begun_on log at d) (λ p. in_behind f log p (d + 1)))
      (λ p. r p d)

more_lines : (f : ℕ) (log : List ℕ) (at d : ℕ) → length log ≤ at + f → block_in (suc (suc f)) log at d ≡ block_in (suc f) log at d
more_lines zero log at d h = more_step log at d zero (λ p e i j. absurd (omega arith))
more_lines (suc f) log at d h = more_step log at d (suc f) (λ p e i j. more_lines f log p e (omega arith))

-- a block is its first line and what is behind it
pub unrolled : (log : List ℕ) (at d : ℕ) → read_block log at d ≡ onward (λ p. read_block log p d) (read_part log at d)
unfolding read_block read_part block_in
unrolled log at d = sym (more_lines (length log) log at d (omega arith))

-- THE CODE'S ANSWERS

abbrev pub plus : Totals → Result Block Refusal → Result Block Refusal
plus s (Ok (Closed p q t)) = Ok (Closed p q (sum_of s t))
plus s (Ok (Stopped p q n t)) = Ok (Stopped p q n (sum_of s t))
plus s (Err e) = Err e

pub plus_plus : (s s' : Totals) (b : Result Block Refusal) → plus s (plus s' b) ≡ plus (sum_of s s') b
plus_plus s s' (Ok (Closed p q t)) = ap (λ (x : Totals). Ok (Closed p q x)) (sum_sum s s' t)
plus_plus s s' (Ok (Stopped p q n t)) = ap (λ (x : Totals). Ok (Stopped p q n x)) (sum_sum s s' t)
plus_plus s s' (Err e) = refl

pub plus_none : (g : Got) → block_answer g ≡ plus no_totals (block_answer g)
unfolding block_answer
plus_none (closed b p q) = ap (λ (x : Totals). Ok (Closed p q x)) (none_sum b)
plus_none (stopped b p q n) = ap (λ (x : Totals). Ok (Stopped p q n x)) (none_sum b)
plus_none (refused k p) = refl

-- what a line's answer makes of the answer behind it
abbrev pub carry : Result Part Refusal → (ℕ → Result Block Refusal) → Result Block Refusal
carry (Ok (Acts p t)) k = plus t (k p)
carry (Ok (Close p q)) k = Ok (Closed p q no_totals)
carry (Ok (Halt p q n)) k = Ok (Stopped p q n no_totals)
carry (Err e) k = Err e

answer_before : (s : Totals) (f : Tree → Tree) (g : Got) → ((t : Tree) → totals (f t) ≡ sum_of s (totals t)) → block_answer (before f g) ≡ plus s (block_answer g)
unfolding block_answer before
answer_before s f (closed b p q) h = ap (λ (x : Totals). Ok (Closed p q x)) (h b)
answer_before s f (stopped b p q n) h = ap (λ (x : Totals). Ok (Stopped p q n x)) (h b)
answer_before s f (refused k p) h = refl

answer_onward : (rec : ℕ → Got) (q : LinePiece) → block_answer (onward rec q) ≡ carry (part_answer q) (λ p. block_answer (rec p))
unfolding onward part_answer block_answer totals clocks turns acts
answer_onward rec (one a p) = answer_before (cut (act_clocks a) 1 1) (act a) (rec p) (act_sum a)
answer_onward rec (many n b p) = answer_before (cut (n * clocks b) (n * (1 + turns b)) (n * length (acts b))) (loop n b) (rec p) (loop_sum n b)
answer_onward rec (shut p q) = refl
answer_onward rec (halt p q n) = refl
answer_onward rec (bad k p) = refl

-- a turn of the block's loop
pub turn : (log : List ℕ) (i d : ℕ) → block_answer (read_block log i d) ≡ carry (part_answer (read_part log i d)) (λ p. block_answer (read_block log p d))
turn log i d = ap block_answer (unrolled log i d) ∙ answer_onward (λ p. read_block log p d) (read_part log i d)

-- A LINE'S ANSWER LEADS ON, AND ANSWERS ARE SMALL
abbrev pub Good : ℕ → ℕ → Result Part Refusal → Type 0
Good at most (Ok (Acts p t)) = (at < p) × (p ≤ most) × Small t
Good at most (Ok (Close p q)) = Unit {0}
Good at most (Ok (Halt p q n)) = Unit {0}
Good at most (Err e) = Unit {0}

piece_good : (at most : ℕ) (q : LinePiece) → PieceBehind at most q → Good at most (part_answer q)
unfolding part_answer
piece_good at most (one a p) h = (h.0, h.1, small_cut (act_clocks a) 1 1)
piece_good at most (many n b p) h = (h.0, h.1, small_cut _ _ _)
piece_good at most (shut p q) h = tt
piece_good at most (halt p q n) h = tt
piece_good at most (bad k p) h = tt

pub part_good : (log : List ℕ) (at d : ℕ) → Good at (length log) (part_answer (read_part log at d))
unfolding read_part
part_good log at d =
    piece_good at (length log) (piece (read_block log) d (read_begun log at d))
    (piece_behind (read_block log) at d (length log) (read_begun log at d) (begun_on log at d) (λ p. got_behind log p (d + 1)))

pub answer_small : (g : Got) → SmallBlock (block_answer g)
unfolding block_answer totals
answer_small (closed b p q) = small_cut _ _ _
answer_small (stopped b p q n) = tt
answer_small (refused k p) = tt

-- A LINE'S ANSWER FROM ITS STEP'S AND ITS BODY'S

-- a loop line's answer from its body's
looped_answer : (n : ℕ) (g : Got) → loop_part n (block_answer g) ≡ part_answer (looped n g)
unfolding looped block_answer part_answer
looped_answer n (closed b p q) = ap (λ (x : Totals). Ok (Acts q x)) (times_totals n b)
looped_answer n (stopped b p q m) = refl
looped_answer n (refused k p) = refl

abbrev pub StepGood : ℕ → ℕ → ℕ → Result Step Refusal → Type 0
StepGood at most d (Ok (Plain q)) = Unit {0}
StepGood at most d (Ok (Open n p)) = (at < p) × (p ≤ most) × (d < 8)
StepGood at most d (Err e) = Unit {0}

plain_good : (at most d : ℕ) (r : Result Part Refusal) → StepGood at most d (plain_step r)
plain_good at most d (Ok q) = tt
plain_good at most d (Err e) = tt

step_good_of : (at most d : ℕ) (s : Begun) → BegunBehind at most d s → StepGood at most d (step_answer s)
unfolding step_answer
step_good_of at most d (whole q) h = plain_good at most d (part_answer q)
step_good_of at most d (opens n p) h = h

pub step_good : (log : List ℕ) (at d : ℕ) → StepGood at (length log) d (step_answer (read_begun log at d))
step_good log at d = step_good_of at (length log) d (read_begun log at d) (begun_on log at d)

-- what the step's answer makes of the line's
abbrev pub finish : ℕ → (ℕ → ℕ → Result Block Refusal) → Result Step Refusal → Result Part Refusal
finish d k (Ok (Plain q)) = Ok q
finish d k (Ok (Open n p)) = loop_part n (k p (d + 1))
finish d k (Err e) = Err e

finish_plain : (d : ℕ) (k : ℕ → ℕ → Result Block Refusal) (r : Result Part Refusal) → finish d k (plain_step r) ≡ r
finish_plain d k (Ok q) = refl
finish_plain d k (Err e) = refl

finish_is : (rec : ℕ → ℕ → Got) (d : ℕ) (s : Begun) → finish d (λ p e. block_answer (rec p e)) (step_answer s) ≡ part_answer (piece rec d s)
unfolding step_answer piece
finish_is rec d (whole q) = finish_plain d (λ p e. block_answer (rec p e)) (part_answer q)
finish_is rec d (opens n p) = looped_answer n (rec p (d + 1))

pub part_of : (log : List ℕ) (at d : ℕ) → finish d (λ p e. block_answer (read_block log p e)) (step_answer (read_begun log at d)) ≡ part_answer (read_part log at d)
unfolding read_part
part_of log at d = finish_is (read_block log) d (read_begun log at d)
