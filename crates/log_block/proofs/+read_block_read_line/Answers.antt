use Rattle.std.specs.Prelude.{Result, Ok}
use Rattle.std.proofs.Common.{◌≡◌, ℕ, List, sym, ap, subst, ◌∙◌, arith}
use Rattle.std.proofs.lemmas.Result.{err_from_is_err_and}
use Rattle.refusal.specs.declared.Refusal.{Refusal}
use Rattle.log_rules.specs.Block.{block_answer, part_answer, read_block, read_part, loop_part, SmallBlock}
use Rattle.log_rules.specs.declared.Block.{Block}
use Rattle.log_rules.specs.declared.Block.TheVariants.{Closed, Stopped}
use Rattle.log_rules.specs.declared.Part.{Part}
use Rattle.log_rules.specs.declared.Totals.{Totals}
use Rattle.log_rules.proofs.Descent.{plus, plus_plus, plus_none, carry, part_good, turn, answer_small, finish, part_of, step_good}
use Rattle.log_rules.proofs.TotalLaws.{small_cut, small_sum}
use Rattle.log_rules.proofs.NumberLaws.{block_numbers}
use Rattle.log_block.proofs.+read_block_read_line.Goals as goal

-- the block's answer from the line's at i, by the loop's invariant
block_by : (log : List ℕ) (at i d : ℕ) (t : Totals) (p : Result Part Refusal) → p ≡ part_answer (read_part log i d)
    → block_answer (read_block log at d) ≡ plus t (block_answer (read_block log i d)) → plus t (carry p (λ q. block_answer (read_block log q d))) ≡ block_answer (read_block log at d)
block_by log at i d t p e h =
    ap (λ (q : Result Part Refusal). plus t (carry q (λ q. block_answer (read_block log q d)))) e ∙ (ap (plus t) (sym (turn log i d)) ∙ sym h)

pub read_block-loop-next-init : goal.read_block-loop-next-init
read_block-loop-next-init t c = (small_cut 0 0 0, plus_none _, omega arith)

pub read_block-returns-in_err-next : goal.read_block-returns-in_err-next
read_block-returns-in_err-next t c =
    let l = c.loop-next in
    let p = err_from_is_err_and c.from_residual.result c.from_residual.ensures.1 in
    let z =
    block_numbers (read_block c.args.log.now c.args.at c.args.depth) c.from_residual.result
    (rw (p.1, p.2) (block_by c.args.log.now c.args.at l.i c.args.depth l.t _ c.in_err-next.ensures l.invariant.1)) in
    record { value = z.0; block_is = z.1 }

pub read_block-returns-in-Close : goal.read_block-returns-in-Close
read_block-returns-in-Close t c =
    let l = c.loop-next in
    let z =
    block_numbers (read_block c.args.log.now c.args.at c.args.depth) _
    (ap (λ (x : Totals). Ok (Closed c.in-Close.place c.in-Close.next x)) (small_sum l.t l.invariant.0)
    ∙ block_by c.args.log.now c.args.at l.i c.args.depth l.t _ (rw c.in-Close.is at c.in_ok-next.ensures) l.invariant.1) in
    record { value = z.0; block_is = z.1 }

pub read_block-returns-in-Halt : goal.read_block-returns-in-Halt
read_block-returns-in-Halt t c =
    let l = c.loop-next in
    let z =
    block_numbers (read_block c.args.log.now c.args.at c.args.depth) _
    (ap (λ (x : Totals). Ok (Stopped c.in-Halt.place c.in-Halt.next c.in-Halt.n x)) (small_sum l.t l.invariant.0)
    ∙ block_by c.args.log.now c.args.at l.i c.args.depth l.t _ (rw c.in-Halt.is at c.in_ok-next.ensures) l.invariant.1) in
    record { value = z.0; block_is = z.1 }

pub read_block-sum-t-requires : goal.read_block-sum-t-requires
read_block-sum-t-requires t c =
    let l = c.loop-next in
    let g = rw c.in-Acts.is at (rw (← c.in_ok-next.ensures) at (part_good c.args.log.now l.i c.args.depth)) in
    (l.invariant.0, g.2)

pub read_block-loop-next-smaller : goal.read_block-loop-next-smaller
read_block-loop-next-smaller t c =
    let g = rw c.in-Acts.is at (rw (← c.in_ok-next.ensures) at (part_good c.args.log.now c.loop-next.i c.args.depth)) in
    omega arith

pub read_block-loop-next-preserved : goal.read_block-loop-next-preserved
read_block-loop-next-preserved t c =
    let log = c.args.log.now in
    let d = c.args.depth in
    let l = c.loop-next in
    let e = rw c.in-Acts.is at c.in_ok-next.ensures in
    let g = rw (← e) at (part_good log l.i d) in (
      rw c.sum-t.ensures (small_cut _ _ _),
      sym (block_by log c.args.at l.i d l.t _ e l.invariant.1)
          ∙ (plus_plus l.t c.in-Acts.more (block_answer (read_block log c.in-Acts.next d))
          ∙ ap (λ (s : Totals). plus s (block_answer (read_block log c.in-Acts.next d))) (sym c.sum-t.ensures)),
      omega arith,
    )

pub read_line-returns-in_err-p : goal.read_line-returns-in_err-p
read_line-returns-in_err-p t c =
    let p = err_from_is_err_and c.from_residual.result c.from_residual.ensures.1 in
    let k : ℕ → ℕ → Result Block Refusal = λ p e. block_answer (read_block c.args.log.now p e) in
    rw (p.1, p.2) (ap (finish c.args.depth k) c.in_err-p.ensures ∙ part_of c.args.log.now c.args.at c.args.depth)

pub read_line-overflow_add-depth : goal.read_line-overflow_add-depth
read_line-overflow_add-depth t c =
    let g = rw c.in-Open.is at (rw (← c.in_ok-p.ensures) at (step_good c.args.log.now c.args.at c.args.depth)) in
    omega arith

pub read_line-read_block-requires : goal.read_line-read_block-requires
read_line-read_block-requires t c =
    let g = rw c.in-Open.is at (rw (← c.in_ok-p.ensures) at (step_good c.args.log.now c.args.at c.args.depth)) in
    (omega arith, tt)

pub read_line-returns-in_err-read_block-in-Open : goal.read_line-returns-in_err-read_block-in-Open
read_line-returns-in_err-read_block-in-Open t c =
    let p = err_from_is_err_and c.from_residual-in_err-read_block-in-Open.result c.from_residual-in_err-read_block-in-Open.ensures.1 in
    let k : ℕ → ℕ → Result Block Refusal = λ p e. block_answer (read_block c.args.log.now p e) in
    rw (p.1, p.2)
    (ap (loop_part c.in-Open.n) c.in_err-read_block-in-Open.ensures.value
    ∙ (ap (finish c.args.depth k) (rw c.in-Open.is at c.in_ok-p.ensures) ∙ part_of c.args.log.now c.args.at c.args.depth))

pub read_line-repeated-requires : goal.read_line-repeated-requires
read_line-repeated-requires t c =
    subst SmallBlock (sym c.in_ok-read_block-in-Open.ensures.value) (answer_small _)

pub read_line-returns-in-Plain : goal.read_line-returns-in-Plain
read_line-returns-in-Plain t c =
    let k : ℕ → ℕ → Result Block Refusal = λ p e. block_answer (read_block c.args.log.now p e) in
    ap (finish c.args.depth k) (rw c.in-Plain.is at c.in_ok-p.ensures) ∙ part_of c.args.log.now c.args.at c.args.depth

pub read_line-returns-in_ok-read_block-in-Open : goal.read_line-returns-in_ok-read_block-in-Open
read_line-returns-in_ok-read_block-in-Open t c =
    let k : ℕ → ℕ → Result Block Refusal = λ p e. block_answer (read_block c.args.log.now p e) in
    c.repeated.ensures
    ∙ (ap (loop_part c.in-Open.n) c.in_ok-read_block-in-Open.ensures.value
    ∙ (ap (finish c.args.depth k) (rw c.in-Open.is at c.in_ok-p.ensures) ∙ part_of c.args.log.now c.args.at c.args.depth))
