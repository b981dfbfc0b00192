use native.Mathlib.Omega.{arith}
use Rattle.vgm_blocks.proofs.BlockLaws.{behind_none, behind_whole, behind_not_first, behind_not_second, behind_cut}
use Rattle.vgm_blocks.proofs.behind.Goals.{then-n-lt7-via-then-n-lt7, then-n-lt7-via-else-n-lt7+then-n-at, else-stream-at-eq103-via-then-stream-at-eq103+then-stream-at-eq102+else-size-n, else-stream-at-eq103-via-then-stream-at-eq103+else-stream-at-eq102, else-stream-at-eq103-via-else-stream-at-eq103}
use Rattle.vgm_blocks.proofs.behind.Goals as goal

pub returns-then-n-lt7 : goal.returns-then-n-lt7
returns-then-n-lt7 c =
    let a = c.args in
    elim c.then-n-lt7.branch [
      | then-n-lt7-via-then-n-lt7 w ↦ behind_none a.stream.now a.at (omega arith)
      | then-n-lt7-via-else-n-lt7+then-n-at w ↦ behind_none a.stream.now a.at (omega arith)
    ]

pub returns-then-size-n : goal.returns-then-size-n
returns-then-size-n c =
    behind_whole c.args.stream.now c.args.at _ c.size_at-size.ensures c.if-stream-at-eq103.true c.if-stream-at-eq102.true (omega arith)

pub returns-else-stream-at-eq103 : goal.returns-else-stream-at-eq103
returns-else-stream-at-eq103 c =
    let a = c.args in
    elim c.else-stream-at-eq103.branch [
      | else-stream-at-eq103-via-then-stream-at-eq103+then-stream-at-eq102+else-size-n w ↦ behind_cut a.stream.now a.at _ c.size_at-size.ensures (omega arith)
      | else-stream-at-eq103-via-then-stream-at-eq103+else-stream-at-eq102 w ↦ behind_not_second a.stream.now a.at w.if-stream-at-eq102.false
      | else-stream-at-eq103-via-else-stream-at-eq103 w ↦ behind_not_first a.stream.now a.at w.if-stream-at-eq103.false
    ]
