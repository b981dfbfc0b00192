use mathlib.Core.Path.{◌≡◌, refl, ◌∙◌}
use mathlib.Core.Bool.{true, not}
use native.Mathlib.Omega.{arith}
use lib.ListN.{length}
use lib.Dec.{eqb}
use borrow.Author.Rules.{rules}
use borrow.Author.Tests.{ne_eqb}
use Rattle.arith.specs.Pick.{either}
use Rattle.wav_stdout.proofs.PourLaws.{pouring_start, poured_out, poured_cut, poured_all, poured_on}
use Rattle.wav_stdout.proofs.pour.Goals as goal
use Rattle.wav_stdout.proofs.pour.Goals.{then-r-via-then-r, then-r-via-else-r+then-r-ne0}

pub loop-init : goal.loop-init
loop-init c =
    let a = c.args in
    let p = c.requires in
    (refl, pouring_start a.log.now a.memory.now a.w.rate a.w a.out.now p.rate_value (λ i. omega (arith, c.type_inv.memory i)) p.w_value p.in_bounds)

pub returns-then-not-write_front : goal.returns-then-not-write_front
returns-then-not-write_front c =
    let same : length c.wav_on-r.new.out ≡ length c.loop.out = search rules in
    let a = c.args in
    let l = c.loop in
    let s = c.wav_on-r in
    poured_cut a.log.now a.memory.now a.w.rate l.v l.counter l.out l.invariant.1 s.new.out s.result s.ensures same
    c.write_front.result c.if-not-write_front.true c.write_front.ensures

pub returns-then-r : goal.returns-then-r
returns-then-r c =
    let same : length c.wav_on-r.new.out ≡ length c.loop.out = search rules in
    let a = c.args in
    let l = c.loop in
    let s = c.wav_on-r in
    let ends : either s.result.over (not (eqb s.result.number 0)) ≡ true =
    elim c.then-r.branch [
      | then-r-via-then-r w ↦ rw w.if-r.true refl
      | then-r-via-else-r+then-r-ne0 w ↦ rw (w.if-r.false, ne_eqb s.result.number 0 w.if-r-ne0.true) refl
    ] in
    poured_all a.log.now a.memory.now a.w.rate l.v l.counter l.out l.invariant.1 s.new.out s.result s.ensures same
    c.write_front.result c.if-not-write_front.false c.write_front.ensures ends

pub loop-preserved : goal.loop-preserved
loop-preserved c =
    let same : length c.wav_on-r.new.out ≡ length c.loop.out = search rules in
    let a = c.args in
    let l = c.loop in
    let s = c.wav_on-r in (
      same ∙ l.invariant.0,
      poured_on a.log.now a.memory.now a.w.rate l.v l.counter l.out l.invariant.1 s.new.out s.result s.ensures same
          c.write_front.result c.if-not-write_front.false c.write_front.ensures (rw (c.if-r.false, c.if-r-ne0.false) refl),
    )

pub returns : goal.returns
returns c =
    let a = c.args in
    let l = c.loop in
    absurd (poured_out a.log.now a.memory.now a.w.rate l.v l.counter l.out l.invariant.1 (omega (arith, c.loop-test.false)))
