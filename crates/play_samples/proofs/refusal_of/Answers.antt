use Prim.Native.Nat.{◌+◌}
use mathlib.Core.Path.{◌≡◌, sym, ◌∙◌}
use mathlib.Core.Bool.{true, false}
use lib.Dec.{leb}
use Rattle.chip.specs.Range.{in_range}
use Rattle.play_samples.proofs.StepLaws.{refusal_one, refusal_two, refusal_three, refusal_nine, refusal_rest}
use Rattle.play_samples.proofs.refusal_of.Goals as goal

pub returns-then-memory-ne32768 : goal.returns-then-memory-ne32768
returns-then-memory-ne32768 c = let a = c.args in refusal_one a.memory.now a.rate a.p c.if-memory-ne32768.true

pub returns-then-not-in_range : goal.returns-then-not-in_range
returns-then-not-in_range c =
    let a = c.args in
    let e : in_range a.p.moment.state ≡ false = sym c.in_range.ensures ∙ c.if-not-in_range.true in
    refusal_two a.memory.now a.rate a.p c.if-memory-ne32768.false e

pub returns-then-p-gt1000000 : goal.returns-then-p-gt1000000
returns-then-p-gt1000000 c =
    let a = c.args in
    let e : in_range a.p.moment.state ≡ true = sym c.in_range.ensures ∙ c.if-not-in_range.false in
    refusal_three a.memory.now a.rate a.p c.if-memory-ne32768.false e c.if-p-gt1000000.true

pub returns-then-not-early : goal.returns-then-not-early
returns-then-not-early c =
    let a = c.args in
    let e : in_range a.p.moment.state ≡ true = sym c.in_range.ensures ∙ c.if-not-in_range.false in
    let late : leb (a.p.moment.time + a.p.left) 2000000000 ≡ false = sym c.early.ensures ∙ c.if-not-early.true in
    refusal_nine a.memory.now a.rate a.p c.if-memory-ne32768.false e c.if-p-gt1000000.false late

pub returns : goal.returns
returns c =
    let a = c.args in
    let e : in_range a.p.moment.state ≡ true = sym c.in_range.ensures ∙ c.if-not-in_range.false in
    let soon : leb (a.p.moment.time + a.p.left) 2000000000 ≡ true = sym c.early.ensures ∙ c.if-not-early.false in
    c.sample_refusal.ensures ∙ refusal_rest a.memory.now a.rate a.p c.if-memory-ne32768.false e c.if-p-gt1000000.false soon
