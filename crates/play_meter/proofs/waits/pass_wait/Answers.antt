use mathlib.Core.Path.{refl, ◌∙◌}
use native.Mathlib.Omega.{arith}
use Rattle.play_meter.proofs.PassLaws.{wait_passed}
use Rattle.play_meter.proofs.waits.pass_wait.Goals as goal

pub clocks_on-h-requires : goal.clocks_on-h-requires
clocks_on-h-requires c = record { memory_len = (c.requires.memory_len.0, c.requires.memory_len.1); in_bounds = c.requires.in_bounds }

pub overflow_add-m : goal.overflow_add-m
overflow_add-m c = omega (arith, c.from-wait.ensures, c.requires.memory_len.2, c.well_formed)

pub returns : goal.returns
returns c =
    let a = c.args in
    let h = c.clocks_on-h in
    let w = c.from-wait.ensures in
    c.passed_of.ensures
    ∙ wait_passed a.memory.now a.n a.m h.result c.moment_of.result c.told.result
    (h.ensures.value ∙ rw (w, c.at_level-first.ensures, c.from.ensures, c.level.ensures) refl) c.told.ensures.value (c.moment_of.ensures ∙ rw w refl)

pub shape_of-words : goal.shape_of-words
shape_of-words c = c.clocks_on-h.auto.words
