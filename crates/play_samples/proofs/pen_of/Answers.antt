use mathlib.Core.Path.{refl}
use native.Mathlib.Omega.{arith}
use Rattle.wav_sample.specs.Samples.{clocks_of}
use Rattle.play_samples.proofs.PenLaws.{numbers}
use Rattle.play_samples.proofs.pen_of.Goals as goal

pub clocks_before-begin-requires : goal.clocks_before-begin-requires
clocks_before-begin-requires c =
    let n = numbers c.args.pal c.args.rate c.args.a c.requires.0 c.requires.1 in
    (rw c.from-w.ensures c.requires.0, omega (arith, n.few))

pub overflow_add-a : goal.overflow_add-a
overflow_add-a c =
    omega (arith, (numbers c.args.pal c.args.rate c.args.a c.requires.0 c.requires.1).few)

pub clocks_before-end-requires : goal.clocks_before-end-requires
clocks_before-end-requires c =
    (rw c.from-w.ensures c.requires.0, omega (arith, (numbers c.args.pal c.args.rate c.args.a c.requires.0 c.requires.1).few))

pub overflow_add-a-2 : goal.overflow_add-a-2
overflow_add-a-2 c =
    omega (arith, (numbers c.args.pal c.args.rate c.args.a c.requires.0 c.requires.1).few)

pub over_before-part-requires : goal.over_before-part-requires
over_before-part-requires c =
    (rw c.from-w.ensures c.requires.0, omega (arith, (numbers c.args.pal c.args.rate c.args.a c.requires.0 c.requires.1).few))

pub overflow_sub-result : goal.overflow_sub-result
overflow_sub-result c =
    let w = c.from-w.ensures in
    let n = numbers c.args.pal c.args.rate c.args.a c.requires.0 c.requires.1 in
    omega (arith, n.under, rw w at c.clocks_before-end.ensures)

pub overflow_cast-result : goal.overflow_cast-result
overflow_cast-result c =
    let w = c.from-w.ensures in
    let n = numbers c.args.pal c.args.rate c.args.a c.requires.0 c.requires.1 in
    omega (arith, n.begun, n.short, rw w at c.clocks_before-end.ensures)

pub overflow_sub-result-2 : goal.overflow_sub-result-2
overflow_sub-result-2 c =
    let w = c.from-w.ensures in
    let n = numbers c.args.pal c.args.rate c.args.a c.requires.0 c.requires.1 in
    omega (arith, n.begun, n.under, rw w at c.clocks_before-end.ensures, rw w at c.clocks_before-begin.ensures)

pub overflow_cast-result-2 : goal.overflow_cast-result-2
overflow_cast-result-2 c =
    let w = c.from-w.ensures in
    let n = numbers c.args.pal c.args.rate c.args.a c.requires.0 c.requires.1 in
    omega (arith, n.short, rw w at c.clocks_before-end.ensures, rw w at c.clocks_before-begin.ensures)

pub overflow_cast-result-3 : goal.overflow_cast-result-3
overflow_cast-result-3 c =
    let n = numbers c.args.pal c.args.rate c.args.a c.requires.0 c.requires.1 in
    omega (arith, n.begun, n.under, n.short, n.total)

pub overflow_cast-result-4 : goal.overflow_cast-result-4
overflow_cast-result-4 c =
    let w = c.from-w.ensures in
    let n = numbers c.args.pal c.args.rate c.args.a c.requires.0 c.requires.1 in
    omega (arith, n.part, rw w at c.over_before-part.ensures)

pub returns : goal.returns
unfolding clocks_of
returns c =
    let w = c.from-w.ensures in
    (refl, rw (c.over_before-part.ensures, c.clocks_before-end.ensures, c.clocks_before-begin.ensures, w) (record { left = refl; whole = refl; sum = refl; part = refl }))
