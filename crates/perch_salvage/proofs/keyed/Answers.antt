-- Measured first: a text that is too long stays unwritten by `kept`, one that fits is what `keyed_line` puts, by `written`. Assumes nothing.
use Rattle.perch_salvage.proofs.VerbLaws.{keyed_long}
use Rattle.perch_salvage.specs.Verb.{keyed_text}
use Rattle.text_print.proofs.StoreLaws.{written, kept}
use native.Mathlib.Omega.{arith}
use mathlib.Core.Path.{refl}
use Rattle.perch_salvage.proofs.keyed.Goals as goal

pub returns-then-out-n : goal.returns-then-out-n
returns-then-out-n c =
    let a = c.args in
    let u = rw c.from.ensures at c.width-u.ensures.value in
    let v = rw c.from-2.ensures at c.width-v.ensures.value in
    let w = c.width-w.ensures.value in
    let text = keyed_text a.key.now a.first a.second a.line a.words.now in
    let long = keyed_long a.key.now a.first a.second a.line a.words.now in
    let pair = kept a.out.now 0 text _ refl (omega arith) in
    record { value = pair.0; out_after = pair.1 }

pub keyed_line-requires : goal.keyed_line-requires
keyed_line-requires c =
    let a = c.args in
    let u = rw c.from.ensures at c.width-u.ensures.value in
    let v = rw c.from-2.ensures at c.width-v.ensures.value in
    let w = c.width-w.ensures.value in
    let long = keyed_long a.key.now a.first a.second a.line a.words.now in
    omega arith

pub returns : goal.returns
returns c =
    let a = c.args in
    let u = rw c.from.ensures at c.width-u.ensures.value in
    let v = rw c.from-2.ensures at c.width-v.ensures.value in
    let w = c.width-w.ensures.value in
    let text = keyed_text a.key.now a.first a.second a.line a.words.now in
    let long = keyed_long a.key.now a.first a.second a.line a.words.now in
    let p = c.keyed_line.ensures in rw p.place (let pair = written a.out.now 0 text _ refl (omega arith) _ p.bytes in record { value = pair.0; out_after = pair.1 })
