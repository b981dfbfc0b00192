use Rattle.log_salvage.proofs.AnswerLaws.{too_long, too_heavy, no_room, no_words, done, as_answered, measured, mends_it}
use borrow.Author.Tests.{lt-ltb, le-ltb}
use lib.Dec.{ltb}
use lib.ListN.{length}
use mathlib.Core.Bool.{true, false}
use mathlib.Core.Path.{◌≡◌, refl, sym, ◌∙◌}
use Prim.Native.Nat.{ℕ, ◌≤◌}
use Rattle.arith.specs.Pick.{either}
use Rattle.log_salvage.proofs.salvage.Goals.{then-out-length-via-then-out-length, then-out-length-via-else-out-length+then-length-gt60000}
use Rattle.log_salvage.proofs.salvage.Goals as goal

room_for : (room n : ℕ) → n ≤ room → n ≤ 60000 → either (ltb room n) (ltb 60000 n) ≡ false
room_for room n h k = rw (le-ltb room n h, le-ltb 60000 n k) refl

pub returns-then-log-gt60000 : goal.returns-then-log-gt60000
returns-then-log-gt60000 c =
    let i = c.args in
    let a = as_answered (too_long i.log.now i.out.now i.list.now c.if-log-gt60000.true) c.refusal.result c.refusal.ensures in record { value = a.answer; out_after = a.text; list_after = a.words; mends = mends_it a }

pub returns-then-m : goal.returns-then-m
returns-then-m c =
    let i = c.args in
    let p = c.pass-m.ensures in
    let a = as_answered (too_heavy i.log.now i.out.now i.list.now c.if-log-gt60000.false (sym p.weight ∙ c.if-m.true)) c.refusal-then-m.result c.refusal-then-m.ensures in record { value = a.answer; out_after = a.text; list_after = a.words; mends = mends_it a }

pub returns-then-out-length : goal.returns-then-out-length
returns-then-out-length c =
    let i = c.args in
    let p = c.pass-m.ensures in
    let light = sym p.weight ∙ c.if-m.false in
    let full : either (ltb (length i.out.now) c.pass-m.result.pen.bytes) (ltb 60000 c.pass-m.result.pen.bytes) ≡ true =
    elim c.then-out-length.branch [
      | then-out-length-via-then-out-length w ↦ rw (lt-ltb _ _ w.if-out-length.true) refl
      | then-out-length-via-else-out-length+then-length-gt60000 w ↦ rw (le-ltb _ _ w.if-out-length.false, lt-ltb _ _ w.if-length-gt60000.true) refl
    ] in
    let f = rw (p.written light).bytes at full in
    let a = as_answered (no_room i.log.now i.out.now i.list.now c.if-log-gt60000.false light f) c.refusal-then-out-length.result c.refusal-then-out-length.ensures in record { value = a.answer; out_after = a.text; list_after = a.words; mends = mends_it a }

pub returns-then-list-entries : goal.returns-then-list-entries
returns-then-list-entries c =
    let i = c.args in
    let p = c.pass-m.ensures in
    let light = sym p.weight ∙ c.if-m.false in
    let w = p.written light in
    let room = rw w.bytes at (room_for _ _ c.if-out-length.false c.if-length-gt60000.false) in
    let full = rw w.entries at c.if-list-entries.true in
    let a = as_answered (no_words i.log.now i.out.now i.list.now c.if-log-gt60000.false light room full) c.refusal-then-list-entries.result c.refusal-then-list-entries.ensures in record { value = a.answer; out_after = a.text; list_after = a.words; mends = mends_it a }

pub returns : goal.returns
returns c =
    let i = c.args in
    let p = c.pass-m.ensures in
    let light = sym p.weight ∙ c.if-m.false in
    let w = p.written light in
    let room = rw w.bytes at (room_for _ _ c.if-out-length.false c.if-length-gt60000.false) in
    let free = rw w.entries at c.if-list-entries.false in
    let d = done i.log.now i.out.now i.list.now c.if-log-gt60000.false light room free _ _ _ c.pass.ensures in
    let a = as_answered d _ (measured _ _ _ w.bytes w.entries) in record { value = a.answer; out_after = a.text; list_after = a.words; mends = mends_it a }
