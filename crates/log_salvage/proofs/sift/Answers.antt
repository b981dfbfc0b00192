use Rattle.log_salvage.proofs.EndLaws.{begun_bound, header_in, begun_sifts, begun_goes, sifted_headed, sifted_bare}
use Rattle.log_line.specs.Printed.{line_text, ended}
use native.Mathlib.Omega.{arith}
use mathlib.Core.Bool.{true, false}
use mathlib.Core.Path.{◌≡◌, refl, sym, ◌∙◌}
use Rattle.log_salvage.proofs.sift.Goals as goal

pub lines-requires : goal.lines-requires
unfolding line_text ended
lines-requires c =
    let s = c.starts-headed in
    let p = c.put-bytes.ensures.value in
    let n = c.note_head-entries.ensures.value in
    (rw c.begun.ensures (begun_bound s.result 6 _ _ (p ∙ refl) n), header_in _ (sym s.ensures ∙ c.if-headed.true), c.requires)

pub returns-then-headed : goal.returns-then-headed
unfolding line_text ended
returns-then-headed c =
    let a = c.args in
    let s = c.starts-headed in
    let h : s.result ≡ true = c.if-headed.true in
    let p = c.put-bytes.ensures in
    let n = c.note_head-entries.ensures in
    let b = c.begun.ensures in
    let w = c.lines.ensures in
    let i = begun_sifts true a.out.now a.list.now _ _ _ _ (p.value ∙ refl) p.out_after (rw h at n.value) (rw h at n.list_after) in record { bound = w.bound; sifts = rw (sifted_headed a.log.now (sym s.ensures ∙ h)) (w.by_index _ _ _ (begun_goes true) (rw b i)) }

pub lines-requires-2 : goal.lines-requires-2
unfolding line_text ended
lines-requires-2 c =
    let s = c.starts-headed in
    let p = c.put-bytes.ensures.value in
    let n = c.note_head-entries.ensures.value in
    (rw c.begun-2.ensures (begun_bound s.result 0 _ _ (p ∙ refl) n), omega arith, c.requires)

pub returns : goal.returns
unfolding line_text ended
returns c =
    let a = c.args in
    let s = c.starts-headed in
    let h : s.result ≡ false = c.if-headed.false in
    let p = c.put-bytes.ensures in
    let n = c.note_head-entries.ensures in
    let b = c.begun-2.ensures in
    let w = c.lines-2.ensures in
    let i = begun_sifts false a.out.now a.list.now _ _ _ _ (p.value ∙ refl) p.out_after (rw h at n.value) (rw h at n.list_after) in record { bound = w.bound; sifts = rw (sifted_bare a.log.now (sym s.ensures ∙ h)) (w.by_index _ _ _ (begun_goes false) (rw b i)) }
