use Rattle.vgm_import.proofs.PenLaws.{head_ntsc, head_pal}
use Rattle.vgm_import.proofs.put_head.Goals as goal

pub returns-then-pal : goal.returns-then-pal
returns-then-pal c =
    let a = c.args in
    let h = c.put_line-first in
    let m = c.put_line in
    let pal = c.if-pal.true in
    rw pal (head_pal a.out.now h.new.out h.result h.ensures.value h.ensures.out_after (rw pal at c.requires) m.new.out m.result m.ensures.value m.ensures.out_after)

pub returns : goal.returns
returns c =
    let a = c.args in
    let h = c.put_line-first in
    let ntsc = c.if-pal.false in
    rw ntsc (head_ntsc a.out.now h.new.out h.result h.ensures.value h.ensures.out_after (rw ntsc at c.requires))
