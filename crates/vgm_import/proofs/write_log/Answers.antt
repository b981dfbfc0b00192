use Rattle.vgm_import.proofs.WriteLaws.{head_room, write_headed, write_whole}
use Rattle.vgm_import.proofs.write_log.Goals as goal

pub put_head-first-requires : goal.put_head-first-requires
put_head-first-requires c =
    head_room c.args.pal c.args.stream.now c.args.out.now c.requires

pub write_rest-requires : goal.write_rest-requires
write_rest-requires c =
    let h = c.put_head-first in
    write_headed c.args.pal c.args.stream.now c.args.out.now c.requires h.new.out h.result h.ensures

pub returns : goal.returns
returns c =
    let h = c.put_head-first in
    write_whole c.args.pal c.args.stream.now c.args.out.now c.requires h.new.out h.result h.ensures _ c.write_rest.ensures
