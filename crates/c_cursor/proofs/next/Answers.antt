use mathlib.Core.Path.{ap, ◌∙◌}
use Rattle.c_cursor.specs.Next.{next_of}
use Rattle.c_cursor.proofs.LimitLaws.{found_in}
use Rattle.c_cursor.proofs.StoreLaws.{next_not, next_is}
use Rattle.c_cursor.proofs.next.Goals as goal

pub returns-then-cursor-ne-SIZE : goal.returns-then-cursor-ne-SIZE
returns-then-cursor-ne-SIZE c =
    let a = c.args in let pair = next_not a.log.now a.cursor.now c.if-cursor-ne-SIZE.true in record { value = pair.0; cursor_after = pair.1 }

pub pack-requires : goal.pack-requires
pack-requires c =
    let a = c.args in
    rw c.find-s.ensures (found_in a.log.now c.decode.result)

pub returns : goal.returns
returns c =
    let a = c.args in let pair = next_is a.log.now a.cursor.now c.if-cursor-ne-SIZE.false c.find-s.result
    (c.find-s.ensures ∙ ap (next_of a.log.now) c.decode.ensures) _ c.store.ensures _ c.pack.ensures in record { value = pair.0; cursor_after = pair.1 }
