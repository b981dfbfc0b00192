use mathlib.Core.Path.{sym}
use native.Mathlib.Omega.{arith}
use lib.Seq.{length-take-le}
use Rattle.c_play.proofs.PlayerLaws.{played_whole, played_fits}
use Rattle.c_play.proofs.play_from.Goals as goal

pub slice_bounds-play_on-end-2 : goal.slice_bounds-play_on-end-2
slice_bounds-play_on-end-2 c = sym (length-take-le _ _ (omega (arith, c.min-end.ensures)))

pub returns : goal.returns
returns c =
    let start = c.args in
    let size = c.min-end in
    let went = c.play_on in
    let l = length-take-le size.result start.text.now (omega (arith, size.ensures)) in
    let fits = played_fits _ _ _ _ _ _ went.ensures in (
      rw (← c.player_in-p.ensures)
          (played_whole start.log.now start.memory.now _ start.text.now _ size.result went.result (omega (arith, size.ensures)) (λ h. omega (arith, size.ensures)) went.auto.out went.ensures),
      omega (arith, size.ensures),
    )
