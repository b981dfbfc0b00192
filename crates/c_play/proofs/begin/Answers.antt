use mathlib.Core.Path.{ap, ◌∙◌}
use Prim.Native.Nat.{ℕ}
use Rattle.c_log.specs.Logs.{log_packed}
use Rattle.recording.proofs.Limits.{place_is}
use Rattle.c_play.proofs.PlayerLaws.{not_begun, begun, begun_place}
use Rattle.c_play.proofs.begin.Goals as goal

pub returns-then-player-ne-SIZE : goal.returns-then-player-ne-SIZE
returns-then-player-ne-SIZE c =
    let start = c.args in
    let n = not_begun start.log.now start.memory.now start.player.now c.if-player-ne-SIZE.true in
    rw (c.pack.ensures, c.other_length-number.ensures) (record { value = n.0; player_after = n.1 })

pub returns : goal.returns
returns c =
    let start = c.args in
    let went = c.begin-g in
    let place = place_is went.result.place (rw went.ensures (begun_place start.log.now start.memory.now)) in let pair = begun start.log.now start.memory.now start.player.now c.if-player-ne-SIZE.false _ went.ensures _
    (c.pack-2.ensures ∙ ap (λ (p : ℕ). log_packed went.result.number p 0) place) _ c.store_player.ensures in record { value = pair.0; player_after = pair.1 }
