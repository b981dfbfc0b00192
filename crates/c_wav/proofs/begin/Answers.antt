use Prim.Native.Nat.{ℕ}
use mathlib.Core.Path.{ap, ◌∙◌}
use native.Mathlib.Omega.{arith}
use Rattle.c_log.specs.Logs.{log_packed}
use Rattle.recording.proofs.Limits.{place_is}
use Rattle.c_wav.proofs.FileLaws.{Low, begun_low, not_begun, begun}
use Rattle.c_wav.proofs.begin.Goals as goal

pub returns-then-wav-ne-SIZE : goal.returns-then-wav-ne-SIZE
returns-then-wav-ne-SIZE c =
    let start = c.args in
    let n = not_begun start.log.now start.memory.now start.rate start.wav.now c.if-wav-ne-SIZE.true in
    rw (c.pack.ensures, c.other_length-number.ensures) (record { value = n.0; wav_after = n.1 })

pub overflow_cast-g : goal.overflow_cast-g
overflow_cast-g c =
    let start = c.args in
    let low : Low c.begin-g.result = rw c.begin-g.ensures (begun_low start.log.now start.memory.now start.rate) in
    omega (arith, low.size)

pub returns : goal.returns
returns c =
    let start = c.args in
    let went = c.begin-g in
    let low : Low went.result = rw went.ensures (begun_low start.log.now start.memory.now start.rate) in
    let place = place_is went.result.place low.place in let pair = begun start.log.now start.memory.now start.rate start.wav.now c.if-wav-ne-SIZE.false _ went.ensures _
    (c.pack-2.ensures ∙ ap (λ (p : ℕ). log_packed went.result.number p went.result.size) place) _ c.store_wav.ensures in record { value = pair.0; wav_after = pair.1 }
