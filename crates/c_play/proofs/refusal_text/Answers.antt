use native.Mathlib.Omega.{arith}
use Rattle.c_play.proofs.PlayerLaws.{refusal_fits}
use Rattle.c_play.proofs.refusal_text.Goals as goal

pub overflow_mul-result : goal.overflow_mul-result
overflow_mul-result c =
    let start = c.args in
    let h = refusal_fits start.number start.place start.text.now (omega arith) in
    let e = c.refusal-n.ensures.value in
    record { fits = omega arith }
