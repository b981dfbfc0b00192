use native.Mathlib.Omega.{arith}
use Rattle.c_reason.proofs.Fits.{reason_fits}
use Rattle.c_reason.proofs.reason.Goals as goal

pub overflow_mul-result : goal.overflow_mul-result
overflow_mul-result c =
    let start = c.args in
    let h = reason_fits start.number start.text.now in
    let e = c.reason-n.ensures.value in
    record { fits = omega arith }
