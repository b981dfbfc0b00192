use mathlib.Core.Path.{◌≡◌, ap}
use native.Mathlib.Omega.{arith}
use Rattle.log_fold.specs.declared.Folded.{Folded}
use Rattle.c_fold.specs.Packed.{fold_packed}
use Rattle.c_log.proofs.TotalLaws.{place_is}
use Rattle.c_fold.proofs.PackedLaws.{fold_limits, packed_folds}
use Rattle.c_fold.proofs.fold.Goals as goal

pub overflow_cast-a : goal.overflow_cast-a
overflow_cast-a c =
    let a = c.args in
    let f = c.fold-a in
    omega (arith, ap (λ (x : Folded). x.length) f.ensures.value, (fold_limits a.log.now a.text.now).long)

pub returns : goal.returns
returns c =
    let a = c.args in
    let f = c.fold-a in
    let p : c.pack.result ≡ fold_packed a.log.now a.text.now = rw (c.pack.ensures, f.ensures.value, place_is _ (fold_limits a.log.now a.text.now).place) in record { value = p; text_after = f.ensures.out_after; folds = packed_folds a.log.now a.text.now _ f.result f.ensures.value f.ensures.folds _ p }
