use Rattle.c_salvage.proofs.PackedLaws.{limited, place_small, packed_mends}
use Rattle.c_salvage.specs.Packed.{salvage_packed}
use Rattle.c_log.proofs.TotalLaws.{place_is}
use native.Mathlib.Omega.{arith}
use lib.ListN.{length}
use mathlib.Core.Path.{◌≡◌}
use Rattle.c_salvage.proofs.salvage.Goals as goal

pub overflow_mul-a : goal.overflow_mul-a
overflow_mul-a c =
    let a = c.args in
    let s = c.salvage-a in
    let l = limited a.log.now (length a.text.now) (length a.list.now) s.result s.ensures.value in
    record { fits = omega (arith, l.few) }

pub overflow_add-a : goal.overflow_add-a
overflow_add-a c =
    let a = c.args in
    let s = c.salvage-a in
    let l = limited a.log.now (length a.text.now) (length a.list.now) s.result s.ensures.value in
    omega (arith, l.few, l.long)

pub overflow_cast-a : goal.overflow_cast-a
overflow_cast-a c =
    let a = c.args in
    let s = c.salvage-a in
    let l = limited a.log.now (length a.text.now) (length a.list.now) s.result s.ensures.value in
    omega (arith, l.few, l.long)

pub returns : goal.returns
returns c =
    let a = c.args in
    let s = c.salvage-a in
    let b = length a.text.now in
    let w = length a.list.now in
    let p : c.pack.result ≡ salvage_packed a.log.now b w = rw (c.pack.ensures, s.ensures.value, place_is _ (place_small a.log.now b w)) in record { value = p; text_after = s.ensures.out_after; list_after = s.ensures.list_after; mends = packed_mends a.log.now _ b w s.result s.ensures.value s.ensures.mends _ p }
