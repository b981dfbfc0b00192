use native.Mathlib.Omega.{arith}
use lib.ListN.{length}
use Rattle.vgm_file.specs.Header.{is_pal_file}
use Rattle.perch_import.proofs.FileLaws.{part_is, place_in}
use Rattle.perch_import.proofs.import_from.Goals as goal

pub brought_from-requires : goal.brought_from-requires
brought_from-requires c =
    let a = c.args in
    let e = rw (part_is a.file.now a.start, c.is_pal-pal.ensures) at c.import_for-a.ensures.value in
    rw e (omega (arith, place_in (is_pal_file a.file.now) a.file.now a.start c.requires (length a.out.now), c.well_formed))

pub returns : goal.returns
returns c =
    let a = c.args in
    let i = rw (part_is a.file.now a.start, c.is_pal-pal.ensures) at c.import_for-a.ensures.value in
    let o = rw (part_is a.file.now a.start, c.is_pal-pal.ensures) at c.import_for-a.ensures.out_after in
    rw (← i) (record { value = c.brought_from.ensures; out_after = o })
