use mathlib.Core.Path.{◌∙◌}
use native.Mathlib.Omega.{arith}
use lib.ListN.{drop, length-drop}
use Rattle.text.proofs.KeyLaws.{take_rest}
use Rattle.vgm_file.specs.Header.{is_pal_file}
use Rattle.vgm_measure.proofs.FaultLaws.{tally_limits}
use Rattle.recording.specs.Whole.{start_of}
use Rattle.recording.proofs.FileLaws.{start_within, check_from_lem}
use Rattle.recording.proofs.check_commands.Goals as goal

pub slice_bounds-totals-count : goal.slice_bounds-totals-count
slice_bounds-totals-count c = omega (arith, c.start-at.ensures, start_within c.args.b.now)

pub slice_bounds-totals-start : goal.slice_bounds-totals-start
slice_bounds-totals-start c = omega (arith, c.start-at.ensures, start_within c.args.b.now)

pub check_totals-requires : goal.check_totals-requires
check_totals-requires c =
    let b = c.args.b.now in
    let t = rw (take_rest c.start-at.result b, c.is_pal-pal.ensures, c.start-at.ensures) at c.totals-t.ensures in
    rw (t, c.start-at.ensures) (omega (arith, (tally_limits (is_pal_file b) (drop (start_of b) b)).1, length-drop (start_of b) b, start_within b, c.well_formed))

pub returns : goal.returns
returns c =
    let b = c.args.b.now in
    let t = rw (take_rest c.start-at.result b, c.is_pal-pal.ensures, c.start-at.ensures) at c.totals-t.ensures in
    (rw (t, c.is_pal-pal.ensures, c.start-at.ensures) at c.check_totals.ensures) ∙ check_from_lem b
