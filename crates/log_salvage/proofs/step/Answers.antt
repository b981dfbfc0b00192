use Rattle.log_salvage.proofs.StepLaws.{opens_by}
use Rattle.log_salvage.proofs.BoundLaws.{kept_in}
use Rattle.log_fault.specs.declared.Stand.TheVariants.{Among}
use Rattle.log_fault.specs.Fault.{spot_of}
use Rattle.log_salvage.specs.Writing.{fate_by}
use Rattle.log_salvage.specs.Steps.{found_by, kept_by}
use lib.ListN.{length}
use native.Mathlib.Omega.{arith}
use mathlib.Core.Path.{◌≡◌, ap}
use Rattle.log_salvage.proofs.step.Goals as goal

pub put-bytes-requires : goal.put-bytes-requires
put-bytes-requires c =
    let f = c.fate_of-f.result in
    let b = c.requires.0 in
    let e : length c.kept.result.now ≡ length (kept_by f c.args.line.now) = ap length c.kept.ensures in
    omega (arith, c.requires.1, b.bytes, kept_in f c.args.line.now)

pub tally_behind-tally-requires : goal.tally_behind-tally-requires
tally_behind-tally-requires c =
    let b = c.requires.0 in
    let f = c.fate_of-f in
    let p = c.spot-found in
    (b.small, b.depth, rw (f.ensures, p.ensures.value) (opens_by c.args.s.place c.args.line.now c.args.s.tally.clocks c.args.last))

pub returns : goal.returns
unfolding fate_by
returns c =
    let a = c.args in
    let f = c.fate_of-f in
    let k = c.kept in
    let p = c.put-bytes in
    let n = c.note_fate-entries in
    let e : f.result ≡ found_by (spot_of (Among a.s.place.second a.s.place.depth) a.line.now) a.s.place a.s.tally.clocks a.last = rw c.spot-found.ensures.value at f.ensures in
    rw (← e)
    (record {
      bytes = rw k.ensures at p.ensures.value;
      entries = n.ensures.value;
      place = c.place_behind-place.ensures;
      tally = c.tally_behind-tally.ensures;
      text = rw k.ensures at p.ensures.out_after;
      words = n.ensures.list_after;
    })
