-- Where a pass stands is within bounds, at every place of the damaged log. Assumes nothing.
use mathlib.Core.List.{List}
use mathlib.Core.Bool.{Bool}
use Prim.Native.Nat.{ℕ, ◌+◌, ◌*◌, ◌≤◌, ◌<◌, min}
use native.Mathlib.Omega.{arith}
use lib.ListN.{length, get_or}
use Rattle.log_line.specs.declared.Line.{Line}
use Rattle.log_line.specs.declared.Line.TheVariants.{Header, Machine, One, Loop, Done, Stop, NoForm, NoRegister}
use Rattle.log_salvage_rules.specs.declared.Fate.{Fate}
use Rattle.log_salvage_rules.specs.declared.Fate.TheVariants.{Keep, Drop, Ninth, NinthDone}
use Rattle.log_salvage_rules.specs.Mending.{deeper}
use Rattle.log_salvage.specs.declared.Place.{Place}
use Rattle.log_salvage.specs.declared.Tally.{Tally}
use Rattle.log_salvage.specs.declared.Sifted.{Sifted}
use Rattle.log_salvage.specs.Steps.{place_behind, more_by, opened_by, tally_line, tally_behind, Small, Opens, OpensBy, kept_by, entries_by}
use Rattle.log_salvage.specs.Writing.{fate_by, Bound, Stepped}
use Rattle.log_salvage.proofs.CutLaws.{set_small}
use Rattle.log_salvage.proofs.StepLaws.{opens_by}

small_line : {t : Tally} → Small t → (d : ℕ) (l : Line) → Small (tally_line t d l)
unfolding tally_line more_by opened_by
small_line k d (One a) = record { often = k.often; clocks = omega arith; turns = omega arith }
small_line {t} k d (Loop n) =
    record { often = set_small t.often (d + 1) (min 2000000001 (get_or t.often d 0 * n)) 2000000001 (omega arith) k.often; clocks = omega arith; turns = omega arith }
small_line k d Header = k
small_line k d Machine = k
small_line k d Done = k
small_line k d (Stop n) = k
small_line k d NoForm = k
small_line k d NoRegister = k

small_behind : {t : Tally} → Small t → (d : ℕ) (f : Fate) → Small (tally_behind t d f)
unfolding tally_behind
small_behind k d (Keep l) = small_line k d l
small_behind k d (Drop r) = k
small_behind k d Ninth = k
small_behind k d NinthDone = k

deeper_in : (d : ℕ) (l : Line) → d ≤ 8 → Opens d l → deeper d l ≤ 8
unfolding deeper
deeper_in d (Loop n) h o = omega arith
deeper_in d Done h o = omega arith
deeper_in d (One a) h o = h
deeper_in d Header h o = h
deeper_in d Machine h o = h
deeper_in d (Stop n) h o = h
deeper_in d NoForm h o = h
deeper_in d NoRegister h o = h

place_in : (p : Place) (f : Fate) (at : ℕ) → p.depth ≤ 8 → OpensBy p.depth f → p.ninths ≤ at → ((place_behind p f).depth ≤ 8) × ((place_behind p f).ninths ≤ at + 1)
unfolding place_behind
place_in p (Keep l) at h o n = (deeper_in p.depth l h o, omega arith)
place_in p (Drop r) at h o n = (h, omega arith)
place_in p Ninth at h o n = (h, omega arith)
place_in p NinthDone at h o n = (h, omega arith)

pub kept_in : (f : Fate) (line : List ℕ) → length (kept_by f line) ≤ length line
unfolding kept_by
kept_in (Keep l) line = omega arith
kept_in (Drop r) line = omega arith
kept_in Ninth line = omega arith
kept_in NinthDone line = omega arith

entries_in : (f : Fate) (at : ℕ) → length (entries_by f at) ≤ 1
unfolding entries_by
entries_in (Keep l) at = omega arith
entries_in (Drop r) at = omega arith
entries_in Ninth at = omega arith
entries_in NinthDone at = omega arith

pub bound_step : {at : ℕ} {s : Sifted} → Bound at s → (line : List ℕ) (last : Bool) (out list out' list' : List ℕ) (r : Sifted) → Stepped s line at (fate_by s line last) out list out' list' r → 0 < length line
    → Bound (at + length line) r
unfolding fate_by
bound_step {at} {s} b line last out list out' list' r x h =
    let f : Fate = fate_by s line last in
    let i = place_in s.place f at b.depth (opens_by s.place line s.tally.clocks last) b.ninths in
    let j = kept_in f line in
    let m = entries_in f at in
    let q : r.place.ninths ≤ at + 1 = rw x.place i.1 in
    record {
      small = rw x.tally (small_behind b.small s.place.depth f);
      depth = rw x.place i.0;
      ninths = omega arith;
      bytes = omega (arith, x.bytes, b.bytes);
      entries = omega (arith, x.entries, b.entries);
    }
