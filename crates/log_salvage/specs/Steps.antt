-- Helper: nobody has to believe this; what the code decides at a line, from what is found of it, where it stands and the totals. That it is the fate that
-- is defined, and that the totals are those of the tree, is proved.
use Rattle.std.specs.Prelude.{ℕ, ◌+◌, ◌-◌, ◌*◌, ◌≤◌, ◌<◌, min, List, [], ◌∷◌, Bool, true, false, get_or, set, eqb, ltb, Result, Ok, Err}
use Rattle.refusal.specs.declared.Refusal.{Refusal}
use Rattle.arith.specs.Pick.{pick, both}
use Rattle.log_line.specs.declared.Line.{Line}
use Rattle.log_line.specs.declared.Line.TheVariants.{Header, Machine, One, Loop, Done, Stop, NoForm, NoRegister}
use Rattle.log_rules.specs.Tree.{act_clocks}
use Rattle.log_salvage_rules.specs.declared.Fate.{Fate}
use Rattle.log_salvage_rules.specs.declared.Fate.TheVariants.{Keep, Drop, Ninth, NinthDone}
use Rattle.log_salvage_rules.specs.Entries.{Entry, dropped, added}
use Rattle.log_salvage_rules.specs.Mending.{deeper, is_stop}
use Rattle.log_salvage.specs.declared.Place.{Place}
use Rattle.log_salvage.specs.declared.Tally.{Tally}
use Rattle.log_salvage.specs.declared.Sifted.{Sifted}

-- THE FATE OF A LINE

abbrev pub stop_by : Bool → Bool → ℕ → Fate
stop_by stays last n = pick stays (Keep (Stop n)) (Drop (pick last 10 19))

abbrev pub right_by : Line → ℕ → ℕ → Bool → Fate
right_by (Stop n) ninths clocks last = stop_by (both last (eqb n clocks)) last n
right_by Done ninths clocks last = pick (ltb 0 ninths) NinthDone (Keep Done)
right_by Header ninths clocks last = Keep Header
right_by Machine ninths clocks last = Keep Machine
right_by (One a) ninths clocks last = Keep (One a)
right_by (Loop n) ninths clocks last = Keep (Loop n)
right_by NoForm ninths clocks last = Keep NoForm
right_by NoRegister ninths clocks last = Keep NoRegister

abbrev pub wrong_by : ℕ → ℕ → Bool → Fate
wrong_by r depth last = pick (eqb r 7) Ninth (pick (both (eqb r 8) (ltb 0 depth)) (Drop (pick last 10 19)) (Drop r))

unfoldable pub found_by : Result Line Refusal → Place → ℕ → Bool → Fate
found_by (Ok l) p clocks last = right_by l p.ninths clocks last
found_by (Err e) p clocks last = wrong_by e.number p.depth last

-- WHERE THE NEXT LINE STANDS

unfoldable pub place_behind : Place → Fate → Place
place_behind p (Keep l) = record { second = false; depth = deeper p.depth l; ninths = p.ninths; stopped = is_stop l }
place_behind p (Drop r) = p
place_behind p Ninth = record { second = p.second; depth = p.depth; ninths = p.ninths + 1; stopped = p.stopped }
place_behind p NinthDone = record { second = p.second; depth = p.depth; ninths = p.ninths - 1; stopped = p.stopped }

abbrev pub started : Place
started = record { second = true; depth = 0; ninths = 0; stopped = false }

-- THE TOTALS

-- so many turns more, each of so many clocks, of a block that is done w times over
unfoldable pub more_by : Tally → ℕ → ℕ → ℕ → Tally
more_by t w turns clocks = record { often = t.often; clocks = min 2000000001 (t.clocks + w * clocks); turns = min 1000001 (t.turns + w * turns) }

unfoldable pub opened_by : Tally → ℕ → ℕ → Tally
opened_by t d n =
    record {
      often = set t.often (d + 1) (min 2000000001 (get_or t.often d 0 * n));
      clocks = min 2000000001 (t.clocks + get_or t.often d 0 * 0);
      turns = min 1000001 (t.turns + get_or t.often d 0 * n);
    }

unfoldable pub tally_line : Tally → ℕ → Line → Tally
tally_line t d (One a) = more_by t (get_or t.often d 0) 1 (act_clocks a)
tally_line t d (Loop n) = opened_by t d n
tally_line t d Header = t
tally_line t d Machine = t
tally_line t d Done = t
tally_line t d (Stop n) = t
tally_line t d NoForm = t
tally_line t d NoRegister = t

unfoldable pub tally_behind : Tally → ℕ → Fate → Tally
tally_behind t d (Keep l) = tally_line t d l
tally_behind t d (Drop r) = t
tally_behind t d Ninth = t
tally_behind t d NinthDone = t

abbrev pub no_tally : Tally
no_tally = record { often = 1 ∷ 1 ∷ 1 ∷ 1 ∷ 1 ∷ 1 ∷ 1 ∷ 1 ∷ 1 ∷ []; clocks = 0; turns = 0 }

-- totals that are cut off
pub record Small (t : Tally) : Type 0 where
  pub often : (i : ℕ) → get_or t.often i 0 ≤ 2000000001
  pub clocks : t.clocks ≤ 2000000001
  pub turns : t.turns ≤ 1000001

-- a loop line is kept only inside fewer than eight
abbrev pub Opens : ℕ → Line → Type 0
Opens d (Loop n) = d < 8
Opens d (One a) = Unit {0}
Opens d Header = Unit {0}
Opens d Machine = Unit {0}
Opens d Done = Unit {0}
Opens d (Stop n) = Unit {0}
Opens d NoForm = Unit {0}
Opens d NoRegister = Unit {0}

abbrev pub OpensBy : ℕ → Fate → Type 0
OpensBy d (Keep l) = Opens d l
OpensBy d (Drop r) = Unit {0}
OpensBy d Ninth = Unit {0}
OpensBy d NinthDone = Unit {0}

-- WHAT IS WRITTEN

unfoldable pub kept_by : Fate → List ℕ → List ℕ
kept_by (Keep l) line = line
kept_by (Drop r) line = []
kept_by Ninth line = []
kept_by NinthDone line = []

unfoldable pub entries_by : Fate → ℕ → List Entry
entries_by (Keep l) at = []
entries_by (Drop r) at = dropped at r ∷ []
entries_by Ninth at = dropped at 7 ∷ []
entries_by NinthDone at = dropped at 7 ∷ []

-- the entry for a `log=1` that was added
abbrev pub head_entries : Bool → List Entry
head_entries true = []
head_entries false = added 0 ∷ []

-- BEFORE THE FIRST LINE

abbrev pub begun_by : ℕ → ℕ → Sifted
begun_by b e = record { pen = record { bytes = b; entries = e }; place = started; tally = no_tally }
