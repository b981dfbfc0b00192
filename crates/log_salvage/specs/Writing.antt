-- Helper: how far a pass has come.
use Rattle.std.specs.Prelude.{ℕ, ◌+◌, ◌*◌, ◌≤◌, min, ◌≡◌, List, [], ◌∷◌, ◌++◌, Bool, true, false, length, get_or}
use Rattle.std.proofs.lemmas.List.Edits.{sets}
use Rattle.log_rules.specs.Lines.{lines_of}
use Rattle.log_rules.specs.Tree.{Tree, clocks, turns}
use Rattle.log_rules.specs.Whole.{blocks, innermost, heavy}
use Rattle.log_salvage_rules.specs.Entries.{list_words}
use Rattle.log_salvage_rules.specs.Mending.{Kept, mended, mended_tree}
use Rattle.log_salvage.specs.declared.Place.{Place}
use Rattle.log_salvage.specs.declared.Tally.{Tally}
use Rattle.log_salvage.specs.declared.Pen.{Pen}
use Rattle.log_salvage.specs.declared.Sifted.{Sifted}
use Rattle.log_salvage.specs.declared.Passed.{Passed}
use Rattle.log_salvage.specs.Steps.{Small, found_by, place_behind, tally_behind, kept_by, entries_by}
use Rattle.log_fault.specs.declared.Stand.TheVariants.{Among}
use Rattle.log_fault.specs.Fault.{spot_of}
use Rattle.log_salvage_rules.specs.declared.Fate.{Fate}
use Rattle.text_print.specs.Printed.{printed}

-- a text was written over the front, if it fits there
pub record Over (old text now : List ℕ) : Type 0 where
  pub size : length now ≡ length old
  pub is : length text ≤ length old → now ≡ sets old 0 text

-- what has been kept was written
pub record Written (out list : List ℕ) (k : Kept) (out' list' : List ℕ) (p : Pen) : Type 0 where
  pub bytes : p.bytes ≡ length k.new
  pub entries : p.entries ≡ length k.list
  pub text : Over out k.new out'
  pub words : Over list (list_words k.list) list'

-- the place is that of what has been kept
pub record Stood (k : Kept) (p : Place) : Type 0 where
  pub second : p.second ≡ k.second
  pub depth : p.depth ≡ k.depth
  pub ninths : p.ninths ≡ k.ninths
  pub stopped : p.stopped ≡ k.stopped

-- so many of each block's measure
unfoldable pub weighed : (Tree → ℕ) → List ℕ → List Tree → ℕ
weighed m [] ts = 0
weighed m (w ∷ ws) [] = 0
weighed m (w ∷ ws) (t ∷ ts) = w * m t + weighed m ws ts

-- the measure of the whole log, whatever stands behind the text: so much, and for each open block, the innermost first, so often what it will hold
abbrev pub Counts : (Tree → ℕ) → List ℕ → List ℕ → ℕ → Type 0
Counts m text ws c = (rest : List ℕ) → length ws ≤ length (blocks (lines_of rest)) → m (innermost (blocks (lines_of (text ++ rest)))) ≡ c + weighed m ws (blocks (lines_of rest))

-- the array holds how often each block is done, cut off
abbrev pub Often : List ℕ → List ℕ → Type 0
Often array [] = Unit {0}
Often array (w ∷ ws) = (get_or array (length ws) 0 ≡ min 2000000001 w) × Often array ws

-- the totals and the weights, cut off
pub record Cut (t : Tally) (ws : List ℕ) (c u : ℕ) : Type 0 where
  pub often : Often t.often ws
  pub long : length t.often ≡ 9
  pub small : Small t
  pub all_clocks : t.clocks ≡ min 2000000001 c
  pub all_turns : t.turns ≡ min 1000001 u

-- the totals are those of what has been kept
pub record Tallied (k : Kept) (t : Tally) : Type 0 where
  pub weights : List ℕ
  pub in_clocks : ℕ
  pub in_turns : ℕ
  pub counts_clocks : Counts clocks k.new weights in_clocks
  pub counts_turns : Counts turns k.new weights in_turns
  pub going : k.stopped ≡ false → length weights ≡ k.depth + 1
  pub over : k.stopped ≡ true → weights ≡ []
  pub cut : Cut t weights in_clocks in_turns

-- a pass has kept k and written it
pub record Sifts (out list : List ℕ) (k : Kept) (out' list' : List ℕ) (s : Sifted) : Type 0 where
  pub written : Written out list k out' list' s.pen
  pub stood : Stood k s.place
  pub tallied : Tallied k s.tally

-- ONE LINE

-- the fate of a line, by where a pass stands
unfoldable pub fate_by : Sifted → List ℕ → Bool → Fate
fate_by s line last = found_by (spot_of (Among s.place.second s.place.depth) line) s.place s.tally.clocks last

-- where a pass stands at a place of the damaged log
pub record Bound (at : ℕ) (s : Sifted) : Type 0 where
  pub small : Small s.tally
  pub depth : s.place.depth ≤ 8
  pub ninths : s.place.ninths ≤ at
  pub bytes : s.pen.bytes ≤ at + 6
  pub entries : s.pen.entries ≤ at + 1

-- it was worked
pub record Stepped (s : Sifted) (line : List ℕ) (at : ℕ) (f : Fate) (out list out' list' : List ℕ) (r : Sifted) : Type 0 where
  pub bytes : r.pen.bytes ≡ s.pen.bytes + length (kept_by f line)
  pub entries : r.pen.entries ≡ s.pen.entries + length (entries_by f at)
  pub place : r.place ≡ place_behind s.place f
  pub tally : r.tally ≡ tally_behind s.tally s.place.depth f
  pub text : out' ≡ printed out s.pen.bytes (kept_by f line)
  pub words : list' ≡ printed list (2 * s.pen.entries) (list_words (entries_by f at))

-- THE END

-- a text was added, with its entry
pub record Adds (p : Pen) (text out list out' list' : List ℕ) (r : Pen) : Type 0 where
  pub bytes : r.bytes ≡ p.bytes + length text
  pub entries : r.entries ≡ p.entries + 1
  pub stored : out' ≡ printed out p.bytes text
  pub noted : list' ≡ printed list (2 * p.entries) (p.bytes ∷ 0 ∷ [])

-- A WHOLE PASS

-- it has kept all; where that is not over the totals it is the repaired log with its list
pub record Passes (log out list out' list' : List ℕ) (r : Passed) : Type 0 where
  pub weight : r.heavy ≡ heavy (mended_tree log)
  pub written : heavy (mended_tree log) ≡ false → Written out list (mended log) out' list' r.pen
