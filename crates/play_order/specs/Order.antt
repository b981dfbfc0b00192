-- Request 13 in a log: "Two loggers on one console sometimes swap writes that share a stamp." What two logs have in common that differ in nothing but two
-- neighbouring write lines, to different channels, which have changed places.
use Rattle.std.specs.Prelude.{ℕ, ◌≤◌, ◌≡◌, false, List, [], ◌∷◌, ◌++◌, eqb}
use Rattle.arith.specs.Pick.{pick}
use Rattle.bus.specs.declared.Access.TheVariants.{Write}
use Rattle.log_line.specs.declared.Act.TheVariants.{Access}
use Rattle.log_line.specs.declared.Line.TheVariants.{One}
use Rattle.log_line.specs.Printed.{line_text}
use Rattle.log_rules.specs.Tree.{acts}
use Rattle.recording.specs.Whole.{is_file, machine_of, tree_of, check_of}
use Rattle.play_text.specs.declared.Entry.{Entry}
use Rattle.play_text.specs.declared.Entry.TheVariants.{Level}
use Rattle.play_rules.specs.Sound.{entries_of}
use Rattle.play_at.specs.Reached.{state_at}
use Rattle.run_order.specs.Order.{Apart}

-- the line `write=RRRR:VV`, with its line feed
abbrev pub write_line : ℕ → ℕ → List ℕ
write_line register value = line_text (One (Access (Write register value)))

-- a log with two lines one right after the other, behind the line feed of the line before them
abbrev pub log_with : List ℕ → List ℕ → List ℕ → List ℕ → List ℕ
log_with front one other back = front ++ (10 ∷ (one ++ (other ++ back)))

-- from the last level written to a level: its line at time t, or none where it is the same
unfoldable pub to_level : ℕ → ℕ → ℕ → List Entry
to_level t last level = pick (eqb level last) [] (Level t level ∷ [])

-- lines of the player that are the same, except that at a time t they may go from one level to another by way of different levels
pub data SameBut : List Entry → List Entry → Type 0 where
  ends : SameBut [] []
  line : (e : Entry) {l l' : List Entry} → SameBut l l' → SameBut (e ∷ l) (e ∷ l')
  by_way : (t last a b level : ℕ) {l l' : List Entry} → SameBut l l'
      → SameBut (to_level t last a ++ (to_level t a level ++ l)) (to_level t last b ++ (to_level t b level ++ l'))

pub record SameSound (log log' : List ℕ) : Type 0 where
  -- both pass, with the same machine, clocks, turns and items, or both are refused, by the same number at the same place
  pub check : check_of log ≡ check_of log'
  -- at every clock, the accesses stamped with it among them, the state is the same
  pub states : (memory : List ℕ) (c : ℕ) → state_at log memory c ≡ state_at log' memory c
  -- and so are the player's lines, but for the levels on the way at the two writes themselves
  pub entries : (memory : List ℕ) → SameBut (entries_of (machine_of log) memory (acts (tree_of log))) (entries_of (machine_of log') memory (acts (tree_of log')))

-- REQUEST 13 IN A LOG, which is no VGM file, whatever stands before and behind the two lines, also inside loops; a value that is written is a byte
abbrev pub LinesSwap : Type 0
LinesSwap =
    (front back : List ℕ) (register register' value value' : ℕ) → Apart register register' → value ≤ 255 → value' ≤ 255
    → let one = write_line register value in
    let other = write_line register' value' in
    is_file (log_with front one other back) ≡ false → SameSound (log_with front one other back) (log_with front other one back)
