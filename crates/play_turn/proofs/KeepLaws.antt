-- What a turn keeps. Assumes nothing.
use Prim.Native.Nat.{ℕ}
use mathlib.Core.Path.{◌≡◌, refl, ◌∙◌}
use mathlib.Core.Bool.{Bool, true, false}
use lib.Dec.{eqb}
use Rattle.arith.specs.Pick.{pick}
use Rattle.bus.specs.declared.Access.TheVariants as bus
use Rattle.log_line.specs.declared.Act.{Act}
use Rattle.log_line.specs.declared.Act.TheVariants as line
use Rattle.reading.specs.Saying.{Said, over, on, says, refused}
use Rattle.recording_cursor.specs.declared.Cursor.{Cursor}
use Rattle.recording_cursor.specs.Stepping.{told}
use Rattle.chip.specs.Level.{state_level}
use Rattle.chip.specs.Range.{in_range}
use Rattle.chip.specs.declared.State.{State}
use Rattle.chip_access.specs.Access.{accessed}
use Rattle.chip_access.specs.declared.Outcome.{Outcome}
use Rattle.play_text.specs.declared.Entry.TheVariants.{Level, Read}
use Rattle.play_rules.specs.declared.Player.{Player}
use Rattle.play_rules.specs.Turns.{go, player_of, level_told, acted}
use Rattle.play_turn.specs.declared.Went.{Went}
use Rattle.play_turn.specs.Turned.{went, found_said, Keeps}

pub found_back : (x : Said Act) → found_said (told x) ≡ x
found_back over = refl
found_back on = refl
found_back (says a) = refl
found_back (refused k p) = refl

level_state : (p : Player) (s : State) (c : Cursor) → (level_told p s c).state.state ≡ s
unfolding level_told
level_state p s c = by (eqb (state_level s) p.last)
  where
    by : (t : Bool) → (pick t (go on (player_of 2 0 p.time p.last s c)) (go (says (Level p.time (state_level s))) (player_of 2 0 p.time (state_level s) s c))).state.state ≡ s
    by true = refl
    by false = refl

-- an access with what is told behind it: a register written
module _ (p : Player) (c : Cursor) (w : Went) (a : Outcome) (kept : in_range p.state ≡ true → in_range a.state ≡ true) where
  pub write_both : (r v : ℕ) → a ≡ accessed (bus.Write r v) p.state → w ≡ went (level_told p a.state c) → (w ≡ went (acted p (line.Access (bus.Write r v)) c)) × Keeps p w
  unfolding acted
  write_both r v e f = (f ∙ rw e refl, λ h. rw (f, level_state p a.state c) (kept h))

  -- the status read
  pub read_both : a ≡ accessed bus.Read p.state → w ≡ went (go (says (Read p.time a.byte)) (player_of 2 0 p.time p.last a.state c))
      → (w ≡ went (acted p (line.Access bus.Read) c)) × Keeps p w
  unfolding acted
  read_both e f = (f ∙ rw e refl, λ h. rw f (kept h))
