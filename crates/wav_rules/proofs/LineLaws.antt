-- Behind a line of the log nothing refuses the place but clocks past 2,000,000,000, those of a wait that was met with them. Assumes nothing.
use Prim.Native.Nat.{ℕ, ◌+◌, ◌-◌, ◌≤◌}
use mathlib.Core.Path.{◌≡◌, refl}
use mathlib.Core.Bool.{true}
use mathlib.Core.List.{List}
use native.Mathlib.Omega.{arith}
use lib.Dec.{leb}
use Rattle.arith.specs.Pick.{pick}
use Rattle.bus.specs.declared.Access as busAccess
use Rattle.bus.specs.declared.Access.TheVariants as bus
use Rattle.reading.specs.Saying.{Said, over, on, says, refused}
use Rattle.log_line.specs.declared.Act.{Act}
use Rattle.log_line.specs.declared.Act.TheVariants.{Wait, Access}
use Rattle.log_line.specs.Printed.{Allowed}
use Rattle.recording_cursor.specs.declared.Cursor.{Cursor}
use Rattle.recording_cursor.specs.Stepping as cursor
use Rattle.recording_cursor.proofs.Allowed.{SaysAllowed, step_allowed}
use Rattle.chip.specs.Range.{in_range}
use Rattle.chip.specs.declared.State.{State}
use Rattle.chip_access.specs.Access.{access_state}
use Rattle.chip_access.proofs.AccessLaws.{Bytewide, access_kept, access_machine}
use Rattle.play_walk.specs.Walk.{moment_of}
use Rattle.play_samples.specs.declared.Place.{Place}
use Rattle.play_samples.specs.Stepping.{place_of, refusal_of}
use Rattle.wav_rules.specs.Turns.{turn_of}
use Rattle.wav_rules.proofs.TurnLaws.{Fine, none_fine, refusal_late, turn_over, turn_on, turn_wait, turn_access, turn_fault}

pub bytewide : (x : busAccess.Access) → Allowed (Access x) → Bytewide x
bytewide (bus.Write r v) w = w.1
bytewide bus.Read w = tt

-- WHAT HOLDS BEHIND A LINE
pub record Behind (memory : List ℕ) (rate : ℕ) (p q : Place) : Type 0 where
  pub time : q.moment.time ≡ p.moment.time
  pub sample : q.sample ≡ p.sample
  pub sum : q.sum ≡ p.sum
  pub machine : q.moment.state.pal ≡ p.moment.state.pal
  pub ranged : in_range q.moment.state ≡ true
  pub few : q.left ≤ 1000000
  pub refusal : refusal_of memory rate q ≡ pick (leb (q.moment.time + q.left) 2000000000) 0 9

module _ (memory : List ℕ) (rate : ℕ) (p : Place) (f : Fine memory rate p) where
  behind : (c : Cursor) (s : State) (n : ℕ) → s.pal ≡ p.moment.state.pal → in_range s ≡ true → n ≤ 1000000
      → Behind memory rate p (place_of (moment_of c s p.moment.time) n p.sample p.sum)
  behind c s n e h few =
      record {
        time = refl;
        sample = refl;
        sum = refl;
        machine = e;
        ranged = h;
        few = few;
        refusal = refusal_late memory rate (place_of (moment_of c s p.moment.time) n p.sample p.sum) f.long h few f.right (rw e f.order);
      }

pub line_behind : (log memory : List ℕ) (rate : ℕ) (p : Place) → refusal_of memory rate p ≡ 0 → p.left ≡ 0 → Behind memory rate p (turn_of log memory rate p).state
line_behind log memory rate p none line =
    by (cursor.step_of log p.moment.cursor).said refl (step_allowed log p.moment.cursor) (none_fine memory rate p none)
  where
    by : (w : Said Act) → (cursor.step_of log p.moment.cursor).said ≡ w → SaysAllowed w → Fine memory rate p
        → Behind memory rate p (turn_of log memory rate p).state
    by over e a f = rw (turn_over log memory rate p none line e) (behind memory rate p f _ p.moment.state 0 refl f.ranged (omega arith))
    by on e a f = rw (turn_on log memory rate p none line e) (behind memory rate p f _ p.moment.state 0 refl f.ranged (omega arith))
    by (says (Wait n)) e a f = rw (turn_wait log memory rate p none line n e) (behind memory rate p f _ p.moment.state n refl f.ranged a.1)
    by (says (Access x)) e a f =
        rw (turn_access log memory rate p none line x e)
        (behind memory rate p f _ (access_state x p.moment.state) 0 (access_machine x p.moment.state).pal
        (access_kept x p.moment.state (bytewide x a) f.ranged) (omega arith))
    by (refused k q) e a f = rw (turn_fault log memory rate p none line k q e) (behind memory rate p f _ p.moment.state 0 refl f.ranged (omega arith))
