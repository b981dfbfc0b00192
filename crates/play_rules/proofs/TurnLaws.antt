-- Which turn it is; what a turn leaves that ends the playing; how long a turn's line is. Assumes nothing.
use Prim.Native.Nat.{ℕ, ◌+◌, ◌≤◌, ◌<◌}
use mathlib.Core.Path.{◌≡◌, refl}
use mathlib.Core.Bool.{Bool, true, false}
use mathlib.Core.List.{List}
use native.Mathlib.Omega.{arith}
use lib.Dec.{eqb}
use lib.ListN.{length}
use borrow.Author.Tests.{eq-eqb, ne_eqb, le-leb, lt-leb}
use Rattle.arith.specs.Pick.{pick}
use Rattle.bus.specs.declared.Access.TheVariants as bus
use Rattle.log_line.specs.declared.Act.{Act}
use Rattle.log_line.specs.declared.Act.TheVariants as line
use Rattle.reading.specs.Saying.{Said, over, on, says, refused}
use Rattle.recording_cursor.specs.declared.Cursor.{Cursor}
use Rattle.recording_cursor.specs.Stepping.{step_of}
use Rattle.chip.specs.Level.{state_level}
use Rattle.chip.specs.declared.State.{State}
use Rattle.chip.proofs.RangeLaws.{level_most}
use Rattle.play_text.specs.declared.Entry.{Entry}
use Rattle.play_text.specs.declared.Entry.TheVariants.{Play, Level}
use Rattle.play_text.specs.Entries.{entry_text}
use Rattle.play_text.proofs.TextLaws.{level_size, read_size, stop_size, play_size}
use Rattle.play_rules.specs.declared.Player.{Player}
use Rattle.play_rules.specs.Turns.{Go, go, player_of, level_told, acted, step_said, cursor_turn, wait_turn, phase_turn, turn_of}

module _ (log memory : List ℕ) (p : Player) where
  pub turn_phase : (p.phase ≡ 2 → ⊥) → turn_of log memory p ≡ phase_turn p
  unfolding turn_of
  turn_phase h = rw (ne_eqb p.phase 2 h)

  pub turn_cursor : p.phase ≡ 2 → p.wait ≡ 0 → turn_of log memory p ≡ cursor_turn log p
  unfolding turn_of
  turn_cursor h z = rw (eq-eqb p.phase 2 h, eq-eqb p.wait 0 z)

  pub turn_three : p.phase ≡ 2 → 0 < p.wait → 1000000 < p.wait → turn_of log memory p ≡ go (refused 3 0) p
  unfolding turn_of wait_turn
  turn_three h z k = rw (eq-eqb p.phase 2 h, ne_eqb p.wait 0 (λ y. omega arith), lt-leb p.wait 1000000 k)

  pub turn_nine : p.phase ≡ 2 → 0 < p.wait → p.wait ≤ 1000000 → 2000000000 < p.time + p.wait → turn_of log memory p ≡ go (refused 9 0) p
  unfolding turn_of wait_turn
  turn_nine h z k n = rw (eq-eqb p.phase 2 h, ne_eqb p.wait 0 (λ y. omega arith), le-leb p.wait 1000000 k, lt-leb (p.time + p.wait) 2000000000 n)

-- over, or refused
abbrev pub Ends : Said Entry → Type 0
Ends over = Unit {0}
Ends on = ⊥
Ends (says n) = ⊥
Ends (refused k q) = Unit {0}

-- such a turn leaves the player as it was
abbrev pub Stays : Player → Go → Type 0
Stays p g = Ends g.said → g.state ≡ p

level_stays : (p q : Player) (s : State) (c : Cursor) → Stays q (level_told p s c)
unfolding level_told
level_stays p q s c = by (eqb (state_level s) p.last)
  where
    by : (t : Bool) → Stays q (pick t (go on (player_of 2 0 p.time p.last s c)) (go (says (Level p.time (state_level s))) (player_of 2 0 p.time (state_level s) s c)))
    by true e = absurd e
    by false e = absurd e

acted_stays : (p q : Player) (a : Act) (c : Cursor) → Stays q (acted p a c)
unfolding acted
acted_stays p q (line.Wait n) c e = absurd e
acted_stays p q (line.Access (bus.Write r v)) c e = level_stays p q _ c e
acted_stays p q (line.Access bus.Read) c e = absurd e

step_stays : (p : Player) (x : Said Act) (c : Cursor) → Stays p (step_said p x c)
unfolding step_said
step_stays p over c e = absurd e
step_stays p on c e = absurd e
step_stays p (says a) c e = acted_stays p p a c e
step_stays p (refused k q) c e = refl

pub cursor_stays : (log : List ℕ) (p : Player) → Stays p (cursor_turn log p)
unfolding cursor_turn
cursor_stays log p = step_stays p (step_of log p.cursor).said (step_of log p.cursor).state

pub phase_stays : (p : Player) → Stays p (phase_turn p)
unfolding phase_turn
phase_stays p = by (eqb p.phase 0) (eqb p.phase 1)
  where
    by : (t u : Bool) → Stays p (pick t (go (says Play) (player_of 1 p.wait p.time p.last p.state p.cursor)) (pick u
        (go (says (Level p.time (state_level p.state))) (player_of 2 p.wait p.time (state_level p.state) p.state p.cursor)) (go over p)))
    by true u e = absurd e
    by false true e = absurd e
    by false false e = refl

-- a line that a turn says has 23 bytes at most
abbrev pub Short : Said Entry → Type 0
Short over = Unit {0}
Short on = Unit {0}
Short (says n) = length (entry_text n) ≤ 23
Short (refused k q) = Unit {0}

level_short : (p : Player) (s : State) (c : Cursor) → Short (level_told p s c).said
unfolding level_told
level_short p s c = by (eqb (state_level s) p.last)
  where
    by : (t : Bool) → Short (pick t (go on (player_of 2 0 p.time p.last s c)) (go (says (Level p.time (state_level s))) (player_of 2 0 p.time (state_level s) s c))).said
    by true = tt
    by false = level_size p.time (state_level s) (omega (arith, level_most s))

acted_short : (p : Player) (a : Act) (c : Cursor) → Short (acted p a c).said
unfolding acted
acted_short p (line.Wait n) c = tt
acted_short p (line.Access (bus.Write r v)) c = level_short p _ c
acted_short p (line.Access bus.Read) c = read_size p.time _

step_short : (p : Player) (x : Said Act) (c : Cursor) → Short (step_said p x c).said
unfolding step_said
step_short p over c = stop_size p.time
step_short p on c = tt
step_short p (says a) c = acted_short p a c
step_short p (refused k q) c = tt

pub cursor_short : (log : List ℕ) (p : Player) → Short (cursor_turn log p).said
unfolding cursor_turn
cursor_short log p = step_short p (step_of log p.cursor).said (step_of log p.cursor).state

pub phase_short : (p : Player) → Short (phase_turn p).said
unfolding phase_turn
phase_short p = by (eqb p.phase 0) (eqb p.phase 1)
  where
    by : (t u : Bool) → Short (pick t (go (says Play) (player_of 1 p.wait p.time p.last p.state p.cursor)) (pick u
        (go (says (Level p.time (state_level p.state))) (player_of 2 p.wait p.time (state_level p.state) p.state p.cursor)) (go over p))).said
    by true u = play_size
    by false true = level_size p.time (state_level p.state) (omega (arith, level_most p.state))
    by false false = tt
