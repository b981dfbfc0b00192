-- A PLAYER AT THE BEGINNING OF A LOG THAT PASSES SAYS JUST THE LINES OF WHAT THE LOG SOUNDS LIKE. Assumes nothing.
use Prim.Native.Nat.{ℕ, ◌+◌, ◌-◌, ◌*◌, ◌≤◌, ◌<◌}
use mathlib.Core.Path.{◌≡◌, refl, ◌∙◌, subst}
use mathlib.Core.Bool.{Bool, true, false}
use mathlib.Core.List.{List, [], ◌∷◌, ◌++◌, map}
use native.Mathlib.Omega.{arith}
use lib.Dec.{eqb}
use borrow.Author.Tests.{eq-eqb, eqb-true}
use Rattle.arith.specs.Pick.{pick}
use Rattle.bus.specs.declared.Access.TheVariants as bus
use Rattle.log_line.specs.declared.Act.{Act}
use Rattle.log_line.specs.declared.Act.TheVariants as line
use Rattle.log_rules.specs.Tree.{acts, act_clocks}
use Rattle.recording.specs.Whole.{tree_of, check_of}
use Rattle.log_passing.proofs.ActLaws.{Every, every_acts, clocks_in, clocks_listed}
use Rattle.recording.proofs.Passing.{clear, tree_within}
use Rattle.reading.specs.Saying.{over, on, says, Gives, ends, goes, gives}
use Rattle.recording_cursor.specs.declared.Cursor.{Cursor}
use Rattle.recording_cursor.specs.Stepping.{beginning, step_of}
use Rattle.recording_cursor.proofs.Whole.{cursor_gives}
use Rattle.chip.specs.Level.{state_level}
use Rattle.chip.specs.Range.{power_on}
use Rattle.chip.specs.declared.State.{State}
use Rattle.chip_access.specs.Access.{access_state, access_byte}
use Rattle.chip_access.proofs.AccessLaws.{level_read}
use Rattle.play_text.specs.declared.Entry.{Entry}
use Rattle.play_text.specs.declared.Entry.TheVariants.{Play, Level, Read, Stop}
use Rattle.play_rules.specs.declared.Player.{Player}
use Rattle.play_rules.specs.Sound.{heard, waited, read_line, entries_from, entries_of}
use Rattle.play_rules.specs.Turns.{go, player_of, fresh_player, level_told, acted, step_said, cursor_turn, phase_turn, turn_of, Goes}
use Rattle.play_rules.specs.Portion.{entry_at}
use Rattle.play_rules.proofs.LevelLaws.{all, waited_all, last_all, done_all}
use Rattle.play_rules.proofs.TellLaws.{Tells, by_rest, by_tell, by_end, goes_tells}
use Rattle.play_rules.proofs.TurnLaws.{turn_cursor, turn_phase}
use Rattle.play_rules.proofs.WaitLaws.{waits}

heard_same : (t last : ℕ) (s : State) → state_level s ≡ last → heard t last s ≡ []
unfolding heard
heard_same t last s e = rw (eq-eqb (state_level s) last e)

-- ONE ACT

-- what an act is

acted_wait : (p : Player) (n : ℕ) (c : Cursor) → acted p (line.Wait n) c ≡ go on (player_of 2 n p.time p.last p.state c)
unfolding acted
acted_wait p n c = refl

acted_write : (p : Player) (r v : ℕ) (c : Cursor) → acted p (line.Access (bus.Write r v)) c ≡ level_told p (access_state (bus.Write r v) p.state) c
unfolding acted
acted_write p r v c = refl

acted_read : (p : Player) (c : Cursor)
    → acted p (line.Access bus.Read) c ≡ go (says (Read p.time (access_byte bus.Read p.state))) (player_of 2 0 p.time p.last (access_state bus.Read p.state) c)
unfolding acted
acted_read p c = refl

module _ (log memory : List ℕ) where
  abbrev pub Told : Player → List Entry → ℕ → Type 0
  Told p l k = Tells (turn_of log memory) p l k

  -- TURNS AT THE LOG'S LINES

  -- the player's turns at the log's lines
  module _ (t last : ℕ) (s : State) (c : Cursor) where
    here_turn : turn_of log memory (player_of 2 0 t last s c) ≡ step_said (player_of 2 0 t last s c) (step_of log c).said (step_of log c).state
    unfolding cursor_turn
    here_turn = turn_cursor log memory (player_of 2 0 t last s c) refl refl

    turn_over : (step_of log c).said ≡ over → turn_of log memory (player_of 2 0 t last s c) ≡ go (says (Stop t)) (player_of 3 0 t last s (step_of log c).state)
    unfolding step_said
    turn_over e = here_turn ∙ rw e refl

    turn_on : (step_of log c).said ≡ on → turn_of log memory (player_of 2 0 t last s c) ≡ go on (player_of 2 0 t last s (step_of log c).state)
    unfolding step_said
    turn_on e = here_turn ∙ rw e refl

    turn_act : (a : Act) → (step_of log c).said ≡ says a → turn_of log memory (player_of 2 0 t last s c) ≡ acted (player_of 2 0 t last s c) a (step_of log c).state
    unfolding step_said
    turn_act a e = here_turn ∙ rw e refl

  turn_end : (t last : ℕ) (s : State) (c : Cursor) → turn_of log memory (player_of 3 0 t last s c) ≡ go over (player_of 3 0 t last s c)
  unfolding phase_turn
  turn_end t last s c = turn_phase log memory (player_of 3 0 t last s c) (λ e. absurd (let z : ◌≡◌ {A = ℕ} 3 2 = e in omega arith))

  -- a wait
  wait_told : (n t : ℕ) (s : State) (c : Cursor) (l : List Act) (k : ℕ) → 1 ≤ n → n ≤ 1000000 → t + n ≤ 2000000000 → k + 1 < 4000010
      → ((s' : State) → Told (player_of 2 0 (t + n) (state_level s') s' c) (entries_from memory (t + n) (state_level s') s' l) k)
      → Told (player_of 2 n t (state_level s) s c) (waited memory n t (state_level s) s (λ t last s. entries_from memory t last s l)) (k + 1)
  wait_told n t s c l k z a b m rest =
      let w = waits log memory n n t (state_level s) s c z a b in
      let d = done_all memory n t s in
      let q : n - (all memory n t s).done ≡ 0 = omega arith in
      let g : Goes (turn_of log memory) (player_of 2 n t (state_level s) s c) (map (entry_at t) (all memory n t s).marks) w.turns
      (player_of 2 0 (t + n) (state_level (all memory n t s).state) (all memory n t s).state c) = rw (q, d, last_all memory n t s) at w.goes in
      rw (waited_all memory n t s (λ t last s. entries_from memory t last s l))
      (goes_tells (turn_of log memory) g 1 w.few (rest (all memory n t s).state) m)

  -- an access that led to the state s
  access_told : (p : Player) (t last : ℕ) (s : State) (c : Cursor) (entries : List Entry) (k m : ℕ)
      → turn_of log memory p ≡ level_told (player_of 2 0 t last p.state p.cursor) s c → Told (player_of 2 0 t (state_level s) s c) entries k → k < 4000010 → k < m
      → Told p (heard t last s ++ entries) m
  unfolding level_told heard
  access_told p t last s c entries k m turn told low less = by (eqb (state_level s) last) refl turn
    where
      by : (z : Bool) → eqb (state_level s) last ≡ z
          → turn_of log memory p ≡ pick z (go on (player_of 2 0 t last s c)) (go (says (Level t (state_level s))) (player_of 2 0 t (state_level s) s c))
          → Told p (pick z [] (Level t (state_level s) ∷ []) ++ entries) m
      by true e u = by_rest (turn_of log memory) m u (subst (λ (x : ℕ). Told (player_of 2 0 t x s c) entries k) (eqb-true (state_level s) last e) told) less
      by false e u = by_tell (turn_of log memory) m u told low

  -- ALL ACTS

  -- the acts that a cursor stands for: at most two turns that say nothing for each of its steps
  acts_told : {c : Cursor} {l : List Act} {f : ℕ} → Gives (step_of log) c l f → f ≤ 2000002 → (t : ℕ) (s : State) → Every l → t + clocks_in l ≤ 2000000000
      → Told (player_of 2 0 t (state_level s) s c) (entries_from memory t (state_level s) s l) (2 * f)
  unfolding entries_from read_line clocks_in act_clocks
  acts_told {c = c} (ends f e p) h t s w b =
      by_tell (turn_of log memory) (2 * f) (turn_over t (state_level s) s c e) (by_end (turn_of log memory) 0 (turn_end t (state_level s) s (step_of log c).state)) (omega arith)
  acts_told {c = c} (goes {k = k} f e g p) h t s w b =
      by_rest (turn_of log memory) (2 * f) (turn_on t (state_level s) s c e) (acts_told g (omega arith) t s w b) (omega arith)
  acts_told {c = c} (gives {a = line.Wait n} {l = l} {k = k} f e g p) h t s w b =
      by_rest (turn_of log memory) (2 * f) (turn_act t (state_level s) s c (line.Wait n) e ∙ acted_wait (player_of 2 0 t (state_level s) s c) n (step_of log c).state)
      (wait_told n t s (step_of log c).state l (2 * k) w.0.0 w.0.1 (omega arith) (omega arith) (λ s'. acts_told g (omega arith) (t + n) s' w.1 (omega arith)))
      (omega arith)
  acts_told {c = c} (gives {a = line.Access (bus.Write r v)} {l = l} {k = k} f e g p) h t s w b =
      let s' : State = access_state (bus.Write r v) s in
      access_told (player_of 2 0 t (state_level s) s c) t (state_level s) s' (step_of log c).state (entries_from memory t (state_level s') s' l) (2 * k) (2 * f)
      (turn_act t (state_level s) s c (line.Access (bus.Write r v)) e ∙ acted_write (player_of 2 0 t (state_level s) s c) r v (step_of log c).state)
      (acts_told g (omega arith) t s' w.1 (omega arith)) (omega arith) (omega arith)
  acts_told {c = c} (gives {a = line.Access bus.Read} {l = l} {k = k} f e g p) h t s w b =
      let s' : State = access_state bus.Read s in
      let told : Told (player_of 2 0 t (state_level s) s' (step_of log c).state) (heard t (state_level s) s' ++ entries_from memory t (state_level s') s' l) (2 * k) =
      rw (heard_same t (state_level s) s' (level_read s))
      (subst (λ (x : ℕ). Told (player_of 2 0 t x s' (step_of log c).state) (entries_from memory t (state_level s') s' l) (2 * k)) (level_read s)
      (acts_told g (omega arith) t s' w.1 (omega arith))) in
      by_tell (turn_of log memory) (2 * f) (turn_act t (state_level s) s c (line.Access bus.Read) e ∙ acted_read (player_of 2 0 t (state_level s) s c) (step_of log c).state) told (omega arith)

  -- the first two lines
  turn_play : (pal : Bool) → turn_of log memory (fresh_player pal) ≡ go (says Play) (player_of 1 0 0 0 (power_on pal) beginning)
  unfolding fresh_player phase_turn
  turn_play pal = turn_phase log memory (fresh_player pal) (λ e. absurd (let z : ◌≡◌ {A = ℕ} 0 2 = e in omega arith))

  turn_level : (pal : Bool)
      → turn_of log memory (player_of 1 0 0 0 (power_on pal) beginning) ≡ go (says (Level 0 (state_level (power_on pal)))) (player_of 2 0 0 (state_level (power_on pal)) (power_on pal) beginning)
  unfolding phase_turn
  turn_level pal = turn_phase log memory (player_of 1 0 0 0 (power_on pal) beginning) (λ e. absurd (let z : ◌≡◌ {A = ℕ} 1 2 = e in omega arith))

  -- A PLAYER AT THE BEGINNING SAYS THE WHOLE OF IT, on either machine
  pub fresh_told : (check_of log).number ≡ 0 → (pal : Bool) → Told (fresh_player pal) (entries_of pal memory (acts (tree_of log))) 1
  unfolding entries_of
  fresh_told h pal =
      let few = (clear log h).in_clocks in
      let sum = clocks_listed (tree_of log) in
      by_tell (turn_of log memory) 1 (turn_play pal)
      (by_tell (turn_of log memory) 1 (turn_level pal) (acts_told (cursor_gives log h) (omega arith) 0 (power_on pal) (every_acts (tree_of log) 0 (tree_within log h)) (omega arith)) (omega arith))
      (omega arith)
