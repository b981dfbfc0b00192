-- What is reached, held against the log's clocks and the player's lines. Assumes nothing.
use Prim.Native.Nat.{ℕ, zero, suc, ◌+◌, ◌-◌, ◌≤◌}
use mathlib.Core.Path.{◌≡◌, refl, sym, ap, ◌∙◌}
use mathlib.Core.Bool.{Bool, true, false}
use mathlib.Core.List.{List, [], ◌∷◌, ◌++◌, append_assoc}
use native.Mathlib.Nat.{add-zero, zero-add, suc-add, add_assoc}
use native.Mathlib.Omega.{arith}
use lib.Dec.{ltb}
use lib.ListN.{length}
use borrow.Author.Tests.{lt-ltb, le-ltb, ltb-true, ltb-false}
use Rattle.arith.specs.Iterate.{iterate}
use Rattle.arith.specs.Pick.{pick}
use Rattle.log_line.specs.declared.Act.{Act}
use Rattle.log_line.specs.declared.Act.TheVariants.{Wait, Access}
use Rattle.recording.specs.Whole.{machine_of}
use Rattle.log_rules.specs.Tree.{acts, act_clocks, clocks}
use Rattle.recording.specs.Whole.{tree_of, check_of}
use Rattle.log_passing.proofs.ActLaws.{clocks_in, clocks_listed}
use Rattle.chip.specs.Clock.{chip_clock}
use Rattle.chip.specs.Level.{state_level}
use Rattle.chip.specs.Range.{power_on}
use Rattle.chip.specs.declared.State.{State}
use Rattle.chip_access.specs.Access.{access_state}
use Rattle.play_text.specs.declared.Entry.{Entry}
use Rattle.play_text.specs.declared.Entry.TheVariants.{Play, Level}
use Rattle.play_rules.specs.Sound.{heard, waited, read_line, entries_from, entries_of}
use Rattle.play_at.specs.declared.At.{At}
use Rattle.play_at.specs.Reached.{at_of, reached, state_at}
use Rattle.play_at.proofs.WalkLaws.{at_is}

module _ (memory : List ℕ) (c : ℕ) where
  -- the clock that is reached: c, or the end of the acts where that comes before
  reached_clock : (l : List Act) (t : ℕ) (s : State) → t ≤ c → (reached memory c l t s).clock ≡ pick (ltb c (t + clocks_in l)) c (t + clocks_in l)
  unfolding reached clocks_in act_clocks
  reached_clock [] t s h = rw (add-zero, le-ltb c t h)
  reached_clock (Wait n ∷ l) t s h = by (ltb c (t + n)) refl (λ i. reached_clock l (t + n) (iterate (chip_clock memory) n s) i)
    where
      by : (b : Bool) → ltb c (t + n) ≡ b
          → (t + n ≤ c → (reached memory c l (t + n) (iterate (chip_clock memory) n s)).clock ≡ pick (ltb c (t + n + clocks_in l)) c (t + n + clocks_in l))
          → (pick b (at_of c (iterate (chip_clock memory) (c - t) s)) (reached memory c l (t + n) (iterate (chip_clock memory) n s))).clock
          ≡ pick (ltb c (t + (n + clocks_in l))) c (t + (n + clocks_in l))
      by true e ih = rw (lt-ltb c (t + (n + clocks_in l)) (let i = ltb-true c (t + n) e in omega arith))
      by false e ih = ih (ltb-false c (t + n) e) ∙ rw add_assoc refl
  reached_clock (Access x ∷ l) t s h = rw zero-add (reached_clock l t (access_state x s) h)

  -- a wait in two parts
  waited_cut : (a b t : ℕ) (s : State) (rest : ℕ → ℕ → State → List Entry)
      → waited memory (a + b) t (state_level s) s rest
      ≡ waited memory a t (state_level s) s (λ t last s. []) ++ waited memory b (t + a) (state_level (iterate (chip_clock memory) a s)) (iterate (chip_clock memory) a s) rest
  unfolding waited iterate
  waited_cut zero b t s rest = rw (zero-add, add-zero) refl
  waited_cut (suc a) b t s rest =
      let s' = chip_clock memory s in
      let front = heard (t + 1) (state_level s) s' in
      let one = waited memory a (t + 1) (state_level s') s' (λ t last s. []) in
      let far = iterate (chip_clock memory) a s' in
      let e : t + 1 + a ≡ t + suc a = omega arith in
      rw suc-add
      (ap (λ (x : List Entry). front ++ x) (waited_cut a b (t + 1) s' rest)
      ∙ (sym (append_assoc front one (waited memory b (t + 1 + a) (state_level far) far rest))
      ∙ ap (λ (k : ℕ). (front ++ one) ++ waited memory b k (state_level far) far rest) e))

  waited_whole : (n t : ℕ) (s : State) (rest : ℕ → ℕ → State → List Entry)
      → waited memory n t (state_level s) s rest
      ≡ waited memory n t (state_level s) s (λ t last s. []) ++ rest (t + n) (state_level (iterate (chip_clock memory) n s)) (iterate (chip_clock memory) n s)
  unfolding waited
  waited_whole n t s rest = let w = waited_cut n 0 t s rest in rw add-zero at w

  -- the acts behind the clock c, of those from time t on
  unfoldable pub behind : List Act → ℕ → List Act
  behind [] t = []
  behind (Wait n ∷ l) t = pick (ltb c (t + n)) (Wait (t + n - c) ∷ l) (behind l (t + n))
  behind (Access x ∷ l) t = behind l t

  -- the player's lines: some, and then what the state a sounds like from the clock of a on, with the acts `rest`
  pub record Passes (entries : List Entry) (a : At) (rest : List Act) : Type 0 where
    pub before : List Entry
    pub split : entries ≡ before ++ entries_from memory a.clock (state_level a.state) a.state rest

  more : (front : List Entry) {entries : List Entry} {a : At} {rest : List Act} → Passes entries a rest → Passes (front ++ entries) a rest
  more front p =
      record {
        before = front ++ p.before;
        split = ap (λ (x : List Entry). front ++ x) p.split ∙ sym (append_assoc front p.before _);
      }

  -- THE PLAYER PASSES THROUGH WHAT IS REACHED
  pub passes : (l : List Act) (t : ℕ) (s : State) → t ≤ c → Passes (entries_from memory t (state_level s) s l) (reached memory c l t s) (behind l t)
  unfolding reached behind entries_from
  passes [] t s h = record { before = []; split = refl }
  passes (Wait n ∷ l) t s h = by (ltb c (t + n)) refl (λ i. passes l (t + n) (iterate (chip_clock memory) n s) i)
    where
      on : ℕ → ℕ → State → List Entry
      on t last s = entries_from memory t last s l

      by : (b : Bool) → ltb c (t + n) ≡ b
          → (t + n ≤ c → Passes (on (t + n) (state_level (iterate (chip_clock memory) n s)) (iterate (chip_clock memory) n s)) (reached memory c l (t + n) (iterate (chip_clock memory) n s)) (behind l (t + n)))
          → Passes (waited memory n t (state_level s) s (λ t last s. entries_from memory t last s l))
          (pick b (at_of c (iterate (chip_clock memory) (c - t) s)) (reached memory c l (t + n) (iterate (chip_clock memory) n s)))
          (pick b (Wait (t + n - c) ∷ l) (behind l (t + n)))
      by true e ih =
          let i = ltb-true c (t + n) e in
          let parts : n ≡ c - t + (t + n - c) = omega arith in
          let now : t + (c - t) ≡ c = omega arith in
          record {
            before = waited memory (c - t) t (state_level s) s (λ t last s. []);
            split = ap (λ (k : ℕ). waited memory k t (state_level s) s on) parts ∙ (waited_cut (c - t) (t + n - c) t s on ∙ rw now refl);
          }
      by false e ih = rw (waited_whole n t s on) (more (waited memory n t (state_level s) s (λ t last s. [])) (ih (ltb-false c (t + n) e)))
  passes (Access x ∷ l) t s h = more (read_line x t s) (more (heard t (state_level s) (access_state x s)) (passes l t (access_state x s) h))

-- of a log that passes, with a sample memory of its length
module _ (log memory : List ℕ) (c : ℕ) (long : length memory ≡ 32768) (fine : (check_of log).number ≡ 0) where
  -- THE CLOCK REACHED: c, or the log's end where that comes before
  pub clock_is : (state_at log memory c).clock ≡ pick (ltb c (clocks (tree_of log))) c (clocks (tree_of log))
  clock_is =
      ap (λ (a : At). a.clock) (at_is log memory c long fine)
      ∙ (reached_clock memory c (acts (tree_of log)) 0 (power_on (machine_of log)) (omega arith)
      ∙ rw (zero-add, clocks_listed (tree_of log)) refl)

  -- THE PLAYER'S LINES behind what is reached are those of the state reached, at the clock reached, for the acts that are left
  pub player_passes : Passes memory c (entries_of (machine_of log) memory (acts (tree_of log))) (state_at log memory c) (behind memory c (acts (tree_of log)) 0)
  unfolding entries_of
  player_passes =
      rw (at_is log memory c long fine) (more memory c (Play ∷ Level 0 (state_level (power_on (machine_of log))) ∷ []) (passes memory c (acts (tree_of log)) 0 (power_on (machine_of log)) (omega arith)))
