-- The changes of a wait, change by change. Assumes nothing.
use Prim.Native.Nat.{ℕ, zero, suc, ◌+◌, ◌-◌, ◌≤◌, ◌<◌}
use mathlib.Core.Path.{◌≡◌, refl, ap, sym, ◌∙◌}
use mathlib.Core.Bool.{Bool, true, false}
use mathlib.Core.List.{List, [], ◌++◌, append_assoc, append-nil}
use native.Mathlib.Nat.{add-zero, zero-add, suc-add}
use native.Mathlib.Omega.{arith}
use Rattle.arith.specs.Iterate.{iterate}
use Rattle.arith.specs.Pick.{pick}
use Rattle.arith.proofs.PickLaws.{both_left, both_right, pick_both}
use Rattle.chip.specs.Clock.{chip_clock}
use Rattle.chip.specs.declared.State.{State}
use Rattle.play_interrupts.specs.declared.Change.{Change}
use Rattle.play_interrupts.specs.declared.Flags.{Flags}
use Rattle.play_interrupts.specs.Changes.{flags_of, same, same_flags, changed, clocks_changes}
use Rattle.play_interrupts.specs.Stepping.{until_change}

same_self : (a : Bool) → same a a ≡ true
same_self true = refl
same_self false = refl

same_is : (a b : Bool) → same a b ≡ true → a ≡ b
same_is true true e = refl
same_is true false e = sym e
same_is false true e = e
same_is false false e = refl

abbrev made : Bool → Bool → Bool → Flags
made a b c = record { frame = a; dmc = b; line = c }

-- flags are the same exactly where they are alike
pub flags_self : (f : Flags) → same_flags f f ≡ true
unfolding same_flags
flags_self f = rw (same_self f.frame, same_self f.dmc, same_self f.line)

pub flags_is : (f g : Flags) → same_flags f g ≡ true → f ≡ g
unfolding same_flags
flags_is f g e =
    let r = both_right (same f.frame g.frame) _ e in
    let a = same_is f.frame g.frame (both_left (same f.frame g.frame) _ e) in
    let b = same_is f.dmc g.dmc (both_left (same f.dmc g.dmc) _ r) in
    let c = same_is f.line g.line (both_right (same f.dmc g.dmc) _ r) in
    ap (λ (x : Bool). made x f.dmc f.line) a ∙ (ap (λ (x : Bool). made g.frame x f.line) b ∙ ap (λ (x : Bool). made g.frame g.dmc x) c)

module _ (memory : List ℕ) where
  abbrev on : ℕ → State → State
  on = iterate (chip_clock memory)

  -- no change from a state to itself
  unchanged : (t : ℕ) (s : State) → [] ≡ changed t s s
  unfolding changed
  unchanged t s = rw (flags_self (flags_of s))

  -- a + b clocks are a, then b
  pub changes_add : (a b t : ℕ) (s : State) → clocks_changes memory (a + b) t s ≡ clocks_changes memory a t s ++ clocks_changes memory b (t + a) (on a s)
  unfolding clocks_changes iterate
  changes_add zero b t s = rw (zero-add, add-zero) refl
  changes_add (suc a) b t s =
      let s' = chip_clock memory s in
      let e : t + 1 + a ≡ t + suc a = omega arith in
      rw suc-add
      (rw (changes_add a b (t + 1) s', e)
      (sym (append_assoc (changed (t + 1) s s') (clocks_changes memory a (t + 1) s') (clocks_changes memory b (t + suc a) (on a s')))))

  -- by alike flags
  changed_none : (t : ℕ) (s next : State) → same_flags (flags_of s) (flags_of next) ≡ true → changed t s next ≡ []
  unfolding changed
  changed_none t s next e = rw e

  changed_alike : (t : ℕ) (s s' next : State) → flags_of s ≡ flags_of s' → changed t s next ≡ changed t s' next
  unfolding changed
  changed_alike t s s' next e = rw e

  -- a clock that changes nothing, in front of k that bring a change at the last
  quiet : (k t : ℕ) (s : State) → same_flags (flags_of s) (flags_of (chip_clock memory s)) ≡ true
      → clocks_changes memory k (t + 1) (chip_clock memory s) ≡ changed (t + 1 + k) (chip_clock memory s) (on k (chip_clock memory s))
      → clocks_changes memory (suc k) t s ≡ changed (t + suc k) s (on (suc k) s)
  unfolding clocks_changes iterate
  quiet k t s e h =
      let s' = chip_clock memory s in
      let i : t + 1 + k ≡ t + suc k = omega arith in
      ap (λ (l : List Change). l ++ clocks_changes memory k (t + 1) s') (changed_none (t + 1) s s' e)
      ∙ (h ∙ (ap (λ (j : ℕ). changed j s' (on k s')) i ∙ sym (changed_alike (t + suc k) s s' (on k s') (flags_is _ _ e))))

  one : (t : ℕ) (s : State) → clocks_changes memory 1 t s ≡ changed (t + 1) s (on 1 s)
  unfolding clocks_changes iterate
  one t s = append-nil (changed (t + 1) s (chip_clock memory s))

  -- UP TO THE FIRST CHANGE there is that one, or none
  pub until_changes : (n t : ℕ) (s : State)
      → clocks_changes memory (until_change memory n s) t s ≡ changed (t + until_change memory n s) s (on (until_change memory n s) s)
  unfolding until_change clocks_changes iterate
  until_changes zero t s = unchanged (t + 0) s
  until_changes (suc n) t s = by (same_flags (flags_of s) (flags_of (chip_clock memory s))) refl (until_changes n (t + 1) (chip_clock memory s))
    where
      by : (b : Bool) → same_flags (flags_of s) (flags_of (chip_clock memory s)) ≡ b
          → clocks_changes memory (until_change memory n (chip_clock memory s)) (t + 1) (chip_clock memory s)
          ≡ changed (t + 1 + until_change memory n (chip_clock memory s)) (chip_clock memory s)
          (on (until_change memory n (chip_clock memory s)) (chip_clock memory s))
          → clocks_changes memory (pick b (suc (until_change memory n (chip_clock memory s))) 1) t s
          ≡ changed (t + pick b (suc (until_change memory n (chip_clock memory s))) 1) s (on (pick b (suc (until_change memory n (chip_clock memory s))) 1) s)
      by true e h = quiet (until_change memory n (chip_clock memory s)) t s e h
      by false e h = one t s

  -- at most all of the clocks, and one at least
  pub until_most : (n : ℕ) (s : State) → until_change memory n s ≤ n
  unfolding until_change
  until_most zero s = omega arith
  until_most (suc n) s =
      pick_both (λ (k : ℕ). k ≤ suc n) (same_flags (flags_of s) (flags_of (chip_clock memory s))) (omega (arith, until_most n (chip_clock memory s))) (omega arith)

  pub until_some : (n : ℕ) (s : State) → 0 < until_change memory (suc n) s
  unfolding until_change
  until_some n s = pick_both (λ (k : ℕ). 0 < k) (same_flags (flags_of s) (flags_of (chip_clock memory s))) (omega arith) (omega arith)
