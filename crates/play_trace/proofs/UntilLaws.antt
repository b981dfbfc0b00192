-- The clocks up to a change of what is seen, one after the other. Assumes nothing.
use Prim.Native.Nat.{ℕ, suc, ◌+◌, ◌-◌, ◌≤◌, ◌<◌}
use mathlib.Core.Path.{◌≡◌, refl, sym, ap, ◌∙◌}
use mathlib.Core.Bool.{true, false}
use mathlib.Core.List.{List}
use native.Mathlib.Omega.{arith}
use Rattle.arith.specs.Iterate.{iterate}
use Rattle.arith.proofs.IterateLaws.{iterate_zero, iterate_more}
use Rattle.chip.specs.Clock.{chip_clock}
use Rattle.chip.specs.declared.State.{State}
use Rattle.chip_seen.specs.Seen.{seen_of, same_seen}
use Rattle.play_trace.specs.Stepping.{until_seen}
use Rattle.play_trace.proofs.SeenLaws.{seen_is}

-- k of n clocks from s are done, after none of which anything seen differs
pub record Along (memory : List ℕ) (n : ℕ) (s : State) (k : ℕ) (here : State) : Type 0 where
  pub most : k ≤ n
  pub went : here ≡ iterate (chip_clock memory) k s
  pub same : seen_of here ≡ seen_of s
  pub rest : until_seen memory n s ≡ k + until_seen memory (n - k) here

-- so many clocks are up to the change, or all
pub record Found (memory : List ℕ) (n : ℕ) (s : State) (k : ℕ) (here : State) : Type 0 where
  pub clocks : k ≡ until_seen memory n s
  pub state : here ≡ iterate (chip_clock memory) k s

module _ (memory : List ℕ) where
  until_none : (s : State) → until_seen memory 0 s ≡ 0
  unfolding until_seen
  until_none s = refl

  until_same : (m : ℕ) (s : State) → same_seen (seen_of s) (seen_of (chip_clock memory s)) ≡ true
      → until_seen memory (suc m) s ≡ suc (until_seen memory m (chip_clock memory s))
  unfolding until_seen
  until_same m s e = rw e

  until_other : (m : ℕ) (s : State) → same_seen (seen_of s) (seen_of (chip_clock memory s)) ≡ false → until_seen memory (suc m) s ≡ 1
  unfolding until_seen
  until_other m s e = rw e

  module _ (n : ℕ) (s : State) where
    pub along_start : Along memory n s 0 s
    along_start =
        let z : n ≡ n - 0 = omega arith in
        let e = ap (λ (i : ℕ). until_seen memory i s) z in
        record { most = omega arith; went = sym (iterate_zero (chip_clock memory) s); same = refl; rest = omega (arith, e) }

    module _ (k : ℕ) (here next : State) (a : Along memory n s k here) where
      pub along_end : n ≤ k → Found memory n s k here
      along_end h =
          let z : n - k ≡ 0 = omega (arith, a.most) in
          let e = ap (λ (i : ℕ). until_seen memory i here) z ∙ until_none here in
          record { clocks = omega (arith, e, a.rest); state = a.went }

      module _ (low : k < n) (f : next ≡ chip_clock memory here) where
        went_on : next ≡ iterate (chip_clock memory) (k + 1) s
        went_on = f ∙ (ap (chip_clock memory) a.went ∙ sym (iterate_more (chip_clock memory) k s))

        less : until_seen memory (n - k) here ≡ until_seen memory (suc (n - (k + 1))) here
        less = let z : n - k ≡ suc (n - (k + 1)) = omega arith in ap (λ (i : ℕ). until_seen memory i here) z

        pub along_on : same_seen (seen_of s) (seen_of next) ≡ true → Along memory n s (k + 1) next
        along_on e =
            let e' : same_seen (seen_of here) (seen_of (chip_clock memory here)) ≡ true = rw (a.same, ← f) e in
            let g = less ∙ until_same (n - (k + 1)) here e' in
            let h = ap (until_seen memory (n - (k + 1))) f in
            record { most = omega arith; went = went_on; same = sym (seen_is (seen_of s) (seen_of next) e); rest = omega (arith, a.rest, g, h) }

        pub along_found : same_seen (seen_of s) (seen_of next) ≡ false → Found memory n s (k + 1) next
        along_found e =
            let e' : same_seen (seen_of here) (seen_of (chip_clock memory here)) ≡ false = rw (a.same, ← f) e in
            let g = less ∙ until_other (n - (k + 1)) here e' in
            record { clocks = omega (arith, a.rest, g); state = went_on }
