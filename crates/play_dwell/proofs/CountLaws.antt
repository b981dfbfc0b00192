-- The counts of a wait's clocks and of a log's acts. Assumes nothing.
use Prim.Native.Nat.{ℕ, zero, suc, ◌+◌, ◌≤◌, zero-le}
use mathlib.Core.Path.{◌≡◌, refl, sym, ap, ◌∙◌}
use mathlib.Core.Bool.{true}
use mathlib.Core.List.{List, [], ◌∷◌}
use native.Mathlib.Nat.{add-zero, zero-add, suc-add}
use native.Mathlib.Omega.{arith}
use lib.ListN.{length, get_or}
use Rattle.arith.specs.Iterate.{iterate}
use Rattle.arith.proofs.IterateLaws.{iterate_keeps}
use Rattle.reading.specs.Counting.{raise, sum}
use Rattle.reading.proofs.CountingLaws.{raise_length, tallied, sum_tallied}
use Rattle.bus.specs.declared.Access as busAccess
use Rattle.bus.specs.declared.Access.TheVariants as bus
use Rattle.log_line.specs.declared.Act.{Act}
use Rattle.log_line.specs.declared.Act.TheVariants.{Wait, Access}
use Rattle.log_line.specs.Printed.{Allowed}
use Rattle.log_rules.specs.Tree.{act_clocks}
use Rattle.log_passing.proofs.ActLaws.{Every, clocks_in}
use Rattle.chip.specs.Clock.{chip_clock}
use Rattle.chip.specs.Range.{in_range, Bytes}
use Rattle.chip.specs.declared.State.{State}
use Rattle.chip.proofs.RangeLaws.{StateRanged, state_in_lem, state_back, clock_kept}
use Rattle.chip_access.specs.Access.{access_state}
use Rattle.chip_access.proofs.AccessLaws.{Bytewide, access_kept}
use Rattle.run_dwell.specs.Dwell.{dwell_place}
use Rattle.run_dwell.specs.Kept.{dwell_places}
use Rattle.run_dwell.proofs.DwellLaws.{place_in}
use Rattle.play_dwell.specs.Dwelling.{dwelling, dwell_from}

-- a count is no more than the sum
pub count_most : (cs : List ℕ) (i : ℕ) → get_or cs i 0 ≤ sum cs
unfolding sum
count_most [] i = zero-le
count_most (c ∷ cs) zero = omega arith
count_most (c ∷ cs) (suc i) = let h = count_most cs i in omega arith

module _ (memory : List ℕ) where
  -- a clock more
  dwelling_more : (n : ℕ) (s : State) (cs : List ℕ)
      → dwelling memory (suc n) s cs ≡ raise (dwell_place (iterate (chip_clock memory) (suc n) s)) 1 (dwelling memory n s cs)
  unfolding dwelling iterate
  dwelling_more zero s cs = refl
  dwelling_more (suc n) s cs = dwelling_more n (chip_clock memory s) (raise (dwell_place (chip_clock memory s)) 1 cs)

  -- the counts by the places one after the other
  pub dwelling_tallied : (n : ℕ) (s : State) (cs : List ℕ) → dwelling memory n s cs ≡ tallied (dwell_places memory s) n cs
  unfolding tallied dwelling
  dwelling_tallied zero s cs = refl
  dwelling_tallied (suc n) s cs =
      dwelling_more n s cs ∙ ap (raise (dwell_place (iterate (chip_clock memory) (suc n) s)) 1) (dwelling_tallied n s cs)

  -- a + b clocks are a, then b
  pub dwelling_add : (a b : ℕ) (s : State) (cs : List ℕ)
      → dwelling memory (a + b) s cs ≡ dwelling memory b (iterate (chip_clock memory) a s) (dwelling memory a s cs)
  unfolding dwelling iterate
  dwelling_add zero b s cs = rw zero-add refl
  dwelling_add (suc a) b s cs = rw suc-add (dwelling_add a b (chip_clock memory s) (raise (dwell_place (chip_clock memory s)) 1 cs))

  pub dwelling_length : (n : ℕ) (s : State) (cs : List ℕ) → length (dwelling memory n s cs) ≡ length cs
  unfolding dwelling
  dwelling_length zero s cs = refl
  dwelling_length (suc n) s cs =
      let p = dwell_place (chip_clock memory s) in
      dwelling_length n (chip_clock memory s) (raise p 1 cs) ∙ raise_length p 1 cs

  -- the counts keep their number
  pub from_length : (l : List Act) (s : State) (cs : List ℕ) → length (dwell_from memory l s cs) ≡ length cs
  unfolding dwell_from
  from_length [] s cs = refl
  from_length (Wait n ∷ l) s cs = from_length l (iterate (chip_clock memory) n s) (dwelling memory n s cs) ∙ dwelling_length n s cs
  from_length (Access x ∷ l) s cs = from_length l (access_state x s) cs

  module _ (bytes : Bytes memory) where
    -- THE SUM GROWS BY THE CLOCKS
    pub dwelling_sum : (n : ℕ) (s : State) (cs : List ℕ) → in_range s ≡ true → length cs ≡ 128 → sum (dwelling memory n s cs) ≡ sum cs + n
    dwelling_sum n s cs fine size =
        let low = place_in memory bytes s (state_in_lem s fine) in
        ap sum (dwelling_tallied n s cs) ∙ sum_tallied (dwell_places memory s) n cs (λ j. omega (arith, low j))

    clocks_ranged : (n : ℕ) (s : State) → in_range s ≡ true → in_range (iterate (chip_clock memory) n s) ≡ true
    clocks_ranged n s h = state_back _ (iterate_keeps StateRanged (chip_clock memory) (clock_kept memory bytes) n s (state_in_lem s h))

    -- a value that a log writes is a byte
    bytewide : (x : busAccess.Access) → Allowed (Access x) → Bytewide x
    bytewide (bus.Write r v) w = w.1
    bytewide bus.Read w = tt

    pub from_sum : (l : List Act) (s : State) (cs : List ℕ) → Every l → in_range s ≡ true → length cs ≡ 128 → sum (dwell_from memory l s cs) ≡ sum cs + clocks_in l
    unfolding dwell_from clocks_in act_clocks
    from_sum [] s cs w h size = sym (add-zero (sum cs))
    from_sum (Wait n ∷ l) s cs w h size =
        let one = dwelling_sum n s cs h size in
        from_sum l (iterate (chip_clock memory) n s) (dwelling memory n s cs) w.1 (clocks_ranged n s h) (dwelling_length n s cs ∙ size) ∙ omega arith
    from_sum (Access x ∷ l) s cs w h size =
        from_sum l (access_state x s) cs w.1 (access_kept x s (bytewide x w.0) h) size ∙ omega arith
