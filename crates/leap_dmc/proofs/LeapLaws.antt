-- The DMC's part in the leap: still, the closed form and the next change are clocks of the DMC. Assumes nothing.
use Prim.Native.Nat.{ℕ, ◌+◌, ◌-◌, ◌*◌, ◌/◌, ◌^◌, ◌≤◌, ◌<◌}
use mathlib.Core.Path.{◌≡◌, refl, sym, ap, ◌∙◌}
use mathlib.Core.Bool.{Bool, true, false}
use mathlib.Core.List.{List}
use native.Mathlib.Omega.{arith}
use borrow.Author.Tests.{lt-ltb}
use Rattle.arith.specs.Iterate.{iterate}
use Rattle.arith.specs.Pick.{pick}
use Rattle.arith.proofs.IterateLaws.{iterate_zero, iterate_more}
use Rattle.arith.proofs.PickLaws.{pick_each}
use Rattle.divider.specs.Divider.{drive, outputs, count_after}
use Rattle.leap_still.specs.Forever.{forever}
use Rattle.divider.proofs.DividerLaws.{drive_before, drive_closed, drive_brink}
use Rattle.chip_dmc.specs.Clock.{dmc_clock, dmc_output}
use Rattle.chip_dmc_output.specs.Output.{with_timer}
use Rattle.chip_dmc_reader.specs.Reader.{pending}
use Rattle.chip_dmc.specs.declared.Dmc.{Dmc}
use Rattle.chip_dmc.proofs.RangeLaws.{DmcRanged}
use Rattle.leap_dmc.specs.Leap.{output_still, dmc_still, with_output, with_tape, output_advanced, dmc_advanced, output_brink, dmc_brink, dmc_turned}
use Rattle.leap_dmc.proofs.CalmLaws.{Tape, tape_step, seen, own_tape, idle_clocks, count_clocks, silent_clocks, tape_times}

-- idle: silent, the buffer empty, nothing remaining
pub record DmcIdle (d : Dmc) : Type 0 where
  pub silence : d.output.silence ≡ true
  pub full : d.reader.full ≡ false
  pub remaining : d.reader.remaining ≡ 0

idle_rests : (d : Dmc) → DmcIdle d → pending d.reader ≡ false
unfolding pending
idle_rests d i = rw (i.full, i.remaining)

-- such a DMC is still for ever
pub idle_forever : (n : ℕ) (d : Dmc) → DmcIdle d → dmc_still n d ≡ forever
unfolding dmc_still output_still
idle_forever n d i = rw (idle_rests d i, i.silence, i.full)

-- the closed form of what the timer drives
seen_closed : (n g : ℕ) (d : Dmc) → 0 < n → {top : ℕ} → DmcRanged top d
    → seen d (iterate (drive n tape_step) g (own_tape d.output)) ≡ dmc_advanced n g d
unfolding dmc_advanced output_advanced
seen_closed n g d hn r =
    let tape : Tape = record { shift = d.output.shift; bits = d.output.bits } in
    ap (seen d) (drive_closed n tape_step hn g d.output.timer tape r.output.timer_from)
    ∙ ap (λ (t : Tape). seen d (record { count = count_after n d.output.timer g; part = t }))
    (tape_times (outputs n d.output.timer g) tape r.output.bits_from)

-- one bit is left
count_last : (b : ℕ) → 0 < b → count_after 8 b (b - 1) ≡ 1
unfolding count_after
count_last b h = rw (lt-ltb (b - 1) b (omega arith)) (omega arith)

module _ (memory : List ℕ) (n : ℕ) (hn : 0 < n) (d : Dmc) {top : ℕ} (r : DmcRanged top d) where
  -- THE LAW OF THE QUIET STATE, the DMC's share: idle, any number of clocks has the closed form, and the output stays
  pub idle_closed : DmcIdle d → (g : ℕ) → iterate (dmc_clock memory n) g d ≡ dmc_advanced n g d
  idle_closed i g = idle_clocks memory n d (idle_rests d i) i.silence i.full g ∙ seen_closed n g d hn r

  pub idle_still : DmcIdle d → (g : ℕ) → dmc_output (iterate (dmc_clock memory n) g d) ≡ dmc_output d
  unfolding dmc_output
  idle_still i g =
      ap (λ (x : Dmc). x.output.level) (idle_clocks memory n d (idle_rests d i) i.silence i.full g)

  -- within still only the tape moves
  calm : (g : ℕ) → g ≤ dmc_still n d
      → iterate (dmc_clock memory n) g d ≡ seen d (iterate (drive n tape_step) g (own_tape d.output))
  unfolding dmc_still output_still
  calm g =
      pick_each Calm (pending d.reader) (λ p h. none h)
      (λ p.
      pick_each Calm d.output.silence
      (λ s.
      pick_each Calm d.reader.full
      (λ f h. silent_clocks memory n d p hn s g r.output.timer_from (omega arith))
      (λ f h. idle_clocks memory n d p s f g))
      (λ s h. count_clocks memory n d p g (omega (arith, r.output.timer_from))))
    where
      Calm : ℕ → Type 0
      Calm m = g ≤ m → iterate (dmc_clock memory n) g d ≡ seen d (iterate (drive n tape_step) g (own_tape d.output))

      none : Calm 0
      none h =
          let z : g ≡ 0 = omega arith in
          rw z
          (iterate_zero (dmc_clock memory n) d ∙ ap (seen d) (sym (iterate_zero (drive n tape_step) (own_tape d.output))))

  -- THE LAW OF THE CLOSED FORM: within still g clocks are the advance by g, whatever the memory
  pub dmc_closed : (g : ℕ) → g ≤ dmc_still n d → iterate (dmc_clock memory n) g d ≡ dmc_advanced n g d
  dmc_closed g h = calm g h ∙ seen_closed n g d hn r

  -- THE LAW OF STILL
  pub dmc_still_lem : (g : ℕ) → g ≤ dmc_still n d → dmc_output (iterate (dmc_clock memory n) g d) ≡ dmc_output d
  unfolding dmc_output
  dmc_still_lem g h = ap (λ (x : Dmc). x.output.level) (calm g h)

  -- the clock before the next change
  brink_at : (g : ℕ) → g ≡ dmc_still n d → g < forever
      → seen d (iterate (drive n tape_step) g (own_tape d.output)) ≡ dmc_brink d
  unfolding dmc_still output_still dmc_brink output_brink
  brink_at g e m = go (pending d.reader) d.output.silence d.reader.full e
    where
      tape : Tape
      tape = record { shift = d.output.shift; bits = d.output.bits }

      go : (p s f : Bool)
          → g ≡ pick p 0 (pick s (pick f (d.output.timer - 1 + (d.output.bits - 1) * n) forever) (d.output.timer - 1))
          → seen d (iterate (drive n tape_step) g (own_tape d.output))
          ≡ pick p d
          (with_output d
          (pick s (with_tape d.output 1 (d.output.shift / 2 ^ (d.output.bits - 1)) 1) (with_timer d.output 1)))
      go true s f z = rw z (ap (seen d) (iterate_zero (drive n tape_step) (own_tape d.output)))
      go false true true z =
          let one : count_after 8 d.output.bits (d.output.bits - 1) ≡ 1 =
          count_last d.output.bits r.output.bits_from
          in
          rw z
          (ap (seen d)
          (drive_brink n tape_step hn (d.output.bits - 1) d.output.timer tape r.output.timer_from
          ∙ ap (λ (t : Tape). record { count = 1; part = t })
          (tape_times (d.output.bits - 1) tape r.output.bits_from ∙ rw one)))
      go false true false z = absurd (let no : ⊥ = omega arith in no)
      go false false f z =
          let one : d.output.timer - (d.output.timer - 1) ≡ 1 = omega (arith, r.output.timer_from) in
          rw z
          (ap (seen d)
          (drive_before n tape_step (d.output.timer - 1) d.output.timer tape (omega (arith, r.output.timer_from))
          ∙ rw one))

  dmc_brink_lem : dmc_still n d < forever → iterate (dmc_clock memory n) (dmc_still n d) d ≡ dmc_brink d
  dmc_brink_lem m = calm (dmc_still n d) (omega arith) ∙ brink_at (dmc_still n d) refl m

  -- THE NEXT CHANGE
  pub dmc_turned_lem : dmc_still n d < forever → iterate (dmc_clock memory n) (dmc_still n d + 1) d ≡ dmc_turned memory n d
  unfolding dmc_turned
  dmc_turned_lem m = iterate_more (dmc_clock memory n) (dmc_still n d) d ∙ ap (dmc_clock memory n) (dmc_brink_lem m)
