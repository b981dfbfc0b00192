-- The DMC while it only counts: what its timer drives is then a divider's. Assumes nothing.
use Prim.Native.Nat.{ℕ, zero, suc, ◌+◌, ◌-◌, ◌*◌, ◌/◌, ◌^◌, ◌≤◌, ◌<◌}
use mathlib.Core.Path.{◌≡◌, refl, sym, ap, ◌∙◌}
use mathlib.Core.Bool.{Bool, true, false, not}
use mathlib.Core.List.{List}
use native.Mathlib.Nat.{zero-mul, suc-mul, div-div-eq-div-mul, pow-succ', pow-zero, div-one}
use native.Mathlib.Omega.{arith}
use lib.Dec.{leb}
use borrow.Author.Tests.{lt-leb, le-leb, leb-true, leb-false}
use Rattle.arith.specs.Iterate.{iterate}
use Rattle.arith.specs.Pick.{pick, both}
use Rattle.arith.proofs.IterateLaws.{iterate_along, iterate_along_while}
use Rattle.divider.specs.Divider.{due, tick, Driven, drive, count_after}
use Rattle.divider.proofs.DividerLaws.{drive_closed}
use Rattle.chip_dmc.specs.Clock.{dmc_timed, dmc_read, dmc_clock}
use Rattle.chip_dmc_output.specs.Output.{output_step, output_clock, takes}
use Rattle.chip_dmc_reader.specs.Reader.{emptied, pending, reader_clock}
use Rattle.chip_dmc_reader.specs.declared.Registers.{Registers}
use Rattle.chip_dmc_output.specs.declared.Output.{Output}
use Rattle.chip_dmc_reader.specs.declared.Reader.{Reader}
use Rattle.chip_dmc.specs.declared.Dmc.{Dmc}
use Rattle.leap_dmc.specs.Leap.{with_output, with_tape}

-- THE TAPE THAT THE TIMER DRIVES

-- what the timer drives while nothing is taken from the buffer: the shift byte and the bits
pub record Tape : Type 0 where
  pub shift : ℕ
  pub bits : ℕ

abbrev pub tape_step : Tape → Tape
tape_step t = record { shift = t.shift / 2; bits = tick 8 t.bits }

-- the DMC with another count and tape
abbrev pub seen : Dmc → Driven Tape → Dmc
seen d e = with_output d (with_tape d.output e.count e.part.shift e.part.bits)

-- its own
abbrev pub own_tape : Output → Driven Tape
own_tape o = record { count = o.timer; part = record { shift = o.shift; bits = o.bits } }

-- WHAT RESTS

-- a reader with no fetch to make rests
reader_rests : (memory : List ℕ) (s : Registers) (r : Reader) → pending r ≡ false → reader_clock memory s r ≡ r
unfolding reader_clock
reader_rests memory s r p = rw p

-- an empty buffer stays so
emptied_none : (t : Bool) (r : Reader) → r.full ≡ false → emptied t r ≡ r
unfolding emptied
emptied_none t r e =
    ap (λ (b : Bool).
    record {
      address = r.address;
      remaining = r.remaining;
      buffer = r.buffer;
      full = b;
      interrupt = r.interrupt;
    })
    (go t r.full e)
  where
    go : (t f : Bool) → f ≡ false → both (not t) f ≡ f
    go true f e = sym e
    go false f e = refl

-- THE CLOCKS BEFORE THE EIGHT BITS END
some : (k n : ℕ) → 0 < k * n → 0 < k
some zero n h = let z : 0 * n ≡ 0 = zero-mul n in omega arith
some (suc k) n h = omega arith

fewer : (k n : ℕ) → 0 < k → k * n ≡ (k - 1) * n + n
fewer zero n h = absurd (let no : ⊥ = omega arith in no)
fewer (suc k) n h = suc-mul k n ∙ ap (λ (j : ℕ). j * n + n) (omega arith)

-- m clocks are left before the one that ends the eight bits
abbrev Left : ℕ → ℕ → Driven Tape → Type 0
Left n m e = (0 < e.count) × (m ≤ e.count - 1 + (e.part.bits - 1) * n)

left_more : (n m : ℕ) (e : Driven Tape) → Left n (suc m) e → e.count ≤ 1 → 1 < e.part.bits
left_more n m e q h =
    let k : 0 < e.part.bits - 1 = some (e.part.bits - 1) n (omega (arith, q.1)) in omega arith

left_next : (n : ℕ) → 0 < n → (m : ℕ) (e : Driven Tape) → Left n (suc m) e → Left n m (drive n tape_step e)
unfolding drive
left_next n hn m e q = go (leb e.count 1) refl
  where
    go : (t : Bool) → leb e.count 1 ≡ t
        → Left n m
        (pick t (record { count = n; part = tape_step e.part }) (record { count = e.count - 1; part = e.part }))
    go true t =
        let b : 1 < e.part.bits = left_more n m e q (leb-true _ _ t) in
        let f : (e.part.bits - 1) * n ≡ (e.part.bits - 1 - 1) * n + n = fewer (e.part.bits - 1) n (omega arith) in
        rw (lt-leb e.part.bits 1 b) (hn, omega (arith, q.1, leb-true e.count 1 t))
    go false t = let b : 1 < e.count = leb-false _ _ t in (omega arith, omega (arith, q.1))

-- ONE CLOCK, AND ANY NUMBER OF CLOCKS
module _ (memory : List ℕ) (n : ℕ) (d : Dmc) (p : pending d.reader ≡ false) where
  -- no timer output: the count falls
  calm_counts : (e : Driven Tape) → 1 < e.count → dmc_clock memory n (seen d e) ≡ seen d (drive n tape_step e)
  unfolding dmc_clock dmc_read dmc_timed output_clock emptied drive
  calm_counts e h = rw (lt-leb e.count 1 h, reader_rests memory d.registers d.reader p)

  -- a timer output, silent, not the last of the eight bits
  calm_shifts : (e : Driven Tape) → e.count ≤ 1 → d.output.silence ≡ true → 1 < e.part.bits
      → dmc_clock memory n (seen d e) ≡ seen d (drive n tape_step e)
  unfolding dmc_clock dmc_read dmc_timed output_clock output_step emptied drive
  calm_shifts e h s b =
      rw (le-leb e.count 1 h, lt-leb e.part.bits 1 b, s, reader_rests memory d.registers d.reader p)

  -- the last of the eight bits, silent, and the buffer is empty
  calm_ends : (e : Driven Tape) → e.count ≤ 1 → d.output.silence ≡ true → e.part.bits ≤ 1 → d.reader.full ≡ false
      → dmc_clock memory n (seen d e) ≡ seen d (drive n tape_step e)
  unfolding dmc_clock dmc_read dmc_timed output_clock output_step drive
  calm_ends e h s b f =
      rw (
        emptied_none (takes (seen d e).output) d.reader f,
        reader_rests memory d.registers d.reader p,
        le-leb e.count 1 h,
        le-leb e.part.bits 1 b,
        s,
        f,
      )

  -- silent, and the buffer is empty: any clock
  calm_idles : (e : Driven Tape) → d.output.silence ≡ true → d.reader.full ≡ false
      → dmc_clock memory n (seen d e) ≡ seen d (drive n tape_step e)
  calm_idles e s f = go (leb e.count 1) refl (leb e.part.bits 1) refl
    where
      go : (t : Bool) → leb e.count 1 ≡ t → (u : Bool) → leb e.part.bits 1 ≡ u
          → dmc_clock memory n (seen d e) ≡ seen d (drive n tape_step e)
      go false h u b = calm_counts e (leb-false _ _ h)
      go true h true b = calm_ends e (leb-true _ _ h) s (leb-true _ _ b) f
      go true h false b = calm_shifts e (leb-true _ _ h) s (leb-false _ _ b)

  -- silent, the buffer empty, no fetch to make: any number of clocks
  pub idle_clocks : d.output.silence ≡ true → d.reader.full ≡ false → (g : ℕ)
      → iterate (dmc_clock memory n) g d ≡ seen d (iterate (drive n tape_step) g (own_tape d.output))
  idle_clocks s f g =
      iterate_along (dmc_clock memory n) (drive n tape_step) (seen d) (λ e. calm_idles e s f) g (own_tape d.output)

  -- fewer clocks than its timer's count, whatever it does
  pub count_clocks : (g : ℕ) → g < d.output.timer
      → iterate (dmc_clock memory n) g d ≡ seen d (iterate (drive n tape_step) g (own_tape d.output))
  unfolding drive
  count_clocks g h =
      iterate_along_while (dmc_clock memory n) (drive n tape_step) (seen d) (λ m e. m < e.count)
      (λ m e q. calm_counts e (omega arith)) next g (own_tape d.output) h
    where
      next : (m : ℕ) (e : Driven Tape) → suc m < e.count → m < (drive n tape_step e).count
      next m e q = rw (lt-leb e.count 1 (omega arith)) (omega arith)

  -- silent: the clocks before the one that ends its eight bits
  pub silent_clocks : 0 < n → d.output.silence ≡ true → (g : ℕ) → 0 < d.output.timer
      → g ≤ d.output.timer - 1 + (d.output.bits - 1) * n
      → iterate (dmc_clock memory n) g d ≡ seen d (iterate (drive n tape_step) g (own_tape d.output))
  silent_clocks hn s g c h =
      iterate_along_while (dmc_clock memory n) (drive n tape_step) (seen d) (Left n)
      (λ m e q. goes m e q (leb e.count 1) refl) (left_next n hn) g (own_tape d.output) (c, h)
    where
      goes : (m : ℕ) (e : Driven Tape) → Left n (suc m) e → (t : Bool) → leb e.count 1 ≡ t
          → dmc_clock memory n (seen d e) ≡ seen d (drive n tape_step e)
      goes m e q true t = calm_shifts e (leb-true _ _ t) s (left_more n m e q (leb-true _ _ t))
      goes m e q false t = calm_counts e (leb-false _ _ t)

-- THE TAPE IN CLOSED FORM

-- k outputs on, the tape: the byte halved k times, the bits a divider of period 8
tape_shift : (k : ℕ) (t : Tape) → (iterate tape_step k t).shift ≡ t.shift / 2 ^ k
unfolding iterate
tape_shift zero t = rw (pow-zero 2, div-one t.shift)
tape_shift (suc k) t =
    tape_shift k (tape_step t)
    ∙ div-div-eq-div-mul t.shift 2 (2 ^ k)
    ∙ ap (λ (m : ℕ). t.shift / m) (sym (pow-succ' 2 k))

abbrev bits_of : Tape → Driven ℕ
bits_of t = record { count = t.bits; part = 0 }

bits_driven : (t : Tape) → drive 8 (λ (x : ℕ). x) (bits_of t) ≡ bits_of (tape_step t)
unfolding drive
bits_driven t = go (due t.bits)
  where
    go : (u : Bool)
        → ◌≡◌ {A = Driven ℕ} (pick u (record { count = 8; part = 0 }) (record { count = t.bits - 1; part = 0 }))
        (record { count = pick u 8 (t.bits - 1); part = 0 })
    go true = refl
    go false = refl

tape_bits : (k : ℕ) (t : Tape) → 0 < t.bits → (iterate tape_step k t).bits ≡ count_after 8 t.bits k
tape_bits k t h =
    ap (λ (x : Driven ℕ). x.count)
    (sym (iterate_along (drive 8 (λ (x : ℕ). x)) tape_step bits_of bits_driven k t)
    ∙ drive_closed 8 (λ (x : ℕ). x) (omega arith) k t.bits 0 h)

pub tape_times : (k : ℕ) (t : Tape) → 0 < t.bits
    → iterate tape_step k t ≡ record { shift = t.shift / 2 ^ k; bits = count_after 8 t.bits k }
tape_times k t h =
    ap (λ (m : ℕ). record { shift = m; bits = (iterate tape_step k t).bits }) (tape_shift k t)
    ∙ ap (λ (m : ℕ). record { shift = t.shift / 2 ^ k; bits = m }) (tape_bits k t h)
