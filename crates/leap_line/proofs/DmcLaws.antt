-- The DMC counts down to its flag, for any period. Assumes nothing.
use Prim.Native.Nat.{ℕ, zero, suc, ◌+◌, ◌-◌, ◌*◌, ◌<◌, ◌≤◌}
use mathlib.Core.Path.{◌≡◌, refl}
use mathlib.Core.Bool.{Bool, true, false, not}
use mathlib.Core.List.{List}
use native.Mathlib.Nat.{suc-mul, zero-mul}
use native.Mathlib.Omega.{arith}
use lib.Dec.{ltb, eqb}
use borrow.Author.Tests.{eq-eqb, ne_eqb, lt-ltb, lt-leb}
use Rattle.arith.specs.Pick.{pick, both}
use Rattle.divider.specs.Divider.{due, tick}
use Rattle.chip_dmc_output.specs.Output.{output_step, output_clock, takes}
use Rattle.chip_dmc_output.specs.declared.Output.{Output}
use Rattle.chip_dmc_reader.specs.Reader.{emptied, restarted, flagged, fetched, sample_ended, pending, reader_clock}
use Rattle.chip_dmc_reader.specs.declared.Reader.{Reader}
use Rattle.chip_dmc_reader.specs.declared.Registers.{Registers}
use Rattle.chip_dmc.specs.Clock.{dmc_timed, dmc_read, dmc_clock}
use Rattle.chip_dmc.specs.declared.Dmc.{Dmc}
use Rattle.leap_line.specs.Until.{takes_in, last_fetch, dmc_until}
use Rattle.leap_line.proofs.CountLaws.{Counts, arrives}
use Rattle.leap_line.proofs.FrameLaws.{idle, nearer}

-- THE OUTPUT UNIT: one clock nearer to the buffer's being taken, or taken and eight outputs away
module _ (n : ℕ) (full : Bool) (buffer : ℕ) where
  tape : ℕ → ℕ → ℕ
  tape timer bits = pick (due timer) n (timer - 1) + (pick (due timer) (tick 8 bits) bits - 1) * n

  tape_is : (o : Output) → takes_in n (output_clock n full buffer o) ≡ tape o.timer o.bits
  unfolding takes_in output_clock output_step tape
  tape_is o = go (due o.timer)
    where
      go : (b : Bool) → takes_in n (pick b (output_step n full buffer o) (record { timer = o.timer - 1; level = o.level; shift = o.shift; bits = o.bits; silence = o.silence }))
          ≡ pick b n (o.timer - 1) + (pick b (tick 8 o.bits) o.bits - 1) * n
      go true = refl
      go false = refl

-- the clocks to the next take, a clock later: e is one less, or was 1 and is 8 n
data Taped (n : ℕ) (b : Bool) (e e' : ℕ) : Type 0 where
  taken : b ≡ true → e ≡ 1 → e' ≡ 8 * n → Taped n b e e'
  wound : b ≡ false → 1 < e → e' ≡ e - 1 → Taped n b e e'

taped : (n timer bits : ℕ) → 1 ≤ n → 1 ≤ timer → 1 ≤ bits
    → Taped n (both (due timer) (due bits)) (timer + (bits - 1) * n) (pick (due timer) n (timer - 1) + (pick (due timer) (tick 8 bits) bits - 1) * n)
taped n zero bits h k l = absurd (omega arith)
taped n (suc zero) zero h k l = absurd (omega arith)
taped n (suc zero) (suc zero) h k l = taken refl (omega (arith, zero-mul n)) (omega arith)
taped n (suc zero) (suc (suc b)) h k l =
    let m : suc b * n ≡ b * n + n = suc-mul b n in
    let x : suc (suc b) - 1 ≡ suc b = omega arith in
    let y : suc b - 1 ≡ b = omega arith in
    rw (lt-leb (suc (suc b)) 1 (omega arith), x, y) (wound refl (omega (arith, m)) (omega (arith, m)))
taped n (suc (suc m)) bits h k l = rw (lt-leb (suc (suc m)) 1 (omega arith)) (wound refl (omega arith) (omega arith))

-- THE READER

module _ (memory : List ℕ) (g : Registers) (x : Reader) where
  abbrev left : ℕ
  left = x.remaining - 1

  read_remaining : (reader_clock memory g x).remaining ≡ pick (pending x) (pick (eqb left 0) (pick g.looped (g.size * 16 + 1) left) left) x.remaining
  unfolding reader_clock sample_ended fetched restarted flagged
  read_remaining = go (pending x) (eqb left 0) g.looped
    where
      go : (p z l : Bool) → (pick p (pick z (pick l (restarted g (fetched memory x)) (flagged g.enable (fetched memory x))) (fetched memory x)) x).remaining
          ≡ pick p (pick z (pick l (g.size * 16 + 1) left) left) x.remaining
      go false z l = refl
      go true false l = refl
      go true true true = refl
      go true true false = refl

  read_full : (reader_clock memory g x).full ≡ pick (pending x) true x.full
  unfolding reader_clock sample_ended fetched restarted flagged
  read_full = go (pending x) (eqb left 0) g.looped
    where
      go : (p z l : Bool) → (pick p (pick z (pick l (restarted g (fetched memory x)) (flagged g.enable (fetched memory x))) (fetched memory x)) x).full ≡ pick p true x.full
      go false z l = refl
      go true false l = refl
      go true true true = refl
      go true true false = refl

  read_flag : (reader_clock memory g x).interrupt ≡ pick (pending x) (pick (eqb left 0) (pick g.looped x.interrupt (pick g.enable true x.interrupt)) x.interrupt) x.interrupt
  unfolding reader_clock sample_ended fetched restarted flagged
  read_flag = go (pending x) (eqb left 0) g.looped
    where
      go : (p z l : Bool) → (pick p (pick z (pick l (restarted g (fetched memory x)) (flagged g.enable (fetched memory x))) (fetched memory x)) x).interrupt
          ≡ pick p (pick z (pick l x.interrupt (pick g.enable true x.interrupt)) x.interrupt) x.interrupt
      go false z l = refl
      go true false l = refl
      go true true true = refl
      go true true false = refl

-- ONE CLOCK, BY NUMBERS: r bytes remaining, the buffer taken in e clocks
abbrev pend : Bool → Bool → ℕ → Bool
pend b full r = both (not (both (not b) full)) (ltb 0 r)

abbrev bytes : Bool → Bool → ℕ → ℕ → ℕ
bytes p looped size r = pick p (pick (eqb (r - 1) 0) (pick looped size (r - 1)) (r - 1)) r

abbrev flag : Bool → Bool → Bool → ℕ → Bool → Bool
flag p looped enable r i = pick p (pick (eqb (r - 1) 0) (pick looped i (pick enable true i)) i) i

abbrev until : Bool → Bool → ℕ → ℕ → Bool → ℕ → ℕ
until enable looped r n full e = pick (both enable (both (not looped) (ltb 0 r))) (last_fetch n full e r) 0

unflagged : (p z i : Bool) → pick p (pick z i i) i ≡ i
unflagged true true i = refl
unflagged true false i = refl
unflagged false z i = refl

unflagged' : (p z l i : Bool) → pick p (pick z (pick l i i) i) i ≡ i
unflagged' true true true i = refl
unflagged' true true false i = refl
unflagged' true false l i = refl
unflagged' false z l i = refl

empty : (b : Bool) → both (not b) false ≡ false
empty true = refl
empty false = refl

none : (b : Bool) → both (not b) false ≡ false
none = empty

module _ (n size : ℕ) (some : 1 ≤ n) (i : Bool) where
  -- one byte or more to go
  on : (b full : Bool) (e e' k : ℕ) → Taped n b e e'
      → Counts (last_fetch n full e (suc k)) i (flag (pend b full (suc k)) false true (suc k) i)
      (until true false (bytes (pend b full (suc k)) false size (suc k)) n (pick (pend b full (suc k)) true (both (not b) full)) e')
  unfolding last_fetch
  on b true e e' zero (taken f g h) = rw f (arrives (omega (arith, zero-mul (8 * n))) refl)
  on b true e e' (suc j) (taken f g h) =
      let x : suc (suc j) - 1 ≡ suc j = omega arith in
      let y : suc j - 1 ≡ j = omega arith in
      let m : suc j * (8 * n) ≡ j * (8 * n) + 8 * n = suc-mul j (8 * n) in
      rw (f, lt-ltb 0 (suc (suc j)) (omega arith), x, ne_eqb (suc j) 0 (λ z. omega arith), lt-ltb 0 (suc j) (omega arith), y)
      (nearer i (omega (arith, m)) (omega (arith, m)))
  on b true e e' zero (wound f g h) = rw f (nearer i (omega arith) (omega arith))
  on b true e e' (suc k) (wound f g h) = rw (f, lt-ltb 0 (suc (suc k)) (omega arith)) (nearer i (omega arith) (omega arith))
  on b false e e' zero t = rw (empty b) (arrives refl refl)
  on b false e e' (suc j) (taken f g h) =
      let x : suc (suc j) - 1 ≡ suc j = omega arith in
      let y : suc j - 1 ≡ j = omega arith in
      let m : suc j * (8 * n) ≡ j * (8 * n) + 8 * n = suc-mul j (8 * n) in
      rw (empty b, ne_eqb (suc (suc j)) 1 (λ z. omega arith), eq-eqb e 1 g, lt-ltb 0 (suc (suc j)) (omega arith), x, ne_eqb (suc j) 0 (λ z. omega arith), lt-ltb 0 (suc j) (omega arith), y)
      (nearer i (omega (arith, m)) (omega (arith, m)))
  on b false e e' (suc j) (wound f g h) =
      let x : suc (suc j) - 1 ≡ suc j = omega arith in
      let y : suc j - 1 ≡ j = omega arith in
      let w : suc (suc j) - 2 ≡ j = omega arith in
      rw (empty b, ne_eqb (suc (suc j)) 1 (λ z. omega arith), ne_eqb e 1 (λ z. omega arith), w, lt-ltb 0 (suc (suc j)) (omega arith), x, ne_eqb (suc j) 0 (λ z. omega arith), lt-ltb 0 (suc j) (omega arith), y)
      (nearer i (omega arith) (omega arith))

  counted : (b full enable looped : Bool) (e e' r : ℕ) → Taped n b e e'
      → Counts (until enable looped r n full e) i (flag (pend b full r) looped enable r i)
      (until enable looped (bytes (pend b full r) looped size r) n (pick (pend b full r) true (both (not b) full)) e')
  counted b full false looped e e' r t = rw (unflagged' (pend b full r) (eqb (r - 1) 0) looped i) (idle i)
  counted b full true true e e' r t = rw (unflagged (pend b full r) (eqb (r - 1) 0) i) (idle i)
  counted b full true false e e' zero t = rw (none (both (not b) full)) (idle i)
  counted b full true false e e' (suc k) t = rw (lt-ltb 0 (suc k) (omega arith)) (let z = on b full e e' k t in rw (lt-ltb 0 (suc k) (omega arith)) at z)

-- THE DMC COUNTS DOWN TO ITS FLAG
pub dmc_counts : (memory : List ℕ) (n : ℕ) (d : Dmc) → 1 ≤ n → 1 ≤ d.output.timer → 1 ≤ d.output.bits
    → Counts (dmc_until n d) d.reader.interrupt (dmc_clock memory n d).reader.interrupt (dmc_until n (dmc_clock memory n d))
unfolding dmc_until dmc_clock dmc_read dmc_timed emptied pending takes_in tape
dmc_counts memory n d some timer bits =
    let o = d.output in
    let b : Bool = takes o in
    let x : Reader = emptied b d.reader in
    rw (read_remaining memory d.registers x, read_full memory d.registers x, read_flag memory d.registers x, tape_is n d.reader.full d.reader.buffer o)
    (counted n (d.registers.size * 16 + 1) some d.reader.interrupt b d.reader.full d.registers.enable d.registers.looped _ _ d.reader.remaining
    (taped n o.timer o.bits some timer bits))

-- no clock clears the flag
pub flag_stays : (memory : List ℕ) (n : ℕ) (d : Dmc) → d.reader.interrupt ≡ true → (dmc_clock memory n d).reader.interrupt ≡ true
unfolding dmc_clock dmc_read dmc_timed emptied pending
flag_stays memory n d e =
    let x : Reader = emptied (takes d.output) d.reader in
    rw (read_flag memory d.registers x, e) (set (pending x) (eqb (x.remaining - 1) 0) d.registers.looped d.registers.enable)
  where
    set : (p z l b : Bool) → pick p (pick z (pick l true (pick b true true)) true) true ≡ true
    set false z l b = refl
    set true false l b = refl
    set true true true b = refl
    set true true false true = refl
    set true true false false = refl
