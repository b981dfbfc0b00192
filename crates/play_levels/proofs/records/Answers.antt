use mathlib.Core.Path.{◌≡◌, refl, sym, ap, ap₂, ◌∙◌}
use mathlib.Core.Bool.{Bool, true, false}
use native.Mathlib.Omega.{arith}
use Prim.Native.Nat.{ℕ, ◌+◌, ◌-◌, ◌*◌, ◌%◌, ◌≤◌, ◌<◌}
use native.Mathlib.Nat.{add-zero}
use mathlib.Core.List.{List}
use lib.Dec.{ltb}
use lib.ListN.{length, get_or}
use lib.Seq.{sets}
use borrow.Author.Tests.{ltb-true}
use Rattle.arith.specs.Pick.{pick}
use Rattle.play_text.proofs.TextLaws.{level_size}
use Rattle.play_levels.proofs.LineLaws.{lines_none, lines_all, lines_step}
use Rattle.play_levels.proofs.records.Goals as goal

-- with a line behind this one there is room for two
room : (b : Bool) (place n i size : ℕ) → ltb (i + 1) n ≡ b → i < n → place + 23 * (n - i) ≤ size → place + pick b 46 23 ≤ size
room true place n i size e k h = omega (arith, ltb-true (i + 1) n e)
room false place n i size e k h = omega arith

pub loop-i-init : goal.loop-i-init
loop-i-init c =
    let all = lines_all c.args.time c.args.n c.args.words.now in
    (omega arith, refl, omega (arith, c.requires.n_in_bounds_2), (0, c.high_of-high.ensures), rw all refl, rw all refl)

pub high_at-high-requires : goal.high_at-high-requires
high_at-high-requires c = (c.loop-i.invariant.3, omega (arith, c.ranges))

pub one_line-place-requires : goal.one_line-place-requires
one_line-place-requires c =
    let l = c.loop-i in record { more_in_bounds = rw (sym l.invariant.1) at (room (ltb (l.i + 1) c.args.n) l.place c.args.n l.i (length c.args.out.now) refl c.loop-i-test.true l.invariant.2); h_value = (c.high_at-high.ensures, omega (arith, c.ranges), omega arith) }

pub loop-i-preserved : goal.loop-i-preserved
loop-i-preserved c =
    let a = c.args in
    let l = c.loop-i in
    let t = c.loop-i-test.true in
    let time = c.from in
    let clock = c.from-in-loop-i in
    let x = time.result + clock.result in
    let y = get_or a.words.now (2 * l.i + 1) 0 % 65536 in
    let e = c.one_line-place.ensures in
    let step = lines_step a.time a.n a.words.now c.requires.n_in_bounds l.i t l.out l.place _ _ l.invariant.4 l.invariant.5
    x y (ap₂ (λ (u v : ℕ). u + v) time.ensures clock.ensures) refl _ _ e in
    (omega (arith, t), e.size ∙ l.invariant.1, omega (arith, t, l.invariant.2, e.place, level_size x y (omega arith)), (x, c.high_at-high.ensures), step.0, step.1)

pub returns : goal.returns
returns c =
    let a = c.args in
    let l = c.loop-i in
    let e = lines_none a.time a.n a.words.now l.i (omega (arith, c.loop-i-test.false)) in record { value = sym (add-zero l.place) ∙ (ap (λ (z : List ℕ). l.place + length z) (sym e) ∙ l.invariant.4); out_after = ap (λ (z : List ℕ). sets l.out l.place z) (sym e) ∙ l.invariant.5 }
