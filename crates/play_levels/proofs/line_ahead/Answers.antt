-- The four words one behind the other: the law `line_stored`. Assumes nothing.
use Prim.Native.Nat.{ℕ, ◌+◌, ◌-◌, ◌*◌, ◌/◌, ◌%◌, ◌≤◌}
use mathlib.Core.Path.{◌≡◌, refl, ap, ◌∙◌}
use mathlib.Core.List.{List, ◌++◌}
use native.Mathlib.Omega.{arith}
use lib.ListN.{length}
use lib.Seq.{sets, length-sets}
use Rattle.text.specs.Decimal.{decimal_text}
use Rattle.text_print.specs.Printed.{digits_in}
use Rattle.play_levels.specs.declared.High.{High}
use Rattle.play_levels.specs.Words.{word_of, word_bytes, high_of}
use Rattle.play_levels.proofs.AheadLaws.{line_stored}
use Rattle.play_levels.proofs.DigitLaws.{high_size, second_four, four_most}
use Rattle.play_levels.proofs.line_ahead.Goals as goal

-- what its high digits say of a time
module _ (h : High) (t : ℕ) (e : h ≡ high_of t) where
  base_of : h.base ≡ t / 10000 * 10000
  base_of = ap (λ (k : High). k.base) e

  size_of : h.size ≡ length (decimal_text (t / 10000))
  size_of = ap (λ (k : High). k.size) e

  word_of_lem : h.word ≡ word_of (decimal_text (t / 10000))
  word_of_lem = ap (λ (k : High). k.word) e

  size_few : t ≤ 9999999999 → h.size ≤ 6
  size_few l = omega (arith, size_of, high_size (t / 10000) (omega arith))

  low_of : t - h.base ≡ t % 10000
  low_of = omega (arith, base_of)

stored : (l : List ℕ) (at : ℕ) (text l' : List ℕ) → l' ≡ sets l at text → length l' ≡ length l
stored l at text l' e = ap length e ∙ length-sets l at text

pub overflow_sub-time : goal.overflow_sub-time
overflow_sub-time c = omega (arith, base_of c.args.h c.args.time c.requires.h_value.0)

pub eight_digits-both-requires : goal.eight_digits-both-requires
eight_digits-both-requires c = (omega (arith, low_of c.args.h c.args.time c.requires.h_value.0), omega arith)

pub overflow_add-colon-2 : goal.overflow_add-colon-2
overflow_add-colon-2 c = omega (arith, c.requires.at_in_bounds, size_few c.args.h c.args.time c.requires.h_value.0 c.requires.h_value.2)

pub overflow_add-colon-3 : goal.overflow_add-colon-3
overflow_add-colon-3 c = omega (arith, c.requires.at_in_bounds, size_few c.args.h c.args.time c.requires.h_value.0 c.requires.h_value.2)

pub overflow_add-at-3 : goal.overflow_add-at-3
overflow_add-at-3 c = omega (arith, c.requires.at_in_bounds, size_few c.args.h c.args.time c.requires.h_value.0 c.requires.h_value.2)

pub put_word-requires-3 : goal.put_word-requires-3
put_word-requires-3 c =
    let a = c.args in
    let one = stored a.out.now a.at (word_bytes 8 67535768020332) _ c.put_word.ensures in
    let two = stored c.put_word.new.out (a.at + 6) (word_bytes 8 a.h.word) _ c.put_word-2.ensures in
    omega (arith, one, two, c.requires.at_in_bounds, size_few a.h a.time c.requires.h_value.0 c.requires.h_value.2)

pub level_word-requires : goal.level_word-requires
level_word-requires c =
    let e = second_four _ _ c.args.level (rw c.from.ensures at c.eight_digits-both.ensures) in
    let m = c.missing-dropped.ensures in record { four_value = (e, omega (arith, e, four_most c.args.level), c.requires.h_value.3); level_value = (m.1, m.2) }

pub put_word-requires-4 : goal.put_word-requires-4
put_word-requires-4 c =
    let a = c.args in
    let one = stored a.out.now a.at (word_bytes 8 67535768020332) _ c.put_word.ensures in
    let two = stored c.put_word.new.out (a.at + 6) (word_bytes 8 a.h.word) _ c.put_word-2.ensures in
    let three = stored c.put_word-2.new.out (a.at + 6 + a.h.size) (word_bytes 8 c.eight_digits-both.result) _ c.put_word-3.ensures in
    omega (arith, one, two, three, c.requires.at_in_bounds, size_few a.h a.time c.requires.h_value.0 c.requires.h_value.2)

pub overflow_add-result : goal.overflow_add-result
overflow_add-result c = omega (arith, c.requires.at_in_bounds, size_few c.args.h c.args.time c.requires.h_value.0 c.requires.h_value.2)

pub returns : goal.returns
returns c =
    let h = c.args.h in
    let t = c.args.time in
    let e = c.requires.h_value.0 in
    let low = (rw c.from.ensures at c.eight_digits-both.ensures) ∙ ap (λ (n : ℕ). word_of (digits_in 4 n ++ digits_in 4 (c.args.level % 10000))) (low_of h t e) in
    line_stored t c.args.level (c.args.level % 10000) c.requires.h_value.1 c.requires.h_value.2 c.args.at h.size h.word _ _ c.missing-dropped.result _ c.args.out.now _ _ _ _
    (size_of h t e) c.missing-dropped.ensures.0 (word_of_lem h t e) low c.level_word.ensures
    c.put_word.ensures c.put_word-2.ensures c.put_word-3.ensures c.put_word-4.ensures refl
