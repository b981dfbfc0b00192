use Prim.Native.Nat.{ℕ, ◌-◌, ◌*◌, ◌/◌, ◌^◌}
use mathlib.Core.Path.{sym, ap, ◌∙◌}
use native.Mathlib.Omega.{arith}
use Rattle.play_levels.specs.Words.{word_of}
use Rattle.play_levels.proofs.WordLaws.{bytes_append, word_drop}
use Rattle.play_levels.proofs.DigitLaws.{digit_bytes, decimal_eight}
use Rattle.play_levels.proofs.digits_word.Goals as goal

pub overflow_shr-result : goal.overflow_shr-result
overflow_shr-result c = omega (arith, c.requires.2)

pub returns : goal.returns
returns c =
    let n = c.args.n in
    let k = c.args.size in
    ap (λ (w : ℕ). w / 2 ^ (8 * (8 - k))) c.eight_digits-all.ensures
    ∙ word_drop (8 - k) _ (bytes_append _ _ (digit_bytes 4 (n / 10000)) (digit_bytes 4 _))
    ∙ ap word_of (sym (decimal_eight n k c.requires.0 c.requires.3))
