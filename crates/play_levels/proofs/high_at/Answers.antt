use Prim.Native.Nat.{ℕ, ◌+◌, ◌*◌, ◌/◌, ◌≤◌, ◌<◌}
use mathlib.Core.Path.{◌≡◌, ap, ◌∙◌}
use native.Mathlib.Omega.{arith}
use lib.ListN.{length}
use Rattle.text.specs.Decimal.{decimal_text}
use Rattle.play_levels.specs.declared.High.{High}
use Rattle.play_levels.specs.Words.{word_of, high_of}
use Rattle.play_levels.proofs.high_at.Goals as goal

-- within 10,000 clocks it is the same
same : (h : High) (t u : ℕ) → h ≡ high_of t → h.base ≤ u → u < h.base + 10000 → h ≡ high_of u
same h t u e low high =
    let b : h.base ≡ t / 10000 * 10000 = ap (λ (k : High). k.base) e in
    let q : t / 10000 ≡ u / 10000 = omega (arith, b, low, high) in
    e ∙ ap (λ (k : ℕ). record { base = k * 10000; word = word_of (decimal_text k); size = length (decimal_text k) }) q

pub returns : goal.returns
returns c =
    same c.args.h c.requires.0.0 c.args.time c.requires.0.1 (omega arith) (omega arith)
