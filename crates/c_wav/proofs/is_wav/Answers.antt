use mathlib.Core.Path.{◌≡◌, refl, sym, ◌∙◌}
use mathlib.Core.Bool.{Bool, true, false}
use lib.ListN.{length}
use lib.Dec.{eqb, leb}
use borrow.Author.Tests.{eq-eqb, ne_eqb}
use native.Mathlib.Omega.{arith}
use Rattle.arith.specs.Pick.{both}
use Rattle.arith.proofs.PickLaws.{both_left, both_right}
use Rattle.c_bytes.specs.Fields.{byte_of}
use Rattle.c_wav.specs.Wavs.{wav_size, is_wav}
use Rattle.c_wav.proofs.CodeLaws.{told}
use Rattle.c_wav.proofs.BackLaws.{told_right}
use Rattle.c_wav.proofs.is_wav.Goals as goal
use Rattle.c_wav.proofs.is_wav.Goals.{then-b-eq-SIZE, else-b-eq-SIZE}

-- with one of the first two tests false, all three are
none : (x y z : Bool) → both x y ≡ false → false ≡ both x (both y z)
none true true z e = cc
none true false z e = refl
none false y z e = refl

pub returns-then-byte_at-le1 : goal.returns-then-byte_at-le1
unfolding told
returns-then-byte_at-le1 c =
    let b = c.args.b.now in
    let v : c.if-b-eq-SIZE.value ≡ both (eqb (length b) wav_size) (leb (byte_of b 0) 1) =
    elim c.if-b-eq-SIZE.branch [
      | then-b-eq-SIZE w ↦ w.value-is ∙ rw (eq-eqb (length b) wav_size w.if-b-eq-SIZE.true, w.byte_at.ensures) refl
      | else-b-eq-SIZE w ↦ w.value-is ∙ rw (ne_eqb (length b) wav_size w.if-b-eq-SIZE.false) refl
    ] in
    let h = sym v ∙ c.if-byte_at-le1.true in
    rw (← told_right b (λ i. omega (arith, c.type_inv.b i)), both_left (eqb (length b) wav_size) (leb (byte_of b 0) 1) h, both_right (eqb (length b) wav_size) (leb (byte_of b 0) 1) h, c.is_state.ensures, c.state_part.ensures) refl

pub returns-else-byte_at-le1 : goal.returns-else-byte_at-le1
unfolding told
returns-else-byte_at-le1 c =
    let b = c.args.b.now in
    let v : c.if-b-eq-SIZE.value ≡ both (eqb (length b) wav_size) (leb (byte_of b 0) 1) =
    elim c.if-b-eq-SIZE.branch [
      | then-b-eq-SIZE w ↦ w.value-is ∙ rw (eq-eqb (length b) wav_size w.if-b-eq-SIZE.true, w.byte_at.ensures) refl
      | else-b-eq-SIZE w ↦ w.value-is ∙ rw (ne_eqb (length b) wav_size w.if-b-eq-SIZE.false) refl
    ] in
    rw (← told_right b (λ i. omega (arith, c.type_inv.b i)), c.if-byte_at-le1.false)
    (none (eqb (length b) wav_size) (leb (byte_of b 0) 1) _ (sym v ∙ c.if-byte_at-le1.false))
