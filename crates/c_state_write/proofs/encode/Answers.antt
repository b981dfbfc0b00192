use mathlib.Core.Path.{refl, ◌∙◌}
use borrow.Author.Tests.{eq-eqb, ne_eqb}
use Rattle.std.proofs.lemmas.Slice.{put_mid-paste}
use Rattle.c_state.specs.Bytes.{square_bytes, triangle_bytes, noise_bytes, dmc_bytes, frame_bytes}
use Rattle.c_state.specs.Encoded.{encoded}
use Rattle.c_state_write.proofs.PlaceLaws.{put_state}
use Rattle.c_state_write.proofs.encode.Goals as goal

pub returns-then-b-eq-SIZE : goal.returns-then-b-eq-SIZE
unfolding encoded square_bytes triangle_bytes noise_bytes dmc_bytes frame_bytes
returns-then-b-eq-SIZE c =
    let s = c.args.s in
    rw (eq-eqb _ _ c.if-b-eq-SIZE.true)
    (put_state s c.args.b.now _ _ _ _ _ _ c.if-b-eq-SIZE.true
    (put_mid-paste 0 21 c.args.b.now _ (square_bytes s.square1) 21 (c.copy_from_slice.ensures.after ∙ c.square_bytes.ensures) refl refl)
    (put_mid-paste 21 21 _ _ (square_bytes s.square2) 21 (c.copy_from_slice-then-b-eq-SIZE.ensures.after ∙ c.square_bytes-then-b-eq-SIZE.ensures) refl refl)
    (put_mid-paste 42 11 _ _ (triangle_bytes s.triangle) 11 (c.copy_from_slice-then-b-eq-SIZE-2.ensures.after ∙ c.triangle_bytes.ensures) refl refl)
    (put_mid-paste 53 14 _ _ (noise_bytes s.noise) 14 (c.copy_from_slice-then-b-eq-SIZE-3.ensures.after ∙ c.noise_bytes.ensures) refl refl)
    (put_mid-paste 67 18 _ _ (dmc_bytes s.dmc) 18 (c.copy_from_slice-then-b-eq-SIZE-4.ensures.after ∙ c.dmc_bytes.ensures) refl refl)
    (put_mid-paste 85 6 _ _ (frame_bytes s.frame s.pal) 6 (c.copy_from_slice-then-b-eq-SIZE-5.ensures.after ∙ c.frame_bytes.ensures) refl refl))

pub returns-else-b-eq-SIZE : goal.returns-else-b-eq-SIZE
unfolding encoded
returns-else-b-eq-SIZE c = simp (ne_eqb _ _ c.if-b-eq-SIZE.false)
