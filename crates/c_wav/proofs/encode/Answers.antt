use borrow.Author.Tests.{eq-eqb, ne_eqb}
use Rattle.c_wav.specs.Wavs.{wav_encoded}
use Rattle.c_wav.proofs.PlaceLaws.{put_wav}
use Rattle.c_wav.proofs.encode.Goals as goal

pub returns-then-b-eq-SIZE : goal.returns-then-b-eq-SIZE
unfolding wav_encoded
returns-then-b-eq-SIZE c =
    let a = c.args in
    let cursor = c.put_cursor.ensures in
    rw (eq-eqb _ _ c.if-b-eq-SIZE.true)
    (put_wav a.w cursor.c_len a.b.now _ _ _ _ c.if-b-eq-SIZE.true c.put_file.ensures c.put_place.ensures cursor.b_after c.put_state.ensures)

pub returns-else-b-eq-SIZE : goal.returns-else-b-eq-SIZE
unfolding wav_encoded
returns-else-b-eq-SIZE c = simp (ne_eqb _ _ c.if-b-eq-SIZE.false)
