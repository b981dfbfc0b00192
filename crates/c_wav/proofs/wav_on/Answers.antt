use borrow.Author.Rules.{elem_Fits}
use mathlib.Core.Path.{◌∙◌}
use Prim.Native.Nat.{ℕ}
use mir.Syntax.{w8, w64}
use Rattle.c_wav.specs.Wavs.{WavFits}
use Rattle.c_wav.proofs.FileLaws.{piece_stored}
use Rattle.c_wav.proofs.wav_on.Goals as goal

pub pack_piece-requires : goal.pack_piece-requires
pack_piece-requires c = c.wav_from-m.ensures.1

-- the file that comes back has the ranges of its types
wav_fits : (c : goal.After-pack_piece) → WavFits c.wav_from-m.result.wav
wav_fits c =
    let went = c.wav_from-m in
    let at = c.wav_from-m.result.wav.place.moment.cursor.log in
    let wav = c.wav_from-m.type_inv.1.1.1.1.0.1.1 in
    let place = c.wav_from-m.type_inv.1.1.1.1.0.1.1.1.1.1.0.1.1 in
    let moment = c.wav_from-m.type_inv.1.1.1.1.0.1.1.1.1.1.0.1.1.0.1.1 in
    let whole = c.wav_from-m.type_inv.1.1.1.1.0.1.1.1.1.1.0.1.1.0.1.1.0.1.1 in
    let cursor = c.wav_from-m.type_inv.1.1.1.1.0.1.1.1.1.1.0.1.1.0.1.1.0.1.1.0.1.1 in
    let starts = c.wav_from-m.type_inv.1.1.1.1.0.1.1.1.1.1.0.1.1.0.1.1.0.1.1.0.1.1.1.1.0 in
    let left = c.wav_from-m.type_inv.1.1.1.1.0.1.1.1.1.1.0.1.1.0.1.1.0.1.1.0.1.1.1.1.1.0 in
    record {
      rate = wav.0.1;
      count = wav.1.0.1;
      left = place.1.0.1;
      sample = place.1.1.0.1;
      sum = place.1.1.1.0.1;
      time = moment.1.1.0.1;
      cursor =
          record {
            log =
                record {
                  at = cursor.0.1;
                  depth = cursor.1.0.1;
                  starts = (starts.1.0.1, λ i. (elem_Fits w64 w64 at.starts starts.0 i starts.1.1 tt).fits);
                  left = (left.1.0.1, λ i. (elem_Fits w8 w8 at.left left.0 i left.1.1 tt).fits);
                };
            samples = whole.1.0.1;
            clock = whole.1.1.0.1;
          };
    }

pub returns : goal.returns
returns c =
    let went = c.wav_from-m in
    record {
      sounded = went.result;
      does = went.ensures.0;
      says = c.pack_piece.ensures;
      small = went.type_inv.1.1.0.1;
      keeps = c.store_wav.ensures ∙ piece_stored _ _ _ _ _ went.result went.ensures.0;
      fits = wav_fits c;
    }
