use mathlib.Core.Path.{sym}
use native.Mathlib.Omega.{arith}
use lib.Seq.{length-take-le}
use Rattle.c_recording.proofs.PlaceLaws.{put_log}
use Rattle.c_recording.proofs.put_log.Goals as goal

pub slice_bounds-encode-end-2 : goal.slice_bounds-encode-end-2
slice_bounds-encode-end-2 c = sym (length-take-le 88 c.args.b.now (omega (arith, c.requires)))

pub returns : goal.returns
returns c =
    let went = c.encode in let pair = put_log c.args.c c.args.b.now went.new.b c.requires went.auto.b went.ensures in record { b_after = pair.0; c_len = pair.1 }
