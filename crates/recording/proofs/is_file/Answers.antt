use mathlib.Core.Path.{◌∙◌}
use native.Mathlib.Omega.{arith}
use Rattle.recording.proofs.ByteLaws.{all_bytes}
use Rattle.recording.proofs.KindLaws.{lent_file}
use Rattle.recording.proofs.is_file.Goals as goal

pub returns : goal.returns
returns c =
    let b = c.args.b.now in
    c.starts.ensures ∙ lent_file b (all_bytes b (λ k. omega (arith, c.type_inv.b k)))
