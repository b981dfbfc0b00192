use Rattle.log_salvage.proofs.EndLaws.{ended_stopped, ended_added}
use Rattle.log_salvage.specs.Writing.{Adds}
use Rattle.log_line.specs.Printed.{line_text}
use Rattle.log_line.specs.declared.Line.TheVariants.{Stop}
use Prim.Native.Nat.{ℕ, ◌+◌}
use mathlib.Core.Path.{ap, sym, ◌∙◌}
use Rattle.log_salvage.proofs.end.Goals as goal

pub returns-then-stopped : goal.returns-then-stopped
returns-then-stopped c = λ o l k w e n. ended_stopped w (sym e ∙ c.if-stopped.true)

pub returns : goal.returns
returns c =
    let a = c.args in
    let n = c.note-entries.ensures in
    let p = c.put_line.ensures in
    let adds : Adds a.pen (line_text (Stop a.clocks)) a.out.now a.list.now _ _ _ = record {
      bytes = ap (λ (x : ℕ). a.pen.bytes + x) c.line_length.ensures.0;
      entries = n.value;
      stored = p.out_after;
      noted = n.list_after;
    } in
    λ o l k w e m. ended_added w (sym e ∙ c.if-stopped.false) a.clocks m _ _ _ adds
