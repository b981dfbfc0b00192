use mathlib.Core.Path.{sym, ap, ◌∙◌}
use Rattle.vgm_measure.specs.declared.Imported.{Imported}
use Rattle.vgm_import.proofs.ReadyLaws.{ready, buffer_written, buffer_kept}
use Rattle.vgm_import.proofs.ImportLaws.{Bytes}
use Rattle.vgm_import.proofs.Promised.{bytes_of, promised}
use native.Mathlib.Omega.{arith}
use Rattle.vgm_import.proofs.import_for.Goals as goal

pub write_log-requires : goal.write_log-requires
write_log-requires c = ready c.args.pal c.args.stream.now c.args.out.now (sym (ap (λ (r : Imported). r.number) c.measure-r.ensures) ∙ c.if-r-eq0.true)

pub returns-then-r-eq0 : goal.returns-then-r-eq0
returns-then-r-eq0 c = let a = c.args in
    let m = c.measure-r.ensures in
    let e = buffer_written a.pal a.stream.now a.out.now _ (sym (ap (λ (r : Imported). r.number) m) ∙ c.if-r-eq0.true) c.write_log.ensures in
    let b : Bytes a.stream.now = bytes_of a.stream.now (λ k. omega (arith, c.type_inv.stream k)) in record { value = m; out_after = e; stands = promised a.pal a.stream.now a.out.now b _ m _ e }

pub returns-else-r-eq0 : goal.returns-else-r-eq0
returns-else-r-eq0 c = record { value = c.measure-r.ensures; out_after = buffer_kept c.args.pal c.args.stream.now c.args.out.now (λ e. c.if-r-eq0.false (ap (λ (r : Imported). r.number) c.measure-r.ensures ∙ e)); stands = (λ e. absurd (c.if-r-eq0.false e)) }
