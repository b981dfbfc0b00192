use mathlib.Core.Path.{sym, ap, ◌∙◌}
use native.Mathlib.Omega.{arith}
use lib.Dec.{eqb}
use lib.ListN.{length}
use Rattle.vgm_measure.specs.declared.Imported.{Imported}
use Rattle.c_import.specs.Packed.{answer_packed}
use Rattle.c_import.proofs.Apart.{length_most, packed_stands, machine_answer_lem, machine_buffer_lem, neither_buffer, neither_packed}
use Rattle.c_import.proofs.import_for.Goals as goal

pub returns-then-machine-gt1 : goal.returns-then-machine-gt1
returns-then-machine-gt1 c =
    let a = c.args in
    let h = c.if-machine-gt1.true in record { value = sym (neither_packed a.machine a.stream.now h (length a.out.now)); out_after = sym (neither_buffer a.machine a.stream.now h a.out.now); stands = λ z. absurd (omega arith) }

pub packed-requires : goal.packed-requires
packed-requires c =
    let a = c.args in
    let i = c.import_for-a.ensures.value in
    λ e. rw i (length_most (eqb a.machine 1) a.stream.now a.out.now (sym (ap (λ (x : Imported). x.number) i) ∙ e))

pub returns : goal.returns
returns c =
    let a = c.args in
    let m = c.if-machine-gt1.false in
    let i = c.import_for-a in
    let p = c.packed.ensures in record { value = p ∙ ap answer_packed (i.ensures.value ∙ sym (machine_answer_lem a.machine a.stream.now m (length a.out.now))); out_after = i.ensures.out_after ∙ sym (machine_buffer_lem a.machine a.stream.now m a.out.now); stands = packed_stands (eqb a.machine 1) a.stream.now a.out.now _ i.result i.ensures.value i.ensures.stands _ p }
