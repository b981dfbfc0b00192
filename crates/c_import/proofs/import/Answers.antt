use Rattle.c_import.specs.Packed.{machine_answer, machine_buffer}
use Rattle.c_import.proofs.import.Goals as goal

pub returns : goal.returns
unfolding machine_answer machine_buffer
returns c = record { value = c.import_for.ensures.value; out_after = c.import_for.ensures.out_after; stands = c.import_for.ensures.stands }
