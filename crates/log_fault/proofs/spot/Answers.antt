use Rattle.std.proofs.Common.{Err, arith}
use Rattle.log_begins.specs.Begins.{begins}
use Rattle.log_form.proofs.ReachLaws.{reach_length}
use Rattle.log_fault.proofs.AnswerLaws.{spot_fine, spot_start, spot_other}
use Rattle.log_fault.proofs.NumberLaws.{spot_numbers}
use Rattle.log_fault.proofs.spot.Goals as goal

pub fault_at-requires : goal.fault_at-requires
fault_at-requires c = omega (arith, c.right_bytes.ensures, reach_length (begins c.keys_of-k.result) c.args.l.now)

pub returns-in-Fine : goal.returns-in-Fine
returns-in-Fine c = let pair = spot_numbers _ _ _
    (spot_fine c.args.stand c.args.l.now c.keys_of-k.result c.line_of-said.result c.as_whole.result
    c.keys_of-k.ensures c.line_of-said.ensures c.as_whole.ensures
    c.in-Fine.is) in record { value = pair.0; spotted_is = pair.1 }

pub returns-in-Start : goal.returns-in-Start
returns-in-Start c = let pair = spot_numbers _ _ _
    (spot_start c.args.stand c.args.l.now c.keys_of-k.result c.line_of-said.result c.as_whole.result
    c.keys_of-k.ensures c.line_of-said.ensures c.as_whole.ensures
    _ c.in-Start.is) in record { value = pair.0; spotted_is = pair.1 }

pub returns-in-Other : goal.returns-in-Other
returns-in-Other c = let pair = spot_numbers _ _ _
    (spot_other c.args.stand c.args.l.now c.keys_of-k.result c.line_of-said.result c.as_whole.result
    c.keys_of-k.ensures c.line_of-said.ensures c.as_whole.ensures
    c.right_bytes.result (Err c.fault_at.result) c.in-Other.is
    c.right_bytes.ensures c.fault_at.ensures) in record { value = pair.0; spotted_is = pair.1 }
