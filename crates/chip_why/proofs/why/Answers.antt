use mathlib.Core.Path.{◌≡◌, ap, ◌∙◌}
use Prim.Native.Nat.{ℕ}
use Rattle.chip.specs.declared.State.{State}
use Rattle.chip_why.specs.Why.{why_answer}
use Rattle.chip_why.specs.Value.{reason_number, reason_value, why_number, why_value}
use Rattle.chip_why.specs.declared.Reason.{Reason}
use Rattle.chip_why.proofs.Numbers.{refusals, values}
use Rattle.chip_why.proofs.why.Goals as goal

-- an answer with its number and its value
whole : (channel : ℕ) (s : State) (r : Reason) → r ≡ why_answer channel s
    → (r ≡ why_answer channel s) × ((reason_number r ≡ why_number channel s) × (reason_value r ≡ why_value channel s))
whole channel s r e = (e, (ap reason_number e ∙ refusals channel s, ap reason_value e ∙ values channel s))

pub returns-then-in_range : goal.returns-then-in_range
unfolding why_answer
returns-then-in_range c = let pair = whole _ _ _ (simp (c.channel_why.ensures, c.if-in_range.true, ← c.in_range.ensures)) in record { value = pair.0; result_value = pair.1.0; result_value_2 = pair.1.1 }

pub returns-else-in_range : goal.returns-else-in_range
unfolding why_answer
returns-else-in_range c = let pair = whole _ _ _ (simp (c.if-in_range.false, ← c.in_range.ensures)) in record { value = pair.0; result_value = pair.1.0; result_value_2 = pair.1.1 }
