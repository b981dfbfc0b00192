use mathlib.Core.Path.{◌≡◌, ap, ◌∙◌}
use mathlib.Core.Bool.{true}
use native.Mathlib.Omega.{arith}
use lib.Dec.{eqb}
use lib.ListN.{length}
use borrow.Author.Tests.{eq-eqb, eqb-true, ne_eqb}
use Rattle.chip.specs.Range.{in_range}
use Rattle.play_rules.specs.declared.Player.{Player}
use Rattle.play_step.specs.declared.Taken.{Taken}
use Rattle.play_step.specs.Steps.{room_for}
use Rattle.play_step.proofs.TakenLaws.{by_turn, by_wait, wait_kept, taken_player}
use Rattle.play_step.proofs.step.Goals as goal
use Rattle.play_step.proofs.step.Goals.{else-p-eq-ACTING-via-then-p-eq-ACTING+else-p-ne0, else-p-eq-ACTING-via-else-p-eq-ACTING}

pub returns-then-p-ne0 : goal.returns-then-p-ne0
returns-then-p-ne0 c =
    let a = c.args in
    let w = c.wait_step in
    let i = by_wait a.log.now a.memory.now a.p a.out.now a.at (eq-eqb _ _ c.if-p-eq-ACTING.true) (ne_eqb _ _ c.if-p-ne0.true) w.new.out w.result w.ensures.value w.ensures.out_after in record {
      value = i.0;
      out_after = i.1;
      state_value = λ h. ap (λ (t : Taken). in_range t.player.state) w.ensures.value
          ∙ wait_kept a.memory.now (λ i. omega (arith, c.type_inv.memory i)) (room_for (length a.out.now) a.at) a.p a.at h;
    }

pub returns : goal.returns
returns c =
    let a = c.args in
    let t = c.take in
    let w = c.turn in
    let z : eqb a.p.phase 2 ≡ true → eqb a.p.wait 0 ≡ true =
    λ h. elim c.else-p-eq-ACTING.branch [
      | else-p-eq-ACTING-via-then-p-eq-ACTING+else-p-ne0 x ↦ eq-eqb _ _ x.if-p-ne0.false
      | else-p-eq-ACTING-via-else-p-eq-ACTING x ↦ absurd (x.if-p-eq-ACTING.false (eqb-true _ _ h))
    ] in
    let i = by_turn a.log.now a.memory.now a.p a.out.now a.at z w.result w.ensures.value t.new.out t.result t.ensures.value t.ensures.out_after in record { value = i.0; out_after = i.1; state_value = λ h. ap (λ (x : Taken). in_range x.player.state) t.ensures.value ∙ (ap (λ (q : Player). in_range q.state) (taken_player a.out.now a.at w.result.told w.result.player) ∙ w.ensures.keeps h) }
