-- The text of a refusal is no longer than the buffer. Assumes nothing.
use native.Mathlib.Omega.{arith}
use mathlib.Core.Path.{◌≡◌, ap, ◌∙◌}
use Prim.Native.Nat.{ℕ, ◌+◌, ◌≤◌}
use mathlib.Core.Bool.{Bool}
use mathlib.Core.List.{List}
use lib.ListN.{length, take}
use lib.Seq.{length-sets}
use borrow.Author.Rules.{rules}
use Rattle.play_text.specs.Entries.{refusal_text}
use Rattle.play_text.proofs.TextLaws.{refusal_size, refusal_taken}
use Rattle.text_print.specs.Printed.{printed, placed}
use Rattle.text_print.proofs.StoreLaws.{placed_in, printed_in}
use Rattle.program_io.specs.Writes.{Writes, FrontWrites}
use Rattle.play_stdout.proofs.refused.Goals as goal

written : (out after : List ℕ) (number place n : ℕ) (all : Bool) → number ≤ 255 → 40 ≤ length out → n ≡ placed out 0 (refusal_text number place)
    → after ≡ printed out 0 (refusal_text number place) → FrontWrites after n all → Writes (refusal_text number place) all
written out after number place n all h room e f w =
    let size = refusal_size number place h in
    let fits : 0 + length (refusal_text number place) ≤ length out = omega arith in
    let long : n ≡ length (refusal_text number place) = e ∙ (placed_in out 0 (refusal_text number place) fits ∙ omega arith) in
    let is = f ∙ printed_in out 0 (refusal_text number place) fits in
    let inside : n ≤ length after = rw (is, length-sets) (omega arith) in
    rw (ap (take n) is ∙ refusal_taken out number place n long (omega arith)) at (w.front inside)

pub returns : goal.returns
returns c =
    let a = c.args in
    let t = c.refusal-n in
    written _ _ a.number a.place t.result c.write_front.result (omega arith) (search rules) t.ensures.value t.ensures.out_after c.write_front.ensures
