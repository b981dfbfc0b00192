use native.Mathlib.Omega.{arith}
use Prim.Native.Nat.{◌+◌, ◌≤◌}
use lib.ListN.{length}
use mathlib.Core.List.{◌++◌}
use Rattle.text.specs.Ascii.{bytes}
use Rattle.text.specs.Decimal.{decimal_text}
use Rattle.play_text.specs.Entries.{refusal_text}
use Rattle.play_text.proofs.TextLaws.{refusal_size}
use Rattle.text_print.specs.Printed.{Put}
use Rattle.text_print.proofs.PieceLaws.{put_last, put_more}
use Rattle.play_text.proofs.refusal_lines.Goals as goal

pub returns : goal.returns
unfolding refusal_text
returns c = let size = refusal_size c.args.number c.args.place (omega arith) in
    let room : 0 + length (refusal_text c.args.number c.args.place) ≤ length c.args.out.now = omega (arith, c.requires) in
    let q : Put c.args.out.now 0 (refusal_text c.args.number c.args.place) _ _ =
    (put_more c.args.out.now 0 (bytes "play=1\n") ((bytes "refused=") ++ ((decimal_text c.args.number) ++ ((bytes ":") ++ ((decimal_text c.args.place) ++ ((bytes "\n")))))) c.fixed-a.new.out c.fixed-a.result c.fixed.new.out c.fixed.result room c.fixed-a.ensures.value c.fixed-a.ensures.out_after (λ h0.
    (put_more c.fixed-a.new.out c.fixed-a.result (bytes "refused=") ((decimal_text c.args.number) ++ ((bytes ":") ++ ((decimal_text c.args.place) ++ ((bytes "\n"))))) c.fixed-b.new.out c.fixed-b.result c.fixed.new.out c.fixed.result h0 c.fixed-b.ensures.value c.fixed-b.ensures.out_after (λ h1.
    (put_more c.fixed-b.new.out c.fixed-b.result (decimal_text c.args.number) ((bytes ":") ++ ((decimal_text c.args.place) ++ ((bytes "\n")))) c.decimal-c.new.out c.decimal-c.result c.fixed.new.out c.fixed.result h1 (rw c.from.ensures at c.decimal-c.ensures.value) (rw c.from.ensures at c.decimal-c.ensures.out_after) (λ h2.
    (put_more c.decimal-c.new.out c.decimal-c.result (bytes ":") ((decimal_text c.args.place) ++ ((bytes "\n"))) c.fixed-d.new.out c.fixed-d.result c.fixed.new.out c.fixed.result h2 c.fixed-d.ensures.value c.fixed-d.ensures.out_after (λ h3.
    (put_more c.fixed-d.new.out c.fixed-d.result (decimal_text c.args.place) ((bytes "\n")) c.decimal-e.new.out c.decimal-e.result c.fixed.new.out c.fixed.result h3 c.decimal-e.ensures.value c.decimal-e.ensures.out_after (λ h4.
    put_last c.decimal-e.new.out c.decimal-e.result (bytes "\n") c.fixed.new.out c.fixed.result h4 c.fixed.ensures.value c.fixed.ensures.out_after))))))))))
    in
    let e = q.place in record { value = (omega arith, omega arith); out_after = q.bytes }
