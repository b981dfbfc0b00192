use mathlib.Core.List.{◌++◌}
use Rattle.text.specs.Ascii.{bytes}
use Rattle.text.specs.Hex.{hex_text}
use Rattle.text_print.proofs.PieceLaws.{put_last, put_more}
use Rattle.log_writer.proofs.PieceLaws.{write_text_lem}
use Rattle.log_writer.proofs.write_line.Goals as goal

pub returns : goal.returns
returns c =
    let a = c.args in
    let f = c.fixed-a in
    let h = c.hex_four-b in
    let g = c.fixed-c in
    let j = c.hex-d in
    let k = c.fixed in
    let four = hex_text 4 a.register in
    let two = hex_text 2 a.value in
    rw (write_text_lem a.register a.value) (
    put_more a.out.now a.at (bytes "write=") (four ++ (bytes ":" ++ (two ++ bytes "\n"))) f.new.out f.result k.new.out k.result (rw (write_text_lem a.register a.value) at c.requires) f.ensures.value f.ensures.out_after (λ p.
    put_more f.new.out f.result four (bytes ":" ++ (two ++ bytes "\n")) h.new.out h.result k.new.out k.result p h.ensures.value h.ensures.out_after (λ q.
    put_more h.new.out h.result (bytes ":") (two ++ bytes "\n") g.new.out g.result k.new.out k.result q g.ensures.value g.ensures.out_after (λ s.
    put_more g.new.out g.result two (bytes "\n") j.new.out j.result k.new.out k.result s j.ensures.value j.ensures.out_after (λ t.
    put_last j.new.out j.result (bytes "\n") k.new.out k.result t k.ensures.value k.ensures.out_after)))))
