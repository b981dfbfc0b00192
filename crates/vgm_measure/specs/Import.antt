-- The log that a stream is brought in as, and the answer.
use Rattle.std.specs.Prelude.{ℕ, ◌+◌, ◌-◌, ◌*◌, ◌/◌, ◌%◌, List, [], ◌∷◌, Bool, false, length, ltb, eqb}
use Rattle.std.proofs.lemmas.List.Edits.{sets}
use Rattle.arith.specs.Pick.{pick, either}
use Rattle.arith.specs.Iterate.{iterate}
use Rattle.clock_rate.specs.Rate.{clock_rate}
use Rattle.bus.specs.declared.Access.TheVariants.{Write as Written}
use Rattle.log_line.specs.declared.Act.TheVariants.{Wait as Waited, Access}
use Rattle.log_rules.specs.Tree.{Tree, end, act, turns, log_text}
use Rattle.vgm_stream.specs.declared.Said.{Said}
use Rattle.vgm_stream.specs.declared.Said.TheVariants.{Wait, Write}
use Rattle.vgm_measure.specs.declared.Imported.{Imported}
use Rattle.vgm_measure.specs.declared.Tally.{Tally}
use Rattle.vgm_stream.specs.Stream.{Stream, ended, refused, stream_of}

-- "After S samples the import stands at floor(S x 1789773 / 44100) clocks"; of a PAL file with its machine's clocks a second
unfoldable pub stood : Bool → ℕ → ℕ
stood pal s = s * clock_rate pal / 44100

-- "then the rest, no line for a gap of 0": a wait in front of what follows
unfoldable pub rest : ℕ → Tree → Tree
rest g t = pick (eqb g 0) t (act (Waited g) t)

-- "one gap: waits of 1000000 first, then the rest"
unfoldable pub gap : ℕ → Tree → Tree
gap g t = iterate (act (Waited 1000000)) (g / 1000000) (rest (g % 1000000) t)

-- the lines from s samples on, where the log has come to the clock h: "All clocks before an access since the last one or the start, or before the
-- end, are one gap", "and no loops"
unfoldable pub acts_from : Bool → ℕ → ℕ → List Said → Tree
acts_from pal s h [] = gap (stood pal s - h) end
acts_from pal s h (Wait n ∷ l) = acts_from pal (s + n) h l
acts_from pal s h (Write r v ∷ l) = gap (stood pal s - h) (act (Access (Written r v)) (acts_from pal s (stood pal s) l))

-- the samples in all
unfoldable pub samples_in : List Said → ℕ
samples_in [] = 0
samples_in (Wait n ∷ l) = n + samples_in l
samples_in (Write r v ∷ l) = samples_in l

-- the tree of a stream that ends, its clocks in all, and its log
unfoldable pub tree_for : Bool → List Said → Tree
tree_for pal l = acts_from pal 0 0 l

unfoldable pub clocks_for : Bool → List Said → ℕ
clocks_for pal l = stood pal (samples_in l)

unfoldable pub text_for : Bool → List Said → List ℕ
text_for pal l = log_text pal (tree_for pal l) (clocks_for pal l)

abbrev pub import_refusal : ℕ → ℕ → Imported
import_refusal k p = record { number = k; place = p; length = 0 }

-- a log of c clocks, t turns and n bytes: "then, both at 0, 9; then 28, the log longer than the buffer or 60,000 bytes"; else "the answer gives the
-- length of each log .. it writes"
unfoldable pub import_weighed : ℕ → ℕ → ℕ → ℕ → Imported
import_weighed room c t n =
    pick (either (ltb 2000000000 c) (ltb 1000000 t)) (import_refusal 9 0)
    (pick (either (ltb room n) (ltb 60000 n)) (import_refusal 28 0)
    (record { number = 0; place = 0; length = n }))

-- "Refusals, at the first byte at fault: ..; then .."
unfoldable pub import_answer : Bool → ℕ → Stream → Imported
import_answer pal room (refused k p) = import_refusal k p
import_answer pal room (ended l) = import_weighed room (clocks_for pal l) (turns (tree_for pal l)) (length (text_for pal l))

-- the answer for a machine, a stream and a buffer of so many bytes
unfoldable pub import_for : Bool → List ℕ → ℕ → Imported
import_for pal stream room = import_answer pal room (stream_of stream)

-- THE TOTALS of a stream's log, of any length: the first byte at fault, then 9 at 0
abbrev pub tally_refusal : ℕ → ℕ → Tally
tally_refusal k p = record { number = k; place = p; clocks = 0; turns = 0 }

unfoldable pub tally_weighed : ℕ → ℕ → Tally
tally_weighed c t = pick (either (ltb 2000000000 c) (ltb 1000000 t)) (tally_refusal 9 0) (record { number = 0; place = 0; clocks = c; turns = t })

unfoldable pub tally_answer : Bool → Stream → Tally
tally_answer pal (refused k p) = tally_refusal k p
tally_answer pal (ended l) = tally_weighed (clocks_for pal l) (turns (tree_for pal l))

unfoldable pub tally_of : Bool → List ℕ → Tally
tally_of pal stream = tally_answer pal (stream_of stream)

-- the log of a stream
unfoldable pub text_of : Bool → Stream → List ℕ
text_of pal (refused k p) = []
text_of pal (ended l) = text_for pal l

-- the buffer: the log over its front, the bytes behind it as they were; refused, all of it as it was
unfoldable pub buffer_for : Bool → List ℕ → List ℕ → List ℕ
buffer_for pal stream out = pick (eqb (import_for pal stream (length out)).number 0) (sets out 0 (text_of pal (stream_of stream))) out

-- request 10: "It writes an NTSC log"
abbrev pub import_of : List ℕ → ℕ → Imported
import_of stream room = import_for false stream room

abbrev pub buffer_of : List ℕ → List ℕ → List ℕ
buffer_of stream out = buffer_for false stream out
