-- Helper: the import counted step by step, as the code does it: what the pass carries, and what is left from there on.
use Rattle.std.specs.Prelude.{ℕ, zero, suc, ◌+◌, ◌-◌, ◌*◌, ◌/◌, ◌%◌, ◌≤◌, List, [], ◌++◌, Bool, length, ltb, eqb}
use Rattle.arith.specs.Pick.{pick, either}
use Rattle.log_line.specs.declared.Act.TheVariants.{Wait as Waited}
use Rattle.log_line.specs.declared.Line.TheVariants.{One, Stop}
use Rattle.log_line.specs.Printed.{line_text}
use Rattle.log_rules.specs.Tree.{turns, text}
use Rattle.vgm_stream.specs.declared.Said.{Said}
use Rattle.vgm_stream.specs.declared.Said.TheVariants.{Wait, Write}
use Rattle.vgm_stream.specs.declared.Step.{Step}
use Rattle.vgm_stream.specs.declared.Step.TheVariants.{End, Fault, Next, Says}
use Rattle.vgm_stream.specs.Stream.{Stream, ended, refused, stream_of}
use Rattle.vgm_measure.specs.declared.Count.{Count}
use Rattle.vgm_measure.specs.declared.Imported.{Imported}
use Rattle.vgm_measure.specs.declared.Sum.{Sum}
use Rattle.vgm_measure.specs.Import.{stood, acts_from, samples_in, clocks_for, tree_for, text_for, import_refusal, tally_refusal}

-- the lines of a gap: so many waits of 1,000,000, the rest; and how many lines they are
unfoldable pub millions : ℕ → List ℕ
millions zero = []
millions (suc m) = line_text (One (Waited 1000000)) ++ millions m

unfoldable pub rest_text : ℕ → List ℕ
rest_text g = pick (eqb g 0) [] (line_text (One (Waited g)))

unfoldable pub gap_text : ℕ → List ℕ
gap_text g = millions (g / 1000000) ++ rest_text (g % 1000000)

unfoldable pub gap_turns : ℕ → ℕ
gap_turns g = pick (eqb (g % 1000000) 0) (g / 1000000) (g / 1000000 + 1)

-- over the totals of refusal 9 already
unfoldable pub heavy_at : Bool → Count → Bool
heavy_at pal k = either (ltb 2000000000 (stood pal k.samples)) (ltb 1000000 k.turns)

unfoldable pub count_write : Bool → Count → Count
count_write pal k =
    record {
      samples = k.samples;
      clock = stood pal k.samples;
      turns = k.turns + gap_turns (stood pal k.samples - k.clock) + 1;
      length = k.length + length (gap_text (stood pal k.samples - k.clock)) + 14;
    }

unfoldable pub count_said : Bool → Count → Said → Count
count_said pal k (Wait n) = record { samples = k.samples + n; clock = k.clock; turns = k.turns; length = k.length }
count_said pal k (Write r v) = count_write pal k

unfoldable pub count_step : Bool → Count → Step → Count
count_step pal k End = k
count_step pal k (Fault n) = k
count_step pal k (Next w) = k
count_step pal k (Says s) = pick (heavy_at pal k) k (count_said pal k s)

-- what a count stays below
pub record Counted (pal : Bool) (k : Count) : Type 0 where
  pub samples : k.samples ≤ 53200000
  pub clock : k.clock ≤ stood pal k.samples
  pub turns : k.turns ≤ 1010000
  pub length : k.length ≤ 16 * k.turns + 18

-- under the totals so far
pub record Light (pal : Bool) (k : Count) : Type 0 where
  pub clocks : stood pal k.samples ≤ 2000000000
  pub few : k.turns ≤ 1000000

-- A SUM: the totals of a stream's log, and its bytes
abbrev pub sum_refusal : ℕ → ℕ → Sum
sum_refusal k p = record { tally = tally_refusal k p; length = 0 }

unfoldable pub sum_weighed : ℕ → ℕ → ℕ → Sum
sum_weighed c t n =
    pick (either (ltb 2000000000 c) (ltb 1000000 t)) (sum_refusal 9 0) (record { tally = record { number = 0; place = 0; clocks = c; turns = t }; length = n })

unfoldable pub sum_answer : Bool → Stream → Sum
sum_answer pal (refused k p) = sum_refusal k p
sum_answer pal (ended l) = sum_weighed (clocks_for pal l) (turns (tree_for pal l)) (length (text_for pal l))

unfoldable pub sum_of : Bool → List ℕ → Sum
sum_of pal stream = sum_answer pal (stream_of stream)

-- the sum, where a count stands and a stream is left
unfoldable pub sum_from : Bool → Count → Stream → Sum
sum_from pal k (refused q p) = sum_refusal q p
sum_from pal k (ended l) =
    sum_weighed (stood pal (k.samples + samples_in l))
    (k.turns + turns (acts_from pal k.samples k.clock l))
    (k.length + length (text (acts_from pal k.samples k.clock l)) + length (line_text (Stop (stood pal (k.samples + samples_in l)))))

-- the answer of the import by a sum, for a buffer of so many bytes
unfoldable pub fitted : ℕ → Sum → Imported
fitted room s =
    pick (eqb s.tally.number 0)
    (pick (either (ltb room s.length) (ltb 60000 s.length)) (import_refusal 28 0)
    (record { number = 0; place = 0; length = s.length }))
    (import_refusal s.tally.number s.tally.place)
