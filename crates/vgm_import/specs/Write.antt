-- Helper: the import written step by step, as the code does it: what the pass carries, and what is left from there on.
use Rattle.std.specs.Prelude.{ℕ, ◌+◌, ◌-◌, ◌≤◌, ◌≡◌, List, [], ◌++◌, Bool, length}
use Rattle.std.proofs.lemmas.List.Edits.{sets}
use Rattle.bus.specs.declared.Access.TheVariants.{Write as Written}
use Rattle.log_line.specs.declared.Act.TheVariants.{Access}
use Rattle.log_line.specs.declared.Line.TheVariants.{One, Stop}
use Rattle.log_line.specs.Printed.{line_text}
use Rattle.log_rules.specs.Tree.{text}
use Rattle.vgm_stream.specs.declared.Said.{Said}
use Rattle.vgm_stream.specs.declared.Said.TheVariants.{Wait, Write}
use Rattle.vgm_stream.specs.declared.Step.{Step}
use Rattle.vgm_stream.specs.declared.Step.TheVariants.{End, Fault, Next, Says}
use Rattle.vgm_stream.specs.Stream.{Stream, ended, refused}
use Rattle.vgm_measure.specs.Import.{stood, acts_from, samples_in, text_of}
use Rattle.vgm_measure.specs.Measure.{gap_text}
use Rattle.vgm_import.specs.declared.Pen.{Pen}

-- what is left to write
unfoldable pub tail_from : Bool → ℕ → ℕ → List Said → List ℕ
tail_from pal s h l = text (acts_from pal s h l) ++ line_text (Stop (stood pal (s + samples_in l)))

unfoldable pub tail_of : Bool → Stream → List ℕ
tail_of pal (refused q p) = []
tail_of pal (ended l) = tail_from pal 0 0 l

-- what a step writes, and how it moves the samples and the clock
unfoldable pub step_text : Bool → ℕ → ℕ → Step → List ℕ
step_text pal s h (Says (Write r v)) = gap_text (stood pal s - h) ++ line_text (One (Access (Written r v)))
step_text pal s h (Says (Wait n)) = []
step_text pal s h End = []
step_text pal s h (Fault k) = []
step_text pal s h (Next w) = []

unfoldable pub step_samples : ℕ → Step → ℕ
step_samples s (Says (Wait n)) = s + n
step_samples s (Says (Write r v)) = s
step_samples s End = s
step_samples s (Fault k) = s
step_samples s (Next w) = s

unfoldable pub step_clock : Bool → ℕ → ℕ → Step → ℕ
step_clock pal s h (Says (Write r v)) = stood pal s
step_clock pal s h (Says (Wait n)) = h
step_clock pal s h End = h
step_clock pal s h (Fault k) = h
step_clock pal s h (Next w) = h

-- a step written by a pen
pub record Penned (pal : Bool) (before : List ℕ) (p : Pen) (s : Step) (after : List ℕ) (q : Pen) : Type 0 where
  pub samples : q.samples ≡ step_samples p.samples s
  pub clock : q.clock ≡ step_clock pal p.samples p.clock s
  pub place : q.place ≡ p.place + length (step_text pal p.samples p.clock s)
  pub bytes : after ≡ sets before p.place (step_text pal p.samples p.clock s)

-- room for a step, and samples in bounds
pub record Penning (pal : Bool) (p : Pen) (s : Step) (out : List ℕ) : Type 0 where
  pub samples : step_samples p.samples s ≤ 53200000
  pub clock : p.clock ≤ stood pal p.samples
  pub room : p.place + length (step_text pal p.samples p.clock s) ≤ length out

-- what is left of a stream ends within the totals, and what is left of its log makes the whole
pub record Writing (pal : Bool) (all : List ℕ) (whole : ℕ) (s h place : ℕ) (x : Stream) (out : List ℕ) : Type 0 where
  pub said : List Said
  pub is : x ≡ ended said
  pub small : stood pal (s + samples_in said) ≤ 2000000000
  pub clock : h ≤ stood pal s
  pub fits : place + length (tail_from pal s h said) ≡ whole
  pub room : whole ≤ length out
  pub bytes : sets out place (tail_from pal s h said) ≡ all

pub record Ending (pal : Bool) (p : Pen) (out : List ℕ) : Type 0 where
  pub samples : p.samples ≤ 53200000
  pub clock : p.clock ≤ stood pal p.samples
  pub room : p.place + length (tail_from pal p.samples p.clock []) ≤ length out

-- a stream that ends within the totals, and whose log the buffer holds
pub record Ready (pal : Bool) (x : Stream) (out : List ℕ) : Type 0 where
  pub said : List Said
  pub is : x ≡ ended said
  pub small : stood pal (samples_in said) ≤ 2000000000
  pub fits : length (text_of pal x) ≤ length out

-- the same behind the head
pub record Headed (pal : Bool) (x : Stream) (first : ℕ) (out : List ℕ) : Type 0 where
  pub said : List Said
  pub is : x ≡ ended said
  pub small : stood pal (samples_in said) ≤ 2000000000
  pub fits : first + length (tail_of pal x) ≤ length out
