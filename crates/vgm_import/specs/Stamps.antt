-- "stands for exactly those accesses at those clocks": the accesses of a log and of a stream, each with its clock.
use Rattle.std.specs.Prelude.{ℕ, ◌+◌, ◌≡◌, List, [], ◌∷◌, Bool}
use Rattle.bus.specs.declared.Access.{Access as Accessed}
use Rattle.bus.specs.declared.Access.TheVariants.{Write as Written}
use Rattle.log_line.specs.declared.Act.{Act}
use Rattle.log_line.specs.declared.Act.TheVariants.{Wait as Waited, Access}
use Rattle.vgm_stream.specs.declared.Said.{Said}
use Rattle.vgm_stream.specs.declared.Said.TheVariants.{Wait, Write}
use Rattle.log_rules.specs.Head.{machine_of}
use Rattle.log_rules.specs.Tree.{acts, clocks}
use Rattle.log_rules.specs.Whole.{tree_of, check_of}
use Rattle.vgm_stream.specs.Stream.{ended, stream_of}
use Rattle.vgm_measure.specs.Import.{stood, samples_in}

-- an access at a clock
pub data Stamped : Type 0 where
  at : ℕ → Accessed → Stamped

-- the accesses of a list of acts, each at its clock, where the list begins at the clock t
unfoldable pub stamped : ℕ → List Act → List Stamped
stamped t [] = []
stamped t (Waited n ∷ l) = stamped (t + n) l
stamped t (Access x ∷ l) = at t x ∷ stamped t l

-- the writes of a stream, each at its clock, from s samples on: "After S samples the import stands at floor(S x 1789773 / 44100) clocks"
unfoldable pub writes_from : Bool → ℕ → List Said → List Stamped
writes_from pal s [] = []
writes_from pal s (Wait n ∷ l) = writes_from pal (s + n) l
writes_from pal s (Write r v ∷ l) = at (stood pal s) (Written r v) ∷ writes_from pal s l

-- "It writes an NTSC log .. that passes our check and stands for exactly those accesses at those clocks"; of a PAL file a PAL log
pub record Stands (pal : Bool) (stream log : List ℕ) : Type 0 where
  pub said : List Said
  pub is : stream_of stream ≡ ended said
  pub passes : (check_of log).number ≡ 0
  pub machine : machine_of log ≡ pal
  pub accesses : stamped 0 (acts (tree_of log)) ≡ writes_from pal 0 said
  pub end : clocks (tree_of log) ≡ stood pal (samples_in said)
