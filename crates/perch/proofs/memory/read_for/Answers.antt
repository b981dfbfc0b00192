use mathlib.Core.Path.{sym}
use native.Mathlib.Omega.{arith}
use Prim.Native.Nat.{ℕ, ◌≤◌}
use mathlib.Core.List.{List, ◌++◌}
use lib.ListN.{length, drop, length-append}
use Rattle.std.specs.Counts.{IsPrefixLen}
use lib.Seq.{length-take-le}
use Rattle.perch.proofs.memory.read_for.Goals as goal

-- so many bytes are there
counts : (n : ℕ) (l : List ℕ) → n ≤ length l → IsPrefixLen n l
counts n l h = (h, sym (length-take-le n l h))

pub slice_bounds-of_blocks-end-2 : goal.slice_bounds-of_blocks-end-2
slice_bounds-of_blocks-end-2 c = sym (length-take-le 32768 c.args.memory.now (omega (arith, c.requires)))

pub returns-then-of_blocks-gt0 : goal.returns-then-of_blocks-gt0
returns-then-of_blocks-gt0 c =
    let m = c.args.memory.now in
    let went = c.of_blocks in
    let front = length-take-le 32768 m (omega (arith, c.requires)) in
    counts 32768 (went.new.memory ++ drop 32768 m) (rw length-append (omega (arith, went.auto.memory, front)))
