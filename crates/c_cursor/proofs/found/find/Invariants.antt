-- The loop's invariant: from where the cursor is, the steps that are left find what was asked for.
use Rattle.std.proofs.Common.{◌≡◌, ◌-◌}
use Rattle.log_cursor.specs.Stepping.{stepped_of, step_of}
use Rattle.c_cursor.specs.Next.{next_in, next_of}
use Rattle.c_cursor.proofs.found.find.Given as goal

abbrev pub invariant-loop : goal.invariant-loop
invariant-loop l = next_of l.log l.initial.c ≡ stepped_of (next_in (step_of l.log) (2000002 - l.counter) l.c)
