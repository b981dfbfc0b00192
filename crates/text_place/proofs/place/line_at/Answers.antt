-- What the calls ensure, put together, is `line_parts`; the sum and the difference fit by `parts_long`, `rest_low` and `front_low`. Assumes nothing.
use Prim.Native.Nat.{ℕ}
use mathlib.Core.Path.{ap, ◌∙◌}
use mathlib.Core.List.{List}
use native.Mathlib.Omega.{arith}
use lib.ListN.{length, drop}
use Rattle.text_place.specs.Place.{line_rest}
use Rattle.text_place.proofs.Fronts.{front_low, rest_low, parts_long, line_parts}
use Rattle.text_place.proofs.place.line_at.Goals as goal

pub overflow_add-s : goal.overflow_add-s
overflow_add-s c =
    let a = c.args in
    let log = c.args.log.now in
    let s = ap length c.first-s.ensures in
    let r = c.rest_length-rest.ensures ∙ ap (λ (x : List ℕ). length (line_rest x)) c.behind.ensures in
    omega (arith, s, r, rest_low (drop a.place log), parts_long log a.place)

pub overflow_sub-s : goal.overflow_sub-s
overflow_sub-s c =
    omega (arith, c.front_length.ensures, front_low c.first-s.result.now)

pub returns : goal.returns
returns c =
    let a = c.args in
    c.behind-2.ensures
    ∙ (rw (c.first-line.ensures, c.rest_length-rest.ensures, c.behind.ensures, c.front_length.ensures, c.first-s.ensures)
    (line_parts a.log.now a.place))
