-- Between crates: what is kept of the triangle in a stretch; that it is the triangle at each clock is proved (leap_stretch/proofs/TriangleLaws).
-- The triangle as a stretch between two frame steps keeps it: its next possible change, its position up to then, and for how many clocks it
-- surely gives the same behind each change. `on` is 1 where its counters let it advance, else 0.
use Rattle.std.specs.Prelude.{ℕ, ◌+◌, ◌%◌, eqb}
use Rattle.arith.specs.Pick.{pick}
use Rattle.leap_triangle.specs.Leap.{triangle_still, triangle_beat_turned}
use Rattle.leap_triangle.specs.declared.Beat.{Beat}
use Rattle.leap_triangle.specs.declared.lag.TriangleLag.{TriangleLag}

-- kept from clock `at` of the stretch on, where it is b
unfoldable pub triangle_lag : ℕ → Beat → ℕ → TriangleLag
triangle_lag on b at =
    record { next = at + triangle_still on b + 1; position = b.position; still = triangle_still on (triangle_beat_turned b) }

-- at clock e: a position on, where that is its next change
unfoldable pub triangle_renewed : TriangleLag → ℕ → TriangleLag
triangle_renewed l e =
    pick (eqb l.next e) (record { next = e + l.still + 1; position = (l.position + 1) % 32; still = l.still }) l
