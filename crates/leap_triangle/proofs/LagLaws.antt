-- The triangle as a stretch keeps it, at its next change: it is what is kept of the triangle turned. Assumes nothing.
use Prim.Native.Nat.{ℕ, ◌+◌, ◌%◌}
use mathlib.Core.Path.{◌≡◌, refl}
use Rattle.leap_triangle.specs.Leap.{triangle_still, triangle_beat_turned}
use Rattle.leap_triangle.specs.Lag.{triangle_lag}
use Rattle.leap_triangle.specs.declared.Beat.{Beat}
use Rattle.leap_triangle.specs.declared.lag.TriangleLag.{TriangleLag}

pub moved : (on : ℕ) (b : Beat) (at e : ℕ) (l : TriangleLag) → l ≡ triangle_lag on b at
    → record { next = e + l.still + 1; position = (l.position + 1) % 32; still = l.still } ≡ triangle_lag on (triangle_beat_turned b) e
unfolding triangle_lag triangle_still triangle_beat_turned
moved on b at e l q = rw q refl
