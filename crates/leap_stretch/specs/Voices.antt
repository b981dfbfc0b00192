-- Between crates: squares and triangle by themselves, as the innermost loop keeps them; proved to be the same events (proofs/VoicesLaws).
use Rattle.std.specs.Prelude.{ℕ, min, Bool, List, [], ◌∷◌, ◌==◌}
use Rattle.arith.specs.Pick.{pick, either}
use Rattle.leap_square.specs.Lag.{square_renewed}
use Rattle.leap_triangle.specs.Lag.{triangle_renewed}
use Rattle.chip_triangle.specs.Triangle.{triangle_at}
use Rattle.chip_mixer.specs.Parts.{triangle_weight, others_weight}
use Rattle.leap_calm.specs.Level.{summed_by}
use Rattle.leap_stretch.specs.Lagged.{sum_of}
use Rattle.leap_square.specs.declared.lag.SquareLag.{SquareLag}
use Rattle.leap_stretch.specs.declared.Squares.{Squares}
use Rattle.leap_stretch.specs.declared.Voices.{Voices}
use Rattle.leap_stretch.specs.declared.Lags.{Lags}
use Rattle.leap_stretch.specs.declared.Others.{Others}

-- the table that the code looks the triangle's part in N up in, by its position
abbrev pub weight_table : List ℕ
weight_table =
    4156676370 ∷ 3879564612 ∷ 3602452854 ∷ 3325341096 ∷ 3048229338 ∷ 2771117580 ∷ 2494005822 ∷ 2216894064 ∷
    1939782306 ∷ 1662670548 ∷ 1385558790 ∷ 1108447032 ∷ 831335274 ∷ 554223516 ∷ 277111758 ∷ 0 ∷
    0 ∷ 277111758 ∷ 554223516 ∷ 831335274 ∷ 1108447032 ∷ 1385558790 ∷ 1662670548 ∷ 1939782306 ∷
    2216894064 ∷ 2494005822 ∷ 2771117580 ∷ 3048229338 ∷ 3325341096 ∷ 3602452854 ∷ 3879564612 ∷ 4156676370 ∷ []

unfoldable pub squares_at : SquareLag → SquareLag → Squares
squares_at a b = record { first = a; second = b; next = min a.next b.next }

unfoldable pub squares_turned : Squares → ℕ → Squares
squares_turned q e = squares_at (square_renewed q.first e) (square_renewed q.second e)

unfoldable pub voices_of : Lags → Voices
voices_of l = record { squares = squares_at l.square1 l.square2; triangle = l.triangle; now = l.now; next = l.soon }

-- looked at where `each`, else only where one of them is due
unfoldable pub squares_after : Squares → Bool → ℕ → Squares
squares_after q each e = pick (either each (q.next == e)) (squares_turned q e) q

-- their event at clock e, with the squares as they are then
unfoldable pub voices_to : Squares → Voices → ℕ → Voices
voices_to q v e =
    record { squares = q; triangle = triangle_renewed v.triangle e; now = e; next = min q.next (triangle_renewed v.triangle e).next }

unfoldable pub voices_after : Voices → Bool → ℕ → Voices
voices_after v each e = voices_to (squares_after v.squares each e) v e

-- the level, with the part of noise and DMC
unfoldable pub voices_level : Voices → ℕ → ℕ
voices_level v others =
    summed_by (sum_of v.squares.first.kept v.squares.second.kept) (triangle_weight (triangle_at v.triangle.position)) others

-- noise and DMC in the level: their part in N, what the noise gives, and whether the DMC gives 0
unfoldable pub others_of : Lags → Others
others_of l =
    record { weight = others_weight l.noise.out l.dmc.out; noise = l.noise.out; calm = (l.dmc.out == 0) }

-- the level with them
unfoldable pub level_by : Voices → Others → ℕ
level_by v o = voices_level v (pick o.calm (others_weight o.noise 0) o.weight)

-- the channels with squares and triangle as they are then
unfoldable pub lags_with : Lags → Voices → ℕ → Lags
lags_with l v level =
    record {
      square1 = v.squares.first;
      square2 = v.squares.second;
      triangle = v.triangle;
      noise = l.noise;
      dmc = l.dmc;
      now = v.now;
      soon = v.next;
      next = min v.next (min l.noise.next l.dmc.next);
      level = level;
    }
