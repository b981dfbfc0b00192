-- Squares and triangle by themselves: their events are the channels' events. Assumes nothing.
use Rattle.std.proofs.Common.{◌≡◌, ℕ, ◌%◌, ◌<◌, ◌≤◌, min, Bool, true, false, T, eqb, get_or, sym, refl, ap, ◌∙◌, arith, eqb→eq, eqb-true}
use borrow.Author.Tests.{eqb-false}
use Rattle.arith.specs.Pick.{pick}
use Rattle.arith.specs.Table.{every}
use Rattle.arith.proofs.TableLaws.{at}
use Rattle.chip_mixer.specs.Parts.{triangle_weight, others_weight}
use Rattle.chip_triangle.specs.Triangle.{triangle_at}
use Rattle.leap_square.proofs.LagLaws.{renewed_waits}
use Rattle.leap_stretch.proofs.LaggedLaws.{sooner_most}
use Rattle.leap_stretch.specs.Lagged.{lags_at, voices_renewed}
use Rattle.leap_stretch.specs.Voices.{weight_table, squares_at, squares_turned, squares_after, voices_of, voices_to, voices_after, voices_level, others_of, level_by, lags_with}
use Rattle.leap_stretch.specs.declared.Squares.{Squares}
use Rattle.leap_stretch.specs.declared.Voices.{Voices}
use Rattle.leap_stretch.specs.declared.Lags.{Lags}

-- an entry is the part of its position
abbrev right : ℕ → ℕ → Bool
right p w = eqb w (triangle_weight (triangle_at p))

test : T (every right 0 weight_table)
unfolding triangle_weight triangle_at
test = tt

entry_is : (p : ℕ) → p ≤ 31 → get_or weight_table p 0 ≡ triangle_weight (triangle_at p)
entry_is p h = eqb→eq (get_or weight_table p 0) (triangle_weight (triangle_at p)) (at right weight_table test p (omega arith))

same_position : (p : ℕ) → triangle_at (p % 32) ≡ triangle_at p
unfolding triangle_at
same_position p = let z : p % 32 % 32 ≡ p % 32 = omega arith in rw z refl

-- EVERY ENTRY IS THE TRIANGLE'S PART
pub weight_is : (p : ℕ) → get_or weight_table (p % 32) 0 ≡ triangle_weight (triangle_at p)
weight_is p = entry_is (p % 32) (omega arith) ∙ ap triangle_weight (same_position p)

-- THE LEVEL BY THE TABLE IS THE LEVEL
pub level_by_is : (v : Voices) (l : Lags) → level_by v (others_of l) ≡ voices_level v (others_weight l.noise.out l.dmc.out)
unfolding level_by others_of
level_by_is v l = ap (voices_level v) (go (eqb l.dmc.out 0) refl)
  where
    go : (t : Bool) → eqb l.dmc.out 0 ≡ t
        → pick t (others_weight l.noise.out 0) (others_weight l.noise.out l.dmc.out) ≡ others_weight l.noise.out l.dmc.out
    go true e = ap (others_weight l.noise.out) (sym (eqb-true _ _ e))
    go false e = refl

-- before any event of theirs
pub voices_start : (l : Lags) → l.next ≡ min l.soon (min l.noise.next l.dmc.next) → lags_with l (voices_of l) l.level ≡ l
unfolding lags_with voices_of squares_at
voices_start l q =
    ap (λ (n : ℕ). record {
      square1 = l.square1;
      square2 = l.square2;
      triangle = l.triangle;
      noise = l.noise;
      dmc = l.dmc;
      now = l.now;
      soon = l.soon;
      next = n;
      level = l.level;
    }) (sym q)

-- squares that aren't due stay
module _ (q : Squares) (w : q.next ≡ min q.first.next q.second.next) (e : ℕ) where
  turned_waits : e < q.next → squares_turned q e ≡ q
  unfolding squares_turned squares_at
  turned_waits h =
      let m = sooner_most q.first.next q.second.next in
      let x : q.first.next ≡ e → ⊥ = λ z. omega (arith, m) in
      let y : q.second.next ≡ e → ⊥ = λ z. omega (arith, m) in
      rw (renewed_waits q.first e x, renewed_waits q.second e y)
      (ap (λ (n : ℕ). record { first = q.first; second = q.second; next = n }) (sym w))

  -- whether they are looked at or not
  pub squares_after_lem : (each : Bool) → e ≤ q.next → squares_after q each e ≡ squares_turned q e
  unfolding squares_after
  squares_after_lem true h = refl
  squares_after_lem false h = go (eqb q.next e) refl
    where
      go : (t : Bool) → eqb q.next e ≡ t → pick t (squares_turned q e) q ≡ squares_turned q e
      go true z = refl
      go false z = let ne : q.next ≡ e → ⊥ = eqb-false q.next e z in sym (turned_waits (omega arith))

-- their next event is their squares' or their triangle's
pub record Sound (v : Voices) : Type 0 where
  pub squares : v.squares.next ≡ min v.squares.first.next v.squares.second.next
  pub next : v.next ≤ v.squares.next

pub sound_start : (l : Lags) → l.soon ≡ min (min l.square1.next l.square2.next) l.triangle.next → Sound (voices_of l)
unfolding voices_of squares_at
sound_start l q =
    record { squares = refl; next = rw q (sooner_most (min l.square1.next l.square2.next) l.triangle.next).0 }

module _ (v : Voices) (s : Sound v) (each : Bool) where
  voices_after_lem : voices_after v each v.next ≡ voices_to (squares_turned v.squares v.next) v v.next
  unfolding voices_after
  voices_after_lem = ap (λ (q : Squares). voices_to q v v.next) (squares_after_lem v.squares s.squares v.next each s.next)

  turned_sound : Sound (voices_to (squares_turned v.squares v.next) v v.next)
  unfolding voices_to squares_turned squares_at
  turned_sound = record { squares = refl; next = (sooner_most _ _).0 }

  pub sound_after : Sound (voices_after v each v.next)
  sound_after = rw voices_after_lem turned_sound

  turned_event : (l : Lags) (level : ℕ)
      → lags_with l (voices_to (squares_turned v.squares v.next) v v.next)
      (voices_level (voices_to (squares_turned v.squares v.next) v v.next) (others_weight l.noise.out l.dmc.out))
      ≡ voices_renewed (lags_with l v level) v.next
  unfolding lags_with voices_to voices_level squares_turned squares_at voices_renewed lags_at
  turned_event l level = refl

  -- AN EVENT OF THEIRS
  pub event_of_voices : (l : Lags) (level : ℕ)
      → lags_with l (voices_after v each v.next) (voices_level (voices_after v each v.next) (others_weight l.noise.out l.dmc.out))
      ≡ voices_renewed (lags_with l v level) v.next
  event_of_voices l level = rw voices_after_lem (turned_event l level)
