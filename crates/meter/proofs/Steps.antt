-- One turn of the loops, and the levels of words by their places. Assumes nothing.
use Prim.Native.Nat.{ℕ, zero, suc, ◌+◌, ◌*◌, ◌/◌, ◌≤◌, ◌<◌, min, max}
use mathlib.Core.Path.{◌≡◌, refl, sym, ap, ◌∙◌}
use mathlib.Core.List.{List, [], ◌∷◌}
use native.Mathlib.Nat.{add-zero}
use native.Mathlib.Numerals.{add-one}
use native.Mathlib.Omega.{arith, min_cases}
use lib.ListN.{length, get_or, take, drop, length-take, length-drop, drop_of_length-le}
use lib.Seq.{drop-cons, take_all, take-length, get_or-take, get_or-drop}
use Rattle.meter.specs.Levels.{lowest, highest}
use Rattle.meter.specs.Records.{levels_in, record_levels}

module _ (l : List ℕ) (i : ℕ) where
  pub low_step : i < length l → (x : ℕ) → lowest (min x (get_or l i 0)) (drop (i + 1) l) ≡ lowest x (drop i l)
  unfolding lowest
  low_step h x = rw (drop-cons l i 0 h, add-one)

  pub high_step : i < length l → (x : ℕ) → highest (max x (get_or l i 0)) (drop (i + 1) l) ≡ highest x (drop i l)
  unfolding highest
  high_step h x = rw (drop-cons l i 0 h, add-one)

  pub low_over : length l ≤ i → (x : ℕ) → lowest x (drop i l) ≡ x
  unfolding lowest
  low_over h x = rw (drop_of_length-le l {i = i} h)

  pub high_over : length l ≤ i → (x : ℕ) → highest x (drop i l) ≡ x
  unfolding highest
  high_over h x = rw (drop_of_length-le l {i = i} h)

levels_length : (w : List ℕ) → length (levels_in w) ≡ length w / 2
unfolding levels_in
levels_length [] = refl
levels_length (c ∷ []) = refl
levels_length (c ∷ l ∷ w) = let h = levels_length w in omega arith

level_at : (w : List ℕ) (i : ℕ) → get_or (levels_in w) i 0 ≡ get_or w (2 * i + 1) 0
unfolding levels_in
level_at [] i = refl
level_at (c ∷ []) i = rw (add-one (2 * i))
level_at (c ∷ l ∷ w) zero = refl
level_at (c ∷ l ∷ w) (suc i) = let e : 2 * suc i + 1 ≡ suc (suc (2 * i + 1)) = omega arith in rw e (level_at w i)

take_there : (n : ℕ) (l : List ℕ) → take (min n (length l)) l ≡ take n l
take_there n l = min_cases n (length l) _ (λ h e. ap (λ (k : ℕ). take k l) e) (λ h e. ap (λ (k : ℕ). take k l) e ∙ take-length l ∙ sym (take_all n l h))

module _ (start count : ℕ) (w : List ℕ) where
  -- the records that are there, as a list that ends where the code's loop ends
  abbrev pub there : List ℕ
  there = take (min (start + count) (length w / 2)) (levels_in w)

  pub there_length : length there ≡ min (start + count) (length w / 2)
  there_length = rw length-take (let h = levels_length w in omega arith)

  there_at : (i : ℕ) → i < min (start + count) (length w / 2) → get_or there i 0 ≡ get_or w (2 * i + 1) 0
  there_at i h = get_or-take (min (start + count) (length w / 2)) (levels_in w) i 0 h ∙ level_at w i

  -- one turn over the records
  module _ (i : ℕ) (h : i < min (start + count) (length w / 2)) (x : ℕ) where
    pub there_low : lowest (min x (get_or w (2 * i + 1) 0)) (drop (i + 1) there) ≡ lowest x (drop i there)
    there_low = rw (← there_at i h) (low_step there i (rw there_length h) x)

    pub there_high : highest (max x (get_or w (2 * i + 1) 0)) (drop (i + 1) there) ≡ highest x (drop i there)
    there_high = rw (← there_at i h) (high_step there i (rw there_length h) x)

  pub there_is : drop start there ≡ record_levels start count w
  unfolding record_levels
  there_is = rw (← levels_length w, take_there)

  pub there_none : min (start + count) (length w / 2) ≤ start → record_levels start count w ≡ []
  there_none h = sym there_is ∙ drop_of_length-le there {i = start} (rw there_length h)

  module _ (h : start < min (start + count) (length w / 2)) where
    pub there_some : 0 < length (record_levels start count w)
    there_some = rw (← there_is, length-drop, there_length) (omega arith)

    pub there_first : get_or (record_levels start count w) 0 0 ≡ get_or w (2 * start + 1) 0
    there_first = rw (← there_is, get_or-drop, add-zero) (there_at start h)
