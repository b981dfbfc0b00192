-- How long lines are, and lines one behind the other. Assumes nothing.
use Prim.Native.Nat.{ℕ, zero, suc, ◌+◌, ◌/◌, ◌%◌, ◌^◌, ◌≤◌, ◌<◌}
use mathlib.Core.Path.{◌≡◌, refl, sym, ap, ◌∙◌}
use mathlib.Core.Bool.{Bool, true, false}
use mathlib.Core.List.{List, [], ◌∷◌, ◌++◌, append_assoc, append-nil}
use native.Mathlib.Nat.{pow-suc}
use native.Mathlib.Omega.{arith}
use lib.Dec.{ltb}
use lib.ListN.{length, take, drop, length-append}
use lib.Seq.{sets, sets-eq, take_at}
use borrow.Author.Tests.{ltb-false}
use Rattle.arith.specs.Pick.{pick}
use Rattle.text.specs.Decimal.{digits_of, decimal_text}
use Rattle.text.specs.Hex.{hex_text}
use Rattle.play_text.specs.declared.Entry.{Entry}
use Rattle.play_text.specs.declared.Entry.TheVariants.{Play, Level, Read, Stop}
use Rattle.play_text.specs.Entries.{entry_text, entries_text, refusal_text}

-- no more digits than places
pub digits_few : (k n : ℕ) → length (digits_of k n) ≤ k
unfolding digits_of
digits_few zero n = omega arith
digits_few (suc k) n = by (ltb n 10) (digits_few k (n / 10))
  where
    by : (t : Bool) → length (digits_of k (n / 10)) ≤ k → length (pick t ((48 + n) ∷ []) (digits_of k (n / 10) ++ ((48 + n % 10) ∷ []))) ≤ suc k
    by true h = omega arith
    by false h = rw length-append (omega arith)

-- and no more than the number has
digits_low : (j k n : ℕ) → n < 10 ^ suc k → length (digits_of j n) ≤ suc k
unfolding digits_of
digits_low zero k n h = omega arith
digits_low (suc j) k n h = by (ltb n 10) refl k h (λ i e. digits_low j i (n / 10) e)
  where
    by : (t : Bool) → ltb n 10 ≡ t → (k : ℕ) → n < 10 ^ suc k → ((i : ℕ) → n / 10 < 10 ^ suc i → length (digits_of j (n / 10)) ≤ suc i)
        → length (pick t ((48 + n) ∷ []) (digits_of j (n / 10) ++ ((48 + n % 10) ∷ []))) ≤ suc k
    by true e k h r = omega arith
    by false e zero h r =
        let l : 10 ≤ n = ltb-false n 10 e in
        let u : n < 10 = h in
        absurd (omega arith)
    by false e (suc i) h r =
        let q : n / 10 < 10 ^ suc i = omega (arith, pow-suc 10 (suc i)) in
        let s = r i q in
        rw length-append (omega arith)

pub decimal_ten : (n : ℕ) → length (decimal_text n) ≤ 10
unfolding decimal_text
decimal_ten n = digits_few 10 n

decimal_five : (n : ℕ) → n ≤ 65535 → length (decimal_text n) ≤ 5
unfolding decimal_text
decimal_five n h = let q : n < 10 ^ 5 = (let u : n < 100000 = omega arith in u) in digits_low 10 4 n q

pub decimal_three : (n : ℕ) → n ≤ 255 → length (decimal_text n) ≤ 3
unfolding decimal_text
decimal_three n h = let q : n < 10 ^ 3 = (let u : n < 1000 = omega arith in u) in digits_low 10 2 n q

hex_two : (v : ℕ) → length (hex_text 2 v) ≡ 2
unfolding hex_text
hex_two v = refl

-- a level line has eight bytes or more
pub level_long : (t l : ℕ) → 8 ≤ length (entry_text (Level t l))
unfolding entry_text
level_long t l = simp length-append (omega arith)

-- each line has a byte, and 23 hold it
pub level_size : (t l : ℕ) → l ≤ 65535 → length (entry_text (Level t l)) ≤ 23
unfolding entry_text
level_size t l h = simp length-append (omega (arith, decimal_ten t, decimal_five l h))

pub read_size : (t v : ℕ) → length (entry_text (Read t v)) ≤ 23
unfolding entry_text
read_size t v = simp length-append (omega (arith, decimal_ten t, hex_two v))

pub stop_size : (t : ℕ) → length (entry_text (Stop t)) ≤ 23
unfolding entry_text
stop_size t = simp length-append (omega (arith, decimal_ten t))

pub play_size : length (entry_text Play) ≤ 23
unfolding entry_text
play_size = omega arith

entry_some : (n : Entry) → 0 < length (entry_text n)
unfolding entry_text
entry_some Play = omega arith
entry_some (Level t l) = omega arith
entry_some (Read t v) = omega arith
entry_some (Stop t) = omega arith

-- lines behind lines
pub entries_append : (a b : List Entry) → entries_text (a ++ b) ≡ entries_text a ++ entries_text b
unfolding entries_text
entries_append [] b = refl
entries_append (n ∷ a) b = rw append_assoc (ap (λ (l : List ℕ). entry_text n ++ l) (entries_append a b))

pub entries_none : entries_text [] ≡ []
unfolding entries_text
entries_none = refl

pub entries_one : (n : Entry) → entries_text (n ∷ []) ≡ entry_text n
unfolding entries_text
entries_one n = append-nil (entry_text n)

pub entries_more : (n : Entry) (l : List Entry) → entries_text (n ∷ l) ≡ entry_text n ++ entries_text l
unfolding entries_text
entries_more n l = refl

pub entries_empty : (l : List Entry) → length (entries_text l) ≡ 0 → l ≡ []
unfolding entries_text
entries_empty [] e = refl
entries_empty (n ∷ l) e = absurd (omega (arith, entry_some n, simp length-append at e))

-- the lines of a refusal
pub refusal_size : (number place : ℕ) → number ≤ 255 → length (refusal_text number place) ≤ 40
unfolding refusal_text
refusal_size number place h = simp length-append (omega (arith, decimal_three number h, decimal_ten place))

pub refusal_taken : (l : List ℕ) (number place n : ℕ) → n ≡ length (refusal_text number place) → n ≤ length l → take n (sets l 0 (refusal_text number place)) ≡ refusal_text number place
refusal_taken l number place n e h =
    let t = refusal_text number place in
    let fits : 0 + length t ≤ length l = omega arith in
    ap (take n) (sets-eq t l 0 fits) ∙ take_at t (drop (0 + length t) l) n (sym e)
