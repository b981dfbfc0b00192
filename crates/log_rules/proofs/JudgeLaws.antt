-- The judgement line by line is what the reading by blocks finds. Assumes nothing.
use Rattle.std.specs.Prelude.{Result, Ok, Err}
use mathlib.Core.Path.{◌≡◌, refl, ap, ◌∙◌}
use mathlib.Core.List.{List, [], ◌∷◌}
use mathlib.Core.Bool.{Bool, true, false}
use Prim.Native.Nat.{ℕ, zero, suc, ◌+◌, ◌-◌, ◌≤◌, ◌<◌}
use native.Mathlib.Omega.{arith}
use borrow.Author.Tests.{eq-eqb, ltb-true, ltb-false, ne_eqb}
use lib.ListN.{length, take, drop, length-drop, drop_of_length-le}
use lib.Seq.{drop-drop}
use lib.Dec.{eqb, ltb}
use Rattle.refusal.specs.declared.Refusal.{Refusal}
use Rattle.arith.specs.Pick.{pick}
use Rattle.log_line.specs.declared.Line.{Line}
use Rattle.log_line.specs.declared.Line.TheVariants.{Machine, One, Loop, Done, Stop}
use Rattle.log_line.specs.Said.{line_of}
use Rattle.log_rules.specs.Lines.{onto, lines_of, line_len, bytes_at, next_line}
use Rattle.log_rules.specs.Reading.{is_second, standing, read_in, taken}
use Rattle.log_rules.specs.Judge.{Verdict, wrong, Stand, second, among, over, found_at, verdict, leaves, behind, ending, unless, judge}
use Rattle.log_rules.specs.Tree.{Tree, act, loop}
use Rattle.log_rules.specs.Block.{whole, bad, Got, closed, stopped, refused, Begun, begun, begun_by, read_begun, looped, piece, before, onward, read_block, read_part}
use Rattle.log_rules.proofs.PlaceLaws.{bytes_long, read_some, read_none, standing_on}
use Rattle.log_fault.specs.declared.Stand.{Stand as Standing}
use Rattle.log_fault.specs.declared.Stand.TheVariants.{Among}
use Rattle.log_fault.specs.Fault.{spot_of}
use Rattle.log_fault.proofs.Standing.{Goes, act as acts-on, opens as opened-on, closes as closes-on, ends as ends_on, Lets, pal, turn, lets, second_only, told}
use Rattle.log_rules.proofs.Descent.{unrolled, begun_on, got_behind, BegunBehind, Behind}

-- THE LINES FROM A PLACE ON

-- the first line of a text, and the lines behind it
first_line : (s : List ℕ) → 0 < length s → lines_of s ≡ take (line_len s) s ∷ lines_of (drop (line_len s) s)
unfolding lines_of line_len onto
first_line [] h = absurd (omega arith)
first_line (c ∷ []) h = go (eqb c 10)
  where
    go : (b : Bool) → pick b ((c ∷ []) ∷ []) ((c ∷ []) ∷ []) ≡ take (pick b 1 1) (c ∷ []) ∷ lines_of (drop (pick b 1 1) (c ∷ []))
    go true = refl
    go false = refl
first_line (c ∷ a ∷ s) h = go (eqb c 10) (first_line (a ∷ s) (omega arith))
  where
    go : (b : Bool) → lines_of (a ∷ s) ≡ take (line_len (a ∷ s)) (a ∷ s) ∷ lines_of (drop (line_len (a ∷ s)) (a ∷ s))
        → pick b ((c ∷ []) ∷ lines_of (a ∷ s)) (onto c (lines_of (a ∷ s)))
        ≡ take (pick b 1 (suc (line_len (a ∷ s)))) (c ∷ a ∷ s) ∷ lines_of (drop (pick b 1 (suc (line_len (a ∷ s)))) (c ∷ a ∷ s))
    go true e = refl
    go false e = ap (onto c) e

-- the lines from a place on
abbrev pub lines_from : List ℕ → ℕ → List (List ℕ)
lines_from log at = lines_of (drop at log)

-- what the judgement says from a place on
abbrev pub judge_at : List ℕ → Stand → ℕ → Verdict
judge_at log s at = judge s at (lines_from log at)

module _ (log : List ℕ) (at : ℕ) where
  pub lines_at : at < length log → lines_from log at ≡ bytes_at log at ∷ lines_from log (next_line log at)
  unfolding next_line bytes_at
  lines_at h = first_line (drop at log) (rw length-drop (omega arith)) ∙ ap (λ (r : List ℕ). take (line_len (drop at log)) (drop at log) ∷ lines_of r) (drop-drop (line_len (drop at log)) at log)

  lines_none : length log ≤ at → lines_from log at ≡ []
  unfolding lines_of
  lines_none h = rw (drop_of_length-le log h)

  -- one line of the judgement
  pub judge_at_lem : (s : Stand) → at < length log
      → judge_at log s at ≡ unless (verdict s at (bytes_at log at)) (judge_at log (behind s (bytes_at log at)) (next_line log at))
  unfolding judge
  judge_at_lem s h = rw (lines_at h, bytes_long log at)

  pub judge_none : (s : Stand) → length log ≤ at → judge_at log s at ≡ ending s at
  unfolding judge
  judge_none s h = rw (lines_none h)

-- WHAT IS FOUND BEHIND A BLOCK

-- what is found where the block read at depth d came out so: a block that is closed is gone on behind with one loop fewer open
unfoldable pub after : List ℕ → ℕ → Got → Verdict
after log d (closed t p q) = judge_at log (among (d - 1)) q
after log d (stopped t p q n) = pick (eqb d 0) (judge_at log over q) (wrong 8 p)
after log d (refused k p) = wrong k p

after_before : (log : List ℕ) (d : ℕ) (f : Tree → Tree) (g : Got) → after log d g ≡ after log d (before f g)
unfolding after before
after_before log d f (closed t p q) = refl
after_before log d f (stopped t p q n) = refl
after_before log d f (refused k p) = refl

module _ (log : List ℕ) (short : length log ≤ 60000) (at d : ℕ) where
  Onward : Begun → Verdict
  Onward s = after log d (onward (λ p. read_block log p d) (piece (read_block log) d s))

  body_told : (n : ℕ) (g : Got) → at < next_line log at → Behind (next_line log at) (length log) g
      → ((p : ℕ) → at < p → p ≤ length log → judge_at log (among d) p ≡ after log d (read_block log p d))
      → after log (d + 1) g ≡ after log d (onward (λ p. read_block log p d) (looped n g))
  unfolding after looped onward
  body_told n (closed b p q) a h rec =
      let e : d + 1 - 1 ≡ d = omega arith in
      rw e (rec q (omega arith) h.2 ∙ after_before log d (loop n b) (read_block log q d))
  body_told n (stopped b p q m) a h rec =
      rw (ne_eqb (d + 1) 0 (λ z. omega arith))
  body_told n (refused k p) a h rec = refl

  line_told : (l : Line) → Goes d l → BegunBehind at (length log) d (begun at (next_line log at) l)
      → ((p e : ℕ) → at < p → p ≤ length log → judge_at log (among e) p ≡ after log e (read_block log p e))
      → judge_at log (leaves d l) (next_line log at) ≡ Onward (begun at (next_line log at) l)
  unfolding Onward leaves begun piece onward after
  line_told (One a) acts-on b rec = rec (next_line log at) d b.0 b.1 ∙ after_before log d (act a) (read_block log (next_line log at) d)
  line_told (Loop n) (opened-on k) b rec =
      rec (next_line log at) (d + 1) b.0 b.1 ∙ body_told n (read_block log (next_line log at) (d + 1)) b.0 (got_behind log (next_line log at) (d + 1)) (λ p i j. rec p d i j)
  line_told Done (closes-on k) b rec = refl
  line_told (Stop n) (ends_on k) b rec = rw (eq-eqb d 0 k)
  line_told Rattle.log_line.specs.declared.Line.TheVariants.Header x3 b rec = elim x3 [ ]
  line_told Machine x4 b rec = elim x4 [ ]
  line_told Rattle.log_line.specs.declared.Line.TheVariants.NoForm x5 b rec = elim x5 [ ]
  line_told Rattle.log_line.specs.declared.Line.TheVariants.NoRegister x6 b rec = elim x6 [ ]

-- ONE LINE, JUDGED AND READ

-- how a line stands that begins at `at`, is the second line or isn't, and has d loops open: by the judgement
record Stood (log : List ℕ) (at d : ℕ) (m : Bool) (s : Stand) : Type 0 where
  place : is_second log at ≡ m
  now : verdict s at (bytes_at log at) ≡ found_at at (spot_of (Among m d) (bytes_at log at))
  then : behind s (bytes_at log at) ≡ leaves d (line_of (bytes_at log at))
  last : ending s at ≡ wrong 18 at
  turns : spot_of (Among m d) (bytes_at log at) ≡ Ok Machine → ⊥

among_stood : (log : List ℕ) (at d : ℕ) → 6 < at → Stood log at d false (among d)
unfolding is_second verdict behind ending
among_stood log at d h = record { place = rw (ne_eqb at 6 (λ q. omega arith)); now = refl; then = refl; last = refl; turns = second_only d (bytes_at log at) }

second_stood : (log : List ℕ) → is_second log 6 ≡ true → (spot_of (Among true 0) (bytes_at log 6) ≡ Ok Machine → ⊥) → Stood log 6 0 true second
unfolding verdict behind ending
second_stood log i h = record { place = i; now = refl; then = refl; last = refl; turns = h }

module _ (log : List ℕ) (short : length log ≤ 60000) (at d : ℕ) (m : Bool) (s : Stand) (stood : Stood log at d m s) (z : 0 < at) where
  line_goes : (l : Line) → spot_of (Among m d) (bytes_at log at) ≡ Ok l → Goes d l
  line_goes l e = go l (lets m d (bytes_at log at) l e) e
    where
      go : (l : Line) → Lets m d l → spot_of (Among m d) (bytes_at log at) ≡ Ok l → Goes d l
      go l (pal h) e = absurd (stood.turns e)
      go l (turn g) e = g

  -- what is found of the line at `at`
  found_told : (f : Result Line Refusal) → spot_of (Among m d) (bytes_at log at) ≡ f → BegunBehind at (length log) d (begun_by at (taken at (next_line log at) f))
      → ((p e : ℕ) → at < p → p ≤ length log → judge_at log (among e) p ≡ after log e (read_block log p e))
      → unless (found_at at f) (judge_at log (leaves d (line_of (bytes_at log at))) (next_line log at)) ≡ Onward log short at d (begun_by at (taken at (next_line log at) f))
  unfolding found_at unless begun_by Onward piece onward after
  found_told (Ok l) e b rec =
      rw (told (Among m d) (bytes_at log at) l e).says (line_told log short at d l (line_goes l e) b rec)
  found_told (Err why) e b rec = wrong_told why.number (at + why.place)
    where
      wrong_told : (k p : ℕ) → wrong k p ≡ Onward log short at d (whole (bad k p))
      wrong_told k p = refl

  -- reading at `at` begins what is found of the line there
  begun_at : at < length log → read_begun log at d ≡ begun_by at (taken at (next_line log at) (spot_of (Among m d) (bytes_at log at)))
  unfolding read_begun
  begun_at h =
      ap (λ (st : Standing). begun_by at (read_in st log at)) (standing_on log at d z ∙ ap (λ (b : Bool). Among b d) stood.place)
      ∙ ap (begun_by at) (read_some (Among m d) log at short h)

  -- at the log's end there is none
  none_told : at ≤ length log → length log ≤ at → judge_at log s at ≡ Onward log short at d (read_begun log at d)
  unfolding Onward read_begun begun_by piece onward after
  none_told h w = rw (read_none (standing log at d) log at short w) (judge_none log at s w ∙ (stood.last ∙ ap (wrong 18) (omega arith)))

  some_told : at < length log → ((p e : ℕ) → at < p → p ≤ length log → judge_at log (among e) p ≡ after log e (read_block log p e))
      → judge_at log s at ≡ Onward log short at d (read_begun log at d)
  some_told w rec =
      let b = begun_at w in
      rw b (judge_at_lem log at s w ∙ rw (stood.now, stood.then) (found_told (spot_of (Among m d) (bytes_at log at)) refl (rw b at (begun_on log at d)) rec))

  at_told : at ≤ length log → ((p e : ℕ) → at < p → p ≤ length log → judge_at log (among e) p ≡ after log e (read_block log p e))
      → judge_at log s at ≡ Onward log short at d (read_begun log at d)
  at_told h rec = go (ltb at (length log)) refl
    where
      go : (b : Bool) → ltb at (length log) ≡ b → judge_at log s at ≡ Onward log short at d (read_begun log at d)
      go true e = some_told (ltb-true at (length log) e) rec
      go false e = none_told h (ltb-false at (length log) e)

  told_step : at ≤ length log → ((p e : ℕ) → at < p → p ≤ length log → judge_at log (among e) p ≡ after log e (read_block log p e))
      → judge_at log s at ≡ after log d (read_block log at d)
  unfolding read_part Onward
  told_step h rec = rw (unrolled log at d) (at_told h rec)

-- ALL LINES FROM A PLACE ON
bridge_in : (f : ℕ) (log : List ℕ) (at d : ℕ) → length log ≤ 60000 → 6 < at → at ≤ length log → length log ≤ at + f → judge_at log (among d) at ≡ after log d (read_block log at d)
bridge_in zero log at d s z h k = told_step log s at d false (among d) (among_stood log at d z) (omega arith) h (λ p e i j. absurd (omega arith))
bridge_in (suc f) log at d s z h k =
    told_step log s at d false (among d) (among_stood log at d z) (omega arith) h (λ p e i j. bridge_in f log p e s (omega arith) j (omega arith))

-- the lines from a place on behind the second line, judged one by one, come to what the block read there does
pub bridge : (log : List ℕ) (at d : ℕ) → length log ≤ 60000 → 6 < at → at ≤ length log → judge_at log (among d) at ≡ after log d (read_block log at d)
bridge log at d s z h = bridge_in (length log) log at d s z h (omega arith)

-- and so do those from the second line on, where that is not `machine=pal`
pub bridge_second : (log : List ℕ) → length log ≤ 60000 → 6 ≤ length log → is_second log 6 ≡ true → (spot_of (Among true 0) (bytes_at log 6) ≡ Ok Machine → ⊥)
    → judge_at log second 6 ≡ after log 0 (read_block log 6 0)
bridge_second log s h i k =
    told_step log s 6 0 true second (second_stood log i k) (omega arith) h (λ p e a b. bridge log p e s a b)
