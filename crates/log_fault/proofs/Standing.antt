-- What the judgement of a whole log needs of one line's answer. Assumes nothing.
use Rattle.std.specs.Prelude.{Ok, Err}
use mathlib.Core.Path.{◌≡◌, refl, ap, sym, ◌∙◌}
use mathlib.Core.List.{List}
use mathlib.Core.Bool.{Bool, true, false, false≢true}
use Prim.Native.Nat.{ℕ, ◌≤◌, ◌<◌}
use native.Mathlib.Omega.{arith}
use borrow.Author.Tests.{ltb-true, eqb-true, lt-ltb, eq-eqb}
use lib.ListN.{length}
use Rattle.refusal.specs.Refusal.{refusal, number_of, place_of}
use Rattle.log_line.specs.declared.Act.{Act}
use Rattle.log_line.specs.declared.Line.{Line}
use Rattle.log_line.specs.declared.Line.TheVariants.{Header, Machine, One, Loop, Done, Stop, NoForm, NoRegister}
use Rattle.log_line.specs.Said.{line_of}
use Rattle.log_fault.specs.declared.Stand.{Stand}
use Rattle.log_fault.specs.declared.Stand.TheVariants.{First, Among, Alone}
use Rattle.log_fault.specs.declared.Whole.TheVariants.{Start}
use Rattle.log_begins.specs.Begins.{begins}
use Rattle.log_fault.specs.Allowed.{keys_of}
use Rattle.log_fault.specs.Fault.{spotted, spot_of}
use Rattle.log_begins.specs.Fronts.{allowed}
use Rattle.log_form.proofs.ReachLaws.{reach_length}
use Rattle.log_fault.proofs.RangeLaws.{far_enough}
use Rattle.log_fault.proofs.FaultLaws.{zero_one, Came, fine, start, feed, key, range, shape, came, fair, may_fine, Starts, starts, by_four, by_seven, by_done, by_stop}

-- A LINE THAT IS RIGHT SAYS SO, AND IS RIGHT WHEREVER IT IS ALLOWED

pub record Told (st : Stand) (s : List ℕ) (l : Line) : Type 0 where
  pub says : line_of s ≡ l
  pub may : allowed (keys_of st) l ≡ true

pub told : (st : Stand) (s : List ℕ) (l : Line) → spot_of st s ≡ Ok l → Told st s l
told st s l e = go (came st s)
  where
    go : Came st s (spot_of st s) → Told st s l
    go (fine w r) =
        let q : line_of s ≡ l = cc in
        record { says = q; may = ap (allowed (keys_of st)) (sym q) ∙ (fair (keys_of st) (line_of s) w).may }
    go (start n w r) = zero_one (cc)
    go (feed w h r) = zero_one (cc)
    go (key h r) = zero_one (cc)
    go (range h i c r) = zero_one (cc)
    go (shape h r) = zero_one (cc)

pub tell : (st : Stand) (s : List ℕ) (l : Line) → line_of s ≡ l → allowed (keys_of st) l ≡ true → spot_of st s ≡ Ok l
unfolding spot_of spotted
tell st s l e a = rw (e, may_fine (keys_of st) l a)

-- WHICH LINES CAN BE RIGHT WHERE

pub data Goes (d : ℕ) : Line → Type 0 where
  act : {a : Act} → Goes d (One a)
  opens : {n : ℕ} → d < 8 → Goes d (Loop n)
  closes : 0 < d → Goes d Done
  ends : {n : ℕ} → d ≡ 0 → Goes d (Stop n)

-- behind the first line: the machine, as the second; or one of those
pub data Lets (second : Bool) (d : ℕ) : Line → Type 0 where
  pal : second ≡ true → Lets second d Machine
  turn : {l : Line} → Goes d l → Lets second d l

lets_by : (m : Bool) (d : ℕ) (l : Line) → allowed (keys_of (Among m d)) l ≡ true → Lets m d l
unfolding keys_of allowed
lets_by m d Header a = absurd (false≢true a)
lets_by m d Machine a = pal a
lets_by m d (One x) a = turn act
lets_by m d (Loop n) a = turn (opens (ltb-true d 8 a))
lets_by m d Done a = turn (closes (ltb-true 0 d a))
lets_by m d (Stop n) a = turn (ends (eqb-true d 0 a))
lets_by m d NoForm a = absurd (false≢true a)
lets_by m d NoRegister a = absurd (false≢true a)

pub lets : (m : Bool) (d : ℕ) (s : List ℕ) (l : Line) → spot_of (Among m d) s ≡ Ok l → Lets m d l
lets m d s l e = lets_by m d l (told (Among m d) s l e).may

-- `machine=pal` is right as the second line only
pub second_only : (d : ℕ) (s : List ℕ) → spot_of (Among false d) s ≡ Ok Machine → ⊥
unfolding keys_of allowed
second_only d s e = false≢true (told (Among false d) s Machine e).may

pub goes_may : (m : Bool) {d : ℕ} {l : Line} → Goes d l → allowed (keys_of (Among m d)) l ≡ true
unfolding keys_of allowed
goes_may m act = refl
goes_may m {d} (opens h) = lt-ltb d 8 h
goes_may m {d} (closes h) = lt-ltb 0 d h
goes_may m {d} (ends h) = eq-eqb d 0 h

first_by : (l : Line) → allowed (keys_of First) l ≡ true → l ≡ Header
unfolding keys_of allowed
first_by Header a = refl
first_by Machine a = absurd (false≢true a)
first_by (One x) a = absurd (false≢true a)
first_by (Loop n) a = absurd (false≢true a)
first_by Done a = absurd (false≢true a)
first_by (Stop n) a = absurd (false≢true a)
first_by NoForm a = absurd (false≢true a)
first_by NoRegister a = absurd (false≢true a)

pub first_header : (s : List ℕ) (l : Line) → spot_of First s ≡ Ok l → l ≡ Header
first_header s l e = first_by l (told First s l e).may

alone_by : (m : Bool) (d : ℕ) (l : Line) → Lets m d l → allowed (keys_of (Alone m)) l ≡ true
unfolding keys_of allowed
alone_by m d l (pal h) = h
alone_by m d l (turn act) = refl
alone_by m d l (turn (opens h)) = refl
alone_by m d l (turn (closes h)) = refl
alone_by m d l (turn (ends h)) = refl

-- what is right at some depth is right where none is known
pub alone : (m : Bool) (d : ℕ) (s : List ℕ) (l : Line) → spot_of (Among m d) s ≡ Ok l → spot_of (Alone m) s ≡ Ok l
alone m d s l e = tell (Alone m) s l (told (Among m d) s l e).says (alone_by m d l (lets m d s l e))

-- A FAULT'S NUMBER AND BYTE ARE WITHIN BOUNDS

pub record Bounded (s : List ℕ) (n i : ℕ) : Type 0 where
  pub low : 4 ≤ n
  pub high : n ≤ 17
  pub place : i ≤ length s

pub bounded : (st : Stand) (s : List ℕ) (n i : ℕ) → spot_of st s ≡ Err (refusal n i) → Bounded s n i
bounded st s n i e = go (came st s)
  where
    started : Starts (keys_of st) (line_of s) n → i ≡ 0 → Bounded s n i
    started (by_four h a b) z = record { low = omega arith; high = omega arith; place = omega arith }
    started (by_seven h m a b c) z = record { low = omega arith; high = omega arith; place = omega arith }
    started (by_done h a b c) z = record { low = omega arith; high = omega arith; place = omega arith }
    started (by_stop h m a b c) z = record { low = omega arith; high = omega arith; place = omega arith }

    go : Came st s (spot_of st s) → Bounded s n i
    go (fine w r) = zero_one (cc)
    go (start m w r) =
        let q = ap number_of (sym r ∙ e) in
        let z = ap place_of (sym e ∙ r) in
        started (starts (keys_of st) (line_of s) n (w ∙ ap Start q)) z
    go (feed w h r) =
        let q = ap number_of (sym e ∙ r) in
        let p = ap place_of (sym e ∙ r) in
        let l = reach_length (begins (keys_of st)) s in
        record { low = omega arith; high = omega arith; place = omega arith }
    go (key h r) =
        let q = ap number_of (sym e ∙ r) in
        let p = ap place_of (sym e ∙ r) in
        let l = reach_length (begins (keys_of st)) s in
        record { low = omega arith; high = omega arith; place = omega arith }
    go (range h a c r) =
        let q = ap number_of (sym e ∙ r) in
        let p = ap place_of (sym e ∙ r) in
        let l = far_enough s c in
        record { low = omega arith; high = omega arith; place = omega arith }
    go (shape h r) =
        let q = ap number_of (sym e ∙ r) in
        let p = ap place_of (sym e ∙ r) in
        let l = reach_length (begins (keys_of st)) s in
        record { low = omega arith; high = omega arith; place = omega arith }
