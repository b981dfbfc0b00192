-- A decimal of right shape outside its range is refused with 16, at its first digit. Assumes nothing.
use Rattle.std.specs.Prelude.{Some, None, Err}
use mathlib.Core.Path.{◌≡◌, refl, ap, sym, ◌∙◌, subst}
use mathlib.Core.List.{List, [], ◌∷◌, ◌++◌}
use mathlib.Core.Bool.{Bool, true, false, false≢true}
use Prim.Native.Nat.{ℕ, suc, ◌+◌, ◌-◌, ◌≤◌, ◌<◌}
use native.Mathlib.Omega.{arith}
use borrow.Author.Tests.{eqb-true, eqb-false, eq-eqb, ne_eqb, ltb-true, ltb-false}
use lib.ListN.{length, get_or, take, drop, length-append, take-append-drop}
use lib.Seq.{take-append-le, take-append-add, get_or-append-add}
use lib.Dec.{eqb, ltb}
use Rattle.refusal.specs.Refusal.{refusal}
use Rattle.text.specs.Ascii.{bytes}
use Rattle.text.specs.Key.{starts_with, exactly}
use Rattle.text.specs.Numbers.{within}
use Rattle.text.specs.Decimal.{formed, decimal, digits_of, decimal_text}
use Rattle.text.proofs.KeyLaws.{starts_split}
use Rattle.text.proofs.NumberLaws.{within_low, within_high}
use Rattle.log_line.specs.declared.Act.TheVariants.{Wait}
use Rattle.log_line.specs.declared.Line.{Line}
use Rattle.log_line.specs.declared.Line.TheVariants.{One, Loop, Stop, NoForm}
use Rattle.log_line.specs.Said.{counted, wait_of, loop_of, stop_of, unfed_line, line_of}
use Rattle.log_line.specs.Printed.{act_text, ended, line_text}
use Rattle.log_line.proofs.BodyLaws.{counted_none, line_feed, line_other}
use Rattle.log_form.specs.Forms.{reach}
use Rattle.log_form.proofs.ReachLaws.{reach_at}
use Rattle.log_begins.specs.declared.Keys.{Keys}
use Rattle.log_begins.specs.Begins.{begins}
use Rattle.log_begins.specs.Counts.{keyed, unfed, said, counts}
use Rattle.log_begins.specs.Fronts.{allowed, RightForm}
use Rattle.log_begins.proofs.Beginnings.{begins_complete}
use Rattle.log_begins.proofs.Furthest.{begins_closed}
use Rattle.log_begins.proofs.ValueLaws.{unfed_feed}
use Rattle.log_fault.specs.declared.Stand.{Stand}
use Rattle.log_fault.specs.Allowed.{keys_of}
use Rattle.log_fault.specs.Fault.{whole_of, fault_at, spotted, spot_of}
use Rattle.log_fault.specs.Places.{FeedMissing, Outside, waits, loops, stops, OutOfRange, RangeFault}
use Rattle.log_fault.proofs.FaultLaws.{feed_missing}
use Rattle.log_fault.proofs.RangeLaws.{out_of_range}

-- A NUMBER OUTSIDE ITS RANGE IS NO LINE'S

outside_none : (lo hi n : ℕ) → (lo ≤ n → n ≤ hi → ⊥) → within lo hi (Some n) ≡ None
outside_none lo hi n h = go (ltb n lo) refl
  where
    go : (b : Bool) → ltb n lo ≡ b → within lo hi (Some n) ≡ None
    go true e = within_low lo hi n (ltb-true n lo e)
    go false e =
        let l = ltb-false n lo e in
        let u : hi < n = omega (arith, h l) in
        within_high lo hi n u

-- a decimal has a digit
some : (v : List ℕ) (n : ℕ) → decimal (unfed v) ≡ Some n → 1 ≤ length v
unfolding decimal formed unfed
some [] n d = absurd (let z : ◌≡◌ {A = ℕ} 0 1 = cc in omega arith)
some (c ∷ v) n d = omega arith

-- a line with such a key and such a number says nothing
no_form : (key : List ℕ) (of : List ℕ → Line) → ((w : List ℕ) → unfed_line (key ++ w) ≡ of w)
    → (v : List ℕ) → 1 ≤ length v → of (unfed v) ≡ NoForm → line_of (key ++ v) ≡ NoForm
no_form key of by v h e = go (eqb (get_or v (length v - 1) 0) 10) refl
  where
    all : length (key ++ v) - 1 ≡ length key + (length v - 1)
    all = omega (arith, length-append key v)

    last : get_or (key ++ v) (length (key ++ v) - 1) 0 ≡ get_or v (length v - 1) 0
    last = ap (λ (n : ℕ). get_or (key ++ v) n 0) all ∙ get_or-append-add key v (length v - 1) 0

    go : (b : Bool) → eqb (get_or v (length v - 1) 0) 10 ≡ b → line_of (key ++ v) ≡ NoForm
    go true q =
        line_feed (key ++ v) (last ∙ eqb-true _ _ q)
        ∙ (ap (λ (n : ℕ). unfed_line (take n (key ++ v))) all
        ∙ (ap unfed_line (take-append-add key v (length v - 1))
        ∙ (by (take (length v - 1) v) ∙ (ap of (unfed_feed v (eqb-true _ _ q)) ∙ e))))
    go false q = line_other (key ++ v) (λ z. eqb-false _ _ q (sym last ∙ z))

-- ITS KEY STANDS BEFORE THE FIRST BYTE AT FAULT

far : (k : Keys) (key v : List ℕ) → begins k key ≡ true → length key ≤ reach (begins k) (key ++ v)
far k key v e = go (ltb (reach (begins k) (key ++ v)) (length key)) refl
  where
    go : (b : Bool) → ltb (reach (begins k) (key ++ v)) (length key) ≡ b → length key ≤ reach (begins k) (key ++ v)
    go true q =
        let r = reach (begins k) (key ++ v) in
        let l = ltb-true (reach (begins k) (key ++ v)) (length key) q in
        let a = reach_at (begins k) (key ++ v) (omega (arith, length-append key v)) in
        let t = take-append-le (suc r) key v (omega arith) in
        let b = begins_closed k (take (suc r) key) (drop (suc r) key) (ap (begins k) (take-append-drop (suc r) key) ∙ e) in
        absurd (false≢true (sym a ∙ (ap (begins k) t ∙ b)))
    go false q = ltb-false (reach (begins k) (key ++ v)) (length key) q

-- SO IT IS REFUSED WITH 16

module _ (st : Stand) where
  refused : (key : List ℕ) (lo hi : ℕ) (f : ℕ → Line) (v : List ℕ) (n : ℕ)
      → ((w : List ℕ) → unfed_line (key ++ w) ≡ counted f (within lo hi (decimal w)))
      → ((w : List ℕ) → keyed (key ++ w) ≡ true) → counts (key ++ v) ≡ true → begins (keys_of st) key ≡ true
      → decimal (unfed v) ≡ Some n → (lo ≤ n → n ≤ hi → ⊥) → (FeedMissing (keys_of st) (key ++ v) (length (key ++ v)) → ⊥)
      → spot_of st (key ++ v) ≡ Err (refusal 16 5)
  unfolding spot_of spotted whole_of fault_at
  refused key lo hi f v n by has c b d out fed = rw (none, ne_eqb _ _ inside, there, c)
    where
      none : line_of (key ++ v) ≡ NoForm
      none =
          no_form key (λ w. counted f (within lo hi (decimal w))) by v (some v n d)
          (counted_none f (within lo hi (decimal (unfed v))) (ap (within lo hi) d ∙ outside_none lo hi n out))

      inside : reach (begins (keys_of st)) (key ++ v) ≡ length (key ++ v) → ⊥
      inside e =
          let w : spot_of st (key ++ v) ≡ Err (refusal 17 (length (key ++ v))) = rw (none, e, eq-eqb (length (key ++ v)) (length (key ++ v)) refl) in
          fed (feed_missing st (key ++ v) (length (key ++ v)) w)

      there : keyed (take (reach (begins (keys_of st)) (key ++ v)) (key ++ v)) ≡ true
      there =
          let r = reach (begins (keys_of st)) (key ++ v) in
          let q : r ≡ length key + (r - length key) = omega (arith, far (keys_of st) key v b) in
          ap (λ (n : ℕ). keyed (take n (key ++ v))) q ∙ (ap keyed (take-append-add key v (r - length key)) ∙ has (take (r - length key) v))

  pub range_back : (s : List ℕ) (i : ℕ) → OutOfRange (keys_of st) s i → spot_of st s ≡ Err (refusal 16 i)
  unfolding starts_with exactly unfed_line wait_of loop_of stop_of keyed counts said line_text act_text ended decimal_text digits_of allowed
  range_back s i o = go o.outside
    where
      -- the line as its key and what stands behind it
      split : (key : List ℕ) → length key ≡ 5 → starts_with key s ≡ true
          → ((FeedMissing (keys_of st) (key ++ drop 5 s) (length (key ++ drop 5 s)) → ⊥) → spot_of st (key ++ drop 5 s) ≡ Err (refusal 16 5)) → spot_of st s ≡ Err (refusal 16 i)
      split key five p g =
          let e = starts_split key s p ∙ ap (λ (n : ℕ). key ++ drop n s) five in
          ap (spot_of st) e ∙ (g (subst (λ (t : List ℕ). FeedMissing (keys_of st) t (length t) → ⊥) e o.stuck) ∙ ap (λ (x : ℕ). Err (refusal 16 x)) (sym o.place))

      begun : (key rest : List ℕ) (l : Line) → allowed (keys_of st) l ≡ true → RightForm l → key ++ rest ≡ line_text l → begins (keys_of st) key ≡ true
      begun key rest l m r e = begins_complete (keys_of st) key (record { line = l; may = m; right = r; rest = rest; is = e })

      go : Outside (keys_of st) s o.value → spot_of st s ≡ Err (refusal 16 i)
      go (waits p m h) =
          split (bytes "wait=") refl p
          (refused (bytes "wait=") 1 1000000 (λ n. One (Wait n)) (drop 5 s) o.value (λ w. refl) (λ w. refl) (ap said o.says)
          (begun (bytes "wait=") (bytes "1\n") (One (Wait 1)) m (omega arith, omega arith) refl) o.says h)
      go (loops p m h) =
          split (bytes "loop=") refl p
          (refused (bytes "loop=") 2 255 Loop (drop 5 s) o.value (λ w. refl) (λ w. refl) (ap said o.says)
          (begun (bytes "loop=") (bytes "2\n") (Loop 2) m (omega arith, omega arith) refl) o.says h)
      go (stops p m h) =
          split (bytes "stop=") refl p
          (refused (bytes "stop=") 0 2000000000 Stop (drop 5 s) o.value (λ w. refl) (λ w. refl) (ap said o.says)
          (begun (bytes "stop=") (bytes "0\n") (Stop 0) m (omega arith) refl) o.says (λ a b. h b))

pub range_fault : RangeFault
range_fault st s i = (out_of_range st s i, range_back st s i)
