-- What each answer says of the line. Assumes nothing.
--
-- Main definitions: `Came`, the six ways in which an answer about a line comes about; `Starts`, what refuses a whole line at its start; `RightLine`,
-- `Four`, `Seven`, `Eight`, what the answers right, 4, 7 and 8 say of the line.
-- Main statements: `came`, an answer comes about in one of the six ways; `right_line` and `line_right`, a line is right exactly where it is the text of a
-- line that is allowed there and within document 01's limits; `first_fault`, 14 and 15 are at the first byte with which no allowed right line begins;
-- `feed_fault`, 17 is answered exactly where such a line was begun and its line feed is missing; `four_line`, `seven_line`, `eight_line`, and back
-- `line_four`, `line_seven`, `line_done`, `line_stop`. 16 is in RangeLaws.
use Rattle.std.specs.Prelude.{Result, Ok, Err}
use mathlib.Core.Path.{◌≡◌, refl, ap, sym, ◌∙◌, subst}
use mathlib.Core.List.{List, []}
use mathlib.Core.Bool.{Bool, true, false, not, false≢true}
use mathlib.Core.Logic.{◌⊎◌, inl, inr}
use Prim.Native.Nat.{ℕ, suc, ◌-◌, ◌≤◌, ◌<◌}
use native.Mathlib.Omega.{arith}
use borrow.Author.Tests.{eqb-true, eqb-false, eq-eqb, ne_eqb, ltb-false, le-ltb}
use lib.ListN.{length, get_or, take}
use lib.Seq.{take-length}
use lib.Dec.{eqb}
use Rattle.refusal.specs.declared.Refusal.{Refusal}
use Rattle.refusal.specs.Refusal.{refusal, number_of, place_of}
use Rattle.arith.specs.Pick.{pick}
use Rattle.arith.proofs.PickLaws.{pick_each}
use Rattle.log_line.specs.declared.Line.{Line}
use Rattle.log_line.specs.declared.Line.TheVariants.{Header, Machine, One, Loop, Done, Stop, NoForm, NoRegister}
use Rattle.log_line.specs.Said.{line_of}
use Rattle.log_line.specs.Printed.{ended, line_text, Printable}
use Rattle.log_line.proofs.BodyLaws.{line_other}
use Rattle.log_line.proofs.Forth.{AtFault}
use Rattle.log_line.proofs.LineLaws.{read_printed, printed_read}
use Rattle.log_fault.specs.declared.Stand.{Stand}
use Rattle.log_fault.specs.declared.Stand.TheVariants.{First, Among, Alone}
use Rattle.log_begins.specs.declared.Keys.{Keys}
use Rattle.log_fault.specs.declared.Whole.{Whole}
use Rattle.log_fault.specs.declared.Whole.TheVariants.{Fine, Start, Other}
use Rattle.log_form.specs.Forms.{along, reach}
use Rattle.log_begins.specs.Begins.{any_true, begins}
use Rattle.log_fault.specs.Allowed.{keys_of}
use Rattle.log_fault.specs.Places.{FirstByte, FirstFault, FeedMissing, FeedFault}
use Rattle.log_begins.specs.Counts.{keyed, counts}
use Rattle.log_fault.specs.Fault.{whole_of, fault_at, spotted, spot_of}
use Rattle.log_begins.specs.Fronts.{allowed, Fronts}
use Rattle.log_begins.proofs.Beginnings.{begins_sound, begins_complete}
use Rattle.log_begins.proofs.Furthest.{begins_closed}
use Rattle.log_form.proofs.ReachLaws.{reach_length, reach_before, reach_at, reach_all}
use Rattle.log_begins.proofs.WholeLaws.{Reads, itself, four, reads, whole_text}

pub zero_one : {A : Type 0} → ◌≡◌ {A = ℕ} 0 1 → A
zero_one e = absurd (omega arith)

-- HOW AN ANSWER COMES ABOUT
pub data Came (st : Stand) (s : List ℕ) (r : Result Line Refusal) : Type 0 where
  fine : whole_of (keys_of st) (line_of s) ≡ Fine → r ≡ Ok (line_of s) → Came st s r
  start : (n : ℕ) → whole_of (keys_of st) (line_of s) ≡ Start n → r ≡ Err (refusal n 0) → Came st s r
  feed : whole_of (keys_of st) (line_of s) ≡ Other → reach (begins (keys_of st)) s ≡ length s → r ≡ Err (refusal 17 (reach (begins (keys_of st)) s)) → Came st s r
  key : (reach (begins (keys_of st)) s ≡ length s → ⊥) → r ≡ Err (refusal 14 (reach (begins (keys_of st)) s)) → Came st s r
  range : (reach (begins (keys_of st)) s ≡ length s → ⊥) → keyed (take (reach (begins (keys_of st)) s) s) ≡ true → counts s ≡ true → r ≡ Err (refusal 16 5) → Came st s r
  shape : (reach (begins (keys_of st)) s ≡ length s → ⊥) → r ≡ Err (refusal 15 (reach (begins (keys_of st)) s)) → Came st s r

pub came : (st : Stand) (s : List ℕ) → Came st s (spot_of st s)
unfolding spot_of spotted fault_at
came st s = go (whole_of (keys_of st) (line_of s)) refl
  where
    go : (w : Whole) → whole_of (keys_of st) (line_of s) ≡ w → Came st s (spotted (keys_of st) s (line_of s) w)
    go Fine e = fine e refl
    go (Start n) e = start n e refl
    go Other e =
        pick_each (Came st s) (eqb (reach (begins (keys_of st)) s) (length s)) (λ q. feed e (eqb-true _ _ q) refl) λ q.
        pick_each (Came st s) (keyed (take (reach (begins (keys_of st)) s) s))
        (λ h.
        pick_each (Came st s) (counts s) (λ g. range (eqb-false _ _ q) h g refl) (λ g. shape (eqb-false _ _ q) refl))
        (λ h. key (eqb-false _ _ q) refl)

-- WHAT STANDS AT THE START OF A LINE BY ITSELF

pub data Starts (k : Keys) (l : Line) (n : ℕ) : Type 0 where
  by_four : n ≡ 4 → l ≡ NoRegister → k.acts ≡ true → Starts k l n
  by_seven : n ≡ 7 → (m : ℕ) → l ≡ Loop m → k.loops ≡ false → k.log ≡ false → Starts k l n
  by_done : n ≡ 8 → l ≡ Done → k.done ≡ false → k.log ≡ false → Starts k l n
  by_stop : n ≡ 8 → (m : ℕ) → l ≡ Stop m → k.stop ≡ false → k.log ≡ false → Starts k l n

neither : (b : Bool) (n : ℕ) → pick b Fine Other ≡ Start n → ⊥
neither true n e = zero_one (cc)
neither false n e = zero_one (cc)

pub starts : (k : Keys) (l : Line) (n : ℕ) → whole_of k l ≡ Start n → Starts k l n
unfolding whole_of
starts k Header n e = absurd (neither k.log n e)
starts k Machine n e = absurd (neither k.machine n e)
starts k (One a) n e = absurd (neither k.acts n e)
starts k (Loop m) n e = go k.loops k.log refl refl e
  where
    go : (a b : Bool) → k.loops ≡ a → k.log ≡ b → pick a Fine (pick (not b) (Start 7) Other) ≡ Start n → Starts k (Loop m) n
    go true b p q e = zero_one (cc)
    go false true p q e = zero_one (cc)
    go false false p q e = by_seven (cc) m refl p q
starts k Done n e = go k.done k.log refl refl e
  where
    go : (a b : Bool) → k.done ≡ a → k.log ≡ b → pick a Fine (pick (not b) (Start 8) Other) ≡ Start n → Starts k Done n
    go true b p q e = zero_one (cc)
    go false true p q e = zero_one (cc)
    go false false p q e = by_done (cc) refl p q
starts k (Stop m) n e = go k.stop k.log refl refl e
  where
    go : (a b : Bool) → k.stop ≡ a → k.log ≡ b → pick a Fine (pick (not b) (Start 8) Other) ≡ Start n → Starts k (Stop m) n
    go true b p q e = zero_one (cc)
    go false true p q e = zero_one (cc)
    go false false p q e = by_stop (cc) m refl p q
starts k NoForm n e = zero_one (cc)
starts k NoRegister n e = go k.acts refl e
  where
    go : (b : Bool) → k.acts ≡ b → pick b (Start 4) Other ≡ Start n → Starts k NoRegister n
    go true q e = by_four (cc) refl q
    go false q e = zero_one (cc)

pub starts_small : (k : Keys) (l : Line) (n : ℕ) → whole_of k l ≡ Start n → n ≤ 8
starts_small k l n e = go (starts k l n e)
  where
    go : Starts k l n → n ≤ 8
    go (by_four h a b) = omega arith
    go (by_seven h m a b c) = omega arith
    go (by_done h a b c) = omega arith
    go (by_stop h m a b c) = omega arith

-- a line that is fine is allowed, and no line at fault
pub record Fair (k : Keys) (l : Line) : Type 0 where
  pub may : allowed k l ≡ true
  pub sound : AtFault l → ⊥

free : {l : Line} → (l ≡ NoRegister → ⊥) → (l ≡ NoForm → ⊥) → AtFault l → ⊥
free f g (inl e) = f e
free f g (inr e) = g e

pub fair : (k : Keys) (l : Line) → whole_of k l ≡ Fine → Fair k l
unfolding whole_of allowed
fair k Header e = go k.log refl e
  where
    go : (b : Bool) → k.log ≡ b → pick b Fine Other ≡ Fine → Fair k Header
    go true q e = record { may = q; sound = free (λ z. zero_one (cc)) (λ z. zero_one (cc)) }
    go false q e = zero_one (cc)
fair k Machine e = go k.machine refl e
  where
    go : (b : Bool) → k.machine ≡ b → pick b Fine Other ≡ Fine → Fair k Machine
    go true q e = record { may = q; sound = free (λ z. zero_one (cc)) (λ z. zero_one (cc)) }
    go false q e = zero_one (cc)
fair k (One a) e = go k.acts refl e
  where
    go : (b : Bool) → k.acts ≡ b → pick b Fine Other ≡ Fine → Fair k (One a)
    go true q e = record { may = q; sound = free (λ z. zero_one (cc)) (λ z. zero_one (cc)) }
    go false q e = zero_one (cc)
fair k (Loop m) e = go k.loops k.log refl e
  where
    go : (b c : Bool) → k.loops ≡ b → pick b Fine (pick (not c) (Start 7) Other) ≡ Fine → Fair k (Loop m)
    go true c q e = record { may = q; sound = free (λ z. zero_one (cc)) (λ z. zero_one (cc)) }
    go false true q e = zero_one (cc)
    go false false q e = zero_one (cc)
fair k Done e = go k.done k.log refl e
  where
    go : (b c : Bool) → k.done ≡ b → pick b Fine (pick (not c) (Start 8) Other) ≡ Fine → Fair k Done
    go true c q e = record { may = q; sound = free (λ z. zero_one (cc)) (λ z. zero_one (cc)) }
    go false true q e = zero_one (cc)
    go false false q e = zero_one (cc)
fair k (Stop m) e = go k.stop k.log refl e
  where
    go : (b c : Bool) → k.stop ≡ b → pick b Fine (pick (not c) (Start 8) Other) ≡ Fine → Fair k (Stop m)
    go true c q e = record { may = q; sound = free (λ z. zero_one (cc)) (λ z. zero_one (cc)) }
    go false true q e = zero_one (cc)
    go false false q e = zero_one (cc)
fair k NoForm e = zero_one (cc)
fair k NoRegister e = go k.acts e
  where
    go : (b : Bool) → pick b (Start 4) Other ≡ Fine → Fair k NoRegister
    go true e = zero_one (cc)
    go false e = zero_one (cc)

pub may_fine : (k : Keys) (l : Line) → allowed k l ≡ true → whole_of k l ≡ Fine
unfolding whole_of allowed
may_fine k Header e = rw e
may_fine k Machine e = rw e
may_fine k (One a) e = rw e
may_fine k (Loop n) e = rw e
may_fine k Done e = rw e
may_fine k (Stop n) e = rw e
may_fine k NoForm e = absurd (false≢true e)
may_fine k NoRegister e = absurd (false≢true e)

-- RIGHT: exactly the text of a line that is allowed and within document 01's limits

pub record RightLine (k : Keys) (s : List ℕ) (l : Line) : Type 0 where
  pub may : allowed k l ≡ true
  pub within : Printable l
  pub is : s ≡ line_text l

pub right_line : (st : Stand) (s : List ℕ) (l : Line) → spot_of st s ≡ Ok l → RightLine (keys_of st) s l
right_line st s l e = go (came st s)
  where
    go : Came st s (spot_of st s) → RightLine (keys_of st) s l
    go (fine w r) =
        let f = fair (keys_of st) (line_of s) w in
        let p = read_printed s (line_of s) refl f.sound in
        let q : line_of s ≡ l = cc in
        subst (RightLine (keys_of st) s) q (record { may = f.may; within = p.1; is = p.0 })
    go (start n w r) = zero_one (cc)
    go (feed w h r) = zero_one (cc)
    go (key h r) = zero_one (cc)
    go (range h i c r) = zero_one (cc)
    go (shape h r) = zero_one (cc)

pub line_right : (st : Stand) (l : Line) → allowed (keys_of st) l ≡ true → Printable l → spot_of st (line_text l) ≡ Ok l
unfolding spot_of spotted
line_right st l a p = rw (printed_read l p, may_fine (keys_of st) l a)

-- 14 AND 15 are at the first byte with which no allowed right line begins

begins_none : (st : Stand) → begins (keys_of st) [] ≡ true
unfolding keys_of begins any_true along ended
begins_none First = refl
begins_none (Among true d) = refl
begins_none (Among false d) = refl
begins_none (Alone true) = refl
begins_none (Alone false) = refl

pub first_byte : (st : Stand) (s : List ℕ) → (reach (begins (keys_of st)) s ≡ length s → ⊥) → FirstByte (keys_of st) s (reach (begins (keys_of st)) s)
first_byte st s h =
    let k = keys_of st in
    let l = reach_length (begins k) s in
    let i : reach (begins k) s < length s = omega (arith, h) in
    record {
      inside = i;
      begun = λ j b. begins_sound k (take j s) (reach_before (begins k) s j (begins_none st) b);
      ends = λ f. false≢true (sym (reach_at (begins k) s i) ∙ begins_complete k (take (suc (reach (begins k) s)) s) f);
    }

pub first_fault : FirstFault
first_fault st s n i e h = go (came st s)
  where
    low : 14 ≤ n
    low = two h
      where
        two : (n ≡ 14) ⊎ (n ≡ 15) → 14 ≤ n
        two (inl q) = omega arith
        two (inr q) = omega arith

    high : n ≤ 15
    high = two h
      where
        two : (n ≡ 14) ⊎ (n ≡ 15) → n ≤ 15
        two (inl q) = omega arith
        two (inr q) = omega arith

    go : Came st s (spot_of st s) → FirstByte (keys_of st) s i
    go (fine w r) = zero_one (cc)
    go (start m w r) =
        let q = ap number_of (sym r ∙ e) in
        let u = starts_small (keys_of st) (line_of s) m w in
        let z = low in
        absurd (omega arith)
    go (feed w g r) =
        let q = ap number_of (sym e ∙ r) in
        let z = high in
        absurd (omega arith)
    go (key g r) =
        let q = ap place_of (sym r ∙ e) in
        subst (FirstByte (keys_of st) s) q (first_byte st s g)
    go (range g a c r) =
        let q = ap number_of (sym e ∙ r) in
        let z = high in
        absurd (omega arith)
    go (shape g r) =
        let q = ap place_of (sym r ∙ e) in
        subst (FirstByte (keys_of st) s) q (first_byte st s g)

-- 17, NO LINE FEED: exactly where all bytes begin an allowed right line and the line feed is missing

not_other : (k : Keys) (l m : Line) → Reads l m → allowed k l ≡ true → whole_of k m ≡ Other → ⊥
unfolding whole_of allowed
not_other k l m (itself p) a e = zero_one (cc (may_fine k l a))
not_other k l m four a e = zero_one (cc (rw a at e))

module _ (st : Stand) (s : List ℕ) where
  all_begun : reach (begins (keys_of st)) s ≡ length s → Fronts (keys_of st) s
  all_begun h =
      begins_sound (keys_of st) s
      (rw take-length at (reach_before (begins (keys_of st)) s (length s) (begins_none st) (omega arith)))

  pub feed_missing : (i : ℕ) → spot_of st s ≡ Err (refusal 17 i) → FeedMissing (keys_of st) s i
  feed_missing i e = go (came st s)
    where
      go : Came st s (spot_of st s) → FeedMissing (keys_of st) s i
      go (fine w r) = zero_one (cc)
      go (start m w r) =
          let q = ap number_of (sym r ∙ e) in
          let u = starts_small (keys_of st) (line_of s) m w in
          absurd (omega arith)
      go (feed w h r) =
          let q = ap place_of (sym r ∙ e) in
          let f = all_begun h in
          record {
            place = sym q ∙ h;
            begun = f;
            unfed =
                λ z.
                let t = whole_text f.line s f.rest f.right z f.is in
                not_other (keys_of st) f.line (line_of (line_text f.line)) (reads f.line f.right) f.may
                (ap (λ (x : List ℕ). whole_of (keys_of st) (line_of x)) (sym t) ∙ w);
          }
      go (key h r) = absurd (let z : ◌≡◌ {A = ℕ} 14 17 = ap number_of (sym r ∙ e) in omega arith)
      go (range h a c r) = absurd (let z : ◌≡◌ {A = ℕ} 16 17 = ap number_of (sym r ∙ e) in omega arith)
      go (shape h r) = absurd (let z : ◌≡◌ {A = ℕ} 15 17 = ap number_of (sym r ∙ e) in omega arith)

  pub missing_feed : Fronts (keys_of st) s → (get_or s (length s - 1) 0 ≡ 10 → ⊥) → spot_of st s ≡ Err (refusal 17 (length s))
  unfolding spot_of spotted whole_of fault_at
  missing_feed f h =
      let r = reach_all (begins (keys_of st)) s (begins_closed (keys_of st)) (begins_complete (keys_of st) s f) in
      rw (line_other s h, r, eq-eqb (length s) (length s) refl)

pub feed_fault : FeedFault
feed_fault st s i = (feed_missing st s i, λ f. missing_feed st s f.begun f.unfed ∙ ap (λ (x : ℕ). Err (refusal 17 x)) (sym f.place))

-- 4, 7 AND 8: at the start, of a whole line of right form

pub record Four (k : Keys) (s : List ℕ) (i : ℕ) : Type 0 where
  pub place : i ≡ 0
  pub may : k.acts ≡ true
  pub write : line_of s ≡ NoRegister

pub record Seven (st : Stand) (s : List ℕ) (i : ℕ) : Type 0 where
  pub place : i ≡ 0
  pub second : Bool
  pub depth : ℕ
  pub stands : st ≡ Among second depth
  pub full : 8 ≤ depth
  pub turns : ℕ
  pub loops : line_of s ≡ Loop turns

pub data Eight (st : Stand) (s : List ℕ) (i : ℕ) : Type 0 where
  done : i ≡ 0 → (second : Bool) → st ≡ Among second 0 → line_of s ≡ Done → Eight st s i
  stop : i ≡ 0 → (second : Bool) (d n : ℕ) → st ≡ Among second d → 0 < d → line_of s ≡ Stop n → Eight st s i

ninth : (st : Stand) (s : List ℕ) (n : ℕ) → line_of s ≡ Loop n → (keys_of st).loops ≡ false → (keys_of st).log ≡ false → Seven st s 0
unfolding keys_of
ninth First s n l a b = zero_one (cc)
ninth (Among m d) s n l a b = record { place = refl; second = m; depth = d; stands = refl; full = ltb-false d 8 a; turns = n; loops = l }
ninth (Alone m) s n l a b = zero_one (cc)

no_loop : (st : Stand) (s : List ℕ) → line_of s ≡ Done → (keys_of st).done ≡ false → (keys_of st).log ≡ false → Eight st s 0
unfolding keys_of
no_loop First s l a b = zero_one (cc)
no_loop (Among m d) s l a b =
    let z = ltb-false 0 d a in
    let q : d ≡ 0 = omega arith in
    done refl m (ap (Among m) q) l
no_loop (Alone m) s l a b = zero_one (cc)

open_loop : (st : Stand) (s : List ℕ) (n : ℕ) → line_of s ≡ Stop n → (keys_of st).stop ≡ false → (keys_of st).log ≡ false → Eight st s 0
unfolding keys_of
open_loop First s n l a b = zero_one (cc)
open_loop (Among m d) s n l a b = stop refl m d n refl (omega (arith, eqb-false d 0 a)) l
open_loop (Alone m) s n l a b = zero_one (cc)

module _ (st : Stand) (s : List ℕ) (i : ℕ) where
  -- an answer by a number up to 8 is by the whole line
  at_start : (n : ℕ) → spot_of st s ≡ Err (refusal n i) → n ≤ 8 → (Starts (keys_of st) (line_of s) n) × (i ≡ 0)
  at_start n e u = go (came st s)
    where
      go : Came st s (spot_of st s) → (Starts (keys_of st) (line_of s) n) × (i ≡ 0)
      go (fine w r) = zero_one (cc)
      go (start m w r) =
          let q = ap number_of (sym r ∙ e) in
          (starts (keys_of st) (line_of s) n (w ∙ ap Start q), ap place_of (sym e ∙ r))
      go (feed w h r) = let z = ap number_of (sym e ∙ r) in absurd (omega arith)
      go (key h r) = let z = ap number_of (sym e ∙ r) in absurd (omega arith)
      go (range h a c r) = let z = ap number_of (sym e ∙ r) in absurd (omega arith)
      go (shape h r) = let z = ap number_of (sym e ∙ r) in absurd (omega arith)

  pub four_line : spot_of st s ≡ Err (refusal 4 i) → Four (keys_of st) s i
  four_line e =
      let a = at_start 4 e (omega arith) in
      go a.0 a.1
    where
      go : Starts (keys_of st) (line_of s) 4 → i ≡ 0 → Four (keys_of st) s i
      go (by_four n l m) z = record { place = z; may = m; write = l }
      go (by_seven n m l a b) z = absurd (omega arith)
      go (by_done n l a b) z = absurd (omega arith)
      go (by_stop n m l a b) z = absurd (omega arith)

  pub seven_line : spot_of st s ≡ Err (refusal 7 i) → Seven st s i
  seven_line e =
      let a = at_start 7 e (omega arith) in
      go a.0 a.1
    where
      go : Starts (keys_of st) (line_of s) 7 → i ≡ 0 → Seven st s i
      go (by_four n l m) z = absurd (omega arith)
      go (by_seven n m l a b) z = subst (Seven st s) (sym z) (ninth st s m l a b)
      go (by_done n l a b) z = absurd (omega arith)
      go (by_stop n m l a b) z = absurd (omega arith)

  pub eight_line : spot_of st s ≡ Err (refusal 8 i) → Eight st s i
  eight_line e =
      let a = at_start 8 e (omega arith) in
      go a.0 a.1
    where
      go : Starts (keys_of st) (line_of s) 8 → i ≡ 0 → Eight st s i
      go (by_four n l m) z = absurd (omega arith)
      go (by_seven n m l a b) z = absurd (omega arith)
      go (by_done n l a b) z = subst (Eight st s) (sym z) (no_loop st s l a b)
      go (by_stop n m l a b) z = subst (Eight st s) (sym z) (open_loop st s m l a b)

-- and the other way round

module _ (s : List ℕ) where
  pub line_four : (st : Stand) → (keys_of st).acts ≡ true → line_of s ≡ NoRegister → spot_of st s ≡ Err (refusal 4 0)
  unfolding spot_of spotted whole_of
  line_four st a e = rw (e, a)

  pub line_seven : (m : Bool) (d n : ℕ) → 8 ≤ d → line_of s ≡ Loop n → spot_of (Among m d) s ≡ Err (refusal 7 0)
  unfolding spot_of spotted whole_of keys_of
  line_seven m d n h e = rw (e, le-ltb d 8 h)

  pub line_done : (m : Bool) → line_of s ≡ Done → spot_of (Among m 0) s ≡ Err (refusal 8 0)
  unfolding spot_of spotted whole_of keys_of
  line_done m e = rw e

  pub line_stop : (m : Bool) (d n : ℕ) → 0 < d → line_of s ≡ Stop n → spot_of (Among m d) s ≡ Err (refusal 8 0)
  unfolding spot_of spotted whole_of keys_of
  line_stop m d n h e = rw (e, ne_eqb d 0 (λ z. more z))
    where
      more : d ≡ 0 → ⊥
      more z = omega arith
