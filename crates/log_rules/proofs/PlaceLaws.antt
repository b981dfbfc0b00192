-- Laws of places: where a line ends, and what reading one there knows. Assumes nothing.
use Rattle.std.specs.Prelude.{Result, Ok, Err}
use mathlib.Core.Path.{◌≡◌, refl, ap, sym, ◌∙◌, subst}
use mathlib.Core.List.{List, [], ◌∷◌, ◌++◌}
use mathlib.Core.Bool.{Bool, true, false}
use Prim.Native.Nat.{ℕ, suc, ◌+◌, ◌-◌, ◌≤◌, ◌<◌}
use native.Mathlib.Numerals.{add-one}
use native.Mathlib.Omega.{arith}
use borrow.Author.Tests.{eq-eqb, ne_eqb, eqb-true, eqb-false, lt-ltb, le-ltb, ltb-true, ltb-false}
use lib.ListN.{length, get_or, take, drop, length-drop, length-take, take-append-drop, drop_of_length-le}
use lib.Seq.{drop-cons, drop-drop}
use lib.Dec.{ltb, eqb}
use Rattle.refusal.specs.declared.Refusal.{Refusal}
use Rattle.refusal.specs.Refusal.{refusal}
use Rattle.arith.specs.Pick.{pick}
use Rattle.log_line.specs.declared.Line.{Line}
use Rattle.log_line.specs.declared.Line.TheVariants.{Header, Machine}
use Rattle.log_line.specs.Said.{line_of}
use Rattle.log_line.specs.Printed.{line_text, Printable}
use Rattle.log_rules.specs.Lines.{line_len, bytes_at, next_line}
use Rattle.log_rules.specs.Reading.{taken, Reaches, is_second, standing, read_in, read_at}
use Rattle.arith.proofs.PickLaws.{pick_each, both_left}
use Rattle.log_fault.specs.declared.Stand.{Stand}
use Rattle.log_fault.specs.Fault.{spot_of}
use Rattle.log_fault.proofs.FaultLaws.{right_line}
use Rattle.log_fault.specs.declared.Stand.TheVariants.{First, Among, Alone}
use Rattle.log_fault.proofs.Standing.{told, tell, bounded, Goes, act as acts-on, opens as opened-on, closes as closes-on, ends as ends_on, Lets, pal, turn, lets, goes_may, first_header, alone}

-- THE LENGTH OF A LINE

len_cases : (b : Bool) (n : ℕ) → (0 < pick b 1 (suc n)) × (pick b 1 (suc n) ≤ suc n)
len_cases true n = (omega arith, omega arith)
len_cases false n = (omega arith, omega arith)

len_pos : (s : List ℕ) → 0 < length s → 0 < line_len s
unfolding line_len
len_pos [] h = absurd (omega arith)
len_pos (c ∷ s) h = (len_cases (eqb c 10) (line_len s)).0

len_le : (s : List ℕ) → line_len s ≤ length s
unfolding line_len
len_le [] = omega arith
len_le (c ∷ s) = let a = (len_cases (eqb c 10) (line_len s)).1 in let b = len_le s in omega arith

module _ (log : List ℕ) (i : ℕ) where
  pub len_feed : i < length log → get_or log i 0 ≡ 10 → line_len (drop i log) ≡ 1
  unfolding line_len
  len_feed h e = rw (drop-cons log i 0, eq-eqb _ _ e)

  pub len_more : i < length log → (get_or log i 0 ≡ 10 → ⊥) → line_len (drop i log) ≡ suc (line_len (drop (i + 1) log))
  unfolding line_len
  len_more h e = rw (add-one, drop-cons log i 0, ne_eqb _ _ e)

  pub len_none : length log ≤ i → line_len (drop i log) ≡ 0
  unfolding line_len
  len_none h = rw (drop_of_length-le log h)

  pub next_pos : i < length log → i < next_line log i
  unfolding next_line
  next_pos h = let p = len_pos (drop i log) (rw length-drop (omega arith)) in omega arith

  pub next_le : i ≤ length log → next_line log i ≤ length log
  unfolding next_line
  next_le h = let p = rw length-drop at (len_le (drop i log)) in omega arith

  pub bytes_long : i + length (bytes_at log i) ≡ next_line log i
  unfolding next_line bytes_at
  bytes_long = let h = len_le (drop i log) in rw length-take (omega arith)

  -- the log from a line on is the line and the log behind it
  pub line_split : drop i log ≡ bytes_at log i ++ drop (next_line log i) log
  unfolding next_line bytes_at
  line_split = sym (take-append-drop (line_len (drop i log)) (drop i log)) ∙ ap (λ (r : List ℕ). take (line_len (drop i log)) (drop i log) ++ r) (drop-drop (line_len (drop i log)) i log)

-- READING, FROM WHAT IS FOUND OF A LINE

-- what `read` answers behind its two tests, from what the code finds of the line
pub read_is : (st : Stand) (log : List ℕ) (at e : ℕ) (f : Result Line Refusal) → length log ≤ 60000 → at < length log → e ≡ at + line_len (drop at log)
    → f ≡ spot_of st (take (e - at) (drop at log)) → taken at e f ≡ read_in st log at
unfolding read_in next_line bytes_at
read_is st log at e f h k he hf =
    let q : e - at ≡ line_len (drop at log) = omega arith in
    rw (le-ltb 60000 (length log) h, lt-ltb at (length log) k, hf, q, he)

-- and its place is in the log
pub read_reaches : (st : Stand) (log : List ℕ) (at e : ℕ) (f : Result Line Refusal) → length log ≤ 60000 → at < length log → e ≡ at + line_len (drop at log)
    → f ≡ spot_of st (take (e - at) (drop at log)) → Reaches at 60000 f
read_reaches st log at e (Ok l) h k he hf = tt
read_reaches st log at e (Err why) h k he hf =
    let b = (bounded st (take (e - at) (drop at log)) why.number why.place (sym hf)).place in
    let u = len_le (drop at log) in
    omega (arith, length-take (e - at) (drop at log), length-drop at log)

-- WHAT IS KNOWN OF AN ITEM THAT WAS READ

-- what is known of an item that was read at a place
pub record Had (st : Stand) (log : List ℕ) (at : ℕ) (l : Line) (next : ℕ) : Type 0 where
  pub short : length log ≤ 60000
  pub inside : at < length log
  pub found : spot_of st (bytes_at log at) ≡ Ok l
  pub on : next ≡ next_line log at

abbrev pub HadIn : Stand → List ℕ → ℕ → Result (Line × ℕ) Refusal → Type 0
HadIn st log at (Ok (l, next)) = Had st log at l next
HadIn st log at (Err e) = Unit {0}

had_taken : (st : Stand) (log : List ℕ) (at : ℕ) (f : Result Line Refusal) → length log ≤ 60000 → at < length log → spot_of st (bytes_at log at) ≡ f
    → HadIn st log at (taken at (next_line log at) f)
had_taken st log at (Ok l) s h e = record { short = s; inside = h; found = e; on = refl }
had_taken st log at (Err why) s h e = tt

pub had_in : (st : Stand) (log : List ℕ) (at : ℕ) → HadIn st log at (read_in st log at)
unfolding read_in
had_in st log at =
    pick_each (HadIn st log at) (ltb 60000 (length log)) (λ e. tt) λ e.
    pick_each (HadIn st log at) (ltb at (length log))
    (λ h. had_taken st log at (spot_of st (bytes_at log at)) (ltb-false 60000 (length log) e) (ltb-true at (length log) h) refl) (λ h. tt)

pub had : (st : Stand) (log : List ℕ) (at : ℕ) (l : Line) (next : ℕ) → read_in st log at ≡ Ok (l, next) → Had st log at l next
had st log at l next e = rw e at (had_in st log at)

module _ {st : Stand} {log : List ℕ} {at : ℕ} {l : Line} {next : ℕ} (h : Had st log at l next) where
  pub had_says : line_of (bytes_at log at) ≡ l
  had_says = (told st (bytes_at log at) l h.found).says

  -- the bytes of an item are its text
  pub had_text : (bytes_at log at ≡ line_text l) × Printable l
  had_text =
      let r = right_line st (bytes_at log at) l h.found in
      (r.is, r.within)

-- READING, BY THE PLACE AND THE LOG'S LENGTH
module _ (st : Stand) (log : List ℕ) (at : ℕ) (s : length log ≤ 60000) where
  pub read_some : at < length log → read_in st log at ≡ taken at (next_line log at) (spot_of st (bytes_at log at))
  unfolding read_in
  read_some h = rw (le-ltb 60000 (length log) s, lt-ltb at (length log) h)

  pub read_none : length log ≤ at → read_in st log at ≡ Err (refusal 18 (length log))
  unfolding read_in
  read_none h = rw (le-ltb 60000 (length log) s, le-ltb at (length log) h)

pub read_long : (st : Stand) (log : List ℕ) (at : ℕ) → 60000 < length log → read_in st log at ≡ Err (refusal 5 0)
unfolding read_in
read_long st log at h = rw (lt-ltb 60000 (length log) h)

-- WITH A DEPTH AND WITHOUT: an item at some depth is one where no depth is known, and the other way round where it may stand

item_in_lem : (st : Stand) (log : List ℕ) (at : ℕ) (l : Line) (next : ℕ) → length log ≤ 60000 → at < length log → next ≡ next_line log at
    → spot_of st (bytes_at log at) ≡ Ok l → read_in st log at ≡ Ok (l, next)
item_in_lem st log at l next s h n e = read_some st log at s h ∙ (ap (taken at (next_line log at)) e ∙ ap (λ (x : ℕ). Ok (l, x)) (sym n))

pub standing_on : (log : List ℕ) (at d : ℕ) → 0 < at → standing log at d ≡ Among (is_second log at) d
unfolding standing
standing_on log at d z = rw (ne_eqb at 0 (λ q. omega arith))

-- a line that is right where it stands: `log=1` at the start of the log, `machine=pal` behind it, or one that may stand at that depth
pub data Stands (at d : ℕ) : Line → Type 0 where
  head : at ≡ 0 → Stands at d Header
  tells : at ≡ 6 → Stands at d Machine
  inner : {l : Line} → 0 < at → Goes d l → Stands at d l

pub stands : (log : List ℕ) (at d : ℕ) (s : List ℕ) (l : Line) → spot_of (standing log at d) s ≡ Ok l → Stands at d l
unfolding standing is_second
stands log at d s l e = go (eqb at 0) refl e
  where
    further : {l : Line} → (at ≡ 0 → ⊥) → Lets (is_second log at) d l → Stands at d l
    further z (pal h) = tells (eqb-true at 6 (both_left (eqb at 6) _ h))
    further z (turn g) = inner (omega (arith, z)) g

    go : (b : Bool) → eqb at 0 ≡ b → spot_of (pick b First (Among (is_second log at) d)) s ≡ Ok l → Stands at d l
    go true q e = subst (Stands at d) (sym (first_header s l e)) (head (eqb-true at 0 q))
    go false q e = further (eqb-false at 0 q) (lets (is_second log at) d s l e)

pub from_depth : (log : List ℕ) (at d : ℕ) (l : Line) (next : ℕ) → read_in (standing log at d) log at ≡ Ok (l, next) → read_at log at ≡ Ok (l, next)
unfolding read_at standing
from_depth log at d l next e = go (eqb at 0) refl (had (pick (eqb at 0) First (Among (is_second log at) d)) log at l next e)
  where
    go : (b : Bool) → eqb at 0 ≡ b → Had (pick b First (Among (is_second log at) d)) log at l next → read_in (pick b First (Alone (is_second log at))) log at ≡ Ok (l, next)
    go true q h = item_in_lem First log at l next h.short h.inside h.on h.found
    go false q h = item_in_lem (Alone (is_second log at)) log at l next h.short h.inside h.on (alone (is_second log at) d (bytes_at log at) l h.found)

goes_inner : {d : ℕ} → Goes d Header → ⊥
goes_inner g = go Header g refl
  where
    go : {d : ℕ} (l : Line) → Goes d l → l ≡ Header → ⊥
    go l acts-on e = let z : ◌≡◌ {A = ℕ} 0 1 = cc in omega arith
    go l (opened-on h) e = let z : ◌≡◌ {A = ℕ} 0 1 = cc in omega arith
    go l (closes-on h) e = let z : ◌≡◌ {A = ℕ} 0 1 = cc in omega arith
    go l (ends_on h) e = let z : ◌≡◌ {A = ℕ} 0 1 = cc in omega arith

pub to_depth : (log : List ℕ) (at d : ℕ) (l : Line) (next : ℕ) → Goes d l → read_at log at ≡ Ok (l, next) → read_in (standing log at d) log at ≡ Ok (l, next)
unfolding read_at standing
to_depth log at d l next g e = go (eqb at 0) (had (pick (eqb at 0) First (Alone (is_second log at))) log at l next e)
  where
    go : (b : Bool) → Had (pick b First (Alone (is_second log at))) log at l next → read_in (pick b First (Among (is_second log at) d)) log at ≡ Ok (l, next)
    go true h = absurd (goes_inner (subst (Goes d) (first_header (bytes_at log at) l h.found) g))
    go false h = item_in_lem (Among (is_second log at) d) log at l next h.short h.inside h.on (tell (Among (is_second log at) d) (bytes_at log at) l (had_says h) (goes_may (is_second log at) g))

pub had_at : (log : List ℕ) (at : ℕ) (l : Line) (next : ℕ) → read_at log at ≡ Ok (l, next) → Had (pick (eqb at 0) First (Alone (is_second log at))) log at l next
unfolding read_at
had_at log at l next e = had (pick (eqb at 0) First (Alone (is_second log at))) log at l next e
