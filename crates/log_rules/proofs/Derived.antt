-- The reading of a block as a derivation, line by line: what proofs about a log that passed go by. Assumes nothing.
use Rattle.std.specs.Prelude.{Result, Ok, Err}
use mathlib.Core.Path.{◌≡◌, refl, ap, ◌∙◌}
use mathlib.Core.List.{List}
use Prim.Native.Nat.{ℕ, zero, suc, ◌+◌, ◌≤◌, ◌<◌}
use native.Mathlib.Omega.{arith}
use lib.ListN.{length}
use Rattle.refusal.specs.declared.Refusal.{Refusal}
use Rattle.log_line.specs.declared.Act.{Act}
use Rattle.log_line.specs.declared.Line.{Line}
use Rattle.log_line.specs.declared.Line.TheVariants.{Header, Machine, One, Loop, Done, Stop, NoForm, NoRegister}
use Rattle.log_rules.specs.Reading.{standing, read_in, read_at}
use Rattle.log_fault.proofs.Standing.{act as acts-on, opens as opened-on, closes as closes-on, ends as ends_on}
use Rattle.log_rules.specs.Lines.{bytes_at}
use Rattle.log_rules.specs.Tree.{Tree, end, act, loop}
use Rattle.log_rules.specs.Block.{Got, closed, stopped, refused, begun, begun_by, read_begun, looped, piece, before, onward, read_block, read_part}
use Rattle.log_rules.proofs.PlaceLaws.{had, had_at, had_text, from_depth, to_depth, Stands, head, tells, inner, stands}
use Rattle.log_rules.proofs.Descent.{unrolled, begun_on, got_behind, BegunBehind, Behind}

-- how a block ends: the place of its `done` and the place behind it; or the place of its `stop`, the place behind it and its number
pub data Ending : Type 0 where
  closes : ℕ → ℕ → Ending
  stops : ℕ → ℕ → ℕ → Ending

pub data Reads (log : List ℕ) : ℕ → ℕ → Tree → Ending → Type 0 where
  an_act : {at d p : ℕ} {a : Act} {t : Tree} {e : Ending} → read_at log at ≡ Ok (One a, p) → Reads log p d t e → Reads log at d (act a t) e
  a_loop : {at d n p q r : ℕ} {b t : Tree} {e : Ending} → read_at log at ≡ Ok (Loop n, p) → 0 < n → d < 8
      → Reads log p (d + 1) b (closes q r) → Reads log r d t e → Reads log at d (loop n b t) e
  a_done : {at d p : ℕ} → read_at log at ≡ Ok (Done, p) → 0 < d → Reads log at d end (closes at p)
  a_stop : {at p n : ℕ} → read_at log at ≡ Ok (Stop n, p) → Reads log at 0 end (stops at p n)

abbrev pub Derived : List ℕ → ℕ → ℕ → Got → Type 0
Derived log at d (closed t p q) = Reads log at d t (closes p q)
Derived log at d (stopped t p q n) = Reads log at d t (stops p q n)
Derived log at d (refused k p) = Unit {0}

-- a loop has turns
turned : (log : List ℕ) (at n p : ℕ) → read_at log at ≡ Ok (Loop n, p) → 0 < n
turned log at n p e = let h = (had_text (had_at log at (Loop n) p e)).1 in omega arith

module _ (log : List ℕ) (at d : ℕ) where
  act_on : (a : Act) (p : ℕ) (g : Got) → read_at log at ≡ Ok (One a, p) → Derived log p d g → Derived log at d (before (act a) g)
  unfolding before
  act_on a p (closed t q r) l h = an_act l h
  act_on a p (stopped t q r m) l h = an_act l h
  act_on a p (refused k q) l h = tt

  loop_on : (n p q r : ℕ) (b : Tree) (g : Got) → read_at log at ≡ Ok (Loop n, p) → d < 8 → Reads log p (d + 1) b (closes q r) → Derived log r d g → Derived log at d (before (loop n b) g)
  unfolding before
  loop_on n p q r b (closed t u v) l k h i = a_loop l (turned log at n p l) k h i
  loop_on n p q r b (stopped t u v m) l k h i = a_loop l (turned log at n p l) k h i
  loop_on n p q r b (refused m u) l k h i = tt

  body_on : (n p : ℕ) (g : Got) → read_at log at ≡ Ok (Loop n, p) → d < 8 → at < p → Derived log p (d + 1) g → Behind p (length log) g
      → ((q : ℕ) → at < q → q ≤ length log → Derived log q d (read_block log q d)) → Derived log at d (onward (λ q. read_block log q d) (looped n g))
  unfolding looped onward
  body_on n p (closed b q r) l k a h i rec = loop_on n p q r b (read_block log r d) l k h (rec r (omega arith) i.2)
  body_on n p (stopped b q r m) l k a h i rec = tt
  body_on n p (refused m q) l k a h i rec = tt

  line_on : (l : Line) (p : ℕ) → read_at log at ≡ Ok (l, p) → Stands at d l → BegunBehind at (length log) d (begun at p l)
      → ((p e : ℕ) → at < p → p ≤ length log → Derived log p e (read_block log p e))
      → Derived log at d (onward (λ p. read_block log p d) (piece (read_block log) d (begun at p l)))
  unfolding begun piece onward
  line_on Header p l (head z) b rec = tt
  line_on Machine p l (tells z) b rec = tt
  line_on (One a) p l (inner z acts-on) b rec = act_on a p (read_block log p d) l (rec p d b.0 b.1)
  line_on (Loop n) p l (inner z (opened-on k)) b rec =
      body_on n p (read_block log p (d + 1)) l k b.0 (rec p (d + 1) b.0 b.1) (got_behind log p (d + 1)) (λ p i j. rec p d i j)
  line_on Done p l (inner z (closes-on k)) b rec = a_done l k
  line_on (Stop n) p l (inner z (ends_on k)) b rec = rw k (a_stop l)
  line_on NoForm p l w b rec = tt
  line_on NoRegister p l w b rec = tt
  line_on Header p l (inner z x9) b rec = elim x9 [ ]
  line_on Machine p l (inner z x8) b rec = elim x8 [ ]

  read_on : (s : Result (Line × ℕ) Refusal) → read_in (standing log at d) log at ≡ s → BegunBehind at (length log) d (begun_by at s)
      → ((p e : ℕ) → at < p → p ≤ length log → Derived log p e (read_block log p e))
      → Derived log at d (onward (λ p. read_block log p d) (piece (read_block log) d (begun_by at s)))
  unfolding begun_by piece onward
  read_on (Err e) l b rec = tt
  read_on (Ok (m, p)) l b rec = line_on m p (from_depth log at d m p l) (stands log at d (bytes_at log at) m (had (standing log at d) log at m p l).found) b rec

  step_on : ((p e : ℕ) → at < p → p ≤ length log → Derived log p e (read_block log p e)) → Derived log at d (read_block log at d)
  unfolding read_part read_begun
  step_on rec = rw (unrolled log at d) (read_on (read_in (standing log at d) log at) refl (begun_on log at d) rec)

derived_in : (f : ℕ) (log : List ℕ) (at d : ℕ) → length log ≤ at + f → Derived log at d (read_block log at d)
derived_in zero log at d h = step_on log at d (λ p e i j. absurd (omega arith))
derived_in (suc f) log at d h = step_on log at d (λ p e i j. derived_in f log p e (omega arith))

-- what was read as a block has its derivation
pub derived : (log : List ℕ) (at d : ℕ) → Derived log at d (read_block log at d)
derived log at d = derived_in (length log) log at d (omega arith)

-- and what has a derivation is read as that block

abbrev pub got : Tree → Ending → Got
got t (closes p q) = closed t p q
got t (stops p q n) = stopped t p q n

before_got : (f : Tree → Tree) (t : Tree) (e : Ending) → before f (got t e) ≡ got (f t) e
unfolding before
before_got f t (closes p q) = refl
before_got f t (stops p q n) = refl

pub block_of : {log : List ℕ} {at d : ℕ} {t : Tree} {e : Ending} → Reads log at d t e → read_block log at d ≡ got t e
unfolding read_part read_begun begun_by begun piece looped onward
block_of {log} {at} {d} {t} {e} (an_act {p = p} {a = a} {t = u} l r) =
    unrolled log at d ∙ rw (to_depth log at d (One a) p acts-on l) (ap (before (act a)) (block_of r) ∙ before_got (act a) u e)
block_of {log} {at} {d} {t} {e} (a_loop {n = n} {p = p} {b = b} {t = u} l i k r r') =
    unrolled log at d ∙ rw (to_depth log at d (Loop n) p (opened-on k) l, block_of r) (ap (before (loop n b)) (block_of r') ∙ before_got (loop n b) u e)
block_of {log} {at} {d} (a_done {p = p} l h) = unrolled log at d ∙ rw (to_depth log at d Done p (closes-on h) l) refl
block_of {log} {at} (a_stop {p = p} {n = n} l) = unrolled log at 0 ∙ rw (to_depth log at 0 (Stop n) p (ends_on refl) l) refl

-- a block that a `done` closes is inside a loop
pub inside_loop : {log : List ℕ} {at d p q : ℕ} {t : Tree} → Reads log at d t (closes p q) → 0 < d
inside_loop (an_act l r) = inside_loop r
inside_loop (a_loop l n k r r') = inside_loop r'
inside_loop (a_done l h) = h
