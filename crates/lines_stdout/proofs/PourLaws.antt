-- A TEXT THAT IS WRITTEN IN PIECES BY WAY OF A BUFFER: what stands when, and what each way out comes to. Assumes nothing.
use Prim.Native.Nat.{ℕ, ◌+◌, ◌≤◌}
use native.Mathlib.Omega.{arith}
use mathlib.Core.Path.{◌≡◌, refl, sym, ap, subst, ◌∙◌}
use mathlib.Core.Bool.{Bool, true, false, false≢true}
use mathlib.Core.List.{List, [], ◌++◌, append_assoc, append-nil}
use lib.ListN.{length, take, drop, length-append}
use lib.Seq.{sets, length-sets, sets-eq, take_at, length-take-le}
use lib.Dec.{leb}
use borrow.Author.Tests.{leb-true, leb-false}
use Rattle.text_print.specs.Printed.{printed, placed, Put}
use Rattle.text_print.proofs.StoreLaws.{placed_in, printed_in}
use Rattle.program_io.specs.Writes.{Writes, FrontWrites}
use Rattle.program_io.proofs.Joined.{Sent, sent_none, sent_piece, sent_cut, sent_whole}
use Rattle.lines_stdout.specs.Pours.{Pours}

-- Of the whole text `sent` was taken by the system, the first `at` bytes of the buffer come next, and then the rest.
pub record Pouring (whole rest out : List ℕ) (at : ℕ) : Type 0 where
  pub sent : List ℕ
  pub taken : Sent sent
  pub inside : at ≤ length out
  pub same : whole ≡ (sent ++ take at out) ++ rest

-- behind a text that was taken, with nothing in the buffer
pub pouring_start : (text rest out : List ℕ) → Sent text → Pouring (text ++ rest) rest out 0
pouring_start text rest out s = record { sent = text; taken = s; inside = omega arith; same = rw (append-nil text) refl }

-- the front of a buffer behind which a text was put
front_put : (text out : List ℕ) (at : ℕ) → at + length text ≤ length out → take (at + length text) (sets out at text) ≡ take at out ++ text
front_put text out at fits =
    let short = length-take-le at out (omega arith) in
    rw (sets-eq text out at fits)
    (take_at (take at out ++ text) (drop (at + length text) out) (at + length text) (length-append (take at out) text ∙ rw short refl))

-- the front of the rest put behind what stands in the buffer
pub pouring_put : (whole text rest out after : List ℕ) (at r : ℕ) → at + length text ≤ length out → Put out at text after r → Pouring whole (text ++ rest) out at
    → Pouring whole rest after r
pouring_put whole text rest out after at r fits p g = record {
  sent = g.sent;
  taken = g.taken;
  inside = rw (p.place, p.bytes, length-sets) fits;
  same =
      g.same
      ∙ (sym (append_assoc (g.sent ++ take at out) text rest)
      ∙ ap (λ (x : List ℕ). x ++ rest) (append_assoc g.sent (take at out) text ∙ ap (λ (x : List ℕ). g.sent ++ x) (rw (p.place, p.bytes) (sym (front_put text out at fits)))));
}

-- with no rest the buffer is the last piece
pub pouring_last : (whole out : List ℕ) (at : ℕ) (all : Bool) → FrontWrites out at all → Pouring whole [] out at → Writes whole all
pouring_last whole out at true w g = rw (g.same ∙ append-nil (g.sent ++ take at out)) (sent_whole (g.sent ++ take at out) (sent_piece g.sent (take at out) g.taken (w.front g.inside)))
pouring_last whole out at false w g = rw g.same (sent_cut g.sent (take at out) [] g.taken (w.front g.inside))

-- what was to be sent was taken whole
pouring_sent : (whole rest out : List ℕ) (at : ℕ) → FrontWrites out at true → Pouring whole rest out at → Pouring whole rest out 0
pouring_sent whole rest out at w g = record {
  sent = g.sent ++ take at out;
  taken = sent_piece g.sent (take at out) g.taken (w.front g.inside);
  inside = omega arith;
  same = rw (append-nil (g.sent ++ take at out)) g.same;
}

module _ (whole rest out : List ℕ) (at room next : ℕ) where
  -- a piece that wasn't taken whole
  pub pouring_cut : Pours out at room next false → Pouring whole rest out at → Writes whole false
  pouring_cut p g = by (leb (at + room) (length out)) refl
    where
      by : (b : Bool) → leb (at + room) (length out) ≡ b → Writes whole false
      by true e = absurd (false≢true (p.stays (leb-true (at + room) (length out) e)).1)
      by false e = rw g.same (sent_cut g.sent (take at out) rest g.taken ((p.sends (leb-false (at + room) (length out) e)).1.front g.inside))

  -- one that was, or none
  pub pouring_on : Pours out at room next true → Pouring whole rest out at → Pouring whole rest out next
  pouring_on p g = by (leb (at + room) (length out)) refl
    where
      by : (b : Bool) → leb (at + room) (length out) ≡ b → Pouring whole rest out next
      by true e = subst (λ (n : ℕ). Pouring whole rest out n) (sym (p.stays (leb-true (at + room) (length out) e)).0) g
      by false e =
          let s = p.sends (leb-false (at + room) (length out) e) in
          subst (λ (n : ℕ). Pouring whole rest out n) (sym s.0) (pouring_sent whole rest out at s.1 g)

-- there is room behind it
pub pours_room : (out : List ℕ) (at room next : ℕ) (all : Bool) → Pours out at room next all → room ≤ length out → next + room ≤ length out
pours_room out at room next all p h = by (leb (at + room) (length out)) refl
  where
    by : (b : Bool) → leb (at + room) (length out) ≡ b → next + room ≤ length out
    by true e = let l = leb-true (at + room) (length out) e in rw (p.stays l).0 l
    by false e = rw (p.sends (leb-false (at + room) (length out) e)).0 (omega (arith, h))

-- a text of two parts, the second behind the first where that was taken whole
pub writes_cut : (a b : List ℕ) → Writes a false → Writes (a ++ b) false
writes_cut a b w = sent_cut [] a b sent_none w

pub writes_two : (a b : List ℕ) (all : Bool) → Writes a true → Writes b all → Writes (a ++ b) all
writes_two a b true v w = sent_whole (a ++ b) (sent_piece a b (sent_piece [] a sent_none v) w)
writes_two a b false v w = subst (λ (x : List ℕ). Writes x false) (append-nil (a ++ b)) (sent_cut a b [] (sent_piece [] a sent_none v) w)

-- a text that stands alone in a buffer
pub written : (out after text : List ℕ) (n : ℕ) (all : Bool) → length text ≤ length out → n ≡ placed out 0 text → after ≡ printed out 0 text → FrontWrites after n all → Writes text all
written out after text n all size e f w =
    let fits : 0 + length text ≤ length out = omega arith in
    let long : n ≡ length text = e ∙ (placed_in out 0 text fits ∙ omega arith) in
    let is = f ∙ printed_in out 0 text fits in
    let inside : n ≤ length after = rw (is, length-sets) (omega arith) in
    rw (ap (take n) (is ∙ sets-eq text out 0 fits) ∙ take_at text (drop (0 + length text) out) n (sym long)) at (w.front inside)

-- what follows from either side of the test for room
module _ (out : List ℕ) (at room : ℕ) where
  pub stays_there : leb (at + room) (length out) ≡ true → Pours out at room at true
  stays_there e = record { stays = λ h. (refl, refl); sends = λ h. let l = leb-true (at + room) (length out) e in absurd (omega arith) }

  pub sends_all : (all : Bool) → leb (at + room) (length out) ≡ false → FrontWrites out at all → Pours out at room 0 all
  sends_all all e w = record { stays = λ h. let l = leb-false (at + room) (length out) e in absurd (omega arith); sends = λ h. (refl, w) }
