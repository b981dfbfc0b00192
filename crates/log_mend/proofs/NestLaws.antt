-- What is carried from line to line is the number of open loops and, of so many, where the innermost begins. Assumes nothing.
use Rattle.std.specs.Prelude.{Some, None}
use mathlib.Core.Path.{◌≡◌, refl, sym, ap, ap₂, ◌∙◌}
use mathlib.Core.List.{List, [], ◌∷◌}
use mathlib.Core.Bool.{Bool, true, false}
use Prim.Native.Nat.{ℕ, suc, ◌+◌, ◌-◌, ◌≤◌, ◌<◌}
use native.Mathlib.Omega.{arith}
use borrow.Author.Tests.{eqb-true, eqb-false}
use lib.Dec.{eqb}
use lib.ListN.{length, get_or, take, drop, drop_of_length-le}
use Rattle.arith.specs.Pick.{pick}
use Rattle.log_line.specs.declared.Line.{Line}
use Rattle.log_line.specs.declared.Line.TheVariants.{Header, Machine, One, Loop, Done, Stop, NoForm, NoRegister}
use Rattle.log_line.specs.Said.{line_of}
use Rattle.log_rules.specs.Lines.{lines_of, line_len, bytes_at, next_line}
use Rattle.log_rules.proofs.PlaceLaws.{bytes_long, next_pos, next_le}
use Rattle.log_rules.proofs.JudgeLaws.{lines_from, lines_at}
use Rattle.log_mend.specs.declared.Nest.{Nest}
use Rattle.log_mend.specs.Mending.{opened, open_behind, innermost, open_at}
use Rattle.log_mend.specs.Nesting.{no_nest, nest_line, nest_lines}

-- s goes with the loops that are open: it counts them, and has the place of the wanted one, from the outermost, while that is open
pub record Marks (want : ℕ) (loops : List ℕ) (s : Nest) : Type 0 where
  pub depth : s.depth ≡ length loops
  pub mark : 0 < want → want ≤ length loops → s.mark ≡ get_or loops (length loops - want) 0

-- one more from the front
get_d_more : (p : ℕ) (l : List ℕ) (n i j : ℕ) → n ≡ suc i → i ≡ j → get_or (p ∷ l) n 0 ≡ get_or l j 0
get_d_more p l n i j e f = rw (e, f)

module _ (want at : ℕ) where
  loop_marks : (loops : List ℕ) (s : Nest) (n : ℕ) → Marks want loops s → Marks want (at ∷ loops) (nest_line want at (Loop n) s)
  loop_marks loops s n m = go (eqb (s.depth + 1) want) refl
    where
      go : (b : Bool) → eqb (s.depth + 1) want ≡ b → Marks want (at ∷ loops) (record { depth = s.depth + 1; mark = pick b at s.mark })
      go true e =
          let d = m.depth in
          let q = eqb-true (s.depth + 1) want e in
          let z : suc (length loops) - want ≡ 0 = omega arith in
          record { depth = omega arith; mark = λ h k. rw z }
      go false e =
          let d = m.depth in
          let q = eqb-false (s.depth + 1) want e in
          record {
            depth = omega arith;
            mark = λ h k.
                let w : want ≤ length loops = omega (arith, q, d, k) in
                m.mark h w ∙ sym (get_d_more at loops (suc (length loops) - want) (length loops - want) (length loops - want) (omega arith) refl);
          }

  done_marks : (loops : List ℕ) (s : Nest) → Marks want loops s → Marks want (opened at Done loops) (nest_line want at Done s)
  unfolding opened
  done_marks [] s m = let d = m.depth in record { depth = omega arith; mark = m.mark }
  done_marks (p ∷ loops) s m =
      let d = m.depth in
      record {
        depth = omega arith;
        mark = λ h k. m.mark h (omega arith) ∙ get_d_more p loops (suc (length loops) - want) (length loops - want) (length loops - want) (omega arith) refl;
      }

  line_marks : (l : Line) (loops : List ℕ) (s : Nest) → Marks want loops s → Marks want (opened at l loops) (nest_line want at l s)
  unfolding opened
  line_marks Header loops s m = m
  line_marks Machine loops s m = m
  line_marks (One a) loops s m = m
  line_marks (Loop n) loops s m = loop_marks loops s n m
  line_marks Done loops s m = done_marks loops s m
  line_marks (Stop n) loops s m = m
  line_marks NoForm loops s m = m
  line_marks NoRegister loops s m = m

lines_marks : (want at : ℕ) (ls : List (List ℕ)) (loops : List ℕ) (s : Nest) → Marks want loops s → Marks want (open_behind at ls loops) (nest_lines want at ls s)
unfolding open_behind nest_lines
lines_marks want at [] loops s m = m
lines_marks want at (l ∷ ls) loops s m =
    lines_marks want (at + length l) ls (opened at (line_of l) loops) (nest_line want at (line_of l) s) (line_marks want at (line_of l) loops s m)

-- behind all lines of the front of a log
pub marks : (want : ℕ) (log : List ℕ) (place : ℕ) (front : List ℕ) → front ≡ take place log → (s : Nest) → s ≡ nest_lines want 0 (lines_of front) no_nest
    → Marks want (open_at log place) s
unfolding open_at
marks want log place front f s e =
    rw (e, f) (lines_marks want 0 (lines_of (take place log)) [] no_nest (record { depth = refl; mark = λ h k. absurd (omega arith) }))

-- what the code answers: none where none is open
pub none_open : {want : ℕ} {loops : List ℕ} {s : Nest} → Marks want loops s → s.depth ≡ 0 → None ≡ innermost loops
none_open {want} {loops} {s} m z = go loops (let d = m.depth in omega arith)
  where
    go : (o : List ℕ) → length o ≡ 0 → None ≡ innermost o
    go [] e = refl
    go (p ∷ o) e = absurd (omega arith)

-- and the latest that made them so many as are open
pub some_open : {want k : ℕ} {loops : List ℕ} {s t : Nest} → Marks k loops s → (s.depth ≡ 0 → ⊥) → want ≡ s.depth → Marks want loops t
    → Some t.mark ≡ innermost loops
some_open {want} {k} {loops} {s} {t} m z w n =
    let d = m.depth in
    go loops (omega (arith, w, d)) (omega (arith, z, d)) n.mark
  where
    go : (o : List ℕ) → want ≡ length o → 0 < length o → (0 < want → want ≤ length o → t.mark ≡ get_or o (length o - want) 0)
        → Some t.mark ≡ innermost o
    go [] e h f = absurd (omega arith)
    go (p ∷ o) e h f =
        let i : suc (length o) - want ≡ 0 = omega arith in
        ap Some (rw i at (f (omega arith) (omega arith)))

-- ONE LINE OF THE CODE

module _ (log : List ℕ) (at e : ℕ) (h : at < length log) (n : e ≡ next_line log at) where
  -- the part that the code cuts out is the line
  pub line_is : take (e - at) (drop at log) ≡ bytes_at log at
  unfolding bytes_at next_line
  line_is = ap (λ (x : ℕ). take x (drop at log)) (let z : e - at ≡ line_len (drop at log) = omega arith in z)

  pub nest_on : (want : ℕ) (s : Nest)
      → nest_lines want at (lines_from log at) s ≡ nest_lines want e (lines_from log e) (nest_line want at (line_of (take (e - at) (drop at log))) s)
  unfolding nest_lines
  nest_on want s =
      ap (λ (ls : List (List ℕ)). nest_lines want at ls s) (lines_at log at h)
      ∙ (ap₂ (λ (i j : ℕ). nest_lines want i (lines_from log j) (nest_line want at (line_of (bytes_at log at)) s)) (bytes_long log at ∙ sym n) (sym n)
      ∙ ap (λ (b : List ℕ). nest_lines want e (lines_from log e) (nest_line want at (line_of b) s)) (sym line_is))

  pub line_on : at < e
  line_on = omega (arith, next_pos log at h)

  pub line_in : e ≤ length log
  line_in = omega (arith, next_le log at (omega arith))

-- at the end no line is left
pub nest_end : (log : List ℕ) (at want : ℕ) (s : Nest) → length log ≤ at → nest_lines want at (lines_from log at) s ≡ s
unfolding nest_lines lines_of
nest_end log at want s h = rw (drop_of_length-le log h)

-- a line opens one loop at most
pub nest_low : (want at : ℕ) (l : Line) (s : Nest) → (nest_line want at l s).depth ≤ s.depth + 1
nest_low want at Header s = omega arith
nest_low want at Machine s = omega arith
nest_low want at (One a) s = omega arith
nest_low want at (Loop n) s = omega arith
nest_low want at Done s = omega arith
nest_low want at (Stop n) s = omega arith
nest_low want at NoForm s = omega arith
nest_low want at NoRegister s = omega arith
