-- CALL k BEHIND A START GIVES ITEM k OF A LOG THAT PASSES, AND THEN THE END, AGAIN AND AGAIN. Assumes nothing.
use Prim.Native.Nat.{ℕ, zero, suc, ◌≤◌, ◌<◌}
use mathlib.Core.Path.{◌≡◌, refl, ap, ◌∙◌}
use mathlib.Core.Bool.{Bool, true, false}
use mathlib.Core.List.{List, [], ◌∷◌}
use native.Mathlib.Omega.{arith}
use borrow.Author.Tests.{eq-eqb, lt-ltb, ltb-true, ltb-false}
use lib.ListN.{length, get_or, drop, drop_of_length-le}
use lib.Seq.{drop-cons}
use lib.Dec.{ltb}
use Rattle.reading.specs.Saying.{over, says, Gives}
use Rattle.log_line.specs.declared.Act.{Act}
use Rattle.log_line.specs.declared.Act.TheVariants.{Wait}
use Rattle.log_rules.specs.Tree.{acts}
use Rattle.log_rules.specs.Whole.{tree_of, check_of}
use Rattle.log_item.specs.Items.{nth, item_of}
use Rattle.log_cursor.specs.declared.Cursor.{Cursor}
use Rattle.log_cursor.specs.Stepping.{beginning, step_of}
use Rattle.log_cursor.proofs.Whole.{cursor_gives}
use Rattle.c_log.specs.Logs.{log_packed, act_value, item_packed}
use Rattle.c_cursor.specs.Cursors.{cursor_size, cursor_bytes, cursor_encoded, CursorFits}
use Rattle.c_cursor.specs.Next.{next_in, next_of, next_packed, next_bytes, called}
use Rattle.c_cursor.proofs.PlaceLaws.{cursor_size_lem}
use Rattle.c_cursor.proofs.CodeLaws.{written_read}
use Rattle.c_cursor.proofs.NextLaws.{First, first_in_lem, Last, last_in_lem}
use Rattle.c_cursor.proofs.LimitLaws.{next_fits, step_stays}

zeros : (i : ℕ) → get_or {A = ℕ} (0 ∷ 0 ∷ 0 ∷ 0 ∷ 0 ∷ 0 ∷ 0 ∷ 0 ∷ []) i 0 ≡ 0
zeros zero = refl
zeros (suc zero) = refl
zeros (suc (suc zero)) = refl
zeros (suc (suc (suc zero))) = refl
zeros (suc (suc (suc (suc zero)))) = refl
zeros (suc (suc (suc (suc (suc zero))))) = refl
zeros (suc (suc (suc (suc (suc (suc zero)))))) = refl
zeros (suc (suc (suc (suc (suc (suc (suc zero))))))) = refl
zeros (suc (suc (suc (suc (suc (suc (suc (suc i)))))))) = refl

pub beginning_fits : CursorFits beginning
beginning_fits = record { at = omega arith; depth = omega arith; starts = (refl, λ i. omega (arith, zeros i)); left = (refl, λ i. omega (arith, zeros i)) }

-- the bytes of a cursor are called as the cursor
module _ (log : List ℕ) (c : Cursor) (f : CursorFits c) where
  size : length (cursor_bytes c) ≡ cursor_size
  size = cursor_size_lem c f.starts.0 f.left.0

  packed_says : (a : Act) → (next_in (step_of log) 2000002 c).said ≡ says a → next_packed log (cursor_bytes c) ≡ log_packed 0 0 (act_value a)
  unfolding next_packed next_of
  packed_says a e = rw (eq-eqb (length (cursor_bytes c)) cursor_size size, written_read c f, e)

  packed_over : (next_in (step_of log) 2000002 c).said ≡ over → next_packed log (cursor_bytes c) ≡ 0
  unfolding next_packed next_of
  packed_over e = rw (eq-eqb (length (cursor_bytes c)) cursor_size size, written_read c f, e)

  bytes_says : (a : Act) → (next_in (step_of log) 2000002 c).said ≡ says a → next_bytes log (cursor_bytes c) ≡ cursor_bytes (next_in (step_of log) 2000002 c).state
  unfolding next_bytes next_of
  bytes_says a e = rw (eq-eqb (length (cursor_bytes c)) cursor_size size, written_read c f, e)

  bytes_over : (next_in (step_of log) 2000002 c).said ≡ over → next_bytes log (cursor_bytes c) ≡ cursor_bytes (next_in (step_of log) 2000002 c).state
  unfolding next_bytes next_of
  bytes_over e = rw (eq-eqb (length (cursor_bytes c)) cursor_size size, written_read c f, e)

module _ (log : List ℕ) (passes : (check_of log).number ≡ 0) (b : List ℕ) (long : length b ≡ cursor_size) where
  -- behind k calls the bytes are a cursor's that gives the rest of the list
  record Left (k : ℕ) : Type 0 where
    cursor : Cursor
    bytes : called log k b ≡ cursor_bytes cursor
    fits : CursorFits cursor
    gives : Gives (step_of log) cursor (drop k (acts (tree_of log))) 2000002

  none : Left 0
  unfolding called cursor_encoded
  none = record { cursor = beginning; bytes = rw (eq-eqb (length b) cursor_size long); fits = beginning_fits; gives = cursor_gives log passes }

  -- an item is left
  first : (k : ℕ) → k < length (acts (tree_of log)) → (x : Left k)
      → First (step_of log) x.cursor (get_or (acts (tree_of log)) k (Wait 0)) (drop (suc k) (acts (tree_of log))) 2000002 2000002
  first k h x = first_in_lem (step_of log) 2000002 2000002 (omega arith) (omega arith) (rw (drop-cons (acts (tree_of log)) k (Wait 0) h) at x.gives)

  -- none is left
  last : (k : ℕ) → length (acts (tree_of log)) ≤ k → (x : Left k) → Last (step_of log) x.cursor 2000002 2000002
  last k h x = last_in_lem (step_of log) (step_stays log) 2000002 2000002 (omega arith) (omega arith) (rw (drop_of_length-le (acts (tree_of log)) h) at x.gives)

  more : (k : ℕ) → Left k → Left (suc k)
  unfolding called
  more k x = go (ltb k (length (acts (tree_of log)))) refl
    where
      go : (t : Bool) → ltb k (length (acts (tree_of log))) ≡ t → Left (suc k)
      go true e =
          let r = first k (ltb-true k (length (acts (tree_of log))) e) x in
          record {
            cursor = (next_in (step_of log) 2000002 x.cursor).state;
            bytes = ap (next_bytes log) x.bytes ∙ bytes_says log x.cursor x.fits (get_or (acts (tree_of log)) k (Wait 0)) r.said;
            fits = next_fits log 2000002 x.cursor x.fits;
            gives = r.left;
          }
      go false e =
          let h = ltb-false k (length (acts (tree_of log))) e in
          let r = last k h x in
          record {
            cursor = (next_in (step_of log) 2000002 x.cursor).state;
            bytes = ap (next_bytes log) x.bytes ∙ bytes_over log x.cursor x.fits r.said;
            fits = next_fits log 2000002 x.cursor x.fits;
            gives = rw (drop_of_length-le (acts (tree_of log)) {i = suc k} (omega arith)) r.left;
          }

  left : (k : ℕ) → Left k
  left zero = none
  left (suc k) = more k (left k)

  pub call_item : (k : ℕ) → k < length (acts (tree_of log)) → next_packed log (called log k b) ≡ item_packed log k
  unfolding item_of nth
  call_item k h =
      let x = left k in
      ap (next_packed log) x.bytes
      ∙ packed_says log x.cursor x.fits (get_or (acts (tree_of log)) k (Wait 0)) (first k h x).said
      ∙ rw (eq-eqb (check_of log).number 0 passes, lt-ltb k (length (acts (tree_of log))) h)

  pub call_end : (k : ℕ) → length (acts (tree_of log)) ≤ k → next_packed log (called log k b) ≡ 0
  call_end k h =
      let x = left k in
      ap (next_packed log) x.bytes ∙ packed_over log x.cursor x.fits (last k h x).said
