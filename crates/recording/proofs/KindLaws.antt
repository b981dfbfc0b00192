-- A recording by its kind: a log stands for what it stood for, and a log that passes is no file. Assumes nothing.
use Prim.Native.Nat.{ℕ}
use mathlib.Core.Path.{◌≡◌, refl, ap, sym, ◌∙◌}
use mathlib.Core.Bool.{Bool, true, false, not}
use mathlib.Core.List.{List, [], ◌∷◌, ◌++◌}
use lib.Dec.{eqb}
use Rattle.arith.specs.Pick.{pick, both}
use Rattle.arith.proofs.PickLaws.{pick_true, pick_false, both_left, both_right}
use Rattle.text.specs.Ascii.{bytes}
use Rattle.text.specs.Key.{starts_with}
use Rattle.log_line.specs.declared.Line.TheVariants.{Stop}
use Rattle.log_line.specs.Printed.{line_text, ended}
use Rattle.log_rules.specs.Head as log
use Rattle.log_rules.specs.Head.{head_text}
use Rattle.log_rules.specs.Tree.{Tree, text, log_text}
use Rattle.log_rules.specs.Whole as whole
use Rattle.log_passing.proofs.Passing.{stands}
use Rattle.vgm_file.specs.Header.{is_pal_file}
use Rattle.recording.specs.Whole.{are_bytes, is_file, file_tree, file_check, machine_of, tree_of, check_of}
use Rattle.recording.proofs.ByteLaws.{bytes_append}

-- A LOG
module _ (b : List ℕ) (e : is_file b ≡ false) where
  pub log_machine : machine_of b ≡ log.machine_of b
  unfolding machine_of
  log_machine = pick_false (is_file b) _ _ e

  pub log_tree : tree_of b ≡ whole.tree_of b
  unfolding tree_of
  log_tree = pick_false (is_file b) _ _ e

  pub log_check : check_of b ≡ whole.check_of b
  unfolding check_of
  log_check = pick_false (is_file b) _ _ e

-- A FILE
module _ (b : List ℕ) (e : is_file b ≡ true) where
  pub file_machine : machine_of b ≡ is_pal_file b
  unfolding machine_of
  file_machine = pick_true (is_file b) _ _ e

  pub file_tree_lem : tree_of b ≡ file_tree b
  unfolding tree_of
  file_tree_lem = pick_true (is_file b) _ _ e

  pub file_check_lem : check_of b ≡ file_check b
  unfolding check_of
  file_check_lem = pick_true (is_file b) _ _ e

  pub file_bytes_lem : are_bytes b ≡ true
  unfolding is_file
  file_bytes_lem = both_right (starts_with (bytes "Vgm ") b) (are_bytes b) e

-- bytes that are lent are a file where they begin so
pub lent_file : (b : List ℕ) → are_bytes b ≡ true → starts_with (bytes "Vgm ") b ≡ is_file b
unfolding is_file
lent_file b e = by (starts_with (bytes "Vgm ") b)
  where
    by : (t : Bool) → t ≡ both t (are_bytes b)
    by true = sym e
    by false = refl

-- THE TWO ARE APART

-- a log's head is not that of a file
head_apart : (m : Bool) (rest : List ℕ) → starts_with (bytes "Vgm ") (head_text m ++ rest) ≡ false
unfolding starts_with line_text ended
head_apart true rest = refl
head_apart false rest = refl

text_apart : (m : Bool) (t : Tree) (n : ℕ) → is_file (log_text m t n) ≡ false
unfolding is_file log_text
text_apart m t n = rw (head_apart m (text t ++ line_text (Stop n)))

-- a log that passes the log's check is no file
pub passing_log : (b : List ℕ) → (whole.check_of b).number ≡ 0 → is_file b ≡ false
passing_log b h = ap is_file (stands b h).is_text ∙ text_apart _ _ _

-- WHAT STANDS BEHIND A LINE FEED DOES NOT MATTER, as a key has none

unfoldable feedless : List ℕ → Bool
feedless [] = true
feedless (k ∷ ks) = both (not (eqb 10 k)) (feedless ks)

starts_front : (key front x y : List ℕ) → feedless key ≡ true → starts_with key (front ++ (10 ∷ x)) ≡ starts_with key (front ++ (10 ∷ y))
unfolding starts_with feedless
starts_front [] front x y h = refl
starts_front (k ∷ ks) [] x y h = by (eqb 10 k) (both_left (not (eqb 10 k)) (feedless ks) h)
  where
    by : (t : Bool) → not t ≡ true → pick t (starts_with ks x) false ≡ pick t (starts_with ks y) false
    by true e = cc
    by false e = refl
starts_front (k ∷ ks) (f ∷ front) x y h =
    ap (λ (r : Bool). pick (eqb f k) r false) (starts_front ks front x y (both_right (not (eqb 10 k)) (feedless ks) h))

bytes_front : (front x y : List ℕ) → are_bytes x ≡ are_bytes y → are_bytes (front ++ (10 ∷ x)) ≡ are_bytes (front ++ (10 ∷ y))
unfolding are_bytes
bytes_front front x y e = bytes_append front (10 ∷ x) ∙ (ap (both (are_bytes front)) e ∙ sym (bytes_append front (10 ∷ y)))

pub front_file : (front x y : List ℕ) → are_bytes x ≡ are_bytes y → is_file (front ++ (10 ∷ x)) ≡ is_file (front ++ (10 ∷ y))
unfolding is_file feedless
front_file front x y e = rw (starts_front (bytes "Vgm ") front x y refl, bytes_front front x y e)
