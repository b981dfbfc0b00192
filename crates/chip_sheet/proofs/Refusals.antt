-- What a sheet answers by its number: where it isn't refused, every part of what is asked for is in its range. Assumes nothing.
use Prim.Native.Nat.{ℕ, ◌≤◌}
use mathlib.Core.Path.{◌≡◌, refl}
use mathlib.Core.Bool.{Bool, true, false, not}
use mathlib.Core.List.{List, ◌++◌}
use native.Mathlib.Omega.{arith}
use lib.Dec.{ltb, eqb}
use lib.ListN.{length, drop}
use borrow.Author.Tests.{ltb-false, eqb-true, not-false, eq-eqb, ne_eqb}
use Rattle.arith.specs.Pick.{pick, either}
use Rattle.arith.proofs.PickLaws.{pick_both}
use Rattle.chip_sheet.specs.Sheet.{sheet_levels, first_number, sheet_number, sheet_answer, sheet_buffer}
use Rattle.chip_sheet.specs.declared.Written.{Written}

passed : (t : Bool) (k rest : ℕ) → (k ≡ 0 → ⊥) → pick t k rest ≡ 0 → (t ≡ false) × (rest ≡ 0)
passed true k rest h e = absurd (h e)
passed false k rest h e = (refl, e)

neither : (a b : Bool) → either a b ≡ false → (a ≡ false) × (b ≡ false)
neither true b e = (e, let z : ◌≡◌ {A = ℕ} 0 1 = cc in absurd (omega arith))
neither false b e = (refl, e)

pub record Asked (memory : List ℕ) (level address n room : ℕ) : Type 0 where
  pub memory_long : length memory ≡ 32768
  pub level_most : level ≤ 127
  pub address_least : 32768 ≤ address
  pub address_most : address ≤ 65535
  pub length_most : n ≤ 4081
  pub fits : n ≤ room

pub done : (memory : List ℕ) (level address n room : ℕ) → sheet_number memory level address n room ≡ 0 → Asked memory level address n room
unfolding sheet_number first_number
done memory level address n room e =
    let a = passed (not (eqb (length memory) 32768)) 1 _ (λ z. omega arith) e in
    let b = passed (ltb 127 level) 20 _ (λ z. omega arith) a.1 in
    let c = passed (either (ltb address 32768) (ltb 65535 address)) 21 _ (λ z. omega arith) b.1 in
    let d = passed (ltb 4081 n) 22 _ (λ z. omega arith) c.1 in
    let f = passed (ltb room n) 23 0 (λ z. omega arith) d.1 in
    let o = neither (ltb address 32768) (ltb 65535 address) c.0 in
    record {
      memory_long = eqb-true (length memory) 32768 (not-false (eqb (length memory) 32768) a.0);
      level_most = ltb-false 127 level b.0;
      address_least = ltb-false address 32768 o.0;
      address_most = ltb-false 65535 address o.1;
      length_most = ltb-false 4081 n d.0;
      fits = ltb-false room n f.0;
    }

module _ (memory : List ℕ) (level address n : ℕ) (buffer : List ℕ) where
  pub drawn_out : sheet_number memory level address n (length buffer) ≡ 0
      → (◌≡◌ {A = Written} (record { number = 0; length = n }) (sheet_answer memory level address n buffer))
      × (sheet_levels memory n address level ++ drop n buffer ≡ sheet_buffer memory level address n buffer)
  unfolding sheet_answer sheet_buffer
  drawn_out e = rw (eq-eqb (sheet_number memory level address n (length buffer)) 0 e) (refl, refl)

  pub refused : (k : ℕ) → k ≡ sheet_number memory level address n (length buffer) → (k ≡ 0 → ⊥)
      → (◌≡◌ {A = Written} (record { number = k; length = 0 }) (sheet_answer memory level address n buffer))
      × (buffer ≡ sheet_buffer memory level address n buffer)
  unfolding sheet_answer sheet_buffer
  refused k e h = rw (← e, ne_eqb k 0 h) (refl, refl)

number_most : (memory : List ℕ) (level address n room : ℕ) → sheet_number memory level address n room ≤ 23
unfolding sheet_number first_number
number_most memory level address n room =
    let P : ℕ → Type 0 = λ k. k ≤ 23 in
    pick_both P (not (eqb (length memory) 32768)) (omega arith)
    (pick_both P (ltb 127 level) (omega arith)
    (pick_both P (either (ltb address 32768) (ltb 65535 address)) (omega arith)
    (pick_both P (ltb 4081 n) (omega arith) (pick_both P (ltb room n) (omega arith) (omega arith)))))

-- an answer's number is at most 23
pub answer_most : (memory : List ℕ) (level address n : ℕ) (buffer : List ℕ) → (sheet_answer memory level address n buffer).number ≤ 23
unfolding sheet_answer
answer_most memory level address n buffer =
    pick_both (λ (w : Written). w.number ≤ 23) (eqb (sheet_number memory level address n (length buffer)) 0) (omega arith)
    (number_most memory level address n (length buffer))
