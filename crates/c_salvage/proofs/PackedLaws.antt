-- What is answered fits its bits, and each part of the number can be had again. Assumes nothing.
use Prim.Native.Nat.{ℕ, ◌+◌, ◌*◌, ◌/◌, ◌%◌, ◌^◌, ◌≤◌}
use mathlib.Core.Path.{◌≡◌, refl, sym, ap, ◌∙◌}
use mathlib.Core.List.{List}
use mathlib.Core.Bool.{Bool, true, false}
use native.Mathlib.Omega.{arith}
use borrow.Author.Tests.{ltb-false}
use lib.ListN.{length, take}
use lib.Dec.{eqb, ltb}
use Rattle.arith.specs.Pick.{pick, either}
use Rattle.log_rules.specs.Whole.{heavy}
use Rattle.log_salvage_rules.specs.Mending.{mended, mended_tree}
use Rattle.log_salvage_rules.specs.Promise.{Mends}
use Rattle.log_salvage_rules.proofs.Few.{few}
use Rattle.log_salvage.specs.declared.Salvaged.{Salvaged}
use Rattle.log_salvage.specs.Answer.{number_of, salvage_refusal, salvage_done, salvage_of}
use Rattle.c_log.proofs.PackedLaws.{apart}
use Rattle.c_salvage.specs.Packed.{salvage_packed}

pub record Limited (a : Salvaged) : Type 0 where
  pub number : a.number ≤ 31
  pub place : a.place ≡ 0
  pub long : a.length ≤ 60000
  pub few : a.entries ≤ 60010

pub salvage_limits : (log : List ℕ) (b w : ℕ) → Limited (salvage_of log b w)
unfolding salvage_of number_of
salvage_limits log b w =
    go (ltb 60000 (length log)) refl (heavy (mended_tree log)) (ltb b (length (mended log).new)) (ltb 60000 (length (mended log).new)) refl (ltb (w / 2) (length (mended log).list))
  where
    none : (k : ℕ) → k ≤ 31 → Limited (salvage_refusal k)
    none k h = record { number = h; place = refl; long = omega arith; few = omega arith }

    go : (x : Bool) → ltb 60000 (length log) ≡ x → (y u v : Bool) → ltb 60000 (length (mended log).new) ≡ v → (t : Bool)
        → Limited (pick (eqb (pick x 5 (pick y 9 (pick (either u v) 30 (pick t 31 0)))) 0) (salvage_done log) (salvage_refusal (pick x 5 (pick y 9 (pick (either u v) 30 (pick t 31 0))))))
    go true e y u v f t = none 5 (omega arith)
    go false e true u v f t = none 9 (omega arith)
    go false e false true v f t = none 30 (omega arith)
    go false e false false true f t = none 30 (omega arith)
    go false e false false false f true = none 31 (omega arith)
    go false e false false false f false =
        record { number = omega arith; place = refl; long = ltb-false 60000 (length (mended log).new) f; few = few log (ltb-false 60000 (length log) e) }

pub limited : (log : List ℕ) (b w : ℕ) (a : Salvaged) → a ≡ salvage_of log b w → Limited a
limited log b w a e = rw e (salvage_limits log b w)

pub place_small : (log : List ℕ) (b w : ℕ) → (salvage_of log b w).place ≤ 60000
place_small log b w = omega (arith, (salvage_limits log b w).place)

-- THE PARTS: the low 8 bits are the number, the 24 above them the place, the 16 above them the length, those above them the entries
pub parts : (log : List ℕ) (b w : ℕ)
    → (salvage_packed log b w % 2 ^ 8 ≡ (salvage_of log b w).number)
    × (salvage_packed log b w / 2 ^ 8 % 2 ^ 24 ≡ (salvage_of log b w).place)
    × (salvage_packed log b w / 2 ^ 32 % 2 ^ 16 ≡ (salvage_of log b w).length)
    × (salvage_packed log b w / 2 ^ 48 ≡ (salvage_of log b w).entries)
parts log b w =
    let a : Salvaged = salvage_of log b w in
    let l = salvage_limits log b w in
    let long : a.length ≤ 60000 = l.long in
    let few : a.entries ≤ 60010 = l.few in
    let p = apart a.number a.place (a.length + 2 ^ 16 * a.entries) (omega (arith, l.number)) (omega (arith, l.place)) in
    (p.0, p.1, rw p.2 (omega arith), omega (arith, p.2))

-- a number that says 0 says how long the log is
pub packed_mends : (log out' : List ℕ) (b w : ℕ) (a : Salvaged) → a ≡ salvage_of log b w → (a.number ≡ 0 → Mends log (take a.length out') a.entries)
    → (r : ℕ) → r ≡ salvage_packed log b w → r % 2 ^ 8 ≡ 0 → Mends log (take (r / 2 ^ 32 % 2 ^ 16) out') (r / 2 ^ 48)
packed_mends log out' b w a e h r f z =
    let p = parts log b w in
    let n : (salvage_of log b w).number ≡ 0 = sym p.0 ∙ (ap (λ (x : ℕ). x % 2 ^ 8) (sym f) ∙ z) in
    let l : r / 2 ^ 32 % 2 ^ 16 ≡ a.length = ap (λ (x : ℕ). x / 2 ^ 32 % 2 ^ 16) f ∙ (p.2 ∙ sym (ap (λ (x : Salvaged). x.length) e)) in
    let m : r / 2 ^ 48 ≡ a.entries = ap (λ (x : ℕ). x / 2 ^ 48) f ∙ (p.3 ∙ sym (ap (λ (x : Salvaged). x.entries) e)) in
    rw (l, m) (h (ap (λ (x : Salvaged). x.number) e ∙ n))
