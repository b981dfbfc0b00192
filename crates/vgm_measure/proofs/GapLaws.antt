-- A gap in a tree: its text, its turns, its length. Assumes nothing.
use Prim.Native.Nat.{ℕ, zero, suc, ◌+◌, ◌-◌, ◌*◌, ◌/◌, ◌%◌, ◌≤◌}
use mathlib.Core.Path.{◌≡◌, refl, sym, ap, ◌∙◌}
use mathlib.Core.Bool.{Bool, true, false}
use mathlib.Core.List.{List, [], ◌++◌, append_assoc, append-nil}
use native.Mathlib.Nat.{zero-add, add-zero}
use native.Mathlib.Omega.{arith}
use lib.Dec.{eqb}
use lib.ListN.{length, length-append}
use Rattle.arith.specs.Pick.{pick}
use Rattle.arith.specs.Iterate.{iterate}
use Rattle.arith.proofs.IterateLaws.{iterate_zero}
use Rattle.text.specs.Decimal.{decimal_text, digits_of}
use Rattle.log_line.specs.declared.Act.TheVariants.{Wait}
use Rattle.log_line.specs.declared.Line.TheVariants.{One, Stop}
use Rattle.log_line.specs.Printed.{line_text, act_text, ended}
use Rattle.log_rules.specs.Tree.{Tree, end, act, turns, text}
use Rattle.vgm_measure.specs.declared.Count.{Count}
use Rattle.vgm_measure.specs.declared.Sum.{Sum}
use Rattle.vgm_stream.specs.Stream as stream
use Rattle.vgm_measure.specs.Import.{stood, gap, rest, acts_from, samples_in}
use Rattle.vgm_measure.specs.Measure.{gap_text, gap_turns, millions, rest_text, count_write, Counted, Light, sum_weighed, sum_from}
use Rattle.vgm_measure.proofs.BoundLaws.{stood_most, turns_most}

abbrev million : Tree → Tree
million = act (Wait 1000000)

-- `iterate` puts its steps on from the inside; all are the same
iterate_out : (n : ℕ) (t : Tree) → iterate million (suc n) t ≡ million (iterate million n t)
unfolding iterate
iterate_out zero t = refl
iterate_out (suc n) t = iterate_out n (million t)

pub text_act : (a : _) (t : Tree) → text (act a t) ≡ line_text (One a) ++ text t
unfolding text
text_act a t = refl

pub turns_act : (a : _) (t : Tree) → turns (act a t) ≡ 1 + turns t
unfolding turns
turns_act a t = refl

text_millions : (n : ℕ) (t : Tree) → text (iterate million n t) ≡ millions n ++ text t
unfolding millions
text_millions zero t = ap text (iterate_zero million t)
text_millions (suc n) t =
    ap text (iterate_out n t)
    ∙ (text_act (Wait 1000000) (iterate million n t)
    ∙ (ap (λ (s : List ℕ). line_text (One (Wait 1000000)) ++ s) (text_millions n t)
    ∙ sym (append_assoc (line_text (One (Wait 1000000))) (millions n) (text t))))

turns_millions : (n : ℕ) (t : Tree) → turns (iterate million n t) ≡ n + turns t
unfolding turns iterate
turns_millions zero t = sym (zero-add (turns t))
turns_millions (suc n) t = turns_millions n (million t) ∙ omega arith

text_rest : (g : ℕ) (t : Tree) → text (rest g t) ≡ rest_text g ++ text t
unfolding rest rest_text
text_rest g t = by (eqb g 0)
  where
    by : (b : Bool) → text (pick b t (act (Wait g) t)) ≡ pick b [] (line_text (One (Wait g))) ++ text t
    by true = refl
    by false = text_act (Wait g) t

pub text_gap : (g : ℕ) (t : Tree) → text (gap g t) ≡ gap_text g ++ text t
unfolding gap gap_text
text_gap g t =
    text_millions (g / 1000000) (rest (g % 1000000) t)
    ∙ (ap (λ (s : List ℕ). millions (g / 1000000) ++ s) (text_rest (g % 1000000) t)
    ∙ sym (append_assoc (millions (g / 1000000)) (rest_text (g % 1000000)) (text t)))

pub turns_gap : (g : ℕ) (t : Tree) → turns (gap g t) ≡ gap_turns g + turns t
unfolding gap rest gap_turns turns
turns_gap g t = turns_millions (g / 1000000) (rest (g % 1000000) t) ∙ by (eqb (g % 1000000) 0)
  where
    by : (b : Bool) → g / 1000000 + turns (pick b t (act (Wait (g % 1000000)) t)) ≡ pick b (g / 1000000) (g / 1000000 + 1) + turns t
    by true = refl
    by false = omega (arith, turns_act (Wait (g % 1000000)) t)

-- `wait=1000000` and its line feed
million_long : length (line_text (One (Wait 1000000))) ≡ 13
unfolding line_text act_text ended decimal_text digits_of
million_long = refl

pub millions_long : (m : ℕ) → length (millions m) ≡ 13 * m
unfolding millions
millions_long zero = refl
millions_long (suc m) = length-append (line_text (One (Wait 1000000))) (millions m) ∙ omega (arith, millions_long m, million_long)

pub gap_long : (g : ℕ) → length (gap_text g) ≡ 13 * (g / 1000000) + length (rest_text (g % 1000000))
unfolding gap_text
gap_long g = length-append (millions (g / 1000000)) (rest_text (g % 1000000)) ∙ omega (arith, millions_long (g / 1000000))

-- a write counted: the count, and its bounds
pub count_write_fits : (pal : Bool) (k : Count) → Counted pal k → Light pal k → (c : ℕ) → c ≡ stood pal k.samples → (t : ℕ) → t ≡ gap_turns (c - k.clock) → (n : ℕ) → n ≡ length (gap_text (c - k.clock)) → n ≤ 16 * gap_turns (c - k.clock)
    → (◌≡◌ {A = Count} (record { samples = k.samples; clock = c; turns = k.turns + t + 1; length = k.length + n + 14 }) (count_write pal k))
    × Counted pal (record { samples = k.samples; clock = c; turns = k.turns + t + 1; length = k.length + n + 14 })
unfolding count_write
count_write_fits pal k q l c e t f n g h =
    let b = stood_most pal k.samples q.samples in
    let m = turns_most (c - k.clock) (omega arith) in
    (rw (f, g, e) refl, record { samples = q.samples; clock = omega arith; turns = omega arith; length = omega arith })

-- the sum where the stream ends
pub closed_count : (pal : Bool) (k : Count) (c : ℕ) → c ≡ stood pal k.samples → (t : ℕ) → t ≡ gap_turns (c - k.clock) → (n : ℕ) → n ≡ length (gap_text (c - k.clock))
    → (e : ℕ) → e ≡ length (line_text (Stop c)) → (r : Sum) → r ≡ sum_weighed c (k.turns + t) (k.length + n + e) → r ≡ sum_from pal k (stream.ended [])
unfolding sum_from acts_from samples_in turns text
closed_count pal k c ec t et n en e ee r er =
    let z = add-zero k.samples in
    let a : turns (gap (stood pal k.samples - k.clock) end) ≡ gap_turns (stood pal k.samples - k.clock) = turns_gap (stood pal k.samples - k.clock) end ∙ add-zero (gap_turns (stood pal k.samples - k.clock)) in
    let b : text (gap (stood pal k.samples - k.clock) end) ≡ gap_text (stood pal k.samples - k.clock) = text_gap (stood pal k.samples - k.clock) end ∙ append-nil (gap_text (stood pal k.samples - k.clock)) in
    er ∙ rw (et, en, ee, ec, z, a, b) refl
