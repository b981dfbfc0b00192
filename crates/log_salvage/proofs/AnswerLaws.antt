-- What `salvage` answers, from the two passes. Assumes nothing.
use mathlib.Core.Path.{◌≡◌, refl, ◌∙◌}
use mathlib.Core.List.{List}
use mathlib.Core.Bool.{Bool, true, false}
use Prim.Native.Nat.{ℕ, ◌/◌, ◌≤◌, ◌<◌}
use native.Mathlib.Omega.{arith}
use borrow.Author.Tests.{lt-ltb, le-ltb, ltb-false, eqb-true, eqb-false}
use lib.Dec.{eqb, ltb}
use lib.ListN.{length, take, drop}
use lib.Seq.{take_at}
use Rattle.arith.specs.Pick.{pick, either}
use Rattle.log_rules.specs.Whole.{heavy, check_of}
use Rattle.log_salvage_rules.specs.Mending.{mended, mended_tree}
use Rattle.log_salvage_rules.specs.Promise.{Mends}
use Rattle.log_salvage_rules.proofs.Promised.{promised}
use Rattle.log_salvage_rules.proofs.Unchanged.{unchanged}
use Rattle.log_passing.proofs.Passing.{clear}
use Rattle.log_salvage.specs.declared.Passed.{Passed}
use Rattle.log_salvage.specs.declared.Salvaged.{Salvaged}
use Rattle.arith.specs.Over.{over}
use Rattle.log_salvage.specs.Answer.{number_of, salvage_refusal, salvage_done, salvage_of, salvage_text, salvage_list}
use Rattle.log_salvage.specs.Writing.{Passes}
use Rattle.log_salvage.proofs.WriteLaws.{over_all, words_long}

-- the answer and what stands in the lent bytes and words
pub record Answers (log out list out' list' : List ℕ) (r : Salvaged) : Type 0 where
  pub answer : r ≡ salvage_of log (length out) (length list)
  pub text : out' ≡ salvage_text log out (length list)
  pub words : list' ≡ salvage_list log (length out) list

pub as_answered : {log out list out' list' : List ℕ} {q : Salvaged} → Answers log out list out' list' q → (r : Salvaged) → r ≡ q → Answers log out list out' list' r
as_answered a r e = record { answer = e ∙ a.answer; text = a.text; words = a.words }

-- what was measured is the answer
pub measured : (log : List ℕ) (n e : ℕ) → n ≡ length (mended log).new → e ≡ length (mended log).list → ◌≡◌ {A = Salvaged} (record { number = 0; place = 0; length = n; entries = e }) (salvage_done log)
measured log n e a b i = record { number = 0; place = 0; length = a i; entries = b i }

module _ (log out list : List ℕ) where
  abbrev num : ℕ
  num = number_of log (length out) (length list)

  refused : (n : ℕ) → num ≡ n → eqb n 0 ≡ false → Answers log out list out list (salvage_refusal n)
  unfolding salvage_of salvage_text salvage_list
  refused n e z = record { answer = rw (e, z) refl; text = rw (e, z) refl; words = rw (e, z) refl }

  pub too_long : 60000 < length log → Answers log out list out list (salvage_refusal 5)
  unfolding number_of
  too_long h = refused 5 (rw (lt-ltb 60000 (length log) h)) refl

  module _ (short : length log ≤ 60000) where
    pub too_heavy : heavy (mended_tree log) ≡ true → Answers log out list out list (salvage_refusal 9)
    unfolding number_of
    too_heavy h = refused 9 (rw (le-ltb 60000 (length log) short, h)) refl

    module _ (light : heavy (mended_tree log) ≡ false) where
      pub no_room : either (ltb (length out) (length (mended log).new)) (ltb 60000 (length (mended log).new)) ≡ true → Answers log out list out list (salvage_refusal 30)
      unfolding number_of
      no_room h = refused 30 (rw (le-ltb 60000 (length log) short, light, h)) refl

      module _ (room : either (ltb (length out) (length (mended log).new)) (ltb 60000 (length (mended log).new)) ≡ false) where
        pub no_words : length list / 2 < length (mended log).list → Answers log out list out list (salvage_refusal 31)
        unfolding number_of
        no_words h = refused 31 (rw (le-ltb 60000 (length log) short, light, room, lt-ltb (length list / 2) (length (mended log).list) h)) refl

        pub done : length (mended log).list ≤ length list / 2 → (out' list' : List ℕ) (r : Passed) → Passes log out list out' list' r → Answers log out list out' list' (salvage_done log)
        unfolding number_of salvage_of salvage_text salvage_list
        done h out' list' r p =
            let w = p.written light in
            let fits : length (mended log).new ≤ length out = fits_in (ltb (length out) (length (mended log).new)) refl room in
            let z = le-ltb (length list / 2) (length (mended log).list) h in
            let a = over_all w.text fits in
            let b = over_all w.words (omega (arith, words_long (mended log).list)) in
            record {
              answer = rw (le-ltb 60000 (length log) short, light, room, z) refl;
              text = rw (le-ltb 60000 (length log) short, light, room, z) a;
              words = rw (le-ltb 60000 (length log) short, light, room, z) b;
            }
          where
            fits_in : (b : Bool) → ltb (length out) (length (mended log).new) ≡ b → either b (ltb 60000 (length (mended log).new)) ≡ false → length (mended log).new ≤ length out
            fits_in true e f = absurd (let z : ◌≡◌ {A = ℕ} 0 1 = cc in omega arith)
            fits_in false e f = ltb-false (length out) (length (mended log).new) e

-- 0 is answered only where nothing is refused, and then what is promised holds of what stands in front

front_is : (new old : List ℕ) → take (length new) (over new old) ≡ new
unfolding over
front_is new old = take_at new (drop (length new) old) (length new) refl

zero_number : (log : List ℕ) (b w : ℕ) → number_of log b w ≡ 0 → (heavy (mended_tree log) ≡ false) × (length (mended log).new ≤ 60000)
unfolding number_of
zero_number log b w = go (ltb 60000 (length log)) (heavy (mended_tree log)) refl (ltb b (length (mended log).new)) (ltb 60000 (length (mended log).new)) refl (ltb (w / 2) (length (mended log).list))
  where
    go : (x y : Bool) → heavy (mended_tree log) ≡ y → (u v : Bool) → ltb 60000 (length (mended log).new) ≡ v → (t : Bool) → ◌≡◌ {A = ℕ} (pick x 5 (pick y 9 (pick (either u v) 30 (pick t 31 0)))) 0
        → (heavy (mended_tree log) ≡ false) × (length (mended log).new ≤ 60000)
    go true y e u v f t h = absurd (omega arith)
    go false true e u v f t h = absurd (omega arith)
    go false false e true v f t h = absurd (omega arith)
    go false false e false true f t h = absurd (omega arith)
    go false false e false false f t h = (e, ltb-false 60000 (length (mended log).new) f)

answer_zero : (log out : List ℕ) (w : ℕ) → (salvage_of log (length out) w).number ≡ 0 → Mends log (take (salvage_of log (length out) w).length (salvage_text log out w)) (salvage_of log (length out) w).entries
unfolding salvage_of salvage_text
answer_zero log out w = go (number_of log (length out) w) refl (eqb (number_of log (length out) w) 0) refl
  where
    go : (n : ℕ) → number_of log (length out) w ≡ n → (b : Bool) → eqb n 0 ≡ b → (pick b (salvage_done log) (salvage_refusal n)).number ≡ 0
        → Mends log (take (pick b (salvage_done log) (salvage_refusal n)).length (pick b (over (mended log).new out) out)) (pick b (salvage_done log) (salvage_refusal n)).entries
    go n e true f h =
        let z = zero_number log (length out) w (e ∙ eqb-true n 0 f) in
        rw (front_is (mended log).new out) (promised log z.0 z.1)
    go n e false f h = absurd (eqb-false n 0 f h)

pub mends_it : {log out list out' list' : List ℕ} {r : Salvaged} → Answers log out list out' list' r → r.number ≡ 0 → Mends log (take r.length out') r.entries
mends_it {log} {out} {list} a h = rw (a.answer, a.text) (answer_zero log out (length list) (rw a.answer at h))

-- a log that passes is never refused where there is room for it, and the answer is its length and no entry
pub passing_answer : (log : List ℕ) (bytes words : ℕ) → (check_of log).number ≡ 0 → length log ≤ bytes → salvage_of log bytes words ≡ record { number = 0; place = 0; length = length log; entries = 0 }
unfolding salvage_of number_of
passing_answer log bytes words h room =
    let s = unchanged log h in
    let c = clear log h in
    let z : ltb (words / 2) 0 ≡ false = le-ltb (words / 2) 0 (omega arith) in
    rw (s.new, s.list, s.light, le-ltb 60000 (length log) c.short, le-ltb bytes (length log) room, z)
