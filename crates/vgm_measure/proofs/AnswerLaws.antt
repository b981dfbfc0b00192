-- The answers by the sum; and number 0: the stream ends, within the totals, and its log is no longer than the room. Assumes nothing.
use Prim.Native.Nat.{ℕ, ◌≤◌}
use mathlib.Core.Path.{◌≡◌, refl, sym}
use mathlib.Core.Bool.{Bool, true, false}
use mathlib.Core.List.{List}
use native.Mathlib.Omega.{arith}
use lib.Dec.{ltb}
use borrow.Author.Tests.{ne_eqb, ltb-false}
use lib.ListN.{length}
use Rattle.arith.specs.Pick.{pick, either}
use Rattle.log_rules.specs.Tree.{turns}
use Rattle.vgm_stream.specs.declared.Said.{Said}
use Rattle.vgm_stream.specs.Stream.{Stream, ended, refused, stream_of}
use Rattle.vgm_measure.specs.declared.Sum.{Sum}
use Rattle.vgm_measure.specs.Import.{import_refusal, import_weighed, import_answer, clocks_for, tree_for, text_for, import_for, tally_refusal, tally_weighed, tally_answer, tally_of}
use Rattle.vgm_measure.specs.Measure.{sum_refusal, sum_weighed, sum_answer, sum_of, fitted}
use Rattle.vgm_measure.proofs.BoundLaws.{either_false}
use Rattle.vgm_measure.proofs.FaultLaws.{Refused, refused_place, numbered}

-- a sum that is a refusal is the answer for any room
pub fit_none : (room : ℕ) (s : Sum) → (s.tally.number ≡ 0 → ⊥) → import_refusal s.tally.number s.tally.place ≡ fitted room s
unfolding fitted
fit_none room s h = rw (ne_eqb s.tally.number 0 h)

-- the two answers by the sum
fitted_weighed : (room c t n : ℕ) → fitted room (sum_weighed c t n) ≡ import_weighed room c t n
unfolding fitted sum_weighed import_weighed
fitted_weighed room c t n = by (either (ltb 2000000000 c) (ltb 1000000 t))
  where
    by : (b : Bool) → fitted room (pick b (sum_refusal 9 0) (record { tally = record { number = 0; place = 0; clocks = c; turns = t }; length = n }))
        ≡ pick b (import_refusal 9 0) (pick (either (ltb room n) (ltb 60000 n)) (import_refusal 28 0) (record { number = 0; place = 0; length = n }))
    by true = refl
    by false = refl

fitted_answer : (pal : Bool) (room size : ℕ) (x : Stream) → Refused size x → fitted room (sum_answer pal x) ≡ import_answer pal room x
unfolding sum_answer import_answer
fitted_answer pal room size (refused k p) h = let z = (numbered size k p h).0 in sym (fit_none room (sum_refusal k p) (λ e. omega (arith, e)))
fitted_answer pal room size (ended l) h = fitted_weighed room (clocks_for pal l) (turns (tree_for pal l)) (length (text_for pal l))

pub fitted_import : (pal : Bool) (s : List ℕ) (room : ℕ) → fitted room (sum_of pal s) ≡ import_for pal s room
unfolding sum_of import_for
fitted_import pal s room = fitted_answer pal room (length s) (stream_of s) (refused_place s)

tally_weighed_lem : (c t n : ℕ) → (sum_weighed c t n).tally ≡ tally_weighed c t
unfolding sum_weighed tally_weighed
tally_weighed_lem c t n = by (either (ltb 2000000000 c) (ltb 1000000 t))
  where
    by : (b : Bool) → (pick b (sum_refusal 9 0) (record { tally = record { number = 0; place = 0; clocks = c; turns = t }; length = n })).tally
        ≡ pick b (tally_refusal 9 0) (record { number = 0; place = 0; clocks = c; turns = t })
    by true = refl
    by false = refl

tally_answer_lem : (pal : Bool) (x : Stream) → (sum_answer pal x).tally ≡ tally_answer pal x
unfolding sum_answer tally_answer
tally_answer_lem pal (refused k p) = refl
tally_answer_lem pal (ended l) = tally_weighed_lem (clocks_for pal l) (turns (tree_for pal l)) (length (text_for pal l))

pub tally_sum : (pal : Bool) (s : List ℕ) → (sum_of pal s).tally ≡ tally_of pal s
unfolding sum_of tally_of
tally_sum pal s = tally_answer_lem pal (stream_of s)

-- what number 0 says of a weight
pub record Weighed (room c t n : ℕ) : Type 0 where
  pub clocks : c ≤ 2000000000
  pub turns : t ≤ 1000000
  pub short : n ≤ 60000
  pub fits : n ≤ room

weighed_of : (room c t n : ℕ) → (import_weighed room c t n).number ≡ 0 → Weighed room c t n
unfolding import_weighed
weighed_of room c t n h = by (either (ltb 2000000000 c) (ltb 1000000 t)) refl (either (ltb room n) (ltb 60000 n)) refl h
  where
    by : (a : Bool) → either (ltb 2000000000 c) (ltb 1000000 t) ≡ a → (b : Bool) → either (ltb room n) (ltb 60000 n) ≡ b
        → (pick a (import_refusal 9 0) (pick b (import_refusal 28 0) (record { number = 0; place = 0; length = n }))).number ≡ 0 → Weighed room c t n
    by true ea b eb h = absurd (omega arith)
    by false ea true eb h = absurd (omega arith)
    by false ea false eb h =
        let a = either_false (ltb 2000000000 c) (ltb 1000000 t) ea in
        let b = either_false (ltb room n) (ltb 60000 n) eb in
        record { clocks = ltb-false 2000000000 c a.0; turns = ltb-false 1000000 t a.1; short = ltb-false 60000 n b.1; fits = ltb-false room n b.0 }

-- what number 0 says of a stream
pub record Imports (pal : Bool) (room : ℕ) (x : Stream) : Type 0 where
  pub said : List Said
  pub is : x ≡ ended said
  pub weight : Weighed room (clocks_for pal said) (turns (tree_for pal said)) (length (text_for pal said))

imports_of : (pal : Bool) (room size : ℕ) (x : Stream) → Refused size x → (import_answer pal room x).number ≡ 0 → Imports pal room x
unfolding import_answer
imports_of pal room size (refused k p) n h = let z = (numbered size k p n).0 in absurd (omega arith)
imports_of pal room size (ended l) n h = record { said = l; is = refl; weight = weighed_of room (clocks_for pal l) (turns (tree_for pal l)) (length (text_for pal l)) h }

pub imports : (pal : Bool) (s : List ℕ) (room : ℕ) → (import_for pal s room).number ≡ 0 → Imports pal room (stream_of s)
unfolding import_for
imports pal s room h = imports_of pal room (length s) (stream_of s) (refused_place s) h
