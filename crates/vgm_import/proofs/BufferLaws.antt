-- What the buffer holds behind a call, and worked cases. Assumes nothing.
use Prim.Native.Nat.{ℕ, ◌+◌}
use mathlib.Core.Path.{◌≡◌, refl, sym, ap, ◌∙◌}
use mathlib.Core.Bool.{Bool, true, false}
use mathlib.Core.List.{List, [], ◌∷◌, ◌++◌}
use native.Mathlib.Nat.{zero-add}
use native.Mathlib.Omega.{arith}
use lib.Dec.{ltb}
use borrow.Author.Tests.{eq-eqb}
use lib.ListN.{length, take, drop}
use lib.Seq.{sets-eq, take_at, drop_at}
use Rattle.arith.specs.Pick.{pick, either}
use Rattle.bus.specs.Register.{is_register}
use Rattle.arith.specs.Iterate.{iterate}
use Rattle.text.specs.Ascii.{bytes}
use Rattle.text.specs.Decimal.{decimal_text, digits_of}
use Rattle.text.specs.Hex.{hex_text, hex_byte}
use Rattle.log_line.specs.declared.Act.TheVariants.{Wait as Waited}
use Rattle.log_line.specs.Printed.{line_text, act_text, ended as fed}
use Rattle.log_rules.specs.Tree.{Tree, act, text, log_text}
use Rattle.clock_rate.specs.Rate.{clock_rate}
use Rattle.vgm_stream.specs.declared.Said.{Said}
use Rattle.vgm_stream.specs.Stream.{Stream, ended, more, after, stream_from, byte_step, command_of, register_of, stream_of}
use Rattle.vgm_measure.specs.Import.{stood, rest, gap, acts_from, samples_in, import_refusal, import_weighed, import_answer, clocks_for, tree_for, text_for, text_of, import_for, import_of, buffer_for}
use Rattle.vgm_measure.proofs.AnswerLaws.{imports}
use Rattle.vgm_import.proofs.ReadyLaws.{ready}

-- number 0: the log over the front, as long as the answer says; the bytes behind it stay

length_weighed : (room c t n : ℕ) → (import_weighed room c t n).number ≡ 0 → (import_weighed room c t n).length ≡ n
unfolding import_weighed
length_weighed room c t n h = by (either (ltb 2000000000 c) (ltb 1000000 t)) (either (ltb room n) (ltb 60000 n)) h
  where
    by : (a b : Bool) → (pick a (import_refusal 9 0) (pick b (import_refusal 28 0) (record { number = 0; place = 0; length = n }))).number ≡ 0
        → (pick a (import_refusal 9 0) (pick b (import_refusal 28 0) (record { number = 0; place = 0; length = n }))).length ≡ n
    by true b h = absurd (omega arith)
    by false true h = absurd (omega arith)
    by false false h = refl

length_answered : (pal : Bool) (room : ℕ) (x : Stream) (l : List Said) → x ≡ ended l → (import_answer pal room x).number ≡ 0 → (import_answer pal room x).length ≡ length (text_of pal x)
unfolding import_answer text_of
length_answered pal room x l e h = rw e (length_weighed room _ _ (length (text_for pal l)) (rw e at h))

module _ (pal : Bool) (s out : List ℕ) (done : (import_for pal s (length out)).number ≡ 0) where
  pub length_is : (import_for pal s (length out)).length ≡ length (text_of pal (stream_of s))
  unfolding import_for
  length_is = length_answered pal (length out) (stream_of s) (imports pal s (length out) done).said (imports pal s (length out) done).is done

  buffer_is : buffer_for pal s out ≡ text_of pal (stream_of s) ++ drop (0 + length (text_of pal (stream_of s))) out
  unfolding buffer_for
  buffer_is = rw (eq-eqb (import_for pal s (length out)).number 0 done) (sets-eq (text_of pal (stream_of s)) out 0 (let r = ready pal s out done in omega (arith, r.fits)))

  pub front_is : take (import_for pal s (length out)).length (buffer_for pal s out) ≡ text_of pal (stream_of s)
  front_is = rw buffer_is (take_at (text_of pal (stream_of s)) _ (import_for pal s (length out)).length (sym length_is))

  pub behind_stays : drop (import_for pal s (length out)).length (buffer_for pal s out) ≡ drop (import_for pal s (length out)).length out
  behind_stays =
      rw buffer_is (drop_at (text_of pal (stream_of s)) _ (import_for pal s (length out)).length (sym length_is))
      ∙ ap (λ (n : ℕ). drop n out) (zero-add (length (text_of pal (stream_of s))) ∙ sym length_is)

-- `B4 14`: 26:1; `B4 00`: 27:2; `B4`: 27:1; `61 66`: 27:2; nothing: 27:0

case_1 : import_of (0xb4 ∷ 0x14 ∷ []) 100 ≡ import_refusal 26 1
unfolding import_for import_answer stream_of stream_from after byte_step command_of register_of is_register
case_1 = refl

case_2 : import_of (0xb4 ∷ 0x00 ∷ []) 100 ≡ import_refusal 27 2
unfolding import_for import_answer stream_of stream_from after byte_step command_of register_of is_register
case_2 = refl

case_3 : import_of (0xb4 ∷ []) 100 ≡ import_refusal 27 1
unfolding import_for import_answer stream_of stream_from after byte_step command_of
case_3 = refl

case_4 : import_of (0x61 ∷ 0x66 ∷ []) 100 ≡ import_refusal 27 2
unfolding import_for import_answer stream_of stream_from after byte_step command_of
case_4 = refl

case_5 : import_of [] 100 ≡ import_refusal 27 0
unfolding import_for import_answer stream_of stream_from
case_5 = refl

-- "a gap of 1,000,000 is one line, of 2,000,000 two, of 0 none"

gap_0 : (t : Tree) → gap 0 t ≡ t
unfolding gap rest iterate
gap_0 t = refl

gap_1 : (t : Tree) → gap 1000000 t ≡ act (Waited 1000000) t
unfolding gap rest iterate
gap_1 t = refl

gap_2 : (t : Tree) → gap 2000000 t ≡ act (Waited 1000000) (act (Waited 1000000) t)
unfolding gap rest iterate
gap_2 t = refl

gap_3 : (t : Tree) → gap 1000001 t ≡ act (Waited 1000000) (act (Waited 1) t)
unfolding gap rest iterate
gap_3 t = refl

-- "three waits of 735: 29829, 29830, 29829"
case_6 : text_of false (stream_of (0x62 ∷ 0xb4 ∷ 0x00 ∷ 0x1f ∷ 0x62 ∷ 0xb4 ∷ 0x15 ∷ 0xa0 ∷ 0x62 ∷ 0x66 ∷ []))
    ≡ bytes "log=1\nwait=29829\nwrite=4000:1f\nwait=29830\nwrite=4015:a0\nwait=29829\nstop=89488\n"
unfolding text_of text_for tree_for clocks_for log_text text acts_from samples_in stood clock_rate gap rest iterate stream_of stream_from after more byte_step command_of register_of is_register line_text act_text fed decimal_text digits_of hex_text hex_byte
case_6 = refl

-- of a PAL file, three waits of 1: 37, 38, 38
case_7 : text_of true (stream_of (0x70 ∷ 0xb4 ∷ 0x00 ∷ 0x1f ∷ 0x70 ∷ 0xb4 ∷ 0x15 ∷ 0xa0 ∷ 0x70 ∷ 0x66 ∷ []))
    ≡ bytes "log=1\nmachine=pal\nwait=37\nwrite=4000:1f\nwait=38\nwrite=4015:a0\nwait=38\nstop=113\n"
unfolding text_of text_for tree_for clocks_for log_text text acts_from samples_in stood clock_rate gap rest iterate stream_of stream_from after more byte_step command_of register_of is_register line_text act_text fed decimal_text digits_of hex_text hex_byte
case_7 = refl
