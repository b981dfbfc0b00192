-- A command of a file, byte by byte. Assumes nothing.
use Prim.Native.Nat.{ℕ, ◌+◌, ◌≤◌, ◌<◌}
use mathlib.Core.Path.{◌≡◌, sym, ap, ◌∙◌}
use mathlib.Core.List.{List, ◌∷◌}
use native.Mathlib.Numerals.{add-one}
use lib.ListN.{length, get_or, drop, drop_of_length-le}
use lib.Seq.{drop-cons}
use Rattle.std.specs.Prelude.{Ok, Err, None, Some}
use Rattle.refusal.specs.Refusal.{refusal}
use Rattle.vgm_stream.specs.declared.Await.{Await}
use Rattle.vgm_stream.specs.declared.Said.{Said}
use Rattle.vgm_stream.specs.declared.Step.{Step}
use Rattle.vgm_stream.specs.declared.Step.TheVariants.{End, Fault, Next, Says}
use Rattle.vgm_stream.specs.Stream.{byte_step}
use Rattle.vgm_cursor.specs.Walking.{command_by, command_from, command_at}

-- a byte more
command_byte : (w : Await) (i : ℕ) (s : List ℕ) → i < length s
    → command_from w i (drop i s) ≡ command_by (byte_step w (get_or s i 0)) i (λ v. command_from v (i + 1) (drop (i + 1) s))
unfolding command_from
command_byte w i s h = ap (command_from w i) (drop-cons s i 0 h ∙ ap (λ (n : ℕ). get_or s i 0 ∷ drop n s) (sym (add-one i)))

-- none more
pub command_none : (w : Await) (i : ℕ) (s : List ℕ) → length s ≤ i → command_from w i (drop i s) ≡ Err (refusal 27 i)
unfolding command_from
command_none w i s h = rw (drop_of_length-le s h)

-- the loop of `command_at`
module _ (file : List ℕ) (at : ℕ) (w : Await) (i : ℕ) (h : i < length file) (st : Step) (e : st ≡ byte_step w (get_or file i 0))
    (inv : command_from w i (drop i file) ≡ command_at file at) where
  stepped : command_by st i (λ v. command_from v (i + 1) (drop (i + 1) file)) ≡ command_at file at
  stepped = rw e (sym (command_byte w i file h) ∙ inv)

  pub command_ended : st ≡ End → Ok None ≡ command_at file at
  unfolding command_by
  command_ended n = rw n at stepped

  pub command_fault : (k : ℕ) → st ≡ Fault k → Err (refusal k i) ≡ command_at file at
  unfolding command_by
  command_fault k n = rw n at stepped

  pub command_said : (s : Said) → st ≡ Says s → Ok (Some (s, i + 1)) ≡ command_at file at
  unfolding command_by
  command_said s n = rw n at stepped

  pub command_goes : (v : Await) → st ≡ Next v → command_from v (i + 1) (drop (i + 1) file) ≡ command_at file at
  unfolding command_by
  command_goes v n = rw n at stepped
