-- What `begin` answers says which of the two texts it is. Assumes nothing.
use mathlib.Core.Path.{◌≡◌, sym, ap, ◌∙◌}
use Prim.Native.Nat.{ℕ}
use mathlib.Core.List.{List}
use borrow.Author.Tests.{eq-eqb, ne_eqb}
use Rattle.recording.specs.Whole.{machine_of}
use Rattle.play_text.specs.Entries.{refusal_text}
use Rattle.play_rules.specs.Turns.{fresh_player}
use Rattle.play_begin.specs.declared.Begun.{Begun}
use Rattle.play_begin.specs.Whole.{play_number, play_text, begun_of}
use Rattle.play_stdout.proofs.play.Goals as goal

module _ (log memory : List ℕ) (b : Begun) (e : b ≡ begun_of log memory) where
  numbered : b.number ≡ play_number log memory
  unfolding begun_of
  numbered = ap (λ (x : Begun). x.number) e

  passing : b.number ≡ 0 → (play_number log memory ≡ 0) × (b.player ≡ fresh_player (machine_of log))
  unfolding begun_of
  passing h =
      let n = sym numbered ∙ h in
      (n, ap (λ (x : Begun). x.player) e ∙ rw (eq-eqb (play_number log memory) 0 n))

  failing : (b.number ≡ 0 → ⊥) → play_text log memory ≡ refusal_text b.number b.place
  unfolding begun_of play_text
  failing h = rw (ne_eqb (play_number log memory) 0 (λ z. h (numbered ∙ z)), e)

pub all-requires : goal.all-requires
all-requires c =
    let a = c.args in
    let b = c.begin-b in let pair = passing a.log.now a.memory.now b.result b.ensures c.if-b-eq0.true in record { memory_value = pair.0; p_value = pair.1 }

pub returns : goal.returns
returns c =
    let a = c.args in
    let b = c.begin-b in
    rw (failing a.log.now a.memory.now b.result b.ensures c.if-b-eq0.false) c.refused.ensures
