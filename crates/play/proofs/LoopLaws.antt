-- What the loop of `play_lines` holds, how steps keep it, and what it answers. Assumes nothing.
use Prim.Native.Nat.{ℕ, zero, suc, ◌+◌, ◌≤◌, ◌<◌}
use mathlib.Core.Path.{◌≡◌, refl, ap, sym, ◌∙◌}
use mathlib.Core.Logic.{◌⊎◌, inl, inr}
use mathlib.Core.Bool.{Bool, true, false}
use mathlib.Core.List.{List, [], ◌++◌}
use native.Mathlib.Nat.{zero-add, suc-add}
use native.Mathlib.Omega.{arith}
use lib.Dec.{eqb, leb}
use lib.ListN.{length, take, drop, length-append}
use lib.Seq.{sets, sets-eq, length-sets, take_at, drop_at, drop-drop, length-take-le}
use borrow.Author.Tests.{eqb-true, eqb-false, leb-true, leb-false}
use Rattle.arith.specs.Pick.{pick, both}
use Rattle.reading.specs.Saying.{over, refused}
use Rattle.chip.specs.Range.{in_range}
use Rattle.play_text.specs.declared.Entry.{Entry}
use Rattle.play_text.specs.Entries.{entries_text}
use Rattle.play_text.proofs.TextLaws.{entries_append, entries_none, entries_empty}
use Rattle.play_rules.specs.declared.Player.{Player}
use Rattle.play_rules.specs.Turns.{Go, turn_of, Goes, here, quietly, saying}
use Rattle.play_step.specs.declared.Taken.{Taken}
use Rattle.play_step.proofs.TakenLaws.{Moved, Took}
use Rattle.play.specs.declared.Played.{Played}
use Rattle.play.specs.Loop.{answer_of}
use Rattle.play.specs.Playing.{Answered}

pub no_flag : {A : Type 0} → ◌≡◌ {A = Bool} false true → A
no_flag e = absurd (let z : ◌≡◌ {A = ℕ} 0 1 = cc in omega arith)

-- LINES JOINED, AND A TEXT OVER A BUFFER

-- from a player to another, and on to a third
module _ (turn : Player → Go) where
  goes_on_lem : {p q r : Player} {a b : List Entry} {m n : ℕ} → Goes turn p a m q → Goes turn q b n r → Goes turn p (a ++ b) (m + n) r
  goes_on_lem {n = n} here g = rw zero-add g
  goes_on_lem {n = n} (quietly {n = k} e h) g = rw suc-add (quietly e (goes_on_lem h g))
  goes_on_lem {n = n} (saying {n = k} e h) g = rw suc-add (saying e (goes_on_lem h g))

-- a text over a buffer
module _ (b v : List ℕ) (at : ℕ) (h : at + length v ≤ length b) where
  front_long : length (take at b ++ v) ≡ at + length v
  front_long = length-append (take at b) v ∙ ap (λ (n : ℕ). n + length v) (length-take-le at b (omega arith))

  sets_front : take (at + length v) (sets b at v) ≡ take at b ++ v
  sets_front = ap (take (at + length v)) (sets-eq v b at h) ∙ take_at (take at b ++ v) (drop (at + length v) b) (at + length v) front_long

  sets_behind : drop (at + length v) (sets b at v) ≡ drop (at + length v) b
  sets_behind = ap (drop (at + length v)) (sets-eq v b at h) ∙ drop_at (take at b ++ v) (drop (at + length v) b) (at + length v) front_long

-- WHAT THE LOOP HOLDS
module _ (log memory : List ℕ) (p₀ : Player) (before : List ℕ) where
  -- so far: the player q, `at` bytes written, behind `least` turns or more
  pub record Going (q : Player) (at least : ℕ) (out : List ℕ) : Type 0 where
    pub entries : List Entry
    pub turns : ℕ
    pub fits : at ≤ length before
    pub long : length out ≡ length before
    pub size : at ≡ length (entries_text entries)
    pub piece : take at out ≡ entries_text entries
    pub rest : drop at out ≡ drop at before
    pub went : Goes (turn_of log memory) p₀ entries turns q
    pub many : least ≤ turns
    pub fine : in_range q.state ≡ true

  -- behind `steps` steps, of which the last came to t
  pub record Standing (t : Taken) (steps : ℕ) (out : List ℕ) : Type 0 where
    pub least : ℕ
    pub going : Going t.player t.at least out
    pub counted : t.kind ≡ 0 → steps ≤ least
    pub idle : length before < 23 → t.player ≡ p₀
    pub ended : t.kind ≡ 1 → (turn_of log memory t.player).said ≡ over
    pub halted : t.kind ≡ 2 → (turn_of log memory t.player).said ≡ refused t.number t.place
    pub kinds : t.kind ≤ 2

  going_start : in_range p₀.state ≡ true → Going p₀ 0 0 before
  going_start f =
      record {
        entries = [];
        turns = 0;
        fits = omega arith;
        long = refl;
        size = rw entries_none (refl);
        piece = sym entries_none;
        rest = refl;
        went = here;
        many = omega arith;
        fine = f;
      }

  pub standing_start : in_range p₀.state ≡ true → (t : Taken) → t ≡ record { kind = 0; number = 0; place = 0; player = p₀; at = 0 } → Standing t 0 before
  standing_start f t e =
      rw e
      (record {
        least = 0;
        going = going_start f;
        counted = λ z. omega arith;
        idle = λ z. refl;
        ended = λ z. absurd (omega arith);
        halted = λ z. absurd (omega arith);
        kinds = omega arith;
      })

  -- on by some lines
  going_on : (q : Player) (at least : ℕ) (out : List ℕ) → Going q at least out → (after : List ℕ) (r : Taken) → Moved (turn_of log memory) q at out after r
      → Going r.player r.at (least + 1) after
  going_on q at least out g after r m =
      let v = entries_text m.entries in
      let l = g.long in
      let f = m.fits in
      let j = g.size in
      let k = g.many in
      let t = m.some in
      rw (m.place, m.bytes)
      (record {
        entries = g.entries ++ m.entries;
        turns = g.turns + m.turns;
        fits = omega arith;
        long = length-sets out at v ∙ g.long;
        size = rw (entries_append, length-append) (omega arith);
        piece = sets_front out v at f ∙ rw (g.piece, entries_append) (refl);
        rest = sets_behind out v at f ∙ (sym (drop-drop (length v) at out) ∙ (ap (drop (length v)) g.rest ∙ drop-drop (length v) at before));
        went = goes_on_lem (turn_of log memory) g.went m.goes;
        many = omega arith;
        fine = m.fine;
      })

  module _ (t : Taken) (steps : ℕ) (out : List ℕ) (s : Standing t steps out) where
    -- A STEP ON KEEPS IT
    module _ (k : t.kind ≡ 0) (room : t.at + 23 ≤ length out) (after : List ℕ) (r : Taken) (e : Took (turn_of log memory) t.player t.at out after r) where
      busy : length before < 23 → r.player ≡ p₀
      busy h = let l = s.going.long in absurd (omega arith)

      -- over or refused: the player and the bytes stay
      stood : (r.kind ≡ 0 → ⊥) → after ≡ out → Going r.player r.at s.least after
      stood n a = let i = e.stays n in rw (a, i.0, i.1) s.going

      moves : r.kind ≡ 0 → Standing r (steps + 1) after
      moves z =
          let c = s.counted k in
          record {
            least = s.least + 1;
            going = going_on t.player t.at s.least out s.going after r (e.moved z);
            counted = λ y. omega arith;
            idle = busy;
            ended = λ y. absurd (omega arith);
            halted = λ y. absurd (omega arith);
            kinds = e.kinds;
          }

      over_here : r.kind ≡ 1 → Standing r (steps + 1) after
      over_here z =
          let n : r.kind ≡ 0 → ⊥ = λ y. omega arith in
          record {
            least = s.least;
            going = stood n (e.ended z).0;
            counted = λ y. absurd (n y);
            idle = busy;
            ended = λ y. rw (e.stays n).0 (e.ended z).1;
            halted = λ y. absurd (omega arith);
            kinds = e.kinds;
          }

      halted_here : r.kind ≡ 2 → Standing r (steps + 1) after
      halted_here z =
          let n : r.kind ≡ 0 → ⊥ = λ y. omega arith in
          record {
            least = s.least;
            going = stood n (e.halted z).0;
            counted = λ y. absurd (n y);
            idle = busy;
            ended = λ y. absurd (omega arith);
            halted = λ y. rw (e.stays n).0 (e.halted z).1;
            kinds = e.kinds;
          }

      pub standing_on : Standing r (steps + 1) after
      standing_on = by r.kind refl
        where
          by : (z : ℕ) → r.kind ≡ z → Standing r (steps + 1) after
          by zero h = moves h
          by (suc zero) h = over_here h
          by (suc (suc z)) h = halted_here (let m = e.kinds in omega arith)

    -- WHAT IT ANSWERS
    no_entries : s.going.entries ≡ [] → t.at ≡ 0
    no_entries e = s.going.size ∙ (ap (λ (l : List Entry). length (entries_text l)) e ∙ ap length entries_none)

    -- the refusal, with nothing written
    at_refusal : t.kind ≡ 2 → t.at ≡ 0 → Answered log memory p₀ before out (record { number = t.number; place = t.place; player = p₀; length = 0; over = false })
    at_refusal k e =
        let g = s.going in
        let n : g.entries ≡ [] = entries_empty g.entries (sym g.size ∙ e) in
        inr (
          record { turns = g.turns; at = t.player; went = rw n at g.went; refuses = s.halted k },
          record { answer = refl; stays = rw e at g.rest },
        )

    -- the lines
    at_lines : (t.kind ≡ 2 → t.at ≡ 0 → ⊥) → (t.kind ≡ 0 → steps < 4000010 → length out < t.at + 23)
        → Answered log memory p₀ before out (record { number = 0; place = 0; player = t.player; length = t.at; over = eqb t.kind 1 })
    at_lines some full =
        let g = s.going in
        inl (
          refl,
          refl,
          record {
            entries = g.entries;
            turns = g.turns;
            fits = g.fits;
            piece = g.piece;
            rest = g.rest;
            went = g.went;
            over = λ e. s.ended (eqb-true t.kind 1 e);
            fine = g.fine;
            gets = λ e o. short e (eqb-false t.kind 1 o);
          },
        )
      where
        short : s.going.entries ≡ [] → (t.kind ≡ 1 → ⊥) → ((length before < 23) × (t.player ≡ p₀)) ⊎ (4000010 ≤ s.going.turns)
        short e n = by t.kind refl (leb 4000010 steps) refl
          where
            by : (k : ℕ) → t.kind ≡ k → (b : Bool) → leb 4000010 steps ≡ b → ((length before < 23) × (t.player ≡ p₀)) ⊎ (4000010 ≤ s.going.turns)
            by zero h true c = let l = leb-true 4000010 steps c in let m = s.counted h in let n = s.going.many in inr (omega arith)
            by zero h false c =
                let l = leb-false 4000010 steps c in
                let a = no_entries e in
                let f = full h (omega arith) in
                let g = s.going.long in
                let small : length before < 23 = omega arith in
                inl (small, s.idle small)
            by (suc zero) h b c = absurd (n h)
            by (suc (suc k)) h b c = absurd (some (let m = s.kinds in omega arith) (no_entries e))

    pub standing_answer : (t.kind ≡ 0 → steps < 4000010 → length out < t.at + 23) → (r : Played) → r ≡ answer_of p₀ t → Answered log memory p₀ before out r
    unfolding answer_of
    standing_answer full r e = rw e (by (eqb t.kind 2) refl (eqb t.at 0) refl)
      where
        by : (a : Bool) → eqb t.kind 2 ≡ a → (b : Bool) → eqb t.at 0 ≡ b
            → Answered log memory p₀ before out (pick (both a b) (record { number = t.number; place = t.place; player = p₀; length = 0; over = false })
            (record { number = 0; place = 0; player = t.player; length = t.at; over = eqb t.kind 1 }))
        by true i true j = at_refusal (eqb-true t.kind 2 i) (eqb-true t.at 0 j)
        by true i false j = at_lines (λ x y. eqb-false t.at 0 j y) full
        by false i b j = at_lines (λ x y. eqb-false t.kind 2 i x) full
