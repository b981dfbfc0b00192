-- The loop that hands a player's pieces to the system: what it holds, and what each way out of it comes to. Assumes nothing.
use Prim.Native.Nat.{ℕ, ◌+◌, ◌≤◌}
use native.Mathlib.Omega.{arith}
use mathlib.Core.Path.{◌≡◌, refl, sym, ap, subst}
use mathlib.Core.Logic.{inl, inr}
use mathlib.Core.Bool.{Bool, true, false, not}
use mathlib.Core.List.{List, [], ◌++◌}
use lib.Dec.{eqb}
use lib.ListN.{length, take}
use borrow.Author.Tests.{le-leb}
use Rattle.arith.specs.Pick.{pick, either}
use Rattle.recording.specs.Whole.{machine_of}
use Rattle.recording.specs.Whole.{check_of}
use Rattle.chip.specs.Range.{in_range}
use Rattle.chip_api.specs.Answer.{is_memory}
use Rattle.play_rules.specs.declared.Player.{Player}
use Rattle.play_rules.specs.Turns.{fresh_player}
use Rattle.play_begin.specs.Whole.{play_number, play_text}
use Rattle.play.specs.declared.Played.{Played}
use Rattle.play.specs.Playing.{Untouched, Answered, Where, PlayedOn}
use Rattle.play.specs.Calls.{Calls, none, call}
use Rattle.play.proofs.Whole.{pieces_whole, never_halted, comes_to_end}
use Rattle.program_io.specs.Writes.{Writes, FrontWrites}
use Rattle.program_io.proofs.Joined.{Sent, sent_none, sent_piece, sent_cut, sent_whole}
use Rattle.play_stdout.proofs.LineLaws.{lines_few}

module _ (log memory : List ℕ) where
  -- a piece is within its buffer
  module _ (p : Player) (before after : List ℕ) (r : Played) where
    untouched_fits : (number place : ℕ) → Untouched p number place before after r → r.length ≤ length before
    untouched_fits number place u = rw u.answer (omega arith)

    answered_fits : Answered log memory p before after r → r.length ≤ length before
    answered_fits (inl a) = a.2.fits
    answered_fits (inr a) = untouched_fits r.number r.place a.1

    fits : PlayedOn log memory p before after r → r.length ≤ length before
    unfolding PlayedOn
    fits = go (is_memory memory) (in_range p.state)
      where
        go : (a b : Bool) → Where a (Where b (Answered log memory p before after r) (Untouched p 2 0 before after r)) (Untouched p 1 0 before after r) → r.length ≤ length before
        go true true h = answered_fits h
        go true false h = untouched_fits 2 0 h
        go false b h = untouched_fits 1 0 h

  -- WHAT THE LOOP HOLDS: n pieces were made and taken whole
  pub record Pouring (q : Player) (n : ℕ) (out : List ℕ) : Type 0 where
    pub passes : play_number log memory ≡ 0
    pub room : 23 ≤ length out
    pub text : List ℕ
    pub calls : Calls log memory (fresh_player (machine_of log)) text n q false
    pub sent : Sent text

  pub pouring_start : (q : Player) (out : List ℕ) → play_number log memory ≡ 0 → q ≡ fresh_player (machine_of log) → 23 ≤ length out → Pouring q 0 out
  pouring_start q out h e w = record {
    passes = h;
    room = w;
    text = [];
    calls = subst (λ (x : Player). Calls log memory (fresh_player (machine_of log)) [] 0 x false) (sym e) none;
    sent = sent_none;
  }

  passed : play_number log memory ≡ 0 → (check_of log).number ≡ 0
  unfolding play_number
  passed h = by (is_memory memory) h
    where
      by : (b : Bool) → pick b (check_of log).number 1 ≡ 0 → (check_of log).number ≡ 0
      by true z = z
      by false z = absurd (let y : ◌≡◌ {A = ℕ} 1 0 = z in omega arith)

  -- as many pieces as the loop counts are more than the text has lines
  pub poured_out : (q : Player) (n : ℕ) (out : List ℕ) → Pouring q n out → 1000000000000 ≤ n → ⊥
  poured_out q n out g h =
      let few = lines_few memory log (passed g.passes) (machine_of log) in
      let e = comes_to_end log memory g.passes false g.calls (omega arith) in
      let z : ◌≡◌ {A = ℕ} 0 1 = cc in
      omega arith

  -- ONE MORE PIECE
  module _ (q : Player) (n : ℕ) (out : List ℕ) (g : Pouring q n out) (after : List ℕ) (r : Played) (pl : PlayedOn log memory q out after r)
      (same : length after ≡ length out) where
    inside : r.length ≤ length after
    inside = let f = fits q out after r pl in omega arith

    abbrev joined : List ℕ
    joined = g.text ++ take r.length after

    more : Calls log memory (fresh_player (machine_of log)) joined (n + 1) r.player r.over
    more =
        subst (λ (k : ℕ). Calls log memory (fresh_player (machine_of log)) joined k r.player r.over)
        (ap (λ (b : Bool). pick b (n + 1) n) (le-leb 23 (length out) g.room))
        (call out after r g.calls pl)

    -- not taken whole
    pub poured_cut : (b : Bool) → b ≡ false → FrontWrites after r.length b → Writes (play_text log memory) false
    poured_cut b f w =
        let p = pieces_whole log memory g.passes more in
        rw p.joined (sent_cut g.text (take r.length after) p.rest g.sent (rw f at (w.front inside)))

    number : r.number ≡ 0
    number = (never_halted log memory g.passes g.calls out after r pl).0

    -- taken whole
    taken : (b : Bool) → b ≡ true → FrontWrites after r.length b → Sent joined
    taken b f w = sent_piece g.text (take r.length after) g.sent (rw f at (w.front inside))

    -- the last one
    pub poured_all : (b : Bool) → b ≡ true → FrontWrites after r.length b → either r.over (not (eqb r.number 0)) ≡ true → Writes (play_text log memory) (eqb r.number 0)
    poured_all b f w e =
        let p = pieces_whole log memory g.passes more in
        rw number (rw (p.all (ends r.over (rw number at e))) (sent_whole joined (taken b f w)))
      where
        ends : (o : Bool) → either o false ≡ true → o ≡ true
        ends true e = refl
        ends false e = e

    -- or one of more
    pub poured_on : (b : Bool) → b ≡ true → FrontWrites after r.length b → either r.over (not (eqb r.number 0)) ≡ false → Pouring r.player (n + 1) after
    poured_on b f w e = record {
      passes = g.passes;
      room = let a = g.room in omega arith;
      text = joined;
      calls = subst (λ (o : Bool). Calls log memory (fresh_player (machine_of log)) joined (n + 1) r.player o) (still r.over (rw number at e)) more;
      sent = taken b f w;
    }
      where
        still : (o : Bool) → either o false ≡ false → o ≡ false
        still true e = e
        still false e = refl
