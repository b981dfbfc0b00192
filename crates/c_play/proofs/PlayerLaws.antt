-- A piece at the boundary: one that is written to the first bytes of a text is one that is written to the text; and the player's bytes after it.
-- Assumes nothing.
use Prim.Native.Nat.{ℕ, ◌≤◌, ◌<◌}
use mathlib.Core.Path.{◌≡◌, refl, ap, sym, ◌∙◌}
use mathlib.Core.Logic.{◌⊎◌, inl, inr}
use mathlib.Core.Bool.{Bool, true, false}
use mathlib.Core.List.{List, ◌++◌}
use native.Mathlib.Omega.{arith}
use borrow.Author.Tests.{eq-eqb, ne_eqb}
use lib.ListN.{length, take, drop, take-append-drop}
use lib.Seq.{length-take-le, take-append-le, drop-append-le}
use lib.Dec.{eqb}
use Rattle.arith.specs.Pick.{pick}
use Rattle.arith.proofs.PickLaws.{pick_both}
use Rattle.chip.specs.Range.{in_range}
use Rattle.chip_api.specs.Answer.{is_memory}
use Rattle.recording.proofs.Limits.{check_limits}
use Rattle.text_print.specs.Printed.{fits, placed}
use Rattle.play_rules.specs.declared.Player.{Player}
use Rattle.play.specs.declared.Played.{Played}
use Rattle.play_begin.specs.declared.Begun.{Begun}
use Rattle.play_text.specs.Entries.{refusal_text}
use Rattle.play.specs.Playing.{Piece, Untouched, Answered, Where, PlayedOn}
use Rattle.play_begin.specs.Whole.{play_place, begun_of}
use Rattle.play_text.proofs.TextLaws.{refusal_size}
use Rattle.c_player.specs.Player.{player_size, player_bytes, player_in, player_encoded}
use Rattle.c_log.specs.Logs.{log_packed}
use Rattle.c_chip.specs.Boundary.{other_length}
use Rattle.c_play.specs.Players.{player_after, begin_number, begin_place, begin_packed, begin_bytes}
use Rattle.c_chip.proofs.StoreLaws.{written_by_lem}
use Rattle.c_player.proofs.CodeLaws.{in_long}

where_on : {A B C D : Type 0} (t : Bool) → (A → C) → (B → D) → Where t A B → Where t C D
where_on true f g x = f x
where_on false f g x = g x

where_both : {A B C : Type 0} (t : Bool) → (A → C) → (B → C) → Where t A B → C
where_both true f g x = f x
where_both false f g x = g x

-- the first n bytes of a text are lent, all of a short one; `front` is what they are afterwards
module _ (log memory : List ℕ) (p : Player) (text front : List ℕ) (n : ℕ) (r : Played) (h : n ≤ length text) (short : n < 23 → n ≡ length text)
    (same : length front ≡ length (take n text)) where
  long : length (take n text) ≡ n
  long = length-take-le n text h

  gets_whole : (turns : ℕ) → ((length (take n text) < 23) × (r.player ≡ p)) ⊎ (4000010 ≤ turns) → ((length text < 23) × (r.player ≡ p)) ⊎ (4000010 ≤ turns)
  gets_whole turns (inl q) =
      let l = long in
      let s : n ≡ length text = short (omega (arith, q.0)) in
      inl (omega (arith, q.0), q.1)
  gets_whole turns (inr q) = inr q

  piece_whole : Piece log memory p (take n text) front r → Piece log memory p text (front ++ drop n text) r
  piece_whole x =
      let l = long in
      let f : r.length ≤ length front = omega (arith, x.fits) in
      record {
        entries = x.entries;
        turns = x.turns;
        fits = omega (arith, x.fits);
        piece = take-append-le r.length front (drop n text) f ∙ x.piece;
        rest =
            drop-append-le r.length front (drop n text) f
            ∙ (ap (λ (s : List ℕ). s ++ drop n text) x.rest
            ∙ (sym (drop-append-le r.length (take n text) (drop n text) x.fits) ∙ ap (drop r.length) (take-append-drop n text)));
        went = x.went;
        over = x.over;
        fine = x.fine;
        gets = λ a b. gets_whole x.turns (x.gets a b);
      }

  untouched_whole : (number place : ℕ) → Untouched p number place (take n text) front r → Untouched p number place text (front ++ drop n text) r
  untouched_whole number place u =
      record { answer = u.answer; stays = ap (λ (s : List ℕ). s ++ drop n text) u.stays ∙ take-append-drop n text }

  answered_whole : Answered log memory p (take n text) front r → Answered log memory p text (front ++ drop n text) r
  answered_whole (inl a) = inl (a.0, a.1, piece_whole a.2)
  answered_whole (inr a) = inr (a.0, untouched_whole r.number r.place a.1)

  pub played_whole : PlayedOn log memory p (take n text) front r → PlayedOn log memory p text (front ++ drop n text) r
  unfolding PlayedOn
  played_whole x =
      where_on (is_memory memory) (where_on (in_range p.state) answered_whole (untouched_whole 2 0)) (untouched_whole 1 0) x

-- no more is written than was lent
module _ (log memory : List ℕ) (p : Player) (before after : List ℕ) (r : Played) where
  untouched_fits : (number place : ℕ) → Untouched p number place before after r → r.length ≤ length before
  untouched_fits number place u = let e = ap (λ (x : Played). x.length) u.answer in omega arith

  answered_fits : Answered log memory p before after r → r.length ≤ length before
  answered_fits (inl a) = a.2.fits
  answered_fits (inr a) = untouched_fits r.number r.place a.1

  pub played_fits : PlayedOn log memory p before after r → r.length ≤ length before
  unfolding PlayedOn
  played_fits x =
      where_both (is_memory memory) (where_both (in_range p.state) answered_fits (untouched_fits 2 0)) (untouched_fits 1 0) x

-- only bytes of a player's length are written over

player_stored : (t : Bool) (p : Player) (b : List ℕ) → (t ≡ true → length b ≡ player_size) → pick t (player_encoded p b) b ≡ pick t (player_bytes p) b
unfolding player_encoded
player_stored t p b h = written_by_lem t (player_encoded p b) (player_bytes p) b (λ e. rw (eq-eqb (length b) player_size (h e)))

-- a piece is done only for a state in range
played_done : (log memory : List ℕ) (p : Player) (before after : List ℕ) (r : Played) → PlayedOn log memory p before after r
    → eqb r.number 0 ≡ true → in_range p.state ≡ true
unfolding PlayedOn
played_done log memory p before after r x e = by (is_memory memory) (in_range p.state) x
  where
    refused : (n : ℕ) → Untouched p n 0 before after r → eqb n 0 ≡ true
    refused n u = sym (ap (λ (x : Played). eqb x.number 0) u.answer) ∙ e

    by : (t u : Bool) → Where t (Where u (Answered log memory p before after r) (Untouched p 2 0 before after r)) (Untouched p 1 0 before after r) → u ≡ true
    by t true y = refl
    by true false y = refused 2 y
    by false false y = refused 1 y

pub piece_stored : (log memory b before after : List ℕ) (r : Played) → PlayedOn log memory (player_in b) before after r
    → pick (eqb r.number 0) (player_encoded r.player b) b ≡ player_after r.number r.player b
piece_stored log memory b before after r x =
    player_stored (eqb r.number 0) r.player b (λ e. in_long b (played_done log memory (player_in b) before after r x e))

-- a beginning

pub begun_place : (log memory : List ℕ) → (begun_of log memory).place ≤ 524288
unfolding begun_of play_place
begun_place log memory = pick_both (λ (p : ℕ). p ≤ 524288) (is_memory memory) (check_limits log).place (omega arith)

other_refused : (t : Bool) → eqb (pick t 2 1) 0 ≡ false
other_refused true = refl
other_refused false = refl

module _ (log memory b : List ℕ) where
  pub not_begun : (length b ≡ player_size → ⊥) → (log_packed (other_length memory) 0 0 ≡ begin_packed log memory b) × (b ≡ begin_bytes log memory b)
  unfolding begin_number begin_place
  not_begun h = rw (ne_eqb (length b) player_size h) (refl, rw (other_refused (is_memory memory)))

  pub begun : length b ≡ player_size → (g : Begun) → g ≡ begun_of log memory → (answer : ℕ) → answer ≡ log_packed g.number g.place 0
      → (b' : List ℕ) → b' ≡ pick (eqb g.number 0) (player_encoded g.player b) b
      → (answer ≡ begin_packed log memory b) × (b' ≡ begin_bytes log memory b)
  unfolding begin_number begin_place
  begun h g e answer f b' k =
      rw (eq-eqb (length b) player_size h, ← e)
      (f, k ∙ player_stored (eqb g.number 0) g.player b (λ t. h))

-- the text of a refusal has 40 bytes at most
pub refusal_fits : (number place : ℕ) (text : List ℕ) → number ≤ 255 → placed text 0 (refusal_text number place) ≤ 40
unfolding placed
refusal_fits number place text h =
    let s = refusal_size number place h in
    pick_both (λ (n : ℕ). n ≤ 40) (fits text 0 (refusal_text number place)) (omega arith) (omega arith)
