-- THE PIECES THAT A CALLER JOINS ARE THE WHOLE TEXT, for any list of calls of `play_on` behind a `begin`. Assumes nothing.
use Prim.Native.Nat.{ℕ, ◌+◌, ◌*◌, ◌/◌, ◌%◌, ◌^◌, ◌≤◌, ◌<◌}
use mathlib.Core.Path.{◌≡◌, ap, ◌∙◌}
use mathlib.Core.Bool.{Bool, true, false}
use mathlib.Core.List.{List, ◌++◌}
use native.Mathlib.Omega.{arith}
use borrow.Author.Tests.{eq-eqb, ne_eqb}
use lib.ListN.{length, take}
use lib.Dec.{eqb, leb}
use Rattle.arith.specs.Pick.{pick}
use Rattle.c_bytes.specs.Fields.{flag_byte}
use Rattle.chip_api.specs.Answer.{is_memory}
use Rattle.play_rules.specs.declared.Player.{Player}
use Rattle.play.specs.declared.Played.{Played}
use Rattle.play_rules.specs.Turns.{fresh_player, ended_player}
use Rattle.play.specs.Playing.{PlayedOn}
use Rattle.play.specs.Calls as play
use Rattle.play_begin.specs.Whole.{play_number, begun_of}
use Rattle.play.proofs.Whole.{Beginning, pieces_whole, never_halted, gets_line, comes_to_end}
use Rattle.recording.specs.Whole.{machine_of}
use Rattle.log_rules.specs.Tree.{acts}
use Rattle.recording.specs.Whole.{tree_of}
use Rattle.play_rules.specs.Sound.{entries_of}
use Rattle.c_recording.proofs.Calls.{beginning_fits}
use Rattle.c_player.specs.Player.{player_size, player_bytes, player_in, PlayerFits}
use Rattle.c_player.proofs.CodeLaws.{written_in}
use Rattle.c_play.specs.Players.{player_after, begin_number, begin_bytes, Continued}
use Rattle.c_play.specs.Pieces.{written_of, over_of, Pieces, none, piece}

-- what the answer of a piece says

written_is : (t : Bool) (l : ℕ) → written_of (2 ^ 8 * flag_byte t + 2 ^ 32 * l) ≡ l
written_is true l = omega arith
written_is false l = omega arith

over_is : (t : Bool) (l : ℕ) → over_of (2 ^ 8 * flag_byte t + 2 ^ 32 * l) ≡ t
over_is true l = eq-eqb ((2 ^ 8 * 1 + 2 ^ 32 * l) / 2 ^ 8 % 2) 1 (omega arith)
over_is false l = ne_eqb ((2 ^ 8 * 0 + 2 ^ 32 * l) / 2 ^ 8 % 2) 1 (λ h. omega arith)

-- the player at the beginning

fresh_fits : (pal : Bool) → PlayerFits (fresh_player pal)
unfolding fresh_player
fresh_fits pal =
    record { phase = omega arith; wait = omega arith; time = omega arith; last = omega arith; cursor = beginning_fits }

module _ (log memory : List ℕ) where
  begun_fresh : (b : List ℕ) → begin_number log memory b ≡ 0 → (play_number log memory ≡ 0) × (begin_bytes log memory b ≡ player_bytes (fresh_player (machine_of log)))
  unfolding begin_number begun_of
  begun_fresh b e = by (eqb (length b) player_size) e
    where
      refused : (t : Bool) → pick {A = ℕ} t 2 1 ≡ 0 → ⊥
      refused true h = omega arith
      refused false h = omega arith

      by : (t : Bool) → pick t (play_number log memory) (pick (is_memory memory) 2 1) ≡ 0
          → (play_number log memory ≡ 0) × (player_after (pick t (play_number log memory) (pick (is_memory memory) 2 1)) (pick (eqb (play_number log memory) 0) (fresh_player (machine_of log)) ended_player) b ≡ player_bytes (fresh_player (machine_of log)))
      by true h = (h, rw (eq-eqb (play_number log memory) 0 h))
      by false h = absurd (refused (is_memory memory) h)

  -- bytes of a player are played as the player
  playing : (b text text' : List ℕ) (q : Player) (r : Played) → b ≡ player_bytes q → PlayerFits q → PlayedOn log memory (player_in b) text text' r
      → PlayedOn log memory q text text' r
  playing b text text' q r e f d =
      let a : player_in b ≡ q = ap player_in e ∙ written_in q f in
      rw a at d

  -- a list of calls with bytes is a list of calls with the players that they stand for
  pub record Held (b joined : List ℕ) (count : ℕ) (over : Bool) : Type 0 where
    pub player : Player
    pub calls : play.Calls log memory (fresh_player (machine_of log)) joined count player over
    pub bytes : b ≡ player_bytes player
    pub fits : PlayerFits player
    pub passes : play_number log memory ≡ 0

  -- a call goes on from there, and is not refused; and a text of 23 bytes or more gets a line, or the player is over
  pub record Gone (b' joined : List ℕ) (count : ℕ) (text text' : List ℕ) (answer : ℕ) : Type 0 where
    pub done : answer ≡ 2 ^ 8 * flag_byte (over_of answer) + 2 ^ 32 * written_of answer
    pub line : 23 ≤ length text → over_of answer ≡ false → 0 < written_of answer
    pub held : Held b' (joined ++ take (written_of answer) text') (pick (leb 23 (length text)) (count + 1) count) (over_of answer)

  gone : (b b' joined : List ℕ) (count : ℕ) (text text' : List ℕ) (answer : ℕ) → Held b joined count false → Continued log memory b b' text text' answer
      → Gone b' joined count text text' answer
  gone b b' joined count text text' answer h k =
      let r = k.played in
      let does = playing b text text' h.player r h.bytes h.fits k.does in
      let zero = (never_halted log memory h.passes h.calls text text' r does).0 in
      let says : answer ≡ 2 ^ 8 * flag_byte r.over + 2 ^ 32 * r.length = rw zero at k.says in
      let w : written_of answer ≡ r.length = ap (λ (x : ℕ). written_of x) says ∙ written_is r.over r.length in
      let o : over_of answer ≡ r.over = ap (λ (x : ℕ). over_of x) says ∙ over_is r.over r.length in
      record {
        done = rw (o, w) says;
        line = rw (o, w) (gets_line log memory h.passes h.calls text text' r does);
        held =
            rw (o, w)
            (record {
              player = r.player;
              calls = play.call text text' r h.calls does;
              bytes = k.keeps ∙ rw (eq-eqb r.number 0 zero);
              fits = k.fits;
              passes = h.passes;
            });
      }

  pub held : {b joined : List ℕ} {n : ℕ} {over : Bool} → Pieces log memory b joined n over → Held b joined n over
  held (none b e) =
      let begun = begun_fresh b (omega arith) in
      record { player = fresh_player (machine_of log); calls = play.none; bytes = begun.1; fits = fresh_fits (machine_of log); passes = begun.0 }
  held (piece {b = b} {joined = joined} {n = n} b' text text' answer p k) = (gone b b' joined n text text' answer (held p) k).held

  -- THE PIECES JOINED ARE A BEGINNING OF THE WHOLE TEXT, AND ALL OF IT WHEN THE LAST CALL SAID OVER
  pub pieces_joined : {b joined : List ℕ} {n : ℕ} {over : Bool} (p : Pieces log memory b joined n over) → Beginning log memory (held p).passes joined over
  pieces_joined p = pieces_whole log memory (held p).passes (held p).calls

  -- NO CALL IS REFUSED, AND A TEXT OF 23 BYTES OR MORE GETS A LINE UNTIL THE PLAYER IS OVER
  pub piece_on : {b joined : List ℕ} {n : ℕ} → Pieces log memory b joined n false → (b' text text' : List ℕ) (answer : ℕ) → Continued log memory b b' text text' answer
      → Gone b' joined n text text' answer
  piece_on {b = b} {joined = joined} {n = n} p b' text text' answer k = gone b b' joined n text text' answer (held p) k

  -- SO THEY COME TO AN END: behind more texts of 23 bytes or more than there are lines the last call said over
  pub pieces_end : {b joined : List ℕ} {n : ℕ} (over : Bool) → Pieces log memory b joined n over → length (entries_of (machine_of log) memory (acts (tree_of log))) < n → over ≡ true
  pieces_end over p more = comes_to_end log memory (held p).passes over (held p).calls more
