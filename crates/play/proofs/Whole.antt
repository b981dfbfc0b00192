-- THE PIECES JOINED ARE THE WHOLE TEXT, for any log that passes, any memory and any list of calls. Assumes nothing.
use Prim.Native.Nat.{ℕ, zero, suc, ◌+◌, ◌≤◌, ◌<◌}
use mathlib.Core.Path.{◌≡◌, refl, sym, ap, ap₂, ◌∙◌}
use mathlib.Core.Logic.{◌⊎◌, inl, inr}
use mathlib.Core.Bool.{Bool, true, false}
use mathlib.Core.List.{List, [], ◌∷◌, ◌++◌, append_assoc, append-nil}
use native.Mathlib.Omega.{arith}
use lib.Dec.{leb}
use lib.ListN.{length, take, length-append}
use borrow.Author.Tests.{eq-eqb, leb-true}
use Rattle.arith.specs.Pick.{pick}
use Rattle.recording.specs.Whole.{machine_of}
use Rattle.log_rules.specs.Tree.{acts}
use Rattle.recording.specs.Whole.{tree_of, check_of}
use Rattle.chip_api.specs.Answer.{is_memory}
use Rattle.chip.specs.Range.{in_range}
use Rattle.chip.proofs.RangeLaws.{power_on_in}
use Rattle.play_text.specs.declared.Entry.{Entry}
use Rattle.play_text.specs.Entries.{entries_text}
use Rattle.play_text.proofs.TextLaws.{entries_append, entries_none, entries_empty}
use Rattle.play_rules.specs.declared.Player.{Player}
use Rattle.play_rules.specs.Sound.{entries_of}
use Rattle.play_rules.specs.Turns.{fresh_player, turn_of}
use Rattle.play_rules.proofs.Saying.{Told, fresh_told}
use Rattle.play_rules.proofs.TellLaws.{Left, left, never_refused, over_none}
use Rattle.play.specs.declared.Played.{Played}
use Rattle.play.specs.Playing.{Piece, Answered, PlayedOn}
use Rattle.play_begin.specs.Whole.{play_number, play_text}
use Rattle.play.specs.Calls.{Calls, none, call}

module _ (log memory : List ℕ) where
  -- WHAT A LIST OF CALLS HAS COME TO
  pub record Part (text : List ℕ) (n : ℕ) (q : Player) (o : Bool) : Type 0 where
    pub written : List Entry
    pub rest : List Entry
    pub within : ℕ
    pub told : Told log memory q rest within
    pub low : within < 4000010
    pub whole : entries_of (machine_of log) memory (acts (tree_of log)) ≡ written ++ rest
    pub said : text ≡ entries_text written
    pub fine : in_range q.state ≡ true
    pub done : o ≡ true → rest ≡ []
    pub count : o ≡ false → n ≤ length written

  answered : (q : Player) (before after : List ℕ) (r : Played) → is_memory memory ≡ true → in_range q.state ≡ true → PlayedOn log memory q before after r → Answered log memory q before after r
  unfolding PlayedOn
  answered q before after r m f pl = rw (m, f) at pl

  -- A CALL ON: never refused, and with 23 bytes or more a line or the end
  pub record Next (text : List ℕ) (n : ℕ) (before after : List ℕ) (r : Played) : Type 0 where
    pub number : r.number ≡ 0
    pub place : r.place ≡ 0
    pub part : Part (text ++ take r.length after) (pick (leb 23 (length before)) (n + 1) n) r.player r.over
    pub line : 23 ≤ length before → r.over ≡ false → 0 < r.length

  pieced : (text : List ℕ) (n : ℕ) (q : Player) → Part text n q false → (before after : List ℕ) (r : Played) → r.number ≡ 0 → r.place ≡ 0 → Piece log memory q before after r → Next text n before after r
  pieced text n q p before after r number place a =
      let i = left (turn_of log memory) a.went p.told p.low in
      record {
        number = number;
        place = place;
        part =
            record {
              written = p.written ++ a.entries;
              rest = i.rest;
              within = i.within;
              told = i.told;
              low = i.low;
              whole = p.whole ∙ (ap (λ (l : List Entry). p.written ++ l) i.joined ∙ sym (append_assoc p.written a.entries i.rest));
              said = ap₂ (λ (x y : List ℕ). x ++ y) p.said a.piece ∙ sym (entries_append p.written a.entries);
              fine = a.fine;
              done = λ e. over_none (turn_of log memory) i.told (a.over e);
              count = λ e. rw length-append (counted i (leb 23 (length before)) refl e);
            };
        line = λ w e. long i w e;
      }
    where
      some : Left (turn_of log memory) r.player p.rest a.entries a.turns p.within → 23 ≤ length before → r.over ≡ false → (l : List Entry) → a.entries ≡ l → 0 < length l
      some i w e (x ∷ l) h = omega arith
      some i w e [] h = by (a.gets h e)
        where
          by : ((length before < 23) × (r.player ≡ q)) ⊎ (4000010 ≤ a.turns) → 0 < length {A = Entry} []
          by (inl x) = let y = x.0 in absurd (omega arith)
          by (inr x) = let f = i.few h in let y = p.low in absurd (omega arith)

      counted : Left (turn_of log memory) r.player p.rest a.entries a.turns p.within → (b : Bool) → leb 23 (length before) ≡ b → r.over ≡ false
          → pick b (n + 1) n ≤ length p.written + length a.entries
      counted i true h e =
          let k = p.count refl in
          let l = some i (leb-true 23 (length before) h) e a.entries refl in
          omega arith
      counted i false h e = let k = p.count refl in omega arith

      long : Left (turn_of log memory) r.player p.rest a.entries a.turns p.within → 23 ≤ length before → r.over ≡ false → 0 < r.length
      long i w e = by r.length refl
        where
          by : (k : ℕ) → r.length ≡ k → 0 < k
          by (suc k) h = omega arith
          by zero h =
              let z : ◌≡◌ {A = List ℕ} [] (entries_text a.entries) = ap (λ (x : ℕ). take x after) (sym h) ∙ a.piece in
              let n = entries_empty a.entries (sym (ap length z)) in
              let l = some i w e a.entries refl in
              let l' : 0 < length {A = Entry} [] = rw n at l in
              absurd (omega arith)

  next : (text : List ℕ) (n : ℕ) (q : Player) → is_memory memory ≡ true → Part text n q false → (before after : List ℕ) (r : Played) → PlayedOn log memory q before after r → Next text n before after r
  next text n q m p before after r pl = by (answered q before after r m p.fine pl)
    where
      by : Answered log memory q before after r → Next text n before after r
      by (inl a) = pieced text n q p before after r a.0 a.1 a.2
      by (inr a) =
          let h = a.0 in
          let i = left (turn_of log memory) h.went p.told p.low in
          absurd (never_refused (turn_of log memory) r.number r.place i.told h.refuses)

  -- number 0 is that of a memory and a log that pass
  passing : play_number log memory ≡ 0 → (is_memory memory ≡ true) × ((check_of log).number ≡ 0)
  unfolding play_number
  passing h = by (is_memory memory) refl h
    where
      by : (b : Bool) → is_memory memory ≡ b → pick b (check_of log).number 1 ≡ 0 → (is_memory memory ≡ true) × ((check_of log).number ≡ 0)
      by true e z = (e, z)
      by false e z = absurd (let y : ◌≡◌ {A = ℕ} 1 0 = z in omega arith)

  module _ (h : play_number log memory ≡ 0) where
    part_of : {text : List ℕ} {n : ℕ} {q : Player} {o : Bool} → Calls log memory (fresh_player (machine_of log)) text n q o → Part text n q o
    unfolding fresh_player
    part_of none =
        record {
          written = [];
          rest = entries_of (machine_of log) memory (acts (tree_of log));
          within = 1;
          told = fresh_told log memory (passing h).1 (machine_of log);
          low = omega arith;
          whole = refl;
          said = sym entries_none;
          fine = power_on_in (machine_of log);
          done = λ e. absurd (let y : ◌≡◌ {A = ℕ} 0 1 = cc in omega arith);
          count = λ e. omega arith;
        }
    part_of (call {text = text} {n = n} {q = q} before after r c pl) = (next text n q (passing h).0 (part_of c) before after r pl).part

    text_is : play_text log memory ≡ entries_text (entries_of (machine_of log) memory (acts (tree_of log)))
    unfolding play_text
    text_is = rw (eq-eqb (play_number log memory) 0 h)

    -- THE PIECES JOINED ARE A BEGINNING OF THE WHOLE TEXT, AND ALL OF IT WHEN THE LAST CALL SAYS OVER
    pub record Beginning (text : List ℕ) (o : Bool) : Type 0 where
      pub rest : List ℕ
      pub joined : play_text log memory ≡ text ++ rest
      pub all : o ≡ true → play_text log memory ≡ text

    pub pieces_whole : {text : List ℕ} {n : ℕ} {q : Player} {o : Bool} → Calls log memory (fresh_player (machine_of log)) text n q o → Beginning text o
    pieces_whole {text = text} c =
        let p = part_of c in
        let j : play_text log memory ≡ text ++ entries_text p.rest =
        text_is ∙ (ap entries_text p.whole ∙ (entries_append p.written p.rest ∙ ap (λ (l : List ℕ). l ++ entries_text p.rest) (sym p.said))) in
        record {
          rest = entries_text p.rest;
          joined = j;
          all = λ e. j ∙ (ap (λ (l : List Entry). text ++ entries_text l) (p.done e) ∙ (ap (λ (l : List ℕ). text ++ l) entries_none ∙ append-nil text));
        }

    -- NO CALL IS REFUSED
    pub never_halted : {text : List ℕ} {n : ℕ} {q : Player} → Calls log memory (fresh_player (machine_of log)) text n q false → (before after : List ℕ) (r : Played) → PlayedOn log memory q before after r
        → (r.number ≡ 0) × (r.place ≡ 0)
    never_halted {text = text} {n = n} {q = q} c before after r pl =
        let i = next text n q (passing h).0 (part_of c) before after r pl in
        (i.number, i.place)

    -- A BUFFER OF 23 BYTES OR MORE GETS A LINE, OR THE PLAYER IS OVER
    pub gets_line : {text : List ℕ} {n : ℕ} {q : Player} → Calls log memory (fresh_player (machine_of log)) text n q false → (before after : List ℕ) (r : Played) → PlayedOn log memory q before after r
        → 23 ≤ length before → r.over ≡ false → 0 < r.length
    gets_line {text = text} {n = n} {q = q} c before after r pl = (next text n q (passing h).0 (part_of c) before after r pl).line

    -- SO IT COMES TO ITS END: behind more such buffers than the text has lines the last call said over
    pub comes_to_end : {text : List ℕ} {n : ℕ} {q : Player} (o : Bool) → Calls log memory (fresh_player (machine_of log)) text n q o → length (entries_of (machine_of log) memory (acts (tree_of log))) < n → o ≡ true
    comes_to_end true c b = refl
    comes_to_end false c b =
        let p = part_of c in
        let k = p.count refl in
        let s = ap length p.whole ∙ length-append p.written p.rest in
        absurd (omega arith)
