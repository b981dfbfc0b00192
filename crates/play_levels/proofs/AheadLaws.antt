-- A text with something behind it that a later one covers. Assumes nothing.
use Prim.Native.Nat.{ℕ, suc, ◌+◌, ◌-◌, ◌/◌, ◌%◌, ◌≤◌}
use mathlib.Core.Path.{◌≡◌, refl, sym, ap, ◌∙◌}
use mathlib.Core.List.{List, [], ◌∷◌, ◌++◌, append_assoc, append-nil}
use native.Mathlib.Omega.{arith}
use lib.ListN.{length, set, length-append}
use lib.Seq.{sets, length-sets, set-set}
use Rattle.text.specs.Ascii.{bytes}
use Rattle.text.specs.Decimal.{decimal_text}
use Rattle.text_print.specs.Printed.{digits_in}
use Rattle.text_print.proofs.DecimalLaws.{length_digits}
use Rattle.text_print.proofs.StoreLaws.{sets_set, sets_append}
use Rattle.play_text.specs.declared.Entry.TheVariants.{Level}
use Rattle.play_text.specs.Entries.{entry_text}
use Rattle.play_levels.specs.Words.{word_of, word_bytes, Ahead}
use Rattle.play_levels.proofs.WordLaws.{Bytes, bytes_append, word_bytes_lem, length_bytes}
use Rattle.play_levels.proofs.DigitLaws.{digit_bytes, decimal_bytes, high_size, decimal_split}

-- a text over another that is no longer
covered : (junk u l : List ℕ) (i : ℕ) → length junk ≤ length u → sets (sets l i junk) i u ≡ sets l i u
covered [] u l i h = refl
covered (j ∷ js) [] l i h = absurd (omega arith)
covered (j ∷ js) (v ∷ vs) l i h =
    ap (λ (m : List ℕ). sets m (suc i) vs) (sets_set js (set l i j) (suc i) i v (λ k m e. omega (arith, e)) ∙ ap (λ (m : List ℕ). sets m (suc i) js) (set-set l i j v))
    ∙ covered js vs (set l i v) (suc i) (omega arith)

-- a text stored with something behind it
pub ahead_stored : (l : List ℕ) (at : ℕ) (text junk after : List ℕ) (r : ℕ) → length junk ≤ 8 → r ≡ at + length text → after ≡ sets l at (text ++ junk) → Ahead 8 l at text after r
ahead_stored l at text junk after r h p e =
    record {
      place = p;
      size = ap length e ∙ length-sets l at (text ++ junk);
      bytes =
          λ u k.
          rw (e, p)
          (ap (λ (m : List ℕ). sets m (at + length text) u) (sym (sets_append text junk l at))
          ∙ covered junk u (sets l at text) (at + length text) (omega (arith, h, k))
          ∙ sets_append text u l at);
    }

no_bytes : (l : List ℕ) → l ++ word_bytes 0 0 ≡ l
unfolding word_bytes
no_bytes l = append-nil l

-- a word of a text of no more than eight bytes
pub ahead_word : (l : List ℕ) (at : ℕ) (text after : List ℕ) (w r j : ℕ) → Bytes text → length text + j ≡ 8 → w ≡ word_of text → r ≡ at + length text → after ≡ sets l at (word_bytes 8 w) → Ahead 8 l at text after r
ahead_word l at text after w r j h k e p b =
    let stored : word_bytes 8 w ≡ text ++ word_bytes j 0 = ap (word_bytes 8) e ∙ ap (λ (n : ℕ). word_bytes n (word_of text)) (sym k) ∙ word_bytes_lem text j h in
    ahead_stored l at text (word_bytes j 0) after r (omega (arith, length_bytes j 0, k)) p (b ∙ ap (sets l at) stored)

-- the four digits of a number, and those of another behind them
pub ahead_four : (l : List ℕ) (at n x : ℕ) (after : List ℕ) (w r : ℕ) → w ≡ word_of (digits_in 4 n ++ digits_in 4 x) → r ≡ at + 4 → after ≡ sets l at (word_bytes 8 w) → Ahead 8 l at (digits_in 4 n) after r
ahead_four l at n x after w r e p b =
    let both = digits_in 4 n ++ digits_in 4 x in
    let h = bytes_append (digits_in 4 n) (digits_in 4 x) (digit_bytes 4 n) (digit_bytes 4 x) in
    let k : length both + 0 ≡ 8 = omega (arith, length-append (digits_in 4 n) (digits_in 4 x), length_digits 4 n, length_digits 4 x) in
    let stored : word_bytes 8 w ≡ both = ap (word_bytes 8) e ∙ ap (λ (i : ℕ). word_bytes i (word_of both)) (sym k) ∙ word_bytes_lem both 0 h ∙ no_bytes both in
    ahead_stored l at (digits_in 4 n) (digits_in 4 x) after r (omega (arith, length_digits 4 x)) (omega (arith, p, length_digits 4 n)) (b ∙ ap (sets l at) stored)

-- a text that covers what stood behind another
pub ahead_two : (i j : ℕ) (l : List ℕ) (at : ℕ) (a b l' l'' : List ℕ) (r r'' : ℕ) → i ≤ j → Ahead i l at a l' r → Ahead j l' r b l'' r'' → Ahead j l at (a ++ b) l'' r''
ahead_two i j l at a b l' l'' r r'' h p q =
    record {
      place = q.place ∙ omega (arith, p.place, length-append a b);
      size = q.size ∙ p.size;
      bytes =
          λ u k.
          q.bytes u k
          ∙ p.bytes (b ++ u) (omega (arith, k, h, length-append b u))
          ∙ ap (sets l at) (sym (append_assoc a b u));
    }

-- nothing behind it
pub ahead_exact : (k : ℕ) (l : List ℕ) (at : ℕ) (text after : List ℕ) (r : ℕ) → r ≡ at + length text → after ≡ sets l at text → Ahead k l at text after r
ahead_exact k l at text after r p e =
    record {
      place = p;
      size = ap length e ∙ length-sets l at text;
      bytes = λ u h. rw (e, p) (sets_append text u l at);
    }

-- A LEVEL LINE in four words

line_parts : (t n : ℕ) → 10000 ≤ t → t ≤ 9999999999
    → ((bytes "level=" ++ decimal_text (t / 10000)) ++ digits_in 4 (t % 10000)) ++ (58 ∷ (decimal_text n ++ (10 ∷ []))) ≡ entry_text (Level t n)
unfolding entry_text
line_parts t n l h =
    append_assoc (bytes "level=" ++ decimal_text (t / 10000)) (digits_in 4 (t % 10000)) (58 ∷ (decimal_text n ++ (10 ∷ [])))
    ∙ append_assoc (bytes "level=") (decimal_text (t / 10000)) (digits_in 4 (t % 10000) ++ (58 ∷ (decimal_text n ++ (10 ∷ []))))
    ∙ ap (λ (d : List ℕ). bytes "level=" ++ d)
    (sym (append_assoc (decimal_text (t / 10000)) (digits_in 4 (t % 10000)) (58 ∷ (decimal_text n ++ (10 ∷ []))))
    ∙ ap (λ (d : List ℕ). d ++ (58 ∷ (decimal_text n ++ (10 ∷ [])))) (sym (decimal_split t l h)))

key_word : 67535768020332 ≡ word_of (bytes "level=")
unfolding word_of
key_word = refl

key_bytes : Bytes (bytes "level=")
unfolding Bytes
key_bytes = (omega arith, (omega arith, (omega arith, (omega arith, (omega arith, (omega arith, tt))))))

end_bytes : (n : ℕ) → Bytes (58 ∷ (decimal_text n ++ (10 ∷ [])))
unfolding Bytes
end_bytes n = (omega arith, bytes_append (decimal_text n) (10 ∷ []) (decimal_bytes n) (omega arith, tt))

pub line_stored : (t n x : ℕ) → 10000 ≤ t → t ≤ 9999999999 → (at size head low tail m r : ℕ) (l l1 l2 l3 l4 : List ℕ)
    → size ≡ length (decimal_text (t / 10000)) → m + length (decimal_text n) ≡ 5
    → head ≡ word_of (decimal_text (t / 10000)) → low ≡ word_of (digits_in 4 (t % 10000) ++ digits_in 4 x) → tail ≡ word_of (58 ∷ (decimal_text n ++ (10 ∷ [])))
    → l1 ≡ sets l at (word_bytes 8 67535768020332) → l2 ≡ sets l1 (at + 6) (word_bytes 8 head)
    → l3 ≡ sets l2 (at + 6 + size) (word_bytes 8 low) → l4 ≡ sets l3 (at + 6 + size + 4) (word_bytes 8 tail)
    → r ≡ at + 6 + size + 4 + 7 - m → Ahead 8 l at (entry_text (Level t n)) l4 r
line_stored t n x lo hi at size head low tail m r l l1 l2 l3 l4 es em eh el et b1 b2 b3 b4 er =
    let high = decimal_text (t / 10000) in
    let four = digits_in 4 (t % 10000) in
    let end : List ℕ = 58 ∷ (decimal_text n ++ (10 ∷ [])) in
    let few = high_size (t / 10000) (omega arith) in
    let long : length end ≡ 2 + length (decimal_text n) = omega (arith, length-append (decimal_text n) (10 ∷ [])) in
    let key = ahead_word l at (bytes "level=") l1 67535768020332 (at + 6) 2 key_bytes refl key_word refl b1 in
    let first = ahead_word l1 (at + 6) high l2 head (at + 6 + size) (8 - length high) (decimal_bytes (t / 10000)) (omega (arith, few)) eh (omega (arith, es)) b2 in
    let last = ahead_four l2 (at + 6 + size) (t % 10000) x l3 low (at + 6 + size + 4) el refl b3 in
    let rest = ahead_word l3 (at + 6 + size + 4) end l4 tail r (8 - length end) (end_bytes n) (omega (arith, long, em)) et (omega (arith, er, long, em)) b4 in
    let one = ahead_two 8 8 l at (bytes "level=") high l1 l2 (at + 6) (at + 6 + size) (omega arith) key first in
    let two = ahead_two 8 8 l at (bytes "level=" ++ high) four l2 l3 (at + 6 + size) (at + 6 + size + 4) (omega arith) one last in
    let all = ahead_two 8 8 l at ((bytes "level=" ++ high) ++ four) end l3 l4 (at + 6 + size + 4) r (omega arith) two rest in
    rw (line_parts t n lo hi) at all
