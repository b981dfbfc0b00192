-- 16 is said of a decimal of right shape that is outside its range, and of nothing else. Assumes nothing.
use Rattle.std.specs.Prelude.{Option, Some, None, Err}
use mathlib.Core.Path.{◌≡◌, refl, ap, sym, ◌∙◌}
use mathlib.Core.List.{List, [], ◌∷◌, ◌++◌, append_assoc, append-nil}
use mathlib.Core.Bool.{Bool, true, false, false≢true}
use Prim.Native.Nat.{ℕ, zero, suc, ◌+◌, ◌-◌, ◌^◌, ◌≤◌, ◌<◌}
use native.Mathlib.Omega.{arith}
use borrow.Author.Tests.{eqb-true, ltb-true, ltb-false}
use lib.ListN.{length, get_or, take, drop, length-append}
use lib.Dec.{eqb, ltb}
use Rattle.refusal.specs.Refusal.{refusal, number_of, place_of}
use Rattle.arith.specs.Pick.{either}
use Rattle.arith.proofs.PickLaws.{both_left, both_right}
use Rattle.bus.specs.declared.Access.TheVariants.{Write, Read}
use Rattle.text.specs.Ascii.{bytes}
use Rattle.text.specs.Key.{starts_with}
use Rattle.text.specs.Decimal.{decimal, decimal_text}
use Rattle.text.proofs.KeyLaws.{starts_split, starts_length}
use Rattle.text.proofs.DecimalLaws.{decimal_sound}
use Rattle.log_line.specs.declared.Act.TheVariants.{Wait, Access}
use Rattle.log_line.specs.declared.Line.{Line}
use Rattle.log_line.specs.declared.Line.TheVariants.{Header, Machine, One, Loop, Done, Stop, NoForm, NoRegister}
use Rattle.log_line.specs.Said.{line_of}
use Rattle.log_line.specs.Printed.{act_text, ended, line_text}
use Rattle.log_fault.specs.declared.Stand.{Stand}
use Rattle.log_begins.specs.declared.Keys.{Keys}
use Rattle.log_form.specs.Forms.{reach}
use Rattle.log_begins.specs.Begins.{begins}
use Rattle.log_fault.specs.Allowed.{keys_of}
use Rattle.log_fault.specs.Places.{Outside, waits, loops, stops, OutOfRange}
use Rattle.log_begins.specs.Counts.{keyed, unfed, said, counts}
use Rattle.log_fault.specs.Fault.{spot_of}
use Rattle.log_begins.specs.Fronts.{allowed, RightForm, Fronts}
use Rattle.log_begins.proofs.Beginnings.{begins_complete}
use Rattle.log_begins.proofs.Furthest.{begins_closed}
use Rattle.log_form.proofs.ReachLaws.{reach_all}
use Rattle.log_begins.proofs.WholeLaws.{feed_split}
use Rattle.log_fault.proofs.FaultLaws.{zero_one, Came, fine, start, feed, key, range, shape, came, starts_small, first_byte, missing_feed}

-- THE `=` OF A KEY STANDS BEHIND ALL OF ITS LETTERS

keyed_short : (letters v : List ℕ) (r : ℕ) → r ≤ length letters → keyed letters ≡ false → keyed (take r (letters ++ v)) ≡ false
unfolding keyed
keyed_short [] v zero h e = refl
keyed_short [] v (suc r) h e = absurd (omega arith)
keyed_short (c ∷ letters) v zero h e = refl
keyed_short (c ∷ letters) v (suc r) h e = go (eqb c 61) e (keyed_short letters v r (omega arith))
  where
    go : (b : Bool) → either b (keyed letters) ≡ false → (keyed letters ≡ false → keyed (take r (letters ++ v)) ≡ false) → either b (keyed (take r (letters ++ v))) ≡ false
    go true e f = e
    go false e f = f e

take_key : (k v : List ℕ) (r : ℕ) → length k ≤ r → take r (k ++ v) ≡ k ++ take (r - length k) v
take_key [] v r h =
    let e : r ≡ r - 0 = omega arith in
    ap (λ (x : ℕ). take x v) e
take_key (c ∷ k) v zero h = absurd (omega arith)
take_key (c ∷ k) v (suc r) h =
    let e : r - length k ≡ suc r - suc (length k) = omega arith in
    ap (λ (x : List ℕ). c ∷ x) (take_key k v r (omega arith) ∙ ap (λ (x : ℕ). k ++ take x v) e)

-- A LINE WITH A KEY THAT TAKES A DECIMAL IS ONE OF ITS KIND

module _ (k : Keys) where
  wait_only : (l : Line) (x : List ℕ) → bytes "wait=" ++ x ≡ line_text l → allowed k l ≡ true → k.acts ≡ true
  unfolding line_text ended allowed
  wait_only Header x e a = absurd (let z : ◌≡◌ {A = ℕ} 119 108 = cc in omega arith)
  wait_only Machine x e a = absurd (let z : ◌≡◌ {A = ℕ} 119 109 = cc in omega arith)
  wait_only (One b) x e a = a
  wait_only (Loop n) x e a = absurd (let z : ◌≡◌ {A = ℕ} 119 108 = cc in omega arith)
  wait_only Done x e a = absurd (let z : ◌≡◌ {A = ℕ} 119 100 = cc in omega arith)
  wait_only (Stop n) x e a = absurd (let z : ◌≡◌ {A = ℕ} 119 115 = cc in omega arith)
  wait_only NoForm x e a = absurd (false≢true a)
  wait_only NoRegister x e a = absurd (false≢true a)

  loop_only : (l : Line) (x : List ℕ) → bytes "loop=" ++ x ≡ line_text l → allowed k l ≡ true → k.loops ≡ true
  unfolding line_text act_text ended allowed
  loop_only Header x e a = absurd (let z : ◌≡◌ {A = ℕ} 111 103 = cc in omega arith)
  loop_only Machine x e a = absurd (let z : ◌≡◌ {A = ℕ} 108 109 = cc in omega arith)
  loop_only (One (Wait n)) x e a = absurd (let z : ◌≡◌ {A = ℕ} 108 119 = cc in omega arith)
  loop_only (One (Access (Write r v))) x e a = absurd (let z : ◌≡◌ {A = ℕ} 108 119 = cc in omega arith)
  loop_only (One (Access Read)) x e a = absurd (let z : ◌≡◌ {A = ℕ} 108 114 = cc in omega arith)
  loop_only (Loop n) x e a = a
  loop_only Done x e a = absurd (let z : ◌≡◌ {A = ℕ} 108 100 = cc in omega arith)
  loop_only (Stop n) x e a = absurd (let z : ◌≡◌ {A = ℕ} 108 115 = cc in omega arith)
  loop_only NoForm x e a = absurd (false≢true a)
  loop_only NoRegister x e a = absurd (false≢true a)

  stop_only : (l : Line) (x : List ℕ) → bytes "stop=" ++ x ≡ line_text l → allowed k l ≡ true → k.stop ≡ true
  unfolding line_text act_text ended allowed
  stop_only Header x e a = absurd (let z : ◌≡◌ {A = ℕ} 115 108 = cc in omega arith)
  stop_only Machine x e a = absurd (let z : ◌≡◌ {A = ℕ} 115 109 = cc in omega arith)
  stop_only (One (Wait n)) x e a = absurd (let z : ◌≡◌ {A = ℕ} 115 119 = cc in omega arith)
  stop_only (One (Access (Write r v))) x e a = absurd (let z : ◌≡◌ {A = ℕ} 115 119 = cc in omega arith)
  stop_only (One (Access Read)) x e a = absurd (let z : ◌≡◌ {A = ℕ} 115 114 = cc in omega arith)
  stop_only (Loop n) x e a = absurd (let z : ◌≡◌ {A = ℕ} 115 108 = cc in omega arith)
  stop_only Done x e a = absurd (let z : ◌≡◌ {A = ℕ} 115 100 = cc in omega arith)
  stop_only (Stop n) x e a = a
  stop_only NoForm x e a = absurd (false≢true a)
  stop_only NoRegister x e a = absurd (false≢true a)

-- A DECIMAL KEY BEFORE THE FIRST BYTE AT FAULT

-- bytes and their line feed, missing or not
record Fed (v : List ℕ) : Type 0 where
  more : List ℕ
  is : v ++ more ≡ unfed v ++ (10 ∷ [])

fed : (v : List ℕ) → Fed v
unfolding unfed ended
fed v = go (eqb (get_or v (length v - 1) 0) 10) refl
  where
    go : (b : Bool) → eqb (get_or v (length v - 1) 0) 10 ≡ b → Fed v
    go true e = record { more = []; is = append-nil v ∙ (feed_split v (eqb-true _ _ e) ∙ rw e) }
    go false e = record { more = 10 ∷ []; is = rw e }

module _ (st : Stand) (s : List ℕ) (h : reach (begins (keys_of st)) s ≡ length s → ⊥) (kd : keyed (take (reach (begins (keys_of st)) s) s) ≡ true) where
  -- a decimal key that stands before the first byte at fault is allowed, and its number is not in range
  ranged : (letters : List ℕ) (lo hi : ℕ) (f : ℕ → Line) (may : Bool) → hi < 10 ^ 10 → length letters ≡ 4 → keyed letters ≡ false
      → ((n : ℕ) → (letters ++ (61 ∷ [])) ++ (decimal_text n ++ (10 ∷ [])) ≡ line_text (f n))
      → ((n : ℕ) → lo ≤ n → n ≤ hi → RightForm (f n))
      → ((n : ℕ) → may ≡ true → allowed (keys_of st) (f n) ≡ true)
      → ((l : Line) (x : List ℕ) → (letters ++ (61 ∷ [])) ++ x ≡ line_text l → allowed (keys_of st) l ≡ true → may ≡ true)
      → (n : ℕ) → decimal (unfed (drop 5 s)) ≡ Some n → starts_with (letters ++ (61 ∷ [])) s ≡ true
      → (may ≡ true) × (lo ≤ n → n ≤ hi → ⊥)
  ranged letters lo hi f may w four clear text right mine only n d e = (may_be, out)
    where
      five : length (letters ++ (61 ∷ [])) ≡ 5
      five = omega (arith, length-append letters (61 ∷ []))

      split : s ≡ (letters ++ (61 ∷ [])) ++ drop 5 s
      split = starts_split (letters ++ (61 ∷ [])) s e ∙ ap (λ (x : ℕ). (letters ++ (61 ∷ [])) ++ drop x s) five

      far : 5 ≤ reach (begins (keys_of st)) s
      far = go (ltb (reach (begins (keys_of st)) s) 5) refl
        where
          go : (b : Bool) → ltb (reach (begins (keys_of st)) s) 5 ≡ b → 5 ≤ reach (begins (keys_of st)) s
          go true q =
              let l = ltb-true (reach (begins (keys_of st)) s) 5 q in
              let z = keyed_short letters (61 ∷ drop 5 s) (reach (begins (keys_of st)) s) (omega arith) clear in
              let t : letters ++ (61 ∷ drop 5 s) ≡ s = sym (split ∙ append_assoc letters (61 ∷ []) (drop 5 s)) in
              absurd (false≢true (sym z ∙ (ap (λ (x : List ℕ). keyed (take (reach (begins (keys_of st)) s) x)) t ∙ kd)))
          go false q = ltb-false (reach (begins (keys_of st)) s) 5 q

      may_be : may ≡ true
      may_be =
          let b = (first_byte st s h).begun (reach (begins (keys_of st)) s) (omega arith) in
          let t =
          ap (take (reach (begins (keys_of st)) s)) split
          ∙ take_key (letters ++ (61 ∷ [])) (drop 5 s) (reach (begins (keys_of st)) s) (omega (arith, five, far)) in
          only b.line _ (sym (append_assoc (letters ++ (61 ∷ [])) _ b.rest) ∙ (ap (λ (x : List ℕ). x ++ b.rest) (sym t) ∙ b.is)) b.may

      out : lo ≤ n → n ≤ hi → ⊥
      out a b =
          let g = fed (drop 5 s) in
          let u = decimal_sound (unfed (drop 5 s)) n d (omega arith) in
          let front : Fronts (keys_of st) s =
          record {
            line = f n;
            may = mine n may_be;
            right = right n a b;
            rest = g.more;
            is =
                ap (λ (x : List ℕ). x ++ g.more) split
                ∙ (append_assoc (letters ++ (61 ∷ [])) (drop 5 s) g.more
                ∙ (ap (λ (x : List ℕ). (letters ++ (61 ∷ [])) ++ x) (g.is ∙ ap (λ (x : List ℕ). x ++ (10 ∷ [])) u) ∙ text n));
          } in
          h (reach_all (begins (keys_of st)) s (begins_closed (keys_of st)) (begins_complete (keys_of st) s front))

-- 16 IS SAID OF A NUMBER OUTSIDE ITS RANGE

abbrev takes : List ℕ → Bool
takes s = either (starts_with (bytes "wait=") s) (either (starts_with (bytes "loop=") s) (starts_with (bytes "stop=") s))

is_said : (d : Option ℕ) → said d ≡ true → (P : Type 0) → ((n : ℕ) → d ≡ Some n → P) → P
unfolding said
is_said (Some n) e P f = f n refl
is_said None e P f = absurd (false≢true e)

module _ (st : Stand) (s : List ℕ) where
  outside : (reach (begins (keys_of st)) s ≡ length s → ⊥) → keyed (take (reach (begins (keys_of st)) s) s) ≡ true
      → takes s ≡ true → (n : ℕ) → decimal (unfed (drop 5 s)) ≡ Some n → Outside (keys_of st) s n
  unfolding keyed line_text act_text ended allowed
  outside h kd e n d = go (starts_with (bytes "wait=") s) (starts_with (bytes "loop=") s) (starts_with (bytes "stop=") s) refl refl refl e
    where
      go : (a b c : Bool) → starts_with (bytes "wait=") s ≡ a → starts_with (bytes "loop=") s ≡ b → starts_with (bytes "stop=") s ≡ c → either a (either b c) ≡ true
          → Outside (keys_of st) s n
      go true b c p q t e =
          let r =
          ranged st s h kd (bytes "wait") 1 1000000 (λ n. One (Wait n)) (keys_of st).acts (omega arith) refl refl (λ n. refl) (λ n a b. (a, b)) (λ n m. m)
          (wait_only (keys_of st)) n d p in
          waits p r.0 r.1
      go false true c p q t e =
          let r =
          ranged st s h kd (bytes "loop") 2 255 Loop (keys_of st).loops (omega arith) refl refl (λ n. refl) (λ n a b. (a, b)) (λ n m. m)
          (loop_only (keys_of st)) n d q in
          loops q r.0 r.1
      go false false true p q t e =
          let r =
          ranged st s h kd (bytes "stop") 0 2000000000 Stop (keys_of st).stop (omega arith) refl refl (λ n. refl) (λ n a b. b) (λ n m. m)
          (stop_only (keys_of st)) n d t in
          stops t r.0 (λ b. r.1 (omega arith) b)
      go false false false p q t e = absurd (false≢true e)

  pub out_of_range : (i : ℕ) → spot_of st s ≡ Err (refusal 16 i) → OutOfRange (keys_of st) s i
  unfolding counts
  out_of_range i e = go (came st s)
    where
      go : Came st s (spot_of st s) → OutOfRange (keys_of st) s i
      go (fine w r) = zero_one (cc)
      go (start m w r) =
          let q = ap number_of (sym r ∙ e) in
          let u = starts_small (keys_of st) (line_of s) m w in
          absurd (omega arith)
      go (feed w h r) = absurd (let z : ◌≡◌ {A = ℕ} 17 16 = ap number_of (sym r ∙ e) in omega arith)
      go (key h r) = absurd (let z : ◌≡◌ {A = ℕ} 14 16 = ap number_of (sym r ∙ e) in omega arith)
      go (range h a c r) =
          let q = ap place_of (sym e ∙ r) in
          is_said (decimal (unfed (drop 5 s))) (both_right (takes s) (said (decimal (unfed (drop 5 s)))) c) (OutOfRange (keys_of st) s i)
          (λ n d.
          record {
            place = q;
            value = n;
            says = d;
            outside = outside h a (both_left (takes s) (said (decimal (unfed (drop 5 s)))) c) n d;
            stuck = λ f. let g = missing_feed st s f.begun f.unfed in absurd (let z : ◌≡◌ {A = ℕ} 17 16 = ap number_of (sym g ∙ e) in omega arith);
          })
      go (shape h r) = absurd (let z : ◌≡◌ {A = ℕ} 15 16 = ap number_of (sym r ∙ e) in omega arith)

-- behind a key that takes a decimal there is a place
pub far_enough : (s : List ℕ) → counts s ≡ true → 5 ≤ length s
unfolding counts
far_enough s c = go (starts_with (bytes "wait=") s) (starts_with (bytes "loop=") s) (starts_with (bytes "stop=") s) refl refl refl (both_left (takes s) (said (decimal (unfed (drop 5 s)))) c)
  where
    go : (a b c : Bool) → starts_with (bytes "wait=") s ≡ a → starts_with (bytes "loop=") s ≡ b → starts_with (bytes "stop=") s ≡ c → either a (either b c) ≡ true → 5 ≤ length s
    go true b c p q t e = starts_length (bytes "wait=") s p
    go false true c p q t e = starts_length (bytes "loop=") s q
    go false false true p q t e = starts_length (bytes "stop=") s t
    go false false false p q t e = absurd (false≢true e)
