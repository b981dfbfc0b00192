-- `begins` is true exactly where there is a line that is allowed and right whose text has the bytes at its front. Assumes nothing.
use mathlib.Core.Path.{◌≡◌, refl, ap, sym, ◌∙◌, subst}
use mathlib.Core.List.{List, [], ◌∷◌, ◌++◌, append-nil}
use mathlib.Core.Bool.{Bool, true, false, false≢true}
use Prim.Native.Nat.{ℕ, ◌≤◌}
use native.Mathlib.Omega.{arith}
use Rattle.arith.proofs.PickLaws.{both_left, both_right, both_true}
use Rattle.bus.specs.declared.Access.TheVariants.{Write, Read}
use Rattle.text.specs.Ascii.{bytes}
use Rattle.text.specs.Decimal.{decimal_text}
use Rattle.log_line.specs.declared.Act.TheVariants.{Wait, Access}
use Rattle.log_line.specs.declared.Line.{Line}
use Rattle.log_line.specs.declared.Line.TheVariants.{Header, Machine, One, Loop, Done, Stop, NoForm, NoRegister}
use Rattle.log_line.specs.Printed.{act_text, ended, line_text}
use Rattle.log_begins.specs.declared.Keys.{Keys}
use Rattle.log_form.specs.Forms.{along, nothing, begins_number}
use Rattle.log_begins.specs.Begins.{any_true, begins}
use Rattle.log_begins.specs.Fronts.{allowed, RightForm, Fronts}
use Rattle.log_form.proofs.DecimalLaws.{Wide}
use Rattle.log_form.proofs.FormLaws.{Nothing, none, onward_nothing, Decimal, onward_number, Met, onward_along, plain, met_behind, behind_met}
use Rattle.log_begins.proofs.WriteLaws.{write_text_lem, text_write}

-- A TEST OUT OF A LIST OF TESTS
any_each : (P : Type 0) (b : Bool) (bs : List Bool) → (b ≡ true → P) → (any_true bs ≡ true → P) → any_true (b ∷ bs) ≡ true → P
unfolding any_true
any_each P true bs f g e = f refl
any_each P false bs f g e = g e

any_none : (P : Type 0) → any_true [] ≡ true → P
unfolding any_true
any_none P e = absurd (false≢true e)

any_here : (b : Bool) (bs : List Bool) → b ≡ true → any_true (b ∷ bs) ≡ true
unfolding any_true
any_here b bs e = rw e

any_later : (b : Bool) (bs : List Bool) → any_true bs ≡ true → any_true (b ∷ bs) ≡ true
unfolding any_true
any_later true bs e = refl
any_later false bs e = e

-- THE THREE RANGES

pub wait_wide : Wide 1 1000000
wait_wide = record { some = omega arith; tens = omega arith; room = omega arith }

pub loop_wide : Wide 2 255
loop_wide = record { some = omega arith; tens = omega arith; room = omega arith }

pub stop_wide : Wide 0 2000000000
stop_wide = record { some = omega arith; tens = omega arith; room = omega arith }

-- A LINE THAT IS WRITTEN OUT

met_text : (key t : List ℕ) → plain key ≡ true → Met key Nothing t → t ≡ key
met_text key t p m =
    let b = met_behind Nothing key t p m in
    b.is ∙ go b.tail b.holds
  where
    go : (x : List ℕ) → Nothing x → key ++ x ≡ key
    go [] none = append-nil key
    go (_ ∷ _) x4 = elim x4 [ ]

text_met : (key : List ℕ) → plain key ≡ true → Met key Nothing key
text_met key p = subst (Met key Nothing) (append-nil key) (behind_met Nothing key [] p none)

-- WHAT BEGINS SO STANDS AT THE FRONT OF A RIGHT LINE
module _ (k : Keys) (s : List ℕ) where
  fixed_sound : (key : List ℕ) (l : Line) → plain key ≡ true → key ≡ line_text l → RightForm l → allowed k l ≡ true → along key nothing s ≡ true
      → Fronts k s
  fixed_sound key l p q r a e =
      let g = (onward_along key nothing Nothing onward_nothing).sound s e in
      record { line = l; may = a; right = r; rest = g.rest; is = met_text key _ p g.whole ∙ q }

  write_sound : k.acts ≡ true → along (ended (bytes "write=####:##")) nothing s ≡ true → Fronts k s
  unfolding allowed
  write_sound a e =
      let g = (onward_along (ended (bytes "write=####:##")) nothing Nothing onward_nothing).sound s e in
      let w = write_text_lem _ g.whole in
      record { line = One (Access (Write w.register w.value)); may = a; right = (w.high, w.small); rest = g.rest; is = w.is }

  keyed_sound : (key : List ℕ) (lo hi : ℕ) → Wide lo hi → (f : ℕ → Line) → plain key ≡ true → ((n : ℕ) → key ++ (decimal_text n ++ (10 ∷ [])) ≡ line_text (f n))
      → ((n : ℕ) → lo ≤ n → n ≤ hi → RightForm (f n)) → ((n : ℕ) → allowed k (f n) ≡ true) → along key (begins_number lo hi) s ≡ true → Fronts k s
  keyed_sound key lo hi w f p q r a e =
      let g = (onward_along key (begins_number lo hi) (Decimal lo hi) (onward_number lo hi w)).sound s e in
      let b = met_behind (Decimal lo hi) key _ p g.whole in
      let d = b.holds in
      record {
        line = f d.value;
        may = a d.value;
        right = r d.value d.low d.high;
        rest = g.rest;
        is = b.is ∙ (ap (λ (x : List ℕ). key ++ x) d.is ∙ q d.value);
      }

  pub begins_sound : begins k s ≡ true → Fronts k s
  unfolding begins plain line_text act_text ended allowed
  begins_sound =
      any_each (Fronts k s) _ _
      (λ e. fixed_sound (ended (bytes "log=1")) Header refl refl tt (both_left k.log _ e) (both_right k.log _ e))
      (any_each (Fronts k s) _ _
      (λ e. fixed_sound (ended (bytes "machine=pal")) Machine refl refl tt (both_left k.machine _ e) (both_right k.machine _ e))
      (any_each (Fronts k s) _ _
      (λ e. keyed_sound (bytes "wait=") 1 1000000 wait_wide (λ n. One (Wait n)) refl (λ n. refl) (λ n a b. (a, b)) (λ n. both_left k.acts _ e) (both_right k.acts _ e))
      (any_each (Fronts k s) _ _
      (λ e. write_sound (both_left k.acts _ e) (both_right k.acts _ e))
      (any_each (Fronts k s) _ _
      (λ e. fixed_sound (ended (bytes "read=4015")) (One (Access Read)) refl refl tt (both_left k.acts _ e) (both_right k.acts _ e))
      (any_each (Fronts k s) _ _
      (λ e. keyed_sound (bytes "loop=") 2 255 loop_wide Loop refl (λ n. refl) (λ n a b. (a, b)) (λ n. both_left k.loops _ e) (both_right k.loops _ e))
      (any_each (Fronts k s) _ _
      (λ e. fixed_sound (ended (bytes "done=loop")) Done refl refl tt (both_left k.done _ e) (both_right k.done _ e))
      (any_each (Fronts k s) _ _
      (λ e. keyed_sound (bytes "stop=") 0 2000000000 stop_wide Stop refl (λ n. refl) (λ n a b. b) (λ n. both_left k.stop _ e) (both_right k.stop _ e))
      (any_none (Fronts k s)))))))))

  -- THE OTHER WAY ROUND

  fixed_complete : (key rest : List ℕ) → plain key ≡ true → s ++ rest ≡ key → along key nothing s ≡ true
  fixed_complete key rest p e =
      (onward_along key nothing Nothing onward_nothing).complete s rest (subst (Met key Nothing) (sym e) (text_met key p))

  keyed_complete : (key rest : List ℕ) (lo hi n : ℕ) → Wide lo hi → plain key ≡ true → lo ≤ n → n ≤ hi → s ++ rest ≡ key ++ (decimal_text n ++ (10 ∷ []))
      → along key (begins_number lo hi) s ≡ true
  keyed_complete key rest lo hi n w p a b e =
      (onward_along key (begins_number lo hi) (Decimal lo hi) (onward_number lo hi w)).complete s rest
      (subst (Met key (Decimal lo hi)) (sym e)
      (behind_met (Decimal lo hi) key (decimal_text n ++ (10 ∷ [])) p (record { value = n; low = a; high = b; is = refl })))

  complete : (l : Line) → allowed k l ≡ true → RightForm l → (rest : List ℕ) → s ++ rest ≡ line_text l → begins k s ≡ true
  unfolding begins plain line_text act_text ended allowed
  complete Header a r rest e = any_here _ _ (both_true _ _ a (fixed_complete (ended (bytes "log=1")) rest refl e))
  complete Machine a r rest e = any_later _ _ (any_here _ _ (both_true _ _ a (fixed_complete (ended (bytes "machine=pal")) rest refl e)))
  complete (One (Wait n)) a r rest e =
      any_later _ _ (any_later _ _ (any_here _ _ (both_true _ _ a (keyed_complete (bytes "wait=") rest 1 1000000 n wait_wide refl r.0 r.1 e))))
  complete (One (Access (Write x v))) a r rest e =
      any_later _ _ (any_later _ _ (any_later _ _ (any_here _ _ (both_true _ _ a
      ((onward_along (ended (bytes "write=####:##")) nothing Nothing onward_nothing).complete s rest
      (subst (Met (ended (bytes "write=####:##")) Nothing) (sym e) (text_write x v)))))))
  complete (One (Access Read)) a r rest e =
      any_later _ _ (any_later _ _ (any_later _ _ (any_later _ _ (any_here _ _ (both_true _ _ a (fixed_complete (ended (bytes "read=4015")) rest refl e))))))
  complete (Loop n) a r rest e =
      any_later _ _ (any_later _ _ (any_later _ _ (any_later _ _ (any_later _ _ (any_here _ _
      (both_true _ _ a (keyed_complete (bytes "loop=") rest 2 255 n loop_wide refl r.0 r.1 e)))))))
  complete Done a r rest e =
      any_later _ _ (any_later _ _ (any_later _ _ (any_later _ _ (any_later _ _ (any_later _ _ (any_here _ _
      (both_true _ _ a (fixed_complete (ended (bytes "done=loop")) rest refl e))))))))
  complete (Stop n) a r rest e =
      any_later _ _ (any_later _ _ (any_later _ _ (any_later _ _ (any_later _ _ (any_later _ _ (any_later _ _ (any_here _ _
      (both_true _ _ a (keyed_complete (bytes "stop=") rest 0 2000000000 n stop_wide refl (omega arith) r e)))))))))
  complete NoForm a r rest e = absurd r
  complete NoRegister a r rest e = absurd r

  pub begins_complete : Fronts k s → begins k s ≡ true
  begins_complete f = complete f.line f.may f.right f.rest f.is
