-- The first byte at fault is the furthest that any allowed line goes. Assumes nothing.
use mathlib.Core.Path.{◌≡◌, refl, ap, ap₂, ◌∙◌}
use mathlib.Core.List.{List, [], ◌∷◌}
use mathlib.Core.Bool.{Bool}
use Prim.Native.Nat.{ℕ, max}
use native.Mathlib.Omega.{arith}
use Rattle.arith.specs.Pick.{pick, both}
use Rattle.text.specs.Ascii.{bytes}
use Rattle.log_line.specs.Printed.{ended}
use Rattle.log_begins.specs.declared.Keys.{Keys}
use Rattle.log_form.specs.Forms.{along, nothing, begins_number, reach}
use Rattle.log_begins.specs.Begins.{any_true, begins}
use Rattle.log_form.specs.Matching.{common}
use Rattle.log_form.proofs.DecimalLaws.{Wide}
use Rattle.log_form.proofs.FormLaws.{Nothing, onward_nothing, Decimal, onward_number, Met, onward_along}
use Rattle.log_begins.proofs.Beginnings.{wait_wide, loop_wide, stop_wide}
use Rattle.log_form.proofs.ReachLaws.{Closed, onward_closed, closed_both, reach_both, reach_same, reach_form, any_of, most, Each, end, also, closed_any, reach_any}

form_closed : (fs : List ℕ) → Closed (along fs nothing)
form_closed fs = onward_closed (along fs nothing) (Met fs Nothing) (onward_along fs nothing Nothing onward_nothing)

keyed_closed : (key : List ℕ) (lo hi : ℕ) → Wide lo hi → Closed (along key (begins_number lo hi))
keyed_closed key lo hi w =
    onward_closed (along key (begins_number lo hi)) (Met key (Decimal lo hi)) (onward_along key (begins_number lo hi) (Decimal lo hi) (onward_number lo hi w))

module _ (b : Bool) where
  form_reach : (fs s : List ℕ) → reach (λ t. both b (along fs nothing t)) s ≡ pick b (common fs s) 0
  form_reach fs s = reach_both b (along fs nothing) s ∙ ap (λ (n : ℕ). pick b n 0) (reach_form fs s)

  form_also : (fs : List ℕ) {gs : List (List ℕ → Bool)} → Each gs → Each ((λ t. both b (along fs nothing t)) ∷ gs)
  form_also fs e = also (closed_both b (along fs nothing) (form_closed fs)) e

  keyed_also : (key : List ℕ) (lo hi : ℕ) → Wide lo hi → {gs : List (List ℕ → Bool)} → Each gs → Each ((λ t. both b (along key (begins_number lo hi) t)) ∷ gs)
  keyed_also key lo hi w e = also (closed_both b (along key (begins_number lo hi)) (keyed_closed key lo hi w)) e

abbrev tests : Keys → List (List ℕ → Bool)
tests k =
    (λ t. both k.log (along (ended (bytes "log=1")) nothing t))
    ∷ (λ t. both k.machine (along (ended (bytes "machine=pal")) nothing t))
    ∷ (λ t. both k.acts (along (bytes "wait=") (begins_number 1 1000000) t))
    ∷ (λ t. both k.acts (along (ended (bytes "write=####:##")) nothing t))
    ∷ (λ t. both k.acts (along (ended (bytes "read=4015")) nothing t))
    ∷ (λ t. both k.loops (along (bytes "loop=") (begins_number 2 255) t))
    ∷ (λ t. both k.done (along (ended (bytes "done=loop")) nothing t))
    ∷ (λ t. both k.stop (along (bytes "stop=") (begins_number 0 2000000000) t))
    ∷ []

each : (k : Keys) → Each (tests k)
each k =
    form_also k.log (ended (bytes "log=1"))
    (form_also k.machine (ended (bytes "machine=pal"))
    (keyed_also k.acts (bytes "wait=") 1 1000000 wait_wide
    (form_also k.acts (ended (bytes "write=####:##"))
    (form_also k.acts (ended (bytes "read=4015"))
    (keyed_also k.loops (bytes "loop=") 2 255 loop_wide
    (form_also k.done (ended (bytes "done=loop"))
    (keyed_also k.stop (bytes "stop=") 0 2000000000 stop_wide end)))))))

begins_tests : (k : Keys) (t : List ℕ) → begins k t ≡ any_of (tests k) t
unfolding begins any_true any_of
begins_tests k t = refl

max_none : (n : ℕ) → max n 0 ≡ n
max_none n = omega arith

pub reach_begins : (k : Keys) (s : List ℕ)
    → reach (begins k) s
    ≡ max (pick k.log (common (ended (bytes "log=1")) s) 0)
    (max (pick k.machine (common (ended (bytes "machine=pal")) s) 0)
    (max (pick k.acts (reach (along (bytes "wait=") (begins_number 1 1000000)) s) 0)
    (max (pick k.acts (common (ended (bytes "write=####:##")) s) 0)
    (max (pick k.acts (common (ended (bytes "read=4015")) s) 0)
    (max (pick k.loops (reach (along (bytes "loop=") (begins_number 2 255)) s) 0)
    (max (pick k.done (common (ended (bytes "done=loop")) s) 0)
    (pick k.stop (reach (along (bytes "stop=") (begins_number 0 2000000000)) s) 0)))))))
unfolding most
reach_begins k s =
    reach_same (begins k) (any_of (tests k)) s (begins_tests k)
    ∙ (reach_any (each k) s
    ∙ ap₂ max (form_reach k.log (ended (bytes "log=1")) s)
    (ap₂ max (form_reach k.machine (ended (bytes "machine=pal")) s)
    (ap₂ max (reach_both k.acts (along (bytes "wait=") (begins_number 1 1000000)) s)
    (ap₂ max (form_reach k.acts (ended (bytes "write=####:##")) s)
    (ap₂ max (form_reach k.acts (ended (bytes "read=4015")) s)
    (ap₂ max (reach_both k.loops (along (bytes "loop=") (begins_number 2 255)) s)
    (ap₂ max (form_reach k.done (ended (bytes "done=loop")) s)
    (max_none _ ∙ reach_both k.stop (along (bytes "stop=") (begins_number 0 2000000000)) s))))))))

-- `begins` holds of the beginnings of what it holds of
pub begins_closed : (k : Keys) → Closed (begins k)
unfolding begins any_true any_of
begins_closed k s t e = closed_any (each k) s t e
