-- The list of a log that is not too long has at most 60,010 entries: one for each line, one for `log=1`, eight for loops and one for the `stop`. Assumes
-- nothing.
use mathlib.Core.Path.{◌≡◌, ◌∙◌}
use mathlib.Core.List.{List, [], ◌∷◌}
use mathlib.Core.Bool.{Bool, true}
use Prim.Native.Nat.{ℕ, zero, suc, ◌+◌, ◌≤◌}
use native.Mathlib.Omega.{arith}
use lib.ListN.{length, drop, length-append, length-drop}
use lib.Dec.{eqb}
use Rattle.arith.proofs.PickLaws.{pick_both}
use Rattle.text.specs.Key.{starts_with}
use Rattle.log_line.specs.declared.Line.{Line}
use Rattle.log_line.specs.declared.Line.TheVariants.{Header, Machine, One, Loop, Done, Stop, NoForm, NoRegister}
use Rattle.log_line.specs.Printed.{line_text}
use Rattle.log_fault.proofs.Standing.{Lets, turn, opens as opened-on}
use Rattle.log_rules.specs.Lines.{onto, lines_of}
use Rattle.log_salvage_rules.specs.declared.Fate.{Fate}
use Rattle.log_salvage_rules.specs.declared.Fate.TheVariants.{Keep, Drop, Ninth, NinthDone}
use Rattle.log_salvage_rules.specs.Entries.{added}
use Rattle.log_salvage_rules.specs.Mending.{Kept, fate_of, deeper, dropping, behind_line, none, sift, begun, sifted, adding, closed_by, closed, ended, mended}
use Rattle.log_salvage_rules.proofs.RunLaws.{Run, head, more}
use Rattle.log_salvage_rules.proofs.SiftLaws.{Left, goes, stays}
use Rattle.log_salvage_rules.proofs.Mends.{sifted_left}

-- a text has no more lines than bytes

onto_few : (c : ℕ) (ls : List (List ℕ)) → length (onto c ls) ≤ suc (length ls)
unfolding onto
onto_few c [] = omega arith
onto_few c (l ∷ ls) = omega arith

lines_few : (s : List ℕ) → length (lines_of s) ≤ length s
unfolding lines_of
lines_few [] = omega arith
lines_few (c ∷ s) =
    let h = lines_few s in
    pick_both (λ (x : List (List ℕ)). length x ≤ suc (length s)) (eqb c 10) (omega arith) (let i = onto_few c (lines_of s) in omega arith)

-- an entry a line at most

behind_few : (k : Kept) (at : ℕ) (l : List ℕ) (f : Fate) → length (behind_line k at l f).list ≤ length k.list + 1
unfolding behind_line dropping
behind_few k at l (Keep m) = omega arith
behind_few k at l (Drop r) = rw length-append (omega arith)
behind_few k at l Ninth = rw length-append (omega arith)
behind_few k at l NinthDone = rw length-append (omega arith)

sift_few : (ls : List (List ℕ)) (k : Kept) (at : ℕ) → length (sift k at ls).list ≤ length k.list + length ls
unfolding sift
sift_few [] k at = omega arith
sift_few (l ∷ ls) k at =
    let k' : Kept = behind_line k at l (fate_of k (none ls) l) in
    omega (arith, sift_few ls k' (at + length l), behind_few k at l (fate_of k (none ls) l))

sifted_few : (log : List ℕ) → length (sifted log).list ≤ length log + 1
unfolding sifted begun
sifted_few log =
    pick_both (λ (k : Kept). length k.list ≤ length log + 1) (starts_with (line_text Header) log)
    (omega (arith, sift_few (lines_of (drop 6 log)) (begun []) 6, lines_few (drop 6 log), length-drop 6 log))
    (omega (arith, sift_few (lines_of log) (begun (added 0 ∷ [])) 0, lines_few log))

-- at most eight loops are open

deeper_in : {s : Bool} {d : ℕ} (l : Line) → Lets s d l → d ≤ 8 → deeper d l ≤ 8
unfolding deeper
deeper_in Header i h = h
deeper_in Machine i h = h
deeper_in (One a) i h = h
deeper_in (Loop n) (turn (opened-on i)) h = omega arith
deeper_in Done i h = omega arith
deeper_in (Stop n) i h = h
deeper_in NoForm i h = h
deeper_in NoRegister i h = h

run_depth : {s : Bool} {d : ℕ} {t : List ℕ} → Run s d t → d ≤ 8
run_depth head = omega arith
run_depth (more {l = l} r h p n) = deeper_in l h (run_depth r)

sifted_depth : (log : List ℕ) → (sifted log).depth ≤ 8
sifted_depth log = go (sifted_left log)
  where
    go : Left true (sifted log) → (sifted log).depth ≤ 8
    go (goes g) = run_depth g.run
    go (stays e s) = omega (arith, s.depth)

-- what is added at the end

closed_few : (d : ℕ) (k : Kept) → length (closed_by d k).list ≡ length k.list + d
unfolding closed_by adding
closed_few zero k = omega arith
closed_few (suc d) k = closed_few d (adding k (line_text Done)) ∙ rw length-append (omega arith)

ended_few : (k : Kept) → length (ended k).list ≤ length k.list + 1
unfolding ended adding
ended_few k = pick_both (λ (x : Kept). length x.list ≤ length k.list + 1) k.stopped (omega arith) (rw length-append (omega arith))

pub few : (log : List ℕ) → length log ≤ 60000 → length (mended log).list ≤ 60010
unfolding mended closed
few log h = omega (arith, ended_few (closed log), closed_few (sifted log).depth (sifted log), sifted_depth log, sifted_few log)
