-- A log that passes comes back byte for byte, with an empty list. Assumes nothing.
use Rattle.std.specs.Prelude.{Ok}
use mathlib.Core.Path.{◌≡◌, refl, ap, ap₂, sym, ◌∙◌}
use mathlib.Core.List.{List, [], ◌++◌, append_assoc, append-nil}
use mathlib.Core.Bool.{Bool, true, false, false≢true}
use Prim.Native.Nat.{ℕ, ◌+◌, ◌-◌}
use native.Mathlib.Omega.{arith}
use borrow.Author.Tests.{eq-eqb}
use lib.ListN.{length, drop}
use Rattle.text.specs.Key.{starts_with}
use Rattle.text.proofs.KeyLaws.{starts_joined}
use Rattle.log_line.specs.declared.Line.{Line}
use Rattle.log_line.specs.declared.Line.TheVariants.{Header, Machine, One, Loop, Done, Stop, NoForm, NoRegister}
use Rattle.log_line.specs.Printed.{ended as fed, line_text, Printable}
use Rattle.log_line.proofs.LineLaws.{printed_read}
use Rattle.log_fault.specs.declared.Stand.TheVariants.{Among}
use Rattle.log_fault.proofs.FaultLaws.{line_right}
use Rattle.log_fault.proofs.Standing.{Lets, pal, turn, act as acts-on, opens as opened-on, closes as closes-on}
use Rattle.log_rules.specs.Head.{head_text, machine_of}
use Rattle.log_rules.specs.Lines.{lines_of}
use Rattle.log_rules.specs.Tree.{Tree, end, act, loop, clocks, text, log_text, Within}
use Rattle.log_rules.specs.Whole.{tree_of, heavy, check_of}
use Rattle.log_passing.proofs.TextLaws.{lines_text, act_text_lem, loop_text_lem, act_long, loop_long, tree_text}
use Rattle.log_passing.proofs.Passing.{clear, stands, not_heavy}
use Rattle.log_salvage_rules.specs.declared.Fate.TheVariants.{Keep}
use Rattle.log_salvage_rules.specs.Mending.{Kept, kept_tree, stop_fate, right_fate, found_fate, line_fate, fate_of, deeper, is_stop, behind_line, none, sift, begun, sifted, closed_by, closed, ended, mended, ended_tree, mended_tree}
use Rattle.log_salvage_rules.proofs.RunLaws.{lets_may}

-- nothing has been dropped or added
abbrev so : List ℕ → Bool → ℕ → Kept
so new s d = record { new = new; list = []; second = s; depth = d; ninths = 0; stopped = false }

keeps : (new : List ℕ) (s : Bool) (d : ℕ) (last : Bool) (l : Line) → is_stop l ≡ false → line_fate (so new s d) last (Ok l) l ≡ Keep l
unfolding line_fate found_fate right_fate is_stop
keeps new s d last Header n = refl
keeps new s d last Machine n = refl
keeps new s d last (One a) n = refl
keeps new s d last (Loop k) n = refl
keeps new s d last Done n = refl
keeps new s d last (Stop k) n = absurd (false≢true (sym n))
keeps new s d last NoForm n = refl
keeps new s d last NoRegister n = refl

module _ (new : List ℕ) (s : Bool) (d : ℕ) (l : Line) (rest : List ℕ) (at : ℕ) (h : Lets s d l) (p : Printable l) where
  line_kept : (last : Bool) → is_stop l ≡ false → fate_of (so new s d) last (line_text l) ≡ Keep l
  unfolding fate_of
  line_kept last n = rw (line_right (Among s d) l (lets_may s d l h) p, printed_read l p) (keeps new s d last l n)

  behind_kept : is_stop l ≡ false → behind_line (so new s d) at (line_text l) (Keep l) ≡ so (new ++ line_text l) false (deeper d l)
  unfolding behind_line
  behind_kept n = ap (λ (b : Bool). record { new = new ++ line_text l; list = []; second = false; depth = deeper d l; ninths = 0; stopped = b }) n

  sift_line : is_stop l ≡ false
      → sift (so new s d) at (lines_of (line_text l ++ rest)) ≡ sift (so (new ++ line_text l) false (deeper d l)) (at + length (line_text l)) (lines_of rest)
  unfolding sift
  sift_line n =
      ap (sift (so new s d) at) (lines_text l rest p)
      ∙ ap (λ (k : Kept). sift k (at + length (line_text l)) (lines_of rest))
      (ap (behind_line (so new s d) at (line_text l)) (line_kept (none (lines_of rest)) n) ∙ behind_kept n)

-- whether the line behind a block is the second
unfoldable second_behind : Bool → Tree → Bool
second_behind s end = s
second_behind s (act a t) = false
second_behind s (loop n b t) = false

further : (t : Tree) → second_behind false t ≡ false
unfolding second_behind
further end = refl
further (act a t) = refl
further (loop n b t) = refl

-- the lines of a block are kept
sift_text : (t : Tree) (new : List ℕ) (s : Bool) (at d : ℕ) (rest : List ℕ) → Within t d
    → sift (so new s d) at (lines_of (text t ++ rest)) ≡ sift (so (new ++ text t) (second_behind s t) d) (at + length (text t)) (lines_of rest)
unfolding text second_behind deeper is_stop
sift_text end new s at d rest w =
    ap₂ (λ (x : List ℕ) (i : ℕ). sift (so x s d) i (lines_of rest)) (sym (append-nil new)) (omega arith)
sift_text (act a t) new s at d rest w =
    ap (λ (x : List ℕ). sift (so new s d) at (lines_of x)) (act_text_lem a t rest)
    ∙ (sift_line new s d (One a) (text t ++ rest) at (turn acts-on) w.0 refl
    ∙ (sift_text t (new ++ line_text (One a)) false (at + length (line_text (One a))) d rest w.1
    ∙ (ap (λ (b : Bool). sift (so ((new ++ line_text (One a)) ++ text t) b d) (at + length (line_text (One a)) + length (text t)) (lines_of rest)) (further t)
    ∙ ap₂ (λ (x : List ℕ) (i : ℕ). sift (so x false d) i (lines_of rest)) (append_assoc new (line_text (One a)) (text t)) (let h = act_long a t in omega arith))))
sift_text (loop n b t) new s at d rest w =
    let i : ℕ = at + length (line_text (Loop n)) in
    let j : ℕ = i + length (text b) in
    let k : ℕ = j + length (line_text Done) in
    let e : d + 1 - 1 ≡ d = omega arith in
    let o : List ℕ = new ++ line_text (Loop n) in
    let q : List ℕ = o ++ text b in
    ap (λ (x : List ℕ). sift (so new s d) at (lines_of x)) (loop_text_lem n b t rest)
    ∙ (sift_line new s d (Loop n) (text b ++ (line_text Done ++ (text t ++ rest))) at (turn (opened-on w.1)) w.0 refl
    ∙ (sift_text b o false i (d + 1) (line_text Done ++ (text t ++ rest)) w.2
    ∙ (ap (λ (x : Bool). sift (so q x (d + 1)) j (lines_of (line_text Done ++ (text t ++ rest)))) (further b)
    ∙ (sift_line q false (d + 1) Done (text t ++ rest) j (turn (closes-on (omega arith))) tt refl
    ∙ (ap (λ (x : ℕ). sift (so (q ++ line_text Done) false x) k (lines_of (text t ++ rest))) e
    ∙ (sift_text t (q ++ line_text Done) false k d rest w.3
    ∙ (ap (λ (x : Bool). sift (so ((q ++ line_text Done) ++ text t) x d) (k + length (text t)) (lines_of rest)) (further t)
    ∙ ap₂ (λ (x : List ℕ) (i : ℕ). sift (so x false d) i (lines_of rest)) (simp append_assoc) (let h = loop_long n b t in omega arith))))))))

-- and the right `stop` behind them
abbrev stopped_so : List ℕ → Kept
stopped_so new = record { new = new; list = []; second = false; depth = 0; ninths = 0; stopped = true }

sift_stop : (new : List ℕ) (s : Bool) (n at : ℕ) → Printable (Stop n) → n ≡ clocks (kept_tree new) → sift (so new s 0) at (lines_of (line_text (Stop n))) ≡ stopped_so (new ++ line_text (Stop n))
unfolding sift fate_of line_fate stop_fate behind_line none lines_of is_stop deeper
sift_stop new s n at p e =
    ap (λ (x : List ℕ). sift (so new s 0) at (lines_of x)) (sym (append-nil (line_text (Stop n))))
    ∙ rw (lines_text (Stop n) [] p, printed_read (Stop n) p, eq-eqb n (clocks (kept_tree new)) e)

-- the front of a log

starts_header : (m : Bool) (rest : List ℕ) → starts_with (line_text Header) (head_text m ++ rest) ≡ true
starts_header true rest = rw (append_assoc (line_text Header) (line_text Machine) rest) (starts_joined (line_text Header) (line_text Machine ++ rest))
starts_header false rest = starts_joined (line_text Header) rest

drop_pal : (rest : List ℕ) → drop 6 (head_text true ++ rest) ≡ line_text Machine ++ rest
unfolding line_text fed
drop_pal rest = refl

drop_ntsc : (rest : List ℕ) → drop 6 (head_text false ++ rest) ≡ rest
unfolding line_text fed
drop_ntsc rest = refl

module _ (t : Tree) (w : Within t 0) (p : Printable (Stop (clocks t))) where
  -- the tree of what was kept is the log's
  kept_is : (m : Bool) → kept_tree (head_text m ++ text t) ≡ t
  unfolding kept_tree log_text
  kept_is m = ap tree_of (append_assoc (head_text m) (text t) (line_text (Stop 0))) ∙ tree_text m t 0 w (omega arith)

  -- the block and the `stop` behind a head
  rest_kept : (m s : Bool) (at : ℕ) → sift (so (head_text m) s 0) at (lines_of (text t ++ line_text (Stop (clocks t)))) ≡ stopped_so (log_text m t (clocks t))
  unfolding log_text
  rest_kept m s at =
      sift_text t (head_text m) s at 0 (line_text (Stop (clocks t))) w
      ∙ (sift_stop (head_text m ++ text t) (second_behind s t) (clocks t) (at + length (text t)) p (ap clocks (sym (kept_is m)))
      ∙ ap stopped_so (append_assoc (head_text m) (text t) (line_text (Stop (clocks t)))))

  headed_kept : (m : Bool) → sifted (log_text m t (clocks t)) ≡ stopped_so (log_text m t (clocks t))
  unfolding sifted begun deeper is_stop log_text
  headed_kept true =
      let rest : List ℕ = text t ++ line_text (Stop (clocks t)) in
      rw (starts_header true rest)
      (ap (λ (x : List ℕ). sift (begun []) 6 (lines_of x)) (drop_pal rest)
      ∙ (sift_line (line_text Header) true 0 Machine rest 6 (pal refl) tt refl
      ∙ rest_kept true false (6 + length (line_text Machine))))
  headed_kept false =
      let rest : List ℕ = text t ++ line_text (Stop (clocks t)) in
      rw (starts_header false rest)
      (ap (λ (x : List ℕ). sift (begun []) 6 (lines_of x)) (drop_ntsc rest)
      ∙ rest_kept false true 6)

stopped_mended : (log : List ℕ) → sifted log ≡ stopped_so log → (mended log ≡ stopped_so log) × (mended_tree log ≡ tree_of log)
unfolding mended mended_tree closed closed_by ended ended_tree
stopped_mended log e = rw e (refl, refl)

-- a log that passes, repaired
pub record Same (log : List ℕ) : Type 0 where
  pub new : (mended log).new ≡ log
  pub list : (mended log).list ≡ []
  pub light : heavy (mended_tree log) ≡ false

pub unchanged : (log : List ℕ) → (check_of log).number ≡ 0 → Same log
unchanged log h =
    let s = stands log h in
    let c = clear log h in
    let e : sifted log ≡ stopped_so log = rw s.is_text (headed_kept (tree_of log) s.within s.stop (machine_of log)) in
    let m = stopped_mended log e in
    record {
      new = ap (λ (k : Kept). k.new) m.0;
      list = ap (λ (k : Kept). k.list) m.0;
      light = ap heavy m.1 ∙ not_heavy (tree_of log) c.in_clocks c.in_turns;
    }
