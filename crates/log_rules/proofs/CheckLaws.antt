-- The check that the code makes is the one that is defined line by line. Assumes nothing.
use Rattle.std.specs.Prelude.{Result, Ok, Err}
use mathlib.Core.Path.{◌≡◌, refl, ap, sym, ◌∙◌}
use mathlib.Core.List.{List, [], ◌∷◌}
use mathlib.Core.Bool.{Bool, true, false}
use Prim.Native.Nat.{ℕ, ◌+◌, ◌≤◌, ◌<◌, min}
use native.Mathlib.Omega.{arith}
use native.Mathlib.Nat.{mul-le-mul}
use borrow.Author.Tests.{ltb-true, ltb-false, lt-ltb, le-ltb}
use lib.ListN.{length, length-append}
use lib.Dec.{eqb, ltb}
use Rattle.refusal.specs.declared.Refusal.{Refusal}
use Rattle.arith.specs.Pick.{pick}
use Rattle.log_line.specs.declared.Line.{Line}
use Rattle.log_line.specs.declared.Line.TheVariants.{Header, One, Loop}
use Rattle.log_rules.specs.declared.Checked.{Checked}
use Rattle.log_rules.specs.Lines.{lines_of, bytes_at, next_line}
use Rattle.log_rules.specs.Head.{machine_of, start_of}
use Rattle.log_rules.specs.Reading.{taken, read_in, read_at}
use Rattle.log_rules.specs.Judge.{right, wrong, first, second, over, found_at, verdict, leaves, behind, ending, unless, judge, judged}
use Rattle.log_rules.specs.Tree.{Tree, end, act, loop, acts, clocks, turns}
use Rattle.log_rules.specs.Whole.{grow, blocks, innermost, tree_of, Stopping, stop_here, stop_from, stopping_of, check_refusal, passed_check, heavy, weighed, unless_wrong, check_of}
use Rattle.log_rules.specs.Block.{Got, closed, stopped, refused, read_block, totals, block_answer}
use Rattle.log_rules.specs.Closing.{totalled, limited, closing}
use Rattle.log_rules.proofs.PlaceLaws.{Had, had_at, had_says, bytes_long, next_le, read_some, read_long}
use Rattle.log_fault.specs.declared.Stand.{Stand as Standing}
use Rattle.log_fault.specs.declared.Stand.TheVariants.{First}
use Rattle.log_fault.specs.Fault.{spot_of}
use Rattle.log_fault.proofs.Standing.{first_header}
use Rattle.log_rules.proofs.TotalLaws.{length_times}
use Rattle.log_rules.proofs.Derived.{Ending, closes, stops, Reads, an_act, a_loop, a_done, a_stop, Derived, derived, inside_loop}
use Rattle.log_rules.proofs.JudgeLaws.{lines_from, judge_at, lines_at, judge_at_lem, judge_none, after, bridge, bridge_second}
use Rattle.log_rules.proofs.HeadLaws.{pal_long, had_second, second_next, first_next, first_second, ntsc_second, ntsc_start, pal_start}

-- THE LINES FROM A PLACE ON STAND FOR WHAT IS READ THERE

abbrev pub blocks_behind : List ℕ → Ending → List Tree
blocks_behind log (closes p q) = blocks (lines_from log q)
blocks_behind log (stops p q n) = blocks (lines_from log q)

abbrev pub stop_behind : List ℕ → Ending → Stopping
stop_behind log (closes p q) = stop_from q (lines_from log q)
stop_behind log (stops p q n) = record { place = p; number = n }

module _ {st : Standing} {log : List ℕ} {at : ℕ} {l : Line} {next : ℕ} (h : Had st log at l next) where
  blocks_at : blocks (lines_from log at) ≡ grow l (blocks (lines_from log next))
  unfolding blocks
  blocks_at = rw (lines_at log at h.inside, had_says h, h.on)

  stop_at : stop_from at (lines_from log at) ≡ stop_here at l (stop_from next (lines_from log next))
  unfolding stop_from
  stop_at = rw (lines_at log at h.inside, had_says h, h.on, bytes_long log at)

pub blocks_of : {log : List ℕ} {at d : ℕ} {t : Tree} {e : Ending} → Reads log at d t e → blocks (lines_from log at) ≡ t ∷ blocks_behind log e
unfolding grow
blocks_of {log} {at} {d} (an_act {a = a} l r) = blocks_at (had_at log at _ _ l) ∙ ap (grow (One a)) (blocks_of r)
blocks_of {log} {at} {d} (a_loop {n = n} {b = b} l i k r r') = blocks_at (had_at log at _ _ l) ∙ ap (grow (Loop n)) (blocks_of r ∙ ap (λ (ts : List Tree). b ∷ ts) (blocks_of r'))
blocks_of {log} {at} {d} (a_done l h) = blocks_at (had_at log at _ _ l)
blocks_of {log} {at} (a_stop l) = blocks_at (had_at log at _ _ l)

pub stop_of_lem : {log : List ℕ} {at d : ℕ} {t : Tree} {e : Ending} → Reads log at d t e → stop_from at (lines_from log at) ≡ stop_behind log e
unfolding stop_here
stop_of_lem {log} {at} {d} (an_act l r) = stop_at (had_at log at _ _ l) ∙ stop_of_lem r
stop_of_lem {log} {at} {d} (a_loop l i k r r') = stop_at (had_at log at _ _ l) ∙ (stop_of_lem r ∙ stop_of_lem r')
stop_of_lem {log} {at} {d} (a_done l h) = stop_at (had_at log at _ _ l)
stop_of_lem {log} {at} (a_stop l) = stop_at (had_at log at _ _ l)

-- TOTALS THAT WERE CUT OFF ARE WEIGHED AS THOSE OF THE TREE

-- a block has no more acts than turns
pub acts_le : (t : Tree) → length (acts t) ≤ turns t
unfolding acts turns
acts_le end = omega arith
acts_le (act a t) = let h = acts_le t in omega arith
acts_le (loop n b t) =
    let h = acts_le t in
    let i = acts_le b in
    let m = mul-le-mul {n₁ = n} {m₁ = length (acts b)} {n₂ = n} {m₂ = 1 + turns b} (omega arith) (omega arith) in
    rw (length-append, length_times) (omega arith)

checked≡ : (m : Bool) {c u a c' u' a' : ℕ} → c ≡ c' → u ≡ u' → a ≡ a'
    → ◌≡◌ {A = Checked} (record { number = 0; place = 0; pal = m; clocks = c; turns = u; items = a }) (record { number = 0; place = 0; pal = m; clocks = c'; turns = u'; items = a' })
checked≡ m p q r i = record { number = 0; place = 0; pal = m; clocks = p i; turns = q i; items = r i }

limited_is : (m : Bool) (t : Tree) (p n : ℕ) → limited m (totals t) p n ≡ weighed m t (record { place = p; number = n })
unfolding totals weighed heavy
limited_is pal t p n = go (ltb 2000000000 (clocks t)) refl (ltb 1000000 (turns t)) refl
  where
    go : (a : Bool) → ltb 2000000000 (clocks t) ≡ a → (b : Bool) → ltb 1000000 (turns t) ≡ b → limited pal (totals t) p n ≡ weighed pal t (record { place = p; number = n })
    go true e b f =
        let h = ltb-true 2000000000 (clocks t) e in
        rw (e, lt-ltb 2000000000 (min 2000000001 (clocks t)) (omega arith))
    go false e true f =
        let h = ltb-false 2000000000 (clocks t) e in
        let k = ltb-true 1000000 (turns t) f in
        rw (e, f, le-ltb 2000000000 (min 2000000001 (clocks t)) (omega arith), lt-ltb 1000000 (min 1000001 (turns t)) (omega arith))
    go false e false f =
        let h = ltb-false 2000000000 (clocks t) e in
        let k = ltb-false 1000000 (turns t) f in
        let m : min 2000000001 (clocks t) ≡ clocks t = omega arith in
        let i = acts_le t in
        let done : totalled pal (totals t) ≡ passed_check pal t = checked≡ pal m (omega arith) (omega arith) in
        rw (e, f, le-ltb 2000000000 (min 2000000001 (clocks t)) (omega arith), le-ltb 1000000 (min 1000001 (turns t)) (omega arith))
        (rw m (ap (λ (x : Checked). pick (eqb n (clocks t)) x (check_refusal 10 p)) (rw m at done)))

-- THE END OF A LOG

-- behind `stop` nothing may stand
pub over_at : (log : List ℕ) (q : ℕ) → judge_at log over q ≡ pick (ltb q (length log)) (wrong 19 q) right
unfolding verdict behind ending unless
over_at log q = go (ltb q (length log)) refl
  where
    go : (b : Bool) → ltb q (length log) ≡ b → judge_at log over q ≡ pick b (wrong 19 q) right
    go true e = judge_at_lem log q over (ltb-true q (length log) e)
    go false e = judge_none log q over (ltb-false q (length log) e)

closing_is : (m : Bool) (log : List ℕ) (at : ℕ) (g : Got) → Derived log at 0 g
    → closing m (length log) (block_answer g) ≡ unless_wrong (after log 0 g) (weighed m (innermost (blocks (lines_from log at))) (stop_from at (lines_from log at)))
unfolding after block_answer unless_wrong innermost
closing_is m log at (closed t p q) r = absurd (let z = inside_loop r in omega arith)
closing_is m log at (stopped t p q n) r = rw (over_at log q, blocks_of r, stop_of_lem r) (go (ltb q (length log)))
  where
    go : (b : Bool) → pick b (check_refusal 19 q) (limited m (totals t) p n) ≡ unless_wrong (pick b (wrong 19 q) right) (weighed m t (record { place = p; number = n }))
    go true = refl
    go false = limited_is m t p n
closing_is m log at (refused k p) r = refl

-- THE HEAD OF A LOG, AND SO THE WHOLE

-- the lines behind a log's head, which begin at a place: what is found of the log, its tree and its `stop` are theirs
pub record BehindHead (log : List ℕ) (at : ℕ) : Type 0 where
  pub found : judged log ≡ after log 0 (read_block log at 0)
  pub tree : tree_of log ≡ innermost (blocks (lines_from log at))
  pub stop : stopping_of log ≡ stop_from at (lines_from log at)

-- the check, from what reading at 0 finds
abbrev pub CheckedBy : List ℕ → Result (Line × ℕ) Refusal → Type 0
CheckedBy log (Ok (l, p)) = closing (machine_of log) (length log) (block_answer (read_block log (start_of log) 0)) ≡ check_of log
CheckedBy log (Err e) = check_refusal e.number e.place ≡ check_of log

module _ (log : List ℕ) (short : length log ≤ 60000) (some : 0 < length log) where
  check_short : check_of log ≡ unless_wrong (judged log) (weighed (machine_of log) (tree_of log) (stopping_of log))
  unfolding check_of
  check_short = rw (le-ltb 60000 (length log) short)

  pub judged_first : judged log ≡ unless (found_at 0 (spot_of First (bytes_at log 0))) (judge_at log second (next_line log 0))
  unfolding judged verdict behind
  judged_first = judge_at_lem log 0 first some

  module _ (e : spot_of First (bytes_at log 0) ≡ Ok Header) where
    at_second : judged log ≡ judge_at log second 6
    unfolding found_at unless
    at_second = judged_first ∙ rw (e, first_next log e)

    had_first : Had First log 0 Header 6
    had_first = record { short = short; inside = some; found = e; on = sym (first_next log e) }

    pal_head : machine_of log ≡ true → BehindHead log 18
    unfolding tree_of stopping_of grow stop_here found_at unless verdict behind leaves
    pal_head m =
        let h = had_second log short m in
        let long : 18 ≤ length log = pal_long log m in
        record {
          found = at_second ∙ (judge_at_lem log 6 second h.inside ∙ rw (h.found, had_says h, second_next log m) (bridge log 18 0 short (omega arith) long));
          tree = ap innermost (blocks_at had_first ∙ blocks_at h);
          stop = stop_at had_first ∙ stop_at h;
        }

    ntsc_head : machine_of log ≡ false → BehindHead log 6
    unfolding tree_of stopping_of grow stop_here
    ntsc_head m =
        let long : 6 ≤ length log = rw (first_next log e) at (next_le log 0 (omega arith)) in
        record {
          found = at_second ∙ bridge_second log short long (first_second log e) (ntsc_second log e m);
          tree = ap innermost (blocks_at had_first);
          stop = stop_at had_first;
        }

    pub behind_head : BehindHead log (start_of log)
    behind_head = go (machine_of log) refl
      where
        go : (m : Bool) → machine_of log ≡ m → BehindHead log (start_of log)
        go true m = rw (pal_start log e m) (pal_head m)
        go false m = rw (ntsc_start log e m) (ntsc_head m)

    headed : closing (machine_of log) (length log) (block_answer (read_block log (start_of log) 0)) ≡ check_of log
    headed =
        let h = behind_head in
        closing_is (machine_of log) log (start_of log) (read_block log (start_of log) 0) (derived log (start_of log) 0)
        ∙ sym (check_short ∙ rw (h.found, h.tree, h.stop) refl)

  first_by : (f : Result Line Refusal) → spot_of First (bytes_at log 0) ≡ f → CheckedBy log (taken 0 (next_line log 0) f)
  unfolding found_at unless unless_wrong
  first_by (Ok l) e = headed (e ∙ ap Ok (first_header (bytes_at log 0) l e))
  first_by (Err why) e = sym (check_short ∙ rw (judged_first, e) refl)

short_by : (log : List ℕ) → length log ≤ 60000 → CheckedBy log (read_at log 0)
unfolding read_at read_in check_of judged judge lines_of ending unless_wrong
short_by [] h = refl
short_by (c ∷ s) h =
    let z : 0 < length (c ∷ s) = omega arith in
    rw (read_some First (c ∷ s) 0 h z) (first_by (c ∷ s) h z (spot_of First (bytes_at (c ∷ s) 0)) refl)

long_by : (log : List ℕ) → 60000 < length log → CheckedBy log (read_at log 0)
unfolding check_of read_at
long_by log h = rw (read_long First log 0 h, lt-ltb 60000 (length log) h) refl

pub checked_by : (log : List ℕ) → CheckedBy log (read_at log 0)
checked_by log = go (ltb 60000 (length log)) refl
  where
    go : (b : Bool) → ltb 60000 (length log) ≡ b → CheckedBy log (read_at log 0)
    go true e = long_by log (ltb-true 60000 (length log) e)
    go false e = short_by log (ltb-false 60000 (length log) e)
