-- A pass from its first line to its last: the head, what is added at the end, and the totals. Assumes nothing.
use mathlib.Core.Path.{◌≡◌, refl, ap, sym, ◌∙◌}
use mathlib.Core.List.{List, [], ◌∷◌}
use mathlib.Core.Bool.{Bool, true, false, false≢true}
use Prim.Native.Nat.{ℕ, zero, suc, ◌+◌, ◌-◌, ◌*◌, ◌≤◌, ◌<◌, min}
use native.Mathlib.Omega.{arith}
use borrow.Author.Tests.{lt-ltb, le-ltb, ltb-true, ltb-false}
use lib.Dec.{ltb}
use lib.ListN.{length, drop, length-append}
use Rattle.arith.specs.Pick.{pick, either}
use Rattle.text.specs.Key.{starts_with}
use Rattle.text.proofs.KeyLaws.{starts_length}
use Rattle.text_print.specs.Printed.{printed}
use Rattle.log_line.specs.declared.Line.TheVariants.{Header, Done, Stop}
use Rattle.log_line.specs.Printed.{line_text, ended as fed}
use Rattle.log_rules.specs.Lines.{lines_of}
use Rattle.log_rules.specs.Tree.{Tree, clocks, turns}
use Rattle.log_rules.specs.Whole.{tree_of, heavy}
use Rattle.log_passing.proofs.Passing.{heavy_not}
use Rattle.log_salvage_rules.specs.Entries.{Entry, added, entry_words, list_words}
use Rattle.log_salvage_rules.specs.Mending.{Kept, kept_tree, sift, begun, sifted, adding, closed_by, closed, ended, mended, ended_tree, mended_tree}
use Rattle.log_salvage_rules.proofs.SiftLaws.{Going, Left, goes, stays}
use Rattle.log_salvage_rules.proofs.Mends.{begun_going, sifted_left}
use Rattle.log_salvage.specs.declared.Pen.{Pen}
use Rattle.log_salvage.specs.declared.Tally.{Tally}
use Rattle.log_salvage.specs.declared.Sifted.{Sifted}
use Rattle.log_salvage.specs.Steps.{head_entries, begun_by, no_tally}
use Rattle.log_salvage.specs.Writing.{Written, Counts, Tallied, Sifts, Bound, Adds, Passes, weighed}
use Rattle.log_salvage.proofs.WriteLaws.{over_more, over_none, words_long, words_more}
use Rattle.log_salvage.proofs.TallyLaws.{Measure, counted, weights_behind, counts_line, counts_head, counts_kept, counts_all}
use Rattle.log_salvage.proofs.CutLaws.{small_none, cut_none}
use Rattle.log_salvage.proofs.SiftsLaws.{clocks_measure, turns_measure, weighs}

-- THE HEAD

header_long : length (line_text Header) ≡ 6
unfolding line_text fed
header_long = refl

pub begun_bound : (headed : Bool) (at bytes entries : ℕ) → bytes ≡ 6 → entries ≡ length (head_entries headed) → Bound at (begun_by bytes entries)
begun_bound true at bytes entries b e = record { small = small_none; depth = omega arith; ninths = omega arith; bytes = omega arith; entries = omega arith }
begun_bound false at bytes entries b e = record { small = small_none; depth = omega arith; ninths = omega arith; bytes = omega arith; entries = omega arith }

pub header_in : (log : List ℕ) → starts_with (line_text Header) log ≡ true → 6 ≤ length log
header_in log h = omega (arith, starts_length (line_text Header) log h, header_long)

begun_tallied : (list : List Entry) → Tallied (begun list) no_tally
unfolding begun
begun_tallied list =
    record {
      weights = 1 ∷ [];
      in_clocks = 0;
      in_turns = 0;
      counts_clocks = counts_head clocks_measure;
      counts_turns = counts_head turns_measure;
      going = λ e. refl;
      over = λ e. absurd (false≢true e);
      cut = cut_none;
    }

pub begun_sifts : (headed : Bool) (out list out' list' : List ℕ) (bytes entries : ℕ) → bytes ≡ 6 → out' ≡ printed out 0 (line_text Header) → entries ≡ length (head_entries headed)
    → list' ≡ printed list 0 (list_words (head_entries headed)) → Sifts out list (begun (head_entries headed)) out' list' (begun_by bytes entries)
unfolding begun
begun_sifts headed out list out' list' bytes entries b o e l =
    record {
      written = record {
        bytes = b ∙ sym header_long;
        entries = e;
        text = over_more (over_none out) 0 (line_text Header) out' refl o;
        words = over_more (over_none list) 0 (list_words (head_entries headed)) list' refl l;
      };
      stood = record { second = refl; depth = refl; ninths = refl; stopped = refl };
      tallied = begun_tallied (head_entries headed);
    }

pub begun_goes : (headed : Bool) → Going (begun (head_entries headed))
begun_goes headed = begun_going (head_entries headed)

pub sifted_headed : (log : List ℕ) → starts_with (line_text Header) log ≡ true → sifted log ≡ sift (begun []) 6 (lines_of (drop 6 log))
unfolding sifted
sifted_headed log h = rw h

pub sifted_bare : (log : List ℕ) → starts_with (line_text Header) log ≡ false → sifted log ≡ sift (begun (added 0 ∷ [])) 0 (lines_of log)
unfolding sifted
sifted_bare log h = rw h

-- A LINE ADDED

pub written_added : {o l : List ℕ} {k : Kept} {out list : List ℕ} {p : Pen} → Written o l k out list p → (text out' list' : List ℕ) (r : Pen) → Adds p text out list out' list' r
    → Written o l (adding k text) out' list' r
unfolding adding list_words entry_words
written_added {o} {l} {k} {out} {list} {p} w text out' list' r a =
    let e : List Entry = added (length k.new) ∷ [] in
    let twice : 2 * p.entries ≡ length (list_words k.list) = omega (arith, w.entries, words_long k.list) in
    let noted : list' ≡ printed list (2 * p.entries) (list_words e) = rw w.bytes at a.noted in
    record {
      bytes = omega (arith, a.bytes, w.bytes, length-append k.new text);
      entries = omega (arith, a.entries, w.entries, length-append k.list e);
      text = over_more w.text p.bytes text out' w.bytes a.stored;
      words = rw (words_more k.list e) (over_more w.words (2 * p.entries) (list_words e) list' twice noted);
    }

-- so many loops are still to be closed
pub record Closing (o l : List ℕ) (last : Kept) (out list : List ℕ) (p : Pen) (d : ℕ) : Type 0 where
  pub state : Kept
  pub written : Written o l state out list p
  pub rest : closed_by d state ≡ last

pub closing_step : {o l : List ℕ} {last : Kept} {out list : List ℕ} {p : Pen} {d : ℕ} → Closing o l last out list p d → 0 < d → (out' list' : List ℕ) (r : Pen) → Adds p (line_text Done) out list out' list' r
    → Closing o l last out' list' r (d - 1)
unfolding closed_by
closing_step {o} {l} {last} {out} {list} {p} {d} c h out' list' r a = go d h c.rest
  where
    go : (d : ℕ) → 0 < d → closed_by d c.state ≡ last → Closing o l last out' list' r (d - 1)
    go zero h e = absurd (omega arith)
    go (suc d) h e =
        let z : suc d - 1 ≡ d = omega arith in
        rw z (record { state = adding c.state (line_text Done); written = written_added c.written (line_text Done) out' list' r a; rest = e })

pub closing_end : {o l : List ℕ} {last : Kept} {out list : List ℕ} {p : Pen} {d : ℕ} → Closing o l last out list p d → d ≤ 0 → Written o l last out list p
unfolding closed_by
closing_end {o} {l} {last} {out} {list} {p} {d} c h =
    let z : d ≡ 0 = omega arith in
    let e : c.state ≡ last = rw z at c.rest in
    rw e at c.written

ended_as : (k : Kept) (b : Bool) → k.stopped ≡ b → ended k ≡ pick b k (adding k (line_text (Stop (clocks (kept_tree k.new)))))
unfolding ended
ended_as k b e = ap (λ (x : Bool). pick x k (adding k (line_text (Stop (clocks (kept_tree k.new)))))) e

pub ended_stopped : {o l : List ℕ} {k : Kept} {out list : List ℕ} {p : Pen} → Written o l k out list p → k.stopped ≡ true → Written o l (ended k) out list p
ended_stopped {o} {l} {k} w e = rw (ended_as k true e) w

pub ended_added : {o l : List ℕ} {k : Kept} {out list : List ℕ} {p : Pen} → Written o l k out list p → k.stopped ≡ false → (n : ℕ) → n ≡ clocks (kept_tree k.new) → (out' list' : List ℕ) (r : Pen)
    → Adds p (line_text (Stop n)) out list out' list' r → Written o l (ended k) out' list' r
ended_added {o} {l} {k} w e n h out' list' r a = rw (ended_as k false e, ← h) (written_added w (line_text (Stop n)) out' list' r a)

-- THE TOTALS IN ALL

closed_stopped : (d : ℕ) (k : Kept) → (closed_by d k).stopped ≡ k.stopped
unfolding closed_by adding
closed_stopped zero k = refl
closed_stopped (suc d) k = closed_stopped d (adding k (line_text Done))

-- the loops closed, what is counted stays
closed_counts : {m : Tree → ℕ} {one : _} {extra : ℕ} (is : Measure m one extra) (d : ℕ) (k : Kept) (w : ℕ) (ws : List ℕ) (c : ℕ) → length ws ≡ d → Counts m k.new (w ∷ ws) c
    → m (kept_tree (closed_by d k).new) ≡ c
unfolding closed_by adding counted weights_behind
closed_counts is zero k w [] c e h = counts_kept is k.new c w h
closed_counts is zero k w (v ∷ ws) c e h = absurd (omega arith)
closed_counts is (suc d) k w [] c e h = absurd (omega arith)
closed_counts is (suc d) k w (v ∷ ws) c e h =
    closed_counts is d (adding k (line_text Done)) v ws c (omega arith) (counts_line is k.new c w (v ∷ ws) Done tt h)

-- and behind a `stop` that stayed
over_counts : (m : Tree → ℕ) (text : List ℕ) (c : ℕ) → Counts m text [] c → m (kept_tree text) ≡ c
unfolding kept_tree tree_of weighed
over_counts m text c h = h (line_text (Stop 0)) (omega arith) ∙ omega arith

pub record Total (log : List ℕ) (t : Tally) : Type 0 where
  pub in_clocks : ℕ
  pub in_turns : ℕ
  pub kept_clocks : clocks (kept_tree (closed log).new) ≡ in_clocks
  pub ended_clocks : clocks (mended_tree log) ≡ in_clocks
  pub ended_turns : turns (mended_tree log) ≡ in_turns
  pub all_clocks : t.clocks ≡ min 2000000001 in_clocks
  pub all_turns : t.turns ≡ min 1000001 in_turns
  pub stopped : (closed log).stopped ≡ (sifted log).stopped

pub total : (log : List ℕ) (t : Tally) → Tallied (sifted log) t → Total log t
unfolding closed closed_by mended_tree ended_tree
total log t y = go (sifted_left log)
  where
    go : Left true (sifted log) → Total log t
    go (goes g) =
        let w = weighs y g.unstopped in
        let e = closed_stopped (sifted log).depth (sifted log) in
        let a = closed_counts clocks_measure (sifted log).depth (sifted log) w.inner w.outer w.in_clocks w.depth w.counts_clocks in
        let b = closed_counts turns_measure (sifted log).depth (sifted log) w.inner w.outer w.in_turns w.depth w.counts_turns in
        record {
          in_clocks = w.in_clocks;
          in_turns = w.in_turns;
          kept_clocks = a;
          ended_clocks = rw (e ∙ g.unstopped) a;
          ended_turns = rw (e ∙ g.unstopped) b;
          all_clocks = w.cut.all_clocks;
          all_turns = w.cut.all_turns;
          stopped = e;
        }
    go (stays q s) =
        let none = y.over s.stopped in
        let d = s.depth in
        let a : Counts clocks (sifted log).new [] y.in_clocks = rw none at y.counts_clocks in
        let b : Counts turns (sifted log).new [] y.in_turns = rw none at y.counts_turns in
        record {
          in_clocks = y.in_clocks;
          in_turns = y.in_turns;
          kept_clocks = rw d (over_counts clocks (sifted log).new y.in_clocks a);
          ended_clocks = rw (d, s.stopped) (counts_all clocks (sifted log).new y.in_clocks a);
          ended_turns = rw (d, s.stopped) (counts_all turns (sifted log).new y.in_turns b);
          all_clocks = y.cut.all_clocks;
          all_turns = y.cut.all_turns;
          stopped = closed_stopped (sifted log).depth (sifted log);
        }

cut_over : (n c : ℕ) → ltb n (min (n + 1) c) ≡ ltb n c
cut_over n c = go (ltb n c) refl
  where
    go : (b : Bool) → ltb n c ≡ b → ltb n (min (n + 1) c) ≡ b
    go true e = let h = ltb-true n c e in lt-ltb n (min (n + 1) c) (omega arith)
    go false e = let h = ltb-false n c e in le-ltb n (min (n + 1) c) (omega arith)

pub weight_same : {log : List ℕ} {t : Tally} → Total log t → either (ltb 2000000000 t.clocks) (ltb 1000000 t.turns) ≡ heavy (mended_tree log)
unfolding heavy
weight_same {log} {t} y = rw (y.all_clocks, y.all_turns, cut_over 2000000000 y.in_clocks, cut_over 1000000 y.in_turns, y.ended_clocks, y.ended_turns)

pub exact_clocks : {log : List ℕ} {t : Tally} → Total log t → heavy (mended_tree log) ≡ false → t.clocks ≡ clocks (kept_tree (closed log).new)
exact_clocks {log} {t} y h =
    let i = (heavy_not (mended_tree log) h).0 in
    y.all_clocks ∙ (omega (arith, i, y.ended_clocks, y.kept_clocks))

-- THE PASS

pub passed : (log out list out₁ list₁ : List ℕ) (s : Sifted) → Sifts out list (sifted log) out₁ list₁ s
    → (out₂ list₂ : List ℕ) (p : Pen) → ((o l : List ℕ) (k : Kept) → Written o l k out₁ list₁ s.pen → Written o l (closed_by s.place.depth k) out₂ list₂ p)
    → (out₃ list₃ : List ℕ) (q : Pen)
    → ((o l : List ℕ) (k : Kept) → Written o l k out₂ list₂ p → s.place.stopped ≡ k.stopped → s.tally.clocks ≡ clocks (kept_tree k.new) → Written o l (ended k) out₃ list₃ q)
    → (h : Bool) → h ≡ either (ltb 2000000000 s.tally.clocks) (ltb 1000000 s.tally.turns) → Passes log out list out₃ list₃ (record { pen = q; heavy = h })
unfolding closed mended
passed log out list out₁ list₁ s i out₂ list₂ p shut out₃ list₃ q end h e =
    let y = total log s.tally i.tallied in
    let w : Written out list (closed log) out₂ list₂ p = rw i.stood.depth at (shut out list (sifted log) i.written) in
    record {
      weight = e ∙ weight_same y;
      written = λ light. end out list (closed log) w (i.stood.stopped ∙ sym y.stopped) (exact_clocks y light);
    }
