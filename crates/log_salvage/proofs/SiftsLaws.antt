-- A pass line by line: what is kept, written and counted behind each line. Assumes nothing.
use Rattle.std.specs.Prelude.{Ok}
use mathlib.Core.Path.{◌≡◌, refl, ap, sym, ◌∙◌}
use mathlib.Core.List.{List, [], ◌∷◌, ◌++◌, append-nil}
use mathlib.Core.Bool.{Bool, true, false, false≢true}
use Prim.Native.Nat.{ℕ, ◌+◌, ◌-◌, ◌*◌, min}
use native.Mathlib.Nat.{zero-add}
use native.Mathlib.Omega.{arith}
use lib.ListN.{length, length-append}
use Rattle.log_line.specs.declared.Line.{Line}
use Rattle.log_line.specs.declared.Line.TheVariants.{Header, Machine, One, Loop, Done, Stop, NoForm, NoRegister}
use Rattle.log_fault.specs.declared.Stand.TheVariants.{Among}
use Rattle.log_fault.specs.Fault.{spot_of}
use Rattle.log_fault.proofs.FaultLaws.{right_line}
use Rattle.log_fault.proofs.Standing.{lets, Lets, turn, opens as opened-on, closes as closes-on, ends as ends_on}
use Rattle.log_rules.specs.Tree.{clocks, turns, act_clocks}
use Rattle.log_salvage_rules.specs.declared.Fate.{Fate}
use Rattle.log_salvage_rules.specs.declared.Fate.TheVariants.{Keep, Drop, Ninth, NinthDone}
use Rattle.log_salvage_rules.specs.Entries.{list_words}
use Rattle.log_salvage_rules.specs.Mending.{Kept, kept_tree, fate_of, deeper, is_stop, dropping, behind_line}
use Rattle.log_salvage_rules.proofs.SiftLaws.{Going}
use Rattle.log_salvage.specs.declared.Place.{Place}
use Rattle.log_salvage.specs.declared.Tally.{Tally}
use Rattle.log_salvage.specs.declared.Sifted.{Sifted}
use Rattle.log_salvage.specs.Steps.{place_behind, tally_line, tally_behind, Opens, kept_by, entries_by}
use Rattle.log_salvage.specs.Writing.{Stood, Counts, Cut, Tallied, Sifts, fate_by, Stepped}
use Rattle.log_salvage.proofs.WriteLaws.{over_more, words_long, words_more}
use Rattle.log_salvage.proofs.TallyLaws.{Measure, counted, weights_behind, counts_line, counts_kept}
use Rattle.log_salvage.proofs.CutLaws.{cut_line}
use Rattle.log_salvage.proofs.StepLaws.{Known, fate_same, kept_right}

-- THE TOTALS

pub clocks_measure : Measure clocks act_clocks 0
unfolding clocks
clocks_measure = record { at_end = refl; at_act = λ a t. refl; at_loop = λ n b t. rw zero-add }

pub turns_measure : Measure turns (λ a. 1) 1
unfolding turns
turns_measure = record { at_end = refl; at_act = λ a t. refl; at_loop = λ n b t. refl }

-- where lines follow, how often the innermost block is done, and the blocks around it
pub record Weighs (k : Kept) (t : Tally) : Type 0 where
  pub inner : ℕ
  pub outer : List ℕ
  pub in_clocks : ℕ
  pub in_turns : ℕ
  pub counts_clocks : Counts clocks k.new (inner ∷ outer) in_clocks
  pub counts_turns : Counts turns k.new (inner ∷ outer) in_turns
  pub depth : length outer ≡ k.depth
  pub cut : Cut t (inner ∷ outer) in_clocks in_turns

pub weighs : {k : Kept} {t : Tally} → Tallied k t → k.stopped ≡ false → Weighs k t
weighs {k} {t} y n = go y.weights y.counts_clocks y.counts_turns (y.going n) y.cut
  where
    go : (ws : List ℕ) → Counts clocks k.new ws y.in_clocks → Counts turns k.new ws y.in_turns → length ws ≡ k.depth + 1 → Cut t ws y.in_clocks y.in_turns → Weighs k t
    go [] a b e c = absurd (omega arith)
    go (w ∷ ws) a b e c = record { inner = w; outer = ws; in_clocks = y.in_clocks; in_turns = y.in_turns; counts_clocks = a; counts_turns = b; depth = omega arith; cut = c }

-- the blocks that are open behind a line

open_behind_lem : (w : ℕ) (ws : List ℕ) (second : Bool) (d : ℕ) (l : Line) → length ws ≡ d → Lets second d l → is_stop l ≡ false → length (weights_behind w ws l) ≡ deeper d l + 1
unfolding weights_behind deeper is_stop
open_behind_lem w ws s d (One a) e h n = omega arith
open_behind_lem w ws s d (Loop m) e h n = omega arith
open_behind_lem w ws s d Done e (turn (closes-on h)) n = omega arith
open_behind_lem w ws s d Header e h n = omega arith
open_behind_lem w ws s d Machine e h n = omega arith
open_behind_lem w ws s d NoForm e h n = omega arith
open_behind_lem w ws s d NoRegister e h n = omega arith
open_behind_lem w ws s d (Stop m) e h n = absurd (false≢true (sym n))

none_behind : (w : ℕ) (ws : List ℕ) (second : Bool) (d : ℕ) (l : Line) → length ws ≡ d → Lets second d l → is_stop l ≡ true → weights_behind w ws l ≡ []
unfolding weights_behind is_stop
none_behind w [] s d (Stop m) e h n = refl
none_behind w (x ∷ ws) s d (Stop m) e (turn (ends_on h)) n = absurd (omega arith)
none_behind w ws s d (One a) e h n = absurd (false≢true n)
none_behind w ws s d (Loop m) e h n = absurd (false≢true n)
none_behind w ws s d Done e h n = absurd (false≢true n)
none_behind w ws s d Header e h n = absurd (false≢true n)
none_behind w ws s d Machine e h n = absurd (false≢true n)
none_behind w ws s d NoForm e h n = absurd (false≢true n)
none_behind w ws s d NoRegister e h n = absurd (false≢true n)

lets_opens : (second : Bool) (d : ℕ) (l : Line) → Lets second d l → Opens d l
lets_opens s d (Loop n) (turn (opened-on h)) = h
lets_opens s d (One a) h = tt
lets_opens s d Done h = tt
lets_opens s d (Stop n) h = tt
lets_opens s d Header h = tt
lets_opens s d Machine h = tt
lets_opens s d NoForm h = tt
lets_opens s d NoRegister h = tt

module _ {k : Kept} {t : Tally} (y : Tallied k t) (at : ℕ) (l : List ℕ) where
  tallied_dropped : (r n : ℕ) → Tallied (dropping k at r n) t
  unfolding dropping
  tallied_dropped r n = record { weights = y.weights; in_clocks = y.in_clocks; in_turns = y.in_turns; counts_clocks = y.counts_clocks; counts_turns = y.counts_turns; going = y.going; over = y.over; cut = y.cut }

  tallied_kept : k.stopped ≡ false → (m : Line) → spot_of (Among k.second k.depth) l ≡ Ok m → Tallied (behind_line k at l (Keep m)) (tally_line t k.depth m)
  unfolding behind_line
  tallied_kept n m e =
      let w = weighs y n in
      let r = right_line (Among k.second k.depth) l m e in
      let h = lets k.second k.depth l m e in
      record {
        weights = weights_behind w.inner w.outer m;
        in_clocks = counted act_clocks 0 w.in_clocks w.inner m;
        in_turns = counted (λ a. 1) 1 w.in_turns w.inner m;
        counts_clocks = rw r.is (counts_line clocks_measure k.new w.in_clocks w.inner w.outer m r.within w.counts_clocks);
        counts_turns = rw r.is (counts_line turns_measure k.new w.in_turns w.inner w.outer m r.within w.counts_turns);
        going = open_behind_lem w.inner w.outer k.second k.depth m w.depth h;
        over = none_behind w.inner w.outer k.second k.depth m w.depth h;
        cut = cut_line w.cut k.depth w.depth m (lets_opens k.second k.depth m h);
      }

  tallied_behind : k.stopped ≡ false → (f : Fate) → ((m : Line) → f ≡ Keep m → spot_of (Among k.second k.depth) l ≡ Ok m) → Tallied (behind_line k at l f) (tally_behind t k.depth f)
  unfolding tally_behind behind_line
  tallied_behind n (Keep m) h = tallied_kept n m (h m refl)
  tallied_behind n (Drop r) h = tallied_dropped r k.ninths
  tallied_behind n Ninth h = tallied_dropped 7 (k.ninths + 1)
  tallied_behind n NinthDone h = tallied_dropped 7 (k.ninths - 1)

-- where no loop is open the clocks so far are those of what has been kept
pub known : {k : Kept} {t : Tally} → Tallied k t → k.stopped ≡ false → Known k t.clocks
known {k} {t} y n =
    let w = weighs y n in
    record { exact = λ z. w.cut.all_clocks ∙ ap (min 2000000001) (sym (exactly w.inner w.outer w.in_clocks (omega (arith, w.depth, z)) w.counts_clocks)) }
  where
    exactly : (w : ℕ) (ws : List ℕ) (c : ℕ) → length ws ≡ 0 → Counts clocks k.new (w ∷ ws) c → clocks (kept_tree k.new) ≡ c
    exactly w [] c z a = counts_kept clocks_measure k.new c w a
    exactly w (v ∷ ws) c z a = absurd (omega arith)

-- WHERE THE NEXT LINE STANDS

stood_behind : {k : Kept} {p : Place} → Stood k p → (at : ℕ) (l : List ℕ) (f : Fate) → Stood (behind_line k at l f) (place_behind p f)
unfolding behind_line place_behind dropping
stood_behind s at l (Keep m) = record { second = refl; depth = ap (λ (d : ℕ). deeper d m) s.depth; ninths = s.ninths; stopped = refl }
stood_behind s at l (Drop r) = record { second = s.second; depth = s.depth; ninths = s.ninths; stopped = s.stopped }
stood_behind s at l Ninth = record { second = s.second; depth = s.depth; ninths = ap (λ (n : ℕ). n + 1) s.ninths; stopped = s.stopped }
stood_behind s at l NinthDone = record { second = s.second; depth = s.depth; ninths = ap (λ (n : ℕ). n - 1) s.ninths; stopped = s.stopped }

-- WHAT IS WRITTEN

new_behind : (k : Kept) (at : ℕ) (l : List ℕ) (f : Fate) → (behind_line k at l f).new ≡ k.new ++ kept_by f l
unfolding behind_line kept_by dropping
new_behind k at l (Keep m) = refl
new_behind k at l (Drop r) = sym (append-nil k.new)
new_behind k at l Ninth = sym (append-nil k.new)
new_behind k at l NinthDone = sym (append-nil k.new)

list_behind : (k : Kept) (at : ℕ) (l : List ℕ) (f : Fate) → (behind_line k at l f).list ≡ k.list ++ entries_by f at
unfolding behind_line entries_by dropping
list_behind k at l (Keep m) = sym (append-nil k.list)
list_behind k at l (Drop r) = refl
list_behind k at l Ninth = refl
list_behind k at l NinthDone = refl

-- ONE LINE

module _ {o l : List ℕ} {k : Kept} {out list : List ℕ} {s : Sifted} (i : Sifts o l k out list s) (g : Going k) (line : List ℕ) (at : ℕ) (last : Bool) where
  fate_is : fate_by s line last ≡ fate_of k last line
  unfolding fate_by
  fate_is = fate_same k line s.tally.clocks (known i.tallied g.unstopped) last s.place i.stood.second i.stood.depth i.stood.ninths

  fate_right : (m : Line) → fate_of k last line ≡ Keep m → spot_of (Among k.second k.depth) line ≡ Ok m
  unfolding fate_by
  fate_right m e =
      rw (← i.stood.second, ← i.stood.depth) (kept_right (spot_of (Among s.place.second s.place.depth) line) s.place s.tally.clocks last m (fate_is ∙ e))

  pub sifts_step : (out' list' : List ℕ) (r : Sifted) → Stepped s line at (fate_by s line last) out list out' list' r → Sifts o l (behind_line k at line (fate_of k last line)) out' list' r
  sifts_step out' list' r x =
      let f : Fate = fate_of k last line in
      let y : Stepped s line at f out list out' list' r = rw fate_is at x in
      let w = i.written in
      let n = new_behind k at line f in
      let e = list_behind k at line f in
      let twice : 2 * s.pen.entries ≡ length (list_words k.list) = omega (arith, w.entries, words_long k.list) in
      let moved : Sifted = r in
      record {
        written = record {
          bytes = y.bytes ∙ (rw n (omega (arith, w.bytes, length-append k.new (kept_by f line))));
          entries = y.entries ∙ (rw e (omega (arith, w.entries, length-append k.list (entries_by f at))));
          text = rw n (over_more w.text s.pen.bytes (kept_by f line) out' w.bytes y.text);
          words = rw (e, words_more k.list (entries_by f at)) (over_more w.words (2 * s.pen.entries) (list_words (entries_by f at)) list' twice y.words);
        };
        stood = rw y.place (stood_behind i.stood at line f);
        tallied = rw (y.tally, i.stood.depth) (tallied_behind i.tallied at line g.unstopped f fate_right);
      }
