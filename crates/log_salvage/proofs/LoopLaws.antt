-- The pass over the lines of a damaged log. Assumes nothing.
use mathlib.Core.Path.{◌≡◌, refl, ap, ap₂, sym, ◌∙◌}
use mathlib.Core.List.{List, ◌∷◌}
use mathlib.Core.Bool.{Bool, true, false}
use Prim.Native.Nat.{ℕ, ◌+◌, ◌-◌, ◌≤◌, ◌<◌}
use native.Mathlib.Omega.{arith}
use borrow.Author.Tests.{leb-true, leb-false, lt-leb}
use lib.Dec.{leb}
use lib.ListN.{length, take, drop, drop_of_length-le}
use Rattle.log_rules.specs.Lines.{lines_of, line_len, bytes_at, next_line}
use Rattle.log_rules.proofs.PlaceLaws.{bytes_long, next_pos, next_le}
use Rattle.log_rules.proofs.JudgeLaws.{lines_at}
use Rattle.log_salvage_rules.specs.Mending.{Kept, fate_of, behind_line, none, sift}
use Rattle.log_salvage_rules.proofs.SiftLaws.{Going, step_left, still}
use Rattle.log_salvage.specs.declared.Sifted.{Sifted}
use Rattle.log_salvage.specs.Writing.{Sifts, fate_by, Bound, Stepped}
use Rattle.log_salvage.proofs.SiftsLaws.{sifts_step}

-- at a place of the log: what has been kept so far, from which the rest leads to the last
pub record Come (log o l : List ℕ) (last : Kept) (out list : List ℕ) (at : ℕ) (s : Sifted) : Type 0 where
  pub state : Kept
  pub sifts : Sifts o l state out list s
  pub rest : sift state at (lines_of (drop at log)) ≡ last
  pub going : at < length log → Going state

pub come_start : (log o l : List ℕ) (k : Kept) (out list : List ℕ) (at : ℕ) (s : Sifted) → Going k → Sifts o l k out list s → Come log o l (sift k at (lines_of (drop at log))) out list at s
come_start log o l k out list at s g i = record { state = k; sifts = i; rest = refl; going = λ h. g }

pub come_end : {log o l : List ℕ} {last : Kept} {out list : List ℕ} {at : ℕ} {s : Sifted} → Come log o l last out list at s → length log ≤ at → Sifts o l last out list s
unfolding sift lines_of
come_end {log} {o} {l} {last} {out} {list} {at} {s} c h =
    let e : c.state ≡ last = rw (drop_of_length-le log h) at c.rest in
    rw e at c.sifts

none_is : (log : List ℕ) (e : ℕ) → none (lines_of (drop e log)) ≡ leb (length log) e
unfolding none lines_of
none_is log e = go (leb (length log) e) refl
  where
    go : (b : Bool) → leb (length log) e ≡ b → none (lines_of (drop e log)) ≡ b
    go true h = rw (drop_of_length-le log (leb-true (length log) e h))
    go false h = rw (lines_at log e (leb-false (length log) e h))

module _ (log : List ℕ) (at e : ℕ) (h : at < length log) (n : e ≡ next_line log at) where
  line_is : take (e - at) (drop at log) ≡ bytes_at log at
  unfolding bytes_at next_line
  line_is = ap (λ (x : ℕ). take x (drop at log)) (let z : e - at ≡ line_len (drop at log) = omega arith in z)

  pub line_end_is : at + length (take (e - at) (drop at log)) ≡ e
  line_end_is = ap (λ (x : List ℕ). at + length x) line_is ∙ (bytes_long log at ∙ sym n)

  pub line_on : at < e
  line_on = omega (arith, next_pos log at h)

  pub line_in : e ≤ length log
  line_in = omega (arith, next_le log at (omega arith))

  module _ {o l : List ℕ} {last : Kept} {out list : List ℕ} {s : Sifted} (c : Come log o l last out list at s) (out' list' : List ℕ) (r : Sifted)
      (x : Stepped s (take (e - at) (drop at log)) at (fate_by s (take (e - at) (drop at log)) (leb (length log) e)) out list out' list' r) where
    pub come_step : Come log o l last out' list' e r
    unfolding sift
    come_step =
        let k = c.state in
        let line : List ℕ = take (e - at) (drop at log) in
        let g = c.going h in
        let end : Bool = leb (length log) e in
        let split : lines_of (drop at log) ≡ line ∷ lines_of (drop e log) =
        lines_at log at h ∙ ap₂ (λ (a : List ℕ) (j : ℕ). a ∷ lines_of (drop j log)) (sym line_is) (sym n) in
        let moved : sift (behind_line k at line (fate_of k (none (lines_of (drop e log))) line)) (at + length line) (lines_of (drop e log)) ≡ last = sym (ap (sift k at) split) ∙ c.rest in
        record {
          state = behind_line k at line (fate_of k end line);
          sifts = sifts_step c.sifts g line at end out' list' r x;
          rest = rw (none_is log e, line_end_is) at moved;
          going = λ q. still (step_left k g at line end) (lt-leb (length log) e q);
        }

-- the bounds only widen
pub bound_up : {at : ℕ} {s : Sifted} → Bound at s → (to : ℕ) → at ≤ to → Bound to s
bound_up b to h = record { small = b.small; depth = b.depth; ninths = omega (arith, b.ninths); bytes = omega (arith, b.bytes); entries = omega (arith, b.entries) }
