-- Texts over a buffer, one behind the other. Assumes nothing.
use Prim.Native.Nat.{ℕ, suc, ◌+◌, ◌-◌, ◌≤◌, ◌<◌}
use mathlib.Core.Path.{◌≡◌, ap, ◌∙◌}
use mathlib.Core.Bool.{true, false}
use mathlib.Core.List.{List, [], ◌++◌}
use native.Mathlib.Omega.{arith}
use lib.ListN.{length, length-append}
use lib.Seq.{sets, length-sets}
use Rattle.log_line.specs.declared.Act.TheVariants.{Wait}
use Rattle.log_line.specs.declared.Line.TheVariants.{Header, Machine, One}
use Rattle.log_line.specs.Printed.{line_text}
use Rattle.log_rules.specs.Head.{head_text}
use Rattle.text_print.specs.Printed.{placed, printed, Put}
use Rattle.text_print.proofs.PieceLaws.{put_last, put_more}
use Rattle.text_print.proofs.StoreLaws.{sets_append, placed_in, printed_in}
use Rattle.vgm_measure.specs.Measure.{millions}

-- what is left makes the whole: the front of it written
pub front : (out : List ℕ) (place : ℕ) (a rest : List ℕ) (whole : ℕ) (all : List ℕ) → place + length (a ++ rest) ≡ whole → sets out place (a ++ rest) ≡ all
    → (out' : List ℕ) (place' : ℕ) → place' ≡ place + length a → out' ≡ sets out place a
    → (length out' ≡ length out) × (place' + length rest ≡ whole) × (sets out' place' rest ≡ all)
front out place a rest whole all p b out' place' q s =
    let l = length-append a rest in
    (ap length s ∙ length-sets out place a, omega arith, rw (s, q) (sets_append a rest out place ∙ b))

-- a wait of 1,000,000 more
million_more : (m i : ℕ) → i < m → millions (m - i) ≡ line_text (One (Wait 1000000)) ++ millions (m - (i + 1))
unfolding millions
million_more m i h = let e : m - i ≡ suc (m - (i + 1)) = omega arith in ap millions e

million_none : (m i : ℕ) → m ≤ i → millions (m - i) ≡ []
unfolding millions
million_none m i h = let e : m - i ≡ 0 = omega arith in ap millions e

pub million_all : (m : ℕ) → millions (m - 0) ≡ millions m
million_all m = let e : m - 0 ≡ m = omega arith in ap millions e

module _ (m i : ℕ) (h : i < m) (out : List ℕ) (place whole : ℕ) (all : List ℕ) (p : place + length (millions (m - i)) ≡ whole) (b : sets out place (millions (m - i)) ≡ all) (room : whole ≤ length out)
    (out' : List ℕ) (place' : ℕ) (q : place' ≡ placed out place (line_text (One (Wait 1000000)))) (s : out' ≡ printed out place (line_text (One (Wait 1000000)))) where
  pub million_step : (length out' ≡ length out) × (place' + length (millions (m - (i + 1))) ≡ whole) × (sets out' place' (millions (m - (i + 1))) ≡ all)
  million_step =
      let e = million_more m i h in
      let line = line_text (One (Wait 1000000)) in
      let rest = millions (m - (i + 1)) in
      let l = length-append line rest in
      let p' : place + length (line ++ rest) ≡ whole = rw e at p in
      let b' : sets out place (line ++ rest) ≡ all = rw e at b in
      let fits : place + length line ≤ length out = omega arith in
      front out place line rest whole all p' b' out' place' (q ∙ placed_in out place line fits) (s ∙ printed_in out place line fits)

pub millions_done : (m i : ℕ) → m ≤ i → (out₀ : List ℕ) (at : ℕ) (out : List ℕ) (place : ℕ) → place + length (millions (m - i)) ≡ at + length (millions m)
    → sets out place (millions (m - i)) ≡ sets out₀ at (millions m) → Put out₀ at (millions m) out place
millions_done m i h out₀ at out place p b =
    let e = million_none m i h in
    let p' : place + 0 ≡ at + length (millions m) = rw e at p in
    let b' : out ≡ sets out₀ at (millions m) = rw e at b in
    record { place = omega arith; bytes = b' }

-- a head written, line by line
module _ (out out' : List ℕ) (a : ℕ) (q : a ≡ placed out 0 (line_text Header)) (s : out' ≡ printed out 0 (line_text Header)) where
  pub head_ntsc : length (head_text false) ≤ length out → Put out 0 (head_text false) out' a
  head_ntsc room = put_last out 0 (line_text Header) out' a (omega arith) q s

  pub head_pal : length (head_text true) ≤ length out → (out'' : List ℕ) (b : ℕ) → b ≡ placed out' a (line_text Machine) → out'' ≡ printed out' a (line_text Machine)
      → Put out 0 (head_text true) out'' b
  head_pal room out'' b e f = put_more out 0 (line_text Header) (line_text Machine) out' a out'' b (omega arith) q s (λ r. put_last out' a (line_text Machine) out'' b r e f)
