-- What a line says and its text: each is the other's inverse. Assumes nothing.
use mathlib.Core.Path.{◌≡◌, ◌∙◌, ap, subst}
use mathlib.Core.List.{List}
use Prim.Native.Nat.{ℕ}
use Rattle.log_line.specs.declared.Line.{Line}
use Rattle.log_line.specs.Said.{line_of}
use Rattle.log_line.specs.Printed.{line_text, Printable, OneLine}
use Rattle.log_line.proofs.Back.{read_back}
use Rattle.log_line.proofs.FeedLaws.{text_line}
use Rattle.log_line.proofs.Forth.{AtFault, Found, right, fault, line_found}

-- what is printed is read back as that line
pub printed_read : (l : Line) → Printable l → line_of (line_text l) ≡ l
printed_read = read_back

-- what is read is what is printed
pub read_printed : (s : List ℕ) (l : Line) → line_of s ≡ l → (AtFault l → ⊥) → (s ≡ line_text l) × Printable l
read_printed s l e not_bad = go (line_of s) e (line_found s)
  where
    go : (m : Line) → m ≡ l → Found s m → (s ≡ line_text l) × Printable l
    go m q (right t p) = (t ∙ ap line_text q, subst Printable q p)
    go m q (fault h) = absurd (not_bad (subst AtFault q h))

-- a line's text is one line
pub one_line : (l : Line) → Printable l → OneLine (line_text l)
one_line = text_line
