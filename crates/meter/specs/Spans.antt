-- What is kept of levels, the lowest and the highest, and what can be told from these: of the span of levels that are there it is their
-- meter (proofs/Answers: told-is).
use Rattle.std.specs.Prelude.{ℕ, ◌≡◌, List, [], ◌∷◌, eqb, ltb}
use Rattle.arith.specs.Pick.{pick}
use Rattle.meter.specs.declared.Metering.{Metering}
use Rattle.meter.specs.declared.Metering.TheVariants.{Refused, Silent, Steady, Moving}
use Rattle.meter.specs.declared.Span as declared
use Rattle.meter.specs.Levels.{lowest, highest}
use Rattle.meter.specs.Measure.{measured_number, measured_levels}

-- the span of one level
abbrev pub span_at : ℕ → declared.Span
span_at x = record { low = x; high = x }

-- of some levels and a list
abbrev pub span_over : declared.Span → List ℕ → declared.Span
span_over s l = record { low = lowest s.low l; high = highest s.high l }

-- of a level and a list
abbrev pub span_from : ℕ → List ℕ → declared.Span
span_from x l = span_over (span_at x) l

-- silent, steady or moving, by the span
unfoldable pub told_of : ℕ → ℕ → Metering ℕ
told_of low high =
    pick (ltb 32767 high) (Refused 29)
    (pick (ltb low high) (Moving low high) (pick (eqb high 0) Silent (Steady high)))

-- the number and the values by the span, and an answer that has them
unfoldable pub span_number : declared.Span → ℕ
span_number s = pick (ltb 32767 s.high) 29 0

unfoldable pub span_levels : declared.Span → List ℕ
span_levels s =
    pick (ltb 32767 s.high) []
    (pick (ltb s.low s.high) (s.low ∷ s.high ∷ []) (pick (eqb s.high 0) [] (s.high ∷ [])))

abbrev pub SpanIs : declared.Span → Metering ℕ → Type 0
SpanIs s r = (measured_number r ≡ span_number s) × (measured_levels r ≡ span_levels s)
