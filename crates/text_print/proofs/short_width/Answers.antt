use native.Mathlib.Omega.{arith}
use Rattle.text_print.proofs.DecimalLaws.{shown_width}
use Rattle.text_print.proofs.short_width.Goals as goal

pub returns-then-n-ge10000 : goal.returns-then-n-ge10000
returns-then-n-ge10000 c = let pair = shown_width 4 _ (omega arith) (λ z. omega arith) (λ z. omega (arith, c.requires)) in record { value = pair.0; upper_bound = pair.1 }

pub returns-then-n-ge1000 : goal.returns-then-n-ge1000
returns-then-n-ge1000 c = let pair = shown_width 3 _ (omega arith) (λ z. omega arith) (λ z. omega (arith, c.requires)) in record { value = pair.0; upper_bound = pair.1 }

pub returns-then-n-ge100 : goal.returns-then-n-ge100
returns-then-n-ge100 c = let pair = shown_width 2 _ (omega arith) (λ z. omega arith) (λ z. omega (arith, c.requires)) in record { value = pair.0; upper_bound = pair.1 }

pub returns-then-n-ge10 : goal.returns-then-n-ge10
returns-then-n-ge10 c = let pair = shown_width 1 _ (omega arith) (λ z. omega arith) (λ z. omega (arith, c.requires)) in record { value = pair.0; upper_bound = pair.1 }

pub returns : goal.returns
returns c = let pair = shown_width 0 _ (omega arith) (λ z. omega arith) (λ z. omega (arith, c.requires)) in record { value = pair.0; upper_bound = pair.1 }
