use native.Mathlib.Omega.{arith}
use Rattle.text_print.proofs.DecimalLaws.{shown_width}
use Rattle.text_print.proofs.long_width.Goals as goal

pub returns-then-n-ge1000000000 : goal.returns-then-n-ge1000000000
returns-then-n-ge1000000000 c = let pair = shown_width 9 _ (omega arith) (λ z. omega arith) (λ z. omega (arith, c.requires)) in record { value = pair.0; upper_bound = pair.1 }

pub returns-then-n-ge100000000 : goal.returns-then-n-ge100000000
returns-then-n-ge100000000 c = let pair = shown_width 8 _ (omega arith) (λ z. omega arith) (λ z. omega (arith, c.requires)) in record { value = pair.0; upper_bound = pair.1 }

pub returns-then-n-ge10000000 : goal.returns-then-n-ge10000000
returns-then-n-ge10000000 c = let pair = shown_width 7 _ (omega arith) (λ z. omega arith) (λ z. omega (arith, c.requires)) in record { value = pair.0; upper_bound = pair.1 }

pub returns-then-n-ge1000000 : goal.returns-then-n-ge1000000
returns-then-n-ge1000000 c = let pair = shown_width 6 _ (omega arith) (λ z. omega arith) (λ z. omega (arith, c.requires)) in record { value = pair.0; upper_bound = pair.1 }

pub returns : goal.returns
returns c = let pair = shown_width 5 _ (omega arith) (λ z. omega arith) (λ z. omega (arith, c.requires)) in record { value = pair.0; upper_bound = pair.1 }
