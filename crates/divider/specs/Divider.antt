-- Document 01, "Dividers and one clock": dividers, for any period.
use Rattle.std.specs.Prelude.{ℕ, suc, ◌-◌, ◌/◌, ◌%◌, Bool, leb, ltb}
use Rattle.arith.specs.Pick.{pick}

-- the next tick gives an output: the count is 1, and falls to 0 (a count of 0, out of every range, does the same)
abbrev pub due : ℕ → Bool
due count = leb count 1

-- "A divider with period n counts down by one; on reaching 0 it takes n again and gives an output."
abbrev pub tick : ℕ → ℕ → ℕ
tick n count = pick (due count) n (count - 1)

-- a divider's count with what its outputs drive
pub record Driven (A : Type 0) : Type 0 where
  pub count : ℕ
  pub part : A

-- one tick of a divider with period n: on an output what it drives takes its step
unfoldable pub drive : {A : Type 0} → ℕ → (A → A) → Driven A → Driven A
drive n step d = pick (due d.count) (record { count = n; part = step d.part }) (record { count = d.count - 1; part = d.part })

-- The closed form: g ticks of a divider with period n at a count give this many outputs,
unfoldable pub outputs : ℕ → ℕ → ℕ → ℕ
outputs n count g = pick (ltb g count) 0 (suc ((g - count) / n))

-- and leave it at this count.
unfoldable pub count_after : ℕ → ℕ → ℕ → ℕ
count_after n count g = pick (ltb g count) (count - g) (n - (g - count) % n)
