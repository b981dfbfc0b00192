-- The one conditional that every definition uses.
use Rattle.std.specs.Prelude.{Bool, true, false}

-- a where the test holds, else b
abbrev pub pick : {A : Type 0} → Bool → A → A → A
pick true a b = a
pick false a b = b

-- both tests hold
abbrev pub both : Bool → Bool → Bool
both true b = b
both false b = false

-- one test holds, or the other, or both
abbrev pub either : Bool → Bool → Bool
either true b = true
either false b = b
