-- Where something can't change before the next frame step.
use Rattle.std.specs.Prelude.{ℕ}

-- more clocks than any stretch between two frame steps has
abbrev pub forever : ℕ
forever = 100000
