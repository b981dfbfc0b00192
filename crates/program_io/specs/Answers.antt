-- What a call of the system answered, as a number.
use Rattle.std.specs.Prelude.{ℕ, ℤ, pos, negsuc, Option, Result, Ok, Err, Some, None}

-- how many bytes a read brought or a write took; negative where it failed
abbrev pub answer_of : {E : Type 0} → Result ℕ E → ℤ
answer_of (Ok n) = pos n
answer_of (Err e) = negsuc 0

-- the system's number of an error; 0 where the error is none of the system's
abbrev pub error_number : Option ℤ → ℤ
error_number (Some n) = n
error_number None = pos 0
