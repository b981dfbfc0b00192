-- The fault of one line, by number and byte.
use Rattle.std.specs.Prelude.{ℕ, List, not, length, take, eqb, Result, Ok, Err}
use Rattle.refusal.specs.declared.Refusal.{Refusal}
use Rattle.refusal.specs.Refusal.{refusal}
use Rattle.arith.specs.Pick.{pick}
use Rattle.log_line.specs.declared.Line.{Line}
use Rattle.log_line.specs.declared.Line.TheVariants.{Header, Machine, One, Loop, Done, Stop, NoForm, NoRegister}
use Rattle.log_line.specs.Said.{line_of}
use Rattle.log_form.specs.Forms.{reach}
use Rattle.log_begins.specs.declared.Keys.{Keys}
use Rattle.log_begins.specs.Begins.{begins}
use Rattle.log_begins.specs.Counts.{keyed, counts}
use Rattle.log_fault.specs.declared.Stand.{Stand}
use Rattle.log_fault.specs.declared.Whole.{Whole}
use Rattle.log_fault.specs.declared.Whole.TheVariants.{Fine, Start, Other}
use Rattle.log_fault.specs.Allowed.{keys_of}

-- a whole line of right form: right where it is allowed, or 4; "past the first line" one that is not allowed is 7 or 8
unfoldable pub whole_of : Keys → Line → Whole
whole_of k Header = pick k.log Fine Other
whole_of k Machine = pick k.machine Fine Other
whole_of k (One a) = pick k.acts Fine Other
whole_of k (Loop n) = pick k.loops Fine (pick (not k.log) (Start 7) Other)
whole_of k Done = pick k.done Fine (pick (not k.log) (Start 8) Other)
whole_of k (Stop n) = pick k.stop Fine (pick (not k.log) (Start 8) Other)
whole_of k NoForm = Other
whole_of k NoRegister = pick k.acts (Start 4) Other

-- i is the first byte with which no allowed right line begins. 17: "line feed missing", the log ends where what stands could still begin such a line;
-- 14: "unknown key", "a fault up to the `=` is the key's"; 16: "value outside its range", at "the value's first digit"; 15: "value not of its shape"
unfoldable pub fault_at : List ℕ → ℕ → Result Line Refusal
fault_at s i =
    pick (eqb i (length s)) (Err (refusal 17 i))
    (pick (keyed (take i s)) (pick (counts s) (Err (refusal 16 5)) (Err (refusal 15 i)))
    (Err (refusal 14 i)))

-- 4, 7 and 8 "keep their places", the line's start
unfoldable pub spotted : Keys → List ℕ → Line → Whole → Result Line Refusal
spotted k s l Fine = Ok l
spotted k s l (Start n) = Err (refusal n 0)
spotted k s l Other = fault_at s (reach (begins k) s)

-- the fault of the line s, with its line feed if it has one, where it stands
unfoldable pub spot_of : Stand → List ℕ → Result Line Refusal
spot_of st s = spotted (keys_of st) s (line_of s) (whole_of (keys_of st) (line_of s))
