-- What one line of a log says. Document 01: "Lines end in one line feed. First `log=1`. Then `wait=N` (1..1000000), `write=RRRR:VV`
-- (lower-case hex), `read=4015`, `loop=N` (2..255), `done=loop`. Last `stop=N` (0..2000000000), then nothing." Change request 9: "A log may have
-- `machine=pal` as its second line".
use Rattle.std.specs.Prelude.{ℕ, ◌-◌, List, length, get_or, take, drop, eqb, Option, Some, None}
use Rattle.arith.specs.Pick.{pick, both}
use Rattle.bus.specs.Register.{is_register}
use Rattle.bus.specs.declared.Access.TheVariants.{Write, Read}
use Rattle.text.specs.Ascii.{bytes}
use Rattle.text.specs.Key.{starts_with, exactly}
use Rattle.text.specs.Numbers.{within}
use Rattle.text.specs.Decimal.{decimal}
use Rattle.text.specs.Hex.{hex}
use Rattle.log_line.specs.declared.Act.TheVariants.{Wait, Access}
use Rattle.log_line.specs.declared.Line.{Line}
use Rattle.log_line.specs.declared.Line.TheVariants.{Header, Machine, One, Loop, Done, Stop, NoForm, NoRegister}

-- a number that was read as what it stands for; with none the line is not of the form
unfoldable pub counted : (ℕ → Line) → Option ℕ → Line
counted f (Some n) = f n
counted f None = NoForm

-- refusal 4: "register not among $4000..$4013, $4015, $4017"
unfoldable pub written : Option ℕ → Option ℕ → Line
written None v = NoForm
written (Some r) None = NoForm
written (Some r) (Some v) = pick (is_register r) (One (Access (Write r v))) NoRegister

-- RRRR:VV of `write=RRRR:VV` (58 is the colon)
unfoldable pub write_of : List ℕ → Line
write_of s =
    pick (both (eqb (length s) 7) (eqb (get_or s 4 0) 58))
    (written (hex 4 (take 4 s)) (hex 2 (drop 5 s)))
    NoForm

-- N of `wait=N` (1..1000000), of `loop=N` (2..255), of `stop=N` (0..2000000000)

unfoldable pub wait_of : List ℕ → Line
wait_of s = counted (λ n. One (Wait n)) (within 1 1000000 (decimal s))

unfoldable pub loop_of : List ℕ → Line
loop_of s = counted Loop (within 2 255 (decimal s))

unfoldable pub stop_of : List ℕ → Line
stop_of s = counted Stop (within 0 2000000000 (decimal s))

-- a line without its line feed
unfoldable pub unfed_line : List ℕ → Line
unfed_line s =
    pick (exactly (bytes "log=1") s) Header
    (pick (starts_with (bytes "wait=") s) (wait_of (drop 5 s))
    (pick (starts_with (bytes "write=") s) (write_of (drop 6 s))
    (pick (exactly (bytes "read=4015") s) (One (Access Read))
    (pick (starts_with (bytes "loop=") s) (loop_of (drop 5 s))
    (pick (exactly (bytes "done=loop") s) Done
    (pick (starts_with (bytes "stop=") s) (stop_of (drop 5 s))
    (pick (exactly (bytes "machine=pal") s) Machine
    NoForm)))))))

-- "Lines end in one line feed"
unfoldable pub line_of : List ℕ → Line
line_of s =
    pick (eqb (get_or s (length s - 1) 0) 10)
    (unfed_line (take (length s - 1) s))
    NoForm
