-- The command part of a VGM file, read byte by byte. Request 10: "$B4 register value, for registers $00..$13, $15 and $17 added to $4000; $61
-- with a 16-bit low-first wait, $62 for 735, $63 for 882, $70..$7F for 1 to 16, $66 the end. Waits are in samples at 44100 a second."
use Rattle.std.specs.Prelude.{ℕ, ◌+◌, ◌-◌, ◌*◌, List, [], ◌∷◌, leb, eqb}
use Rattle.arith.specs.Pick.{pick, both}
use Rattle.bus.specs.Register.{is_register}
use Rattle.vgm_stream.specs.declared.Await.{Await}
use Rattle.vgm_stream.specs.declared.Await.TheVariants.{Command, Register, Value, Low, High}
use Rattle.vgm_stream.specs.declared.Said.{Said}
use Rattle.vgm_stream.specs.declared.Said.TheVariants.{Wait, Write}
use Rattle.vgm_stream.specs.declared.Step.{Step}
use Rattle.vgm_stream.specs.declared.Step.TheVariants.{End, Fault, Next, Says}

-- a byte where a command is awaited; "25 unknown command", "data blocks count as unknown"
unfoldable pub command_of : ℕ → Step
command_of b =
    pick (eqb b 0xb4) (Next Register)
    (pick (eqb b 0x61) (Next Low)
    (pick (eqb b 0x62) (Says (Wait 735))
    (pick (eqb b 0x63) (Says (Wait 882))
    (pick (both (leb 0x70 b) (leb b 0x7f)) (Says (Wait (b - 0x6f)))
    (pick (eqb b 0x66) End
    (Fault 25))))))

-- a byte where a register is awaited: those "added to $4000" are the registers of refusal 4; "26 register"
unfoldable pub register_of : ℕ → Step
register_of b = pick (is_register (0x4000 + b)) (Next (Value b)) (Fault 26)

-- a byte, by what is awaited
unfoldable pub byte_step : Await → ℕ → Step
byte_step Command b = command_of b
byte_step Register b = register_of b
byte_step (Value r) b = Says (Write (0x4000 + r) b)
byte_step Low b = Next (High b)
byte_step (High n) b = Says (Wait (n + 256 * b))

-- a stream: what its commands say up to the end, or number and place of "the first byte at fault"
pub data Stream : Type 0 where
  ended : List Said → Stream
  refused : ℕ → ℕ → Stream

-- a command in front of a stream
unfoldable pub more : Said → Stream → Stream
more s (ended l) = ended (s ∷ l)
more s (refused k p) = refused k p

-- the stream from a byte at the place `at` on, by what the byte brings; f is the stream behind it, by what is awaited there
unfoldable pub after : Step → ℕ → (Await → Stream) → Stream
after End at f = ended []
after (Fault k) at f = refused k at
after (Next w) at f = f w
after (Says s) at f = more s (f Command)

-- the stream of the bytes from the place `at` on, where w is awaited; "27 stream ends before $66 (at its length)"; "Bytes after $66 are not
-- read"
unfoldable pub stream_from : Await → ℕ → List ℕ → Stream
stream_from w at [] = refused 27 at
stream_from w at (b ∷ l) = after (byte_step w b) at (λ v. stream_from v (at + 1) l)

unfoldable pub stream_of : List ℕ → Stream
stream_of bytes = stream_from Command 0 bytes
