-- A refusal's number in words.
use Rattle.std.specs.Prelude.{ℕ, List, eqb}
use Rattle.arith.specs.Pick.{pick}
use Rattle.text.specs.Ascii.{bytes}

-- a number that has no words of its own is just a refusal
unfoldable pub reason_text : ℕ → List ℕ
reason_text n =
    pick (eqb n 1) (bytes "sample memory isn't 32,768 bytes")
    (pick (eqb n 2) (bytes "a state field is outside its range")
    (pick (eqb n 3) (bytes "a run of more than 1,000,000 clocks")
    (pick (eqb n 4) (bytes "register not among 4000..4013, 4015, 4017")
    (pick (eqb n 5) (bytes "log longer than 60,000 bytes")
    (pick (eqb n 7) (bytes "a ninth loop opened inside eight")
    (pick (eqb n 8) (bytes "`done` with no loop open, or `stop` with one open")
    (pick (eqb n 9) (bytes "over 2,000,000,000 clocks or 1,000,000 turns in all")
    (pick (eqb n 10) (bytes "`stop` differs from the clocks in all")
    (pick (eqb n 11) (bytes "the log has no such item")
    (pick (eqb n 12) (bytes "no loop line begins there")
    (pick (eqb n 13) (bytes "a count over 4,000,000,000")
    (pick (eqb n 14) (bytes "unknown key, or one that is not allowed here")
    (pick (eqb n 15) (bytes "value not of its shape")
    (pick (eqb n 16) (bytes "value outside its range")
    (pick (eqb n 17) (bytes "line feed missing")
    (pick (eqb n 18) (bytes "`stop` missing")
    (pick (eqb n 19) (bytes "something after `stop`")
    (pick (eqb n 20) (bytes "level above 127")
    (pick (eqb n 21) (bytes "address outside 32768..65535")
    (pick (eqb n 22) (bytes "length above 4081")
    (pick (eqb n 23) (bytes "buffer shorter than the length")
    (pick (eqb n 24) (bytes "no such channel")
    (pick (eqb n 25) (bytes "unknown command")
    (pick (eqb n 26) (bytes "register not among 00..13, 15, 17")
    (pick (eqb n 27) (bytes "the stream ends before its end command")
    (pick (eqb n 28) (bytes "the log is longer than the buffer or 60,000 bytes")
    (pick (eqb n 29) (bytes "a level above 32,767")
    (pick (eqb n 30) (bytes "the repaired log is longer than the buffer or 60,000 bytes")
    (pick (eqb n 31) (bytes "the list has no room")
    (pick (eqb n 32) (bytes "buffer shorter than the log")
    (pick (eqb n 33) (bytes "rate outside 8000..192000")
    (pick (eqb n 34) (bytes "a sample block outside 8000..ffff")
    (pick (eqb n 35) (bytes "the header of the VGM file says no place for commands")
    (pick (eqb n 36) (bytes "a VGM file for two chips")
    (bytes "refused")))))))))))))))))))))))))))))))))))
