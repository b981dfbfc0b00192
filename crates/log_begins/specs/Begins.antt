-- Which bytes begin a line that is allowed. The change request: "the first byte that can't belong to any right line allowed there
-- with that beginning". A line is right with its line feed and with its decimal in range; "a write's register is judged here by its digits' shape
-- alone". That `begins` is true exactly of the beginnings of allowed right lines is proved (proofs/Beginnings.antt).
use Rattle.std.specs.Prelude.{ℕ, List, [], ◌∷◌, Bool, false}
use Rattle.arith.specs.Pick.{both, either}
use Rattle.text.specs.Ascii.{bytes}
use Rattle.log_line.specs.Printed.{ended}
use Rattle.log_form.specs.Forms.{along, nothing, begins_number}
use Rattle.log_begins.specs.declared.Keys.{Keys}

-- one of the tests holds
unfoldable pub any_true : List Bool → Bool
any_true [] = false
any_true (b ∷ bs) = either b (any_true bs)

-- s begins a line that is allowed and right
unfoldable pub begins : Keys → List ℕ → Bool
begins k s =
    any_true
    (both k.log (along (ended (bytes "log=1")) nothing s)
    ∷ both k.machine (along (ended (bytes "machine=pal")) nothing s)
    ∷ both k.acts (along (bytes "wait=") (begins_number 1 1000000) s)
    ∷ both k.acts (along (ended (bytes "write=####:##")) nothing s)
    ∷ both k.acts (along (ended (bytes "read=4015")) nothing s)
    ∷ both k.loops (along (bytes "loop=") (begins_number 2 255) s)
    ∷ both k.done (along (ended (bytes "done=loop")) nothing s)
    ∷ both k.stop (along (bytes "stop=") (begins_number 0 2000000000) s)
    ∷ [])
