-- Which lines are allowed where.
use Rattle.std.specs.Prelude.{true, false, ltb, eqb}
use Rattle.log_begins.specs.declared.Keys.{Keys}
use Rattle.log_fault.specs.declared.Stand.{Stand}
use Rattle.log_fault.specs.declared.Stand.TheVariants.{First, Among, Alone}

-- first only `log=1`; then `loop` inside fewer than eight, `done` inside one or more, `stop` inside none; where no depth is known, each of them.
-- Change request 9: "A log may have `machine=pal` as its second line; .. anywhere else that key is unknown"
unfoldable pub keys_of : Stand → Keys
keys_of First = record { log = true; machine = false; acts = false; loops = false; done = false; stop = false }
keys_of (Among second d) = record { log = false; machine = second; acts = true; loops = ltb d 8; done = ltb 0 d; stop = eqb d 0 }
keys_of (Alone second) = record { log = false; machine = second; acts = true; loops = true; done = true; stop = true }
