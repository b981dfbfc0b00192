-- A window of a log, as a trace shows it: what is seen where it begins, each change and each access in it, in order of time, and where it ends. Clocks
-- are worked one by one.
use Rattle.std.specs.Prelude.{ℕ, zero, suc, ◌+◌, ◌-◌, min, List, [], ◌∷◌, ◌++◌, leb, ltb}
use Rattle.arith.specs.Iterate.{iterate}
use Rattle.arith.specs.Pick.{pick}
use Rattle.bus.specs.declared.Access as busAccess
use Rattle.log_line.specs.declared.Act.{Act}
use Rattle.log_line.specs.declared.Act.TheVariants.{Wait, Access}
use Rattle.clock_rate.specs.Rate.{clock_time}
use Rattle.chip.specs.Clock.{chip_clock}
use Rattle.chip.specs.declared.State.{State}
use Rattle.chip_access.specs.Access.{access_state}
use Rattle.chip_access.specs.Status.{status_byte}
use Rattle.chip_seen.specs.Seen.{seen_of, same_seen}
use Rattle.chip_seen.specs.declared.Seen.{Seen}
use Rattle.play_trace.specs.declared.Bus.{Bus}
use Rattle.play_trace.specs.declared.Point.{Point}
use Rattle.play_trace.specs.declared.Event.{Event}
use Rattle.play_trace.specs.declared.Event.TheVariants.{Begins, Clocked, Accessed}

-- a moment of a trace: its nanoseconds, its clock, and what is seen then
abbrev pub point_of : ℕ → ℕ → Seen → Point
point_of time clock seen = record { time = time; clock = clock; seen = seen }

-- "clock c stands at floor(c x 1,000,000,000 / 1,789,773) ns, on a PAL machine / 1,662,607"; "the k-th [access with one stamp] is shown k ns later (at most
-- 500)"
unfoldable pub shown_at : State → ℕ → ℕ → Point
shown_at s clock k = point_of (clock_time s.pal clock + min k 500) clock (seen_of s)

-- what an access shows on the bus: its register, the value written or read, and whether it is a read
unfoldable pub bus_of : busAccess.Access → State → Bus
bus_of (busAccess.Access.Write r v) s = record { register = r; value = v; read = 0 }
bus_of busAccess.Access.Read s = record { register = 0x4015; value = status_byte s; read = 1 }

-- clock t led from one state to the next: it is shown where anything seen differs
unfoldable pub clock_event : ℕ → State → State → List Event
clock_event t s next = pick (same_seen (seen_of s) (seen_of next)) [] (Clocked (seen_of s) (shown_at next t 0) ∷ [])

-- n clocks from the state s at clock t on
unfoldable pub clocks_events : List ℕ → ℕ → ℕ → State → List Event
clocks_events memory zero t s = []
clocks_events memory (suc n) t s = clock_event (t + 1) s (chip_clock memory s) ++ clocks_events memory n (t + 1) (chip_clock memory s)

-- the k-th access at clock t led from one state to the next: it is always shown
unfoldable pub access_event : ℕ → ℕ → busAccess.Access → State → State → Event
access_event t k x s next = Accessed (seen_of s) (shown_at next t k) (bus_of x s)

-- THE EVENTS OF THE ACTS, in log order, from the state s at clock t on, where k accesses stamped t are done: clocks up to `until`, and accesses stamped
-- before it. "Accesses with one stamp act after clock c and before clock c+1, in log order."
unfoldable pub events_from : List ℕ → ℕ → List Act → ℕ → ℕ → State → List Event
events_from memory until [] t k s = []
events_from memory until (Wait n ∷ l) t k s =
    pick (ltb (t + n) until) (clocks_events memory n t s ++ events_from memory until l (t + n) 0 (iterate (chip_clock memory) n s))
    (clocks_events memory (until - t) t s)
events_from memory until (Access x ∷ l) t k s = access_event t (k + 1) x s (access_state x s) ∷ events_from memory until l t (k + 1) (access_state x s)

-- where they end: at `until`, or where the acts do
unfoldable pub end_from : List ℕ → ℕ → List Act → ℕ → ℕ → State → Point
end_from memory until [] t k s = shown_at s t k
end_from memory until (Wait n ∷ l) t k s =
    pick (ltb (t + n) until) (end_from memory until l (t + n) 0 (iterate (chip_clock memory) n s))
    (shown_at (iterate (chip_clock memory) (until - t) s) until 0)
end_from memory until (Access x ∷ l) t k s = end_from memory until l t (k + 1) (access_state x s)

-- a window: what is shown, one event after the other, and its end
pub record Window : Type 0 where
  pub events : List Event
  pub end : Point

-- a window that begins here
unfoldable pub opened : List ℕ → ℕ → List Act → ℕ → State → Window
opened memory until l t s = record { events = Begins (shown_at s t 0) ∷ events_from memory until l t 0 s; end = end_from memory until l t 0 s }

-- THE WINDOW of the clocks `from` to `until`, reached from the state s at clock t: it begins as soon as `from` clocks are done, the accesses stamped with it
-- still to come, or where the acts end
unfoldable pub window_from : List ℕ → ℕ → ℕ → List Act → ℕ → State → Window
window_from memory from until [] t s = opened memory until [] t s
window_from memory from until (Wait n ∷ l) t s =
    pick (leb from t) (opened memory until (Wait n ∷ l) t s)
    (pick (leb (t + n) from) (window_from memory from until l (t + n) (iterate (chip_clock memory) n s))
    (opened memory until (Wait (n - (from - t)) ∷ l) from (iterate (chip_clock memory) (from - t) s)))
window_from memory from until (Access x ∷ l) t s =
    pick (leb from t) (opened memory until (Access x ∷ l) t s) (window_from memory from until l t (access_state x s))
