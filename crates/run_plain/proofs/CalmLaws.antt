-- Where no frame step comes the clock is the chip's. Assumes nothing.
use Prim.Native.Nat.{ℕ}
use mathlib.Core.Path.{◌≡◌, refl}
use mathlib.Core.Bool.{true}
use mathlib.Core.List.{List}
use Rattle.chip_frame.specs.Frame.{frame_due}
use Rattle.chip.specs.Clock.{timers_clocked, reader_clocked, framed, chip_clock}
use Rattle.chip.specs.declared.State.{State}
use Rattle.run_plain.specs.Calm.{is_calm, calm_clock}

pub calm_clock_lem : (memory : List ℕ) (s : State) → is_calm s ≡ true → calm_clock memory s ≡ chip_clock memory s
unfolding is_calm calm_clock timers_clocked reader_clocked framed frame_due chip_clock
calm_clock_lem memory s e = rw e refl
