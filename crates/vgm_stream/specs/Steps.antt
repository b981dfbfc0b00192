-- What is asked of a step of the stream.
use Rattle.std.specs.Prelude.{ℕ, [], Bool, true, false}
use Rattle.vgm_stream.specs.declared.Await.{Await}
use Rattle.vgm_stream.specs.declared.Await.TheVariants.{Command}
use Rattle.vgm_stream.specs.declared.Step.{Step}
use Rattle.vgm_stream.specs.declared.Step.TheVariants.{End, Fault, Next, Says}
use Rattle.vgm_stream.specs.Stream.{Stream, ended, refused}

-- a step that goes on no more, and what it leaves; and what is awaited behind one that does
unfoldable pub stops_at : Step → Bool
stops_at End = true
stops_at (Fault k) = true
stops_at (Next w) = false
stops_at (Says s) = false

unfoldable pub stopped_at : Step → ℕ → Stream
stopped_at End at = ended []
stopped_at (Fault k) at = refused k at
stopped_at (Next w) at = ended []
stopped_at (Says s) at = ended []

unfoldable pub awaited : Step → Await
awaited End = Command
awaited (Fault k) = Command
awaited (Next w) = w
awaited (Says s) = Command
