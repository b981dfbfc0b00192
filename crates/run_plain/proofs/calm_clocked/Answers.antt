use Rattle.chip_dmc.specs.Clock.{dmc_read}
use Rattle.run_plain.specs.Calm.{calm_clock}
use Rattle.run_plain.proofs.calm_clocked.Goals as goal

pub returns : goal.returns
unfolding calm_clock dmc_read
returns c =
    simp (
      c.moved-c.ensures,
      c.timed-c-4.ensures,
      c.timed-c-3.ensures,
      c.timed-c-2.ensures,
      c.timed-c.ensures,
      c.clocked-dmc.ensures,
      c.timed-timed.ensures,
      c.frame_times-times.ensures,
      c.dmc_period-dmc_period.ensures,
      c.noise_period-noise_period.ensures,
    )
