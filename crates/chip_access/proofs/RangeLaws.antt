-- Register writes and the status read keep a state's range. Assumes nothing.
use Prim.Native.Nat.{ℕ, ◌≤◌}
use lib.Dec.{eqb}
use Rattle.arith.specs.Bit.{bit_set}
use Rattle.arith.proofs.PickLaws.{pick_both}
use Rattle.chip_square.proofs.RangeLaws.{square_enabled_lem, square_written}
use Rattle.chip_triangle.proofs.RangeLaws.{triangle_enabled_lem, triangle_written}
use Rattle.chip_noise.proofs.RangeLaws.{noise_enabled_kept, noise_write_kept}
use Rattle.chip_dmc.proofs.RangeLaws.{dmc_enabled_kept, dmc_write_kept}
use Rattle.chip_frame.proofs.RangeLaws.{frame_written_lem, frame_read_lem}
use Rattle.chip_tables.specs.Table.{frame_times}
use Rattle.chip.specs.declared.State.{State}
use Rattle.chip.proofs.RangeLaws.{StateRanged, frame_put, step_kept}
use Rattle.chip_access.specs.Status.{status_read}
use Rattle.chip_access.specs.Write.{enables_written, sequencer_written, control_written, channel_written, register_written}

module _ (value : ℕ) (byte : value ≤ 255) (s : State) (h : StateRanged s) where
  enables_kept : StateRanged (enables_written value s)
  unfolding enables_written
  enables_kept =
      record {
        square1 = square_enabled_lem (bit_set value 0) s.square1 h.square1;
        square2 = square_enabled_lem (bit_set value 1) s.square2 h.square2;
        triangle = triangle_enabled_lem (bit_set value 2) s.triangle h.triangle;
        noise = noise_enabled_kept (bit_set value 3) s.noise h.noise;
        dmc = dmc_enabled_kept (bit_set value 4) s.dmc h.dmc;
        frame = h.frame;
      }

  sequencer_kept : StateRanged (sequencer_written value s)
  unfolding sequencer_written
  sequencer_kept =
      let m = frame_put s h (frame_written_lem (frame_times s.pal) value s.frame) in
      pick_both StateRanged (bit_set value 7) (step_kept 1 _ m) m

  channel_kept : (channel place : ℕ) → StateRanged (channel_written channel place value s)
  unfolding channel_written control_written
  channel_kept channel place =
      pick_both StateRanged (eqb channel 0)
      (record { square1 = square_written value byte s.square1 h.square1 place; square2 = h.square2; triangle = h.triangle; noise = h.noise; dmc = h.dmc; frame = h.frame })
      (pick_both StateRanged (eqb channel 1)
      (record { square1 = h.square1; square2 = square_written value byte s.square2 h.square2 place; triangle = h.triangle; noise = h.noise; dmc = h.dmc; frame = h.frame })
      (pick_both StateRanged (eqb channel 2)
      (record { square1 = h.square1; square2 = h.square2; triangle = triangle_written value byte s.triangle h.triangle place; noise = h.noise; dmc = h.dmc; frame = h.frame })
      (pick_both StateRanged (eqb channel 3)
      (record { square1 = h.square1; square2 = h.square2; triangle = h.triangle; noise = noise_write_kept place value s.noise byte h.noise; dmc = h.dmc; frame = h.frame })
      (pick_both StateRanged (eqb channel 4)
      (record { square1 = h.square1; square2 = h.square2; triangle = h.triangle; noise = h.noise; dmc = dmc_write_kept place value s.dmc byte h.dmc; frame = h.frame })
      (pick_both StateRanged (eqb place 1) enables_kept sequencer_kept)))))

  -- A WRITE KEEPS THE RANGE
  pub write_kept : (register : ℕ) → StateRanged (register_written register value s)
  unfolding register_written
  write_kept register = channel_kept _ _

-- A STATUS READ KEEPS THE RANGE
pub read_kept : (s : State) → StateRanged s → StateRanged (status_read s)
unfolding status_read
read_kept s h = frame_put s h (frame_read_lem (frame_times s.pal) s.frame h.frame)
