-- Document 01, "Units", and requests 8 and 9: by machine the period tables of the noise and the DMC, their largest periods, and the times of the
-- frame's steps. A machine is NTSC (false) or PAL (true).
use Rattle.std.specs.Prelude.{ℕ, ◌%◌, Bool, List, [], ◌∷◌, get_or}
use Rattle.arith.specs.Pick.{pick}
use Rattle.chip_frame.specs.declared.Times.{Times}

-- "Periods 4,8,16,32,64,96,128,160,202,254,380,508,762,1016,2034,4068."
abbrev pub noise_ntsc : List ℕ
noise_ntsc = 4 ∷ 8 ∷ 16 ∷ 32 ∷ 64 ∷ 96 ∷ 128 ∷ 160 ∷ 202 ∷ 254 ∷ 380 ∷ 508 ∷ 762 ∷ 1016 ∷ 2034 ∷ 4068 ∷ []

-- "PAL has noise periods 4,8,14,30,60,88,118,148,188,236,354,472,708,944,1890,3778"
abbrev pub noise_pal : List ℕ
noise_pal = 4 ∷ 8 ∷ 14 ∷ 30 ∷ 60 ∷ 88 ∷ 118 ∷ 148 ∷ 188 ∷ 236 ∷ 354 ∷ 472 ∷ 708 ∷ 944 ∷ 1890 ∷ 3778 ∷ []

-- "Periods 428,380,340,320,286,254,226,214,190,160,142,128,106,84,72,54."
abbrev pub dmc_ntsc : List ℕ
dmc_ntsc = 428 ∷ 380 ∷ 340 ∷ 320 ∷ 286 ∷ 254 ∷ 226 ∷ 214 ∷ 190 ∷ 160 ∷ 142 ∷ 128 ∷ 106 ∷ 84 ∷ 72 ∷ 54 ∷ []

-- "DMC periods 398,354,316,298,276,236,210,198,176,148,132,118,98,78,66,50"
abbrev pub dmc_pal : List ℕ
dmc_pal = 398 ∷ 354 ∷ 316 ∷ 298 ∷ 276 ∷ 236 ∷ 210 ∷ 198 ∷ 176 ∷ 148 ∷ 132 ∷ 118 ∷ 98 ∷ 78 ∷ 66 ∷ 50 ∷ []

-- the period at an index (an index is 0..15; any other number is taken by its remainder)
unfoldable pub noise_period : Bool → ℕ → ℕ
noise_period pal index = get_or (pick pal noise_pal noise_ntsc) (index % 16) 0

unfoldable pub dmc_period : Bool → ℕ → ℕ
dmc_period pal index = get_or (pick pal dmc_pal dmc_ntsc) (index % 16) 0

-- "timer .. ranges follow each machine's largest period"
abbrev pub noise_top : Bool → ℕ
noise_top pal = pick pal 3778 4068

abbrev pub dmc_top : Bool → ℕ
dmc_top pal = pick pal 398 428

-- "7457, 14913, 22371 and 29829, then from the start again at 29830; in the five-step mode 7457, 14913, 22371, 29829 and 37281, again from the start at
-- 37282"
abbrev pub times_ntsc : Times
times_ntsc = record { first = 7457; second = 14913; third = 22371; fourth = 29829; fifth = 37281 }

-- "frame steps at 8313, 16627, 24939 and 33253 (with the flag), again from the start at 33254; in mode 1 at 8313, 16627, 24939, 33253 and 41565, again
-- from the start at 41566"
abbrev pub times_pal : Times
times_pal = record { first = 8313; second = 16627; third = 24939; fourth = 33253; fifth = 41565 }

abbrev pub frame_times : Bool → Times
frame_times pal = pick pal times_pal times_ntsc
