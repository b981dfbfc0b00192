-- Sound from levels, one level for each clock. "Sample n (from 0) stands for the clocks floor(n x f / RATE) + 1 to floor((n + 1) x f / RATE), f = 1,789,773 or
-- on a PAL machine 1,662,607: its value is the floor of the mean of the levels after these clocks."
use Rattle.std.specs.Prelude.{ℕ, zero, suc, ◌+◌, ◌-◌, ◌*◌, ◌/◌, Bool, List, [], ◌∷◌, leb, length, take, drop, replicate}
use Rattle.arith.specs.Pick.{pick, both}
use Rattle.reading.specs.Counting.{sum}
use Rattle.clock_rate.specs.Rate.{clock_rate}

-- "RATE 8000 to 192000"
unfoldable pub rate_right : ℕ → Bool
rate_right rate = both (leb 8000 rate) (leb rate 192000)

-- the clocks before sample n, and its own
unfoldable pub clocks_before : Bool → ℕ → ℕ → ℕ
clocks_before pal rate n = n * clock_rate pal / rate

unfoldable pub clocks_of : Bool → ℕ → ℕ → ℕ
clocks_of pal rate n = clocks_before pal rate (n + 1) - clocks_before pal rate n

-- SAMPLE n
unfoldable pub sample_of : Bool → ℕ → List ℕ → ℕ → ℕ
sample_of pal rate levels n = sum (take (clocks_of pal rate n) (drop (clocks_before pal rate n) levels)) / clocks_of pal rate n

-- the samples from n on, k at most: "those n with floor((n + 1) x f / RATE) at most the log's clocks in all"
unfoldable pub samples_from : Bool → ℕ → List ℕ → ℕ → ℕ → List ℕ
samples_from pal rate levels zero n = []
samples_from pal rate levels (suc k) n =
    pick (leb (clocks_before pal rate (n + 1)) (length levels)) (sample_of pal rate levels n ∷ samples_from pal rate levels k (n + 1)) []

-- ALL SAMPLES; there are no more than clocks
unfoldable pub samples_of : Bool → ℕ → List ℕ → List ℕ
samples_of pal rate levels = samples_from pal rate levels (length levels) 0

-- HOW MANY samples so many clocks have, whatever the levels; none at a rate that is not right
unfoldable pub samples_in : Bool → ℕ → ℕ → ℕ
samples_in pal rate clocks = pick (rate_right rate) (length (samples_of pal rate (replicate clocks 0))) 0
