-- Helper: nobody has to believe this; the sample under way between two records of a run, in numbers that take no division.
use Rattle.std.specs.Prelude.{ℕ, ◌+◌, ◌-◌, ◌*◌, ◌/◌, ◌%◌, ◌≤◌, ◌<◌, ◌≡◌, Bool, true, List, ltb, replicate}
use Rattle.arith.specs.Pick.{pick}
use Rattle.clock_rate.specs.Rate.{clock_rate}
use Rattle.wav_sample.specs.declared.Sampler.{Sampler}
use Rattle.wav_sample.specs.Samples.{rate_right, clocks_before, clocks_of}
use Rattle.wav_sample.specs.Sampler.{sampler_of, sampler_after}
use Rattle.wav_sample.specs.Closed.{over_before}
use Rattle.play_samples.specs.declared.Pace.{Pace}
use Rattle.play_samples.specs.declared.Pen.{Pen}
use Rattle.play_samples.specs.declared.Written.{Written}
use Rattle.play_samples.specs.Writing.{Fit, size_of, Writes}

abbrev pub pace_of : Bool → ℕ → Pace
pace_of pal rate =
    record {
      pal = pal;
      rate = rate;
      quotient = clock_rate pal / rate;
      remainder = clock_rate pal % rate;
      lack = rate - clock_rate pal % rate;
    }

abbrev pub pen_of : ℕ → ℕ → ℕ → ℕ → ℕ → Pen
pen_of place left whole sum part = record { place = place; left = left; whole = whole; sum = sum; part = part }

-- at a sample's beginning
abbrev pub pen_fresh : ℕ → ℕ → ℕ → Pen
pen_fresh place whole part = pen_of place whole whole 0 part

-- at the beginning of the sample behind one by whose end so much is left over
unfoldable pub pen_next : Pace → ℕ → ℕ → Pen
pen_next c place part =
    pick (ltb part c.lack) (pen_fresh place c.quotient (part + c.remainder)) (pen_fresh place (c.quotient + 1) (part - c.lack))

-- some clocks of a level further in the sample under way
abbrev pub pen_within : ℕ → ℕ → Pen → Pen
pen_within v k p = pen_of p.place (p.left - k) p.whole (p.sum + v * k) p.part

-- the sample under way, made whole by one level
abbrev pub pen_mean : ℕ → Pen → ℕ
pen_mean v p = (p.sum + v * p.left) / p.whole

-- what is written from a place on by a pen, so many clocks behind a sampler
abbrev pub written_by : Sampler → ℕ → Pen → ℕ → Written
written_by a at p done = record { place = p.place; sampler = sampler_of (a.clock + done) (a.sample + (p.place - at) / 2) p.sum }

-- the numbers that code asks for
pub record Slow (c : Pace) : Type 0 where
  pub quotient : c.quotient ≤ 223
  pub rate : c.remainder + c.lack ≤ 192000

pub record Bounded (p : Pen) : Type 0 where
  pub some : 0 < p.whole
  pub short : p.whole ≤ 224
  pub under : p.left ≤ p.whole
  pub total : p.sum ≤ 65535 * (p.whole - p.left)

pub record Fresh (p : Pen) : Type 0 where
  pub all : p.left ≡ p.whole
  pub none : p.sum ≡ 0

-- the pace of a machine at a rate
pub record Paced (c : Pace) : Type 0 where
  pub right : rate_right c.rate ≡ true
  pub quotient : c.quotient ≡ clock_rate c.pal / c.rate
  pub remainder : c.remainder ≡ clock_rate c.pal % c.rate
  pub lack : c.lack ≡ c.rate - clock_rate c.pal % c.rate

-- A PEN AT A SAMPLER
pub record PenAt (c : Pace) (a : Sampler) (p : Pen) : Type 0 where
  pub left : p.left ≡ clocks_before c.pal c.rate (a.sample + 1) - a.clock
  pub whole : p.whole ≡ clocks_of c.pal c.rate a.sample
  pub sum : p.sum ≡ a.sum
  pub part : p.part ≡ over_before c.pal c.rate (a.sample + 1)

-- one that so many clocks may be fed
pub record Holding (c : Pace) (a : Sampler) (p : Pen) (clocks : ℕ) : Type 0 where
  pub paced : Paced c
  pub fit : Fit c.pal c.rate a clocks
  pub pen : PenAt c a p

-- one for whose samples of a level there is room
pub record Roomy (c : Pace) (p : Pen) (v clocks size : ℕ) : Type 0 where
  pub sampler : Sampler
  pub holding : Holding c sampler p clocks
  pub room : p.place + size_of c.pal c.rate sampler (replicate clocks v) ≤ size

-- LEVELS HEARD at a pen: their samples written from its place on, and the pen behind them
pub record Drawn (c : Pace) (before : List ℕ) (p : Pen) (a : Sampler) (levels after : List ℕ) (r : Pen) : Type 0 where
  pub writes : Writes c.pal c.rate before p.place a levels after r.place (sampler_after c.pal c.rate a levels)
  pub pen : PenAt c (sampler_after c.pal c.rate a levels) r

-- a level held at it, whatever sampler it is at
pub record Draws (c : Pace) (before : List ℕ) (p : Pen) (v clocks : ℕ) (after : List ℕ) (r : Pen) : Type 0 where
  pub drawn : (a : Sampler) → Holding c a p clocks → Drawn c before p a (replicate clocks v) after r
