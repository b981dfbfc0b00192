-- Where a fault is said to be. Request 2: "The place becomes the first byte that can't belong to any right line allowed there with that beginning; for a range
-- fault (a decimal of right shape, too small or too large) it is the value's first digit." Proved in proofs/FaultLaws, RangeLaws and RangeBack.
use Rattle.std.specs.Prelude.{ℕ, suc, ◌-◌, ◌≤◌, ◌<◌, ◌≡◌, true, List, ◌⊎◌, length, get_or, take, drop, Some, Err}
use Rattle.refusal.specs.Refusal.{refusal}
use Rattle.text.specs.Ascii.{bytes}
use Rattle.text.specs.Key.{starts_with}
use Rattle.text.specs.Decimal.{decimal}
use Rattle.log_begins.specs.declared.Keys.{Keys}
use Rattle.log_begins.specs.Counts.{unfed}
use Rattle.log_begins.specs.Fronts.{Fronts}
use Rattle.log_fault.specs.declared.Stand.{Stand}
use Rattle.log_fault.specs.Allowed.{keys_of}
use Rattle.log_fault.specs.Fault.{spot_of}

-- byte i is the first with which no right line allowed there begins
pub record FirstByte (k : Keys) (s : List ℕ) (i : ℕ) : Type 0 where
  pub inside : i < length s
  pub begun : (j : ℕ) → j ≤ i → Fronts k (take j s)
  pub ends : Fronts k (take (suc i) s) → ⊥

-- 14 AND 15 ARE AT THAT BYTE
abbrev pub FirstFault : Type 0
FirstFault = (st : Stand) (s : List ℕ) (n i : ℕ) → spot_of st s ≡ Err (refusal n i) → (n ≡ 14) ⊎ (n ≡ 15) → FirstByte (keys_of st) s i

-- 17, NO LINE FEED: all bytes begin an allowed right line, and the line feed is missing
pub record FeedMissing (k : Keys) (s : List ℕ) (i : ℕ) : Type 0 where
  pub place : i ≡ length s
  pub begun : Fronts k s
  pub unfed : get_or s (length s - 1) 0 ≡ 10 → ⊥

-- exactly then
abbrev pub FeedFault : Type 0
FeedFault =
    (st : Stand) (s : List ℕ) (i : ℕ)
    → (spot_of st s ≡ Err (refusal 17 i) → FeedMissing (keys_of st) s i) × (FeedMissing (keys_of st) s i → spot_of st s ≡ Err (refusal 17 i))

-- 16, A NUMBER OUTSIDE ITS RANGE

-- which number, and which range it is outside of
pub data Outside (k : Keys) (s : List ℕ) (n : ℕ) : Type 0 where
  waits : starts_with (bytes "wait=") s ≡ true → k.acts ≡ true → (1 ≤ n → n ≤ 1000000 → ⊥) → Outside k s n
  loops : starts_with (bytes "loop=") s ≡ true → k.loops ≡ true → (2 ≤ n → n ≤ 255 → ⊥) → Outside k s n
  stops : starts_with (bytes "stop=") s ≡ true → k.stop ≡ true → (n ≤ 2000000000 → ⊥) → Outside k s n

pub record OutOfRange (k : Keys) (s : List ℕ) (i : ℕ) : Type 0 where
  -- "the value's first digit": each key that takes a decimal has five bytes
  pub place : i ≡ 5
  pub value : ℕ
  pub says : decimal (unfed (drop 5 s)) ≡ Some value
  pub outside : Outside k s value
  -- "If the log ends where what stands could still begin such a line, the line feed is missing": `loop=1` at the log's end has 17
  pub stuck : FeedMissing k s (length s) → ⊥

-- exactly then
abbrev pub RangeFault : Type 0
RangeFault =
    (st : Stand) (s : List ℕ) (i : ℕ)
    → (spot_of st s ≡ Err (refusal 16 i) → OutOfRange (keys_of st) s i) × (OutOfRange (keys_of st) s i → spot_of st s ≡ Err (refusal 16 i))
