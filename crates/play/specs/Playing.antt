-- What a call of `play_on` promises, for any player and any bytes.
use Rattle.std.specs.Prelude.{ℕ, ◌≤◌, ◌<◌, ◌≡◌, ◌⊎◌, Bool, true, false, List, [], length, take, drop}
use Rattle.reading.specs.Saying.{over, refused}
use Rattle.chip.specs.Range.{in_range}
use Rattle.chip_api.specs.Answer.{is_memory}
use Rattle.play_text.specs.Entries.{entries_text}
use Rattle.play_text.specs.declared.Entry.{Entry}
use Rattle.play_rules.specs.Turns.{turn_of, Goes}
use Rattle.play_rules.specs.declared.Player.{Player}
use Rattle.play.specs.declared.Played.{Played}

-- WHAT A CALL OF `play_on` WRITES. How full a piece gets is left free: `entries` are its lines, `turns` how far the player went.
pub record Piece (log memory : List ℕ) (p : Player) (before after : List ℕ) (r : Played) : Type 0 where
  pub entries : List Entry
  pub turns : ℕ
  -- whole lines, and the bytes behind them stay
  pub fits : r.length ≤ length before
  pub piece : take r.length after ≡ entries_text entries
  pub rest : drop r.length after ≡ drop r.length before
  -- the player went on by just these lines, and is over where it says so
  pub went : Goes (turn_of log memory) p entries turns r.player
  pub over : r.over ≡ true → (turn_of log memory r.player).said ≡ over
  -- a state in range stays in range
  pub fine : in_range r.player.state ≡ true
  -- nothing is written only to a buffer of less than 23 bytes, and then the player comes back as it was; or where it is over; or behind
  -- 4,000,010 turns in a row that say nothing, of which a log that passes has none
  pub gets : entries ≡ [] → r.over ≡ false → ((length before < 23) × (r.player ≡ p)) ⊎ (4000010 ≤ turns)

-- a call that is refused: the player as it came, nothing written
pub record Untouched (p : Player) (number place : ℕ) (before after : List ℕ) (r : Played) : Type 0 where
  pub answer : r ≡ record { number = number; place = place; player = p; length = 0; over = false }
  pub stays : after ≡ before

-- a line of the log, or a wait, that the player comes to before it says anything is refused
pub record Halted (log memory : List ℕ) (p : Player) (number place : ℕ) : Type 0 where
  pub turns : ℕ
  pub at : Player
  pub went : Goes (turn_of log memory) p [] turns at
  pub refuses : (turn_of log memory at).said ≡ refused number place

-- with the memory and the state right: lines, or what the player comes to
abbrev pub Answered : List ℕ → List ℕ → Player → List ℕ → List ℕ → Played → Type 0
Answered log memory p before after r =
    ((r.number ≡ 0) × (r.place ≡ 0) × Piece log memory p before after r)
    ⊎ (Halted log memory p r.number r.place × Untouched p r.number r.place before after r)

-- the one or the other
abbrev pub Where : Bool → Type 0 → Type 0 → Type 0
Where true a b = a
Where false a b = b

-- WHAT `play_on` PROMISES: 1, then 2, then what the player comes to
unfoldable pub PlayedOn : List ℕ → List ℕ → Player → List ℕ → List ℕ → Played → Type 0
PlayedOn log memory p before after r =
    Where (is_memory memory)
    (Where (in_range p.state) (Answered log memory p before after r) (Untouched p 2 0 before after r))
    (Untouched p 1 0 before after r)
