-- Request 13: "Show, for any state in range and two writes to $4000..$4013 that belong to different channels and stand one right after the other, that
-- either order ends in the same state and level, and that every run after it gives the same from the same memory, table, room and count. Where
-- another access stands between them nothing is claimed."
use Rattle.std.specs.Prelude.{ℕ, ◌≤◌, ◌≡◌, true, List}
use Rattle.bus.specs.declared.Access.{Access}
use Rattle.bus.specs.declared.Access.TheVariants.{Write}
use Rattle.chip.specs.Range.{in_range, Bytes}
use Rattle.chip.specs.declared.State.{State}
use Rattle.chip_access.specs.Write.{channel_of}
use Rattle.chip_api.specs.Answer.{access_answer}
use Rattle.chip_api.specs.declared.Answered.{Answered}
use Rattle.run_answer.specs.Run.{room_of}
use Rattle.run_dwell.specs.Dwell.{run_answer, run_lent}
use Rattle.run_lists.specs.Lists.{Request, words_written, run_all, asked, Share, Alike}

-- "two writes to $4000..$4013 that belong to different channels", four registers a channel: $4009 is the triangle's, $400D the noise's
pub record Apart (register register' : ℕ) : Type 0 where
  pub low : 0x4000 ≤ register
  pub high : register ≤ 0x4013
  pub low' : 0x4000 ≤ register'
  pub high' : register' ≤ 0x4013
  pub channels : channel_of register ≡ channel_of register' → ⊥

-- "every run after it gives the same": from s and from s'
pub record SameRuns (s s' : State) : Type 0 where
  -- "from the same memory, table, room and count" a run, leaping or not, answers the same, its table too, and writes the same records;
  pub answers : (memory counts : List ℕ) (count : ℕ) (words words' : List ℕ) → room_of words ≡ room_of words'
      → run_answer memory s counts count words ≡ run_answer memory s' counts count words'
  pub records : (memory counts : List ℕ) (count : ℕ) (words words' : List ℕ) → room_of words ≡ room_of words'
      → words_written (run_answer memory s counts count words).ran (run_lent memory s counts count words)
      ≡ words_written (run_answer memory s' counts count words').ran (run_lent memory s' counts count words')
  -- of the same words it leaves the same;
  pub words : (memory counts : List ℕ) (count : ℕ) (words : List ℕ) → run_lent memory s counts count words ≡ run_lent memory s' counts count words
  -- so does every list of runs, refused ones included, from the same first table;
  pub lists : (requests : List Request) (counts words : List ℕ) → run_all requests s counts words ≡ run_all requests s' counts words
  -- and two lists that are alike in memory, first table, room and clocks asked for in all end alike
  pub alike : (memory : List ℕ) → Bytes memory → (requests requests' : List Request) (counts : List ℕ) → Share memory counts requests → Share memory counts requests'
      → (words words' : List ℕ) → room_of words ≡ room_of words' → asked counts requests ≡ asked counts requests'
      → Alike (run_all requests s counts words) (run_all requests' s' counts words')

-- an access and another right after it: what the second one answers
abbrev pub followed : Access → Access → State → Answered
followed x y s = access_answer y (access_answer x s).state

-- "either order ends in the same state and level": all four accesses are done, and the second ones answer alike. Only `differs` is left out: it asks
-- of the level right before its own access, which goes by the order.
pub record EitherOrder (x y : Access) (s : State) : Type 0 where
  pub first : (access_answer x s).number ≡ 0
  pub first' : (access_answer y s).number ≡ 0
  pub second : (followed x y s).number ≡ 0
  pub second' : (followed y x s).number ≡ 0
  pub state : (followed x y s).state ≡ (followed y x s).state
  pub level : (followed x y s).level ≡ (followed y x s).level
  pub byte : (followed x y s).byte ≡ (followed y x s).byte
  pub runs : SameRuns (followed x y s).state (followed y x s).state

-- REQUEST 13; a value that is written is a byte
abbrev pub WritesSwap : Type 0
WritesSwap =
    (register register' value value' : ℕ) → Apart register register' → value ≤ 255 → value' ≤ 255 → (s : State) → in_range s ≡ true
    → EitherOrder (Write register value) (Write register' value') s
