-- Logs at the boundary: the check, the totals, item k and a loop's body, each answer in one number. A refusal has its place, and value 0.
use Rattle.std.specs.Prelude.{ℕ, ◌+◌, ◌*◌, ◌^◌, List, [], ◌∷◌, Bool, length, eqb, Result}
use Rattle.refusal.specs.declared.Refusal.{Refusal}
use Rattle.arith.specs.Pick.{pick}
use Rattle.bus.specs.declared.Access.{Access}
use Rattle.bus.specs.declared.Access.TheVariants.{Write, Read}
use Rattle.log_line.specs.declared.Act.{Act}
use Rattle.log_line.specs.declared.Act.TheVariants.{Wait}
use Rattle.log_rules.specs.Lines.{next_line}
use Rattle.log_rules.specs.Whole.{check_of}
use Rattle.log_item.specs.Items.{item_number, item_place, item_acts, item_of}
use Rattle.log_body.specs.Bodies.{body_check_of, body_of}

-- "number + 2^8 x place + 2^32 x value"
abbrev pub log_packed : ℕ → ℕ → ℕ → ℕ
log_packed number place value = number + 2 ^ 8 * place + 2 ^ 32 * value

-- the check: its value is the clocks in all + 2^31 x the machine, 0 for NTSC and 1 for PAL
abbrev pub check_value : ℕ → Bool → ℕ
check_value clocks pal = clocks + 2 ^ 31 * pick pal 1 0

abbrev pub check_packed : List ℕ → ℕ
check_packed log = log_packed (check_of log).number (check_of log).place (check_value (check_of log).clocks (check_of log).pal)

-- the same with the turns in all, and with the items in all: the waits, writes and reads that the log stands for
abbrev pub turns_packed : List ℕ → ℕ
turns_packed log = log_packed (check_of log).number (check_of log).place (check_of log).turns

abbrev pub items_packed : List ℕ → ℕ
items_packed log = log_packed (check_of log).number (check_of log).place (check_of log).items

-- "kind x 2^24 + what it holds": 1, a wait and its clocks; 2, a write, its register and its value; 3, a read
abbrev pub access_value : Access → ℕ
access_value (Write register value) = 2 * 2 ^ 24 + 256 * register + value
access_value Read = 3 * 2 ^ 24

abbrev pub act_value : Act → ℕ
act_value (Wait n) = 1 * 2 ^ 24 + n
act_value (Act.Access x) = access_value x

-- 0 where there is no act
abbrev pub acts_value : List Act → ℕ
acts_value [] = 0
acts_value (a ∷ l) = act_value a

abbrev pub found_packed : Result Act Refusal → ℕ
found_packed f = log_packed (item_number f) (item_place f) (acts_value (item_acts f))

-- item k
abbrev pub item_packed : List ℕ → ℕ → ℕ
item_packed log k = found_packed (item_of log k)

-- a loop's body: "where they start + 2^16 x how many they are", the first byte being the one behind the loop line
unfoldable pub body_value : List ℕ → ℕ → ℕ
body_value log offset =
    pick (eqb (body_check_of log offset).number 0) (next_line log offset + 2 ^ 16 * length (body_of log offset)) 0

abbrev pub body_packed : List ℕ → ℕ → ℕ
body_packed log offset = log_packed (body_check_of log offset).number (body_check_of log offset).place (body_value log offset)
