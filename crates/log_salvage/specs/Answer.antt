-- What `salvage` answers, and what stands in the lent bytes and words afterwards.
use Rattle.std.specs.Prelude.{ℕ, ◌/◌, List, length, eqb, ltb}
use Rattle.arith.specs.Over.{over}
use Rattle.arith.specs.Pick.{pick, either}
use Rattle.log_rules.specs.Whole.{heavy}
use Rattle.log_salvage_rules.specs.Entries.{list_words}
use Rattle.log_salvage_rules.specs.Mending.{mended, mended_tree}
use Rattle.log_salvage.specs.declared.Salvaged.{Salvaged}

-- "Refusals, at 0: 5, then 9 if the repaired log is over those totals, then 30 if it is longer than the buffer or 60,000 bytes, then 31 if the list has no
-- room": for a buffer of so many bytes and a list of so many words, two an entry; else 0
unfoldable pub number_of : List ℕ → ℕ → ℕ → ℕ
number_of log bytes words =
    pick (ltb 60000 (length log)) 5
    (pick (heavy (mended_tree log)) 9
    (pick (either (ltb bytes (length (mended log).new)) (ltb 60000 (length (mended log).new))) 30
    (pick (ltb (words / 2) (length (mended log).list)) 31
    0)))

-- "Here and from now on the answer gives the length of each log or list it writes, in bytes or entries"; refused, 0
abbrev pub salvage_refusal : ℕ → Salvaged
salvage_refusal k = record { number = k; place = 0; length = 0; entries = 0 }

abbrev pub salvage_done : List ℕ → Salvaged
salvage_done log = record { number = 0; place = 0; length = length (mended log).new; entries = length (mended log).list }

unfoldable pub salvage_of : List ℕ → ℕ → ℕ → Salvaged
salvage_of log bytes words = pick (eqb (number_of log bytes words) 0) (salvage_done log) (salvage_refusal (number_of log bytes words))

-- "Write a repaired log to a second buffer" and the list; refused, "neither buffer is touched"

unfoldable pub salvage_text : List ℕ → List ℕ → ℕ → List ℕ
salvage_text log out words = pick (eqb (number_of log (length out) words) 0) (over (mended log).new out) out

unfoldable pub salvage_list : List ℕ → ℕ → List ℕ → List ℕ
salvage_list log bytes list = pick (eqb (number_of log bytes (length list)) 0) (over (list_words (mended log).list) list) list
