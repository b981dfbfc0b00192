-- A damaged log repaired, at the boundary: its answer in one number.
use Rattle.std.specs.Prelude.{ℕ, ◌+◌, ◌*◌, ◌^◌, List}
use Rattle.log_salvage.specs.declared.Salvaged.{Salvaged}
use Rattle.log_salvage.specs.Answer.{salvage_of}
use Rattle.c_log.specs.Logs.{log_packed}

-- "number + 2^8 x place + 2^32 x value": the value is the repaired log's length + 2^16 x the list's entries
abbrev pub packed_of : Salvaged → ℕ
packed_of a = log_packed a.number a.place (a.length + 2 ^ 16 * a.entries)

-- with a text of so many bytes and a list of so many words
abbrev pub salvage_packed : List ℕ → ℕ → ℕ → ℕ
salvage_packed log bytes words = packed_of (salvage_of log bytes words)
