-- Document 01, "Units": the length.
use Rattle.std.specs.Prelude.{ℕ, ◌-◌, ◌/◌, Bool, true, false, List, [], ◌∷◌, get_or, leb, eqb}
use Rattle.arith.specs.Pick.{pick, both}
use Rattle.chip_length.specs.declared.Length.{Length}

abbrev pub lengths : List ℕ
lengths =
    10 ∷ 254 ∷ 20 ∷ 2 ∷ 40 ∷ 4 ∷ 80 ∷ 6 ∷ 160 ∷ 8 ∷ 60 ∷ 10 ∷ 14 ∷ 12 ∷ 26 ∷ 14
    ∷ 12 ∷ 16 ∷ 24 ∷ 18 ∷ 48 ∷ 20 ∷ 96 ∷ 22 ∷ 192 ∷ 24 ∷ 72 ∷ 26 ∷ 16 ∷ 28 ∷ 32 ∷ 30 ∷ []

abbrev pub length_of : ℕ → ℕ
length_of value = get_or lengths (value / 8) 0

-- "Writing a channel's fourth register, if enabled, loads by value divided by 8"
unfoldable pub length_loaded : ℕ → Length → Length
length_loaded value l = record { count = pick l.enabled (length_of value) l.count; enabled = l.enabled }

-- "Clocked: falls by one if not halted and not 0."
unfoldable pub length_clock : Bool → Length → Length
length_clock halt l = record { count = pick halt l.count (l.count - 1); enabled = l.enabled }

-- "A write [to $4015] sets the four enables, a cleared one zeroing its length"
unfoldable pub length_enabled : Bool → Length → Length
length_enabled on l = record { count = pick on l.count 0; enabled = on }

-- "length 0..254"; "A channel that isn't enabled has length 0."
unfoldable pub length_in : Length → Bool
length_in l = both (leb l.count 254) (pick l.enabled true (eqb l.count 0))

-- at power-on
abbrev pub length_on : Length
length_on = record { count = 0; enabled = false }
