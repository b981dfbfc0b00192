-- What `perch interrupts` writes about a log.
use Rattle.std.specs.Prelude.{ℕ, zero, suc, Bool, true, false, List, [], ◌∷◌, ◌++◌, eqb}
use Rattle.arith.specs.Pick.{pick}
use Rattle.text.specs.Ascii.{bytes}
use Rattle.text_lines.specs.Lines.{keyed_line, pair_line, refused_line}
use Rattle.recording.specs.Whole.{machine_of}
use Rattle.log_rules.specs.Tree.{acts, clocks}
use Rattle.recording.specs.Whole.{tree_of}
use Rattle.chip.specs.Range.{power_on}
use Rattle.play_begin.specs.Whole.{play_number, play_place}
use Rattle.play_interrupts.specs.declared.Change.{Change}
use Rattle.play_interrupts.specs.declared.Place.{Place}
use Rattle.play_interrupts.specs.declared.Next.{Next}
use Rattle.play_interrupts.specs.Changes.{same, changes_from}
use Rattle.play_interrupts.specs.Stepping.{step_of, next_of}

-- `KEYCLOCK:1` where a flag was set, `KEYCLOCK:0` where it was cleared, nothing where it stayed
unfoldable pub flag_line : List ℕ → ℕ → Bool → Bool → List ℕ
flag_line key t before after = pick (same before after) [] (pair_line key t (pick after 1 0))

-- a change's lines: "at one time frame, then dmc, then line"
unfoldable pub change_text : Change → List ℕ
change_text c =
    flag_line (bytes "frame=") c.time c.before.frame c.after.frame
    ++ (flag_line (bytes "dmc=") c.time c.before.dmc c.after.dmc
    ++ flag_line (bytes "line=") c.time c.before.line c.after.line)

unfoldable pub changes_text : List Change → List ℕ
changes_text [] = []
changes_text (c ∷ l) = change_text c ++ changes_text l

-- `stop=CLOCKS`
abbrev pub stop_line : ℕ → List ℕ
stop_line t = keyed_line (bytes "stop=") t

-- the first line
abbrev pub head_text : List ℕ
head_text = bytes "interrupts=1\n"

-- THE TEXT for a log and a sample memory, on the log's machine; refused as the player. Each of its lines ends in one line feed
unfoldable pub interrupts_text : List ℕ → List ℕ → List ℕ
interrupts_text log memory =
    head_text
    ++ pick (eqb (play_number log memory) 0)
    (changes_text (changes_from memory (acts (tree_of log)) 0 (power_on (machine_of log))) ++ stop_line (clocks (tree_of log)))
    (refused_line (play_number log memory) (play_place log memory))

-- what is written of a step: the lines of its change; at the log's end the last line; a refusal's
unfoldable pub next_text : Next → List ℕ
next_text (Next.Over t) = stop_line t
next_text Next.Moved = []
next_text (Next.Changed c) = change_text c
next_text (Next.Refused k q) = refused_line k q

abbrev pub is_over : Next → Bool
is_over (Next.Over t) = true
is_over Next.Moved = false
is_over (Next.Changed c) = false
is_over (Next.Refused k q) = true

-- what is written of n steps, or of those up to the end (from a log's beginning, all its lines: proofs/Joined)
unfoldable pub steps_text : List ℕ → List ℕ → ℕ → Place → List ℕ
steps_text log memory zero p = []
steps_text log memory (suc n) p =
    let t = step_of log memory p in
    let next = next_of t.said t.state.moment.time in
    next_text next ++ pick (is_over next) [] (steps_text log memory n t.state)
