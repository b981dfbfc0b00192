-- The head of a log: its first line is six bytes, and its second is `machine=pal` exactly for PAL. Assumes nothing.
use Rattle.std.specs.Prelude.{Ok}
use mathlib.Core.Path.{◌≡◌, refl, ap, sym, ◌∙◌}
use mathlib.Core.List.{List, ◌++◌, append_assoc}
use mathlib.Core.Bool.{Bool, true, false, false≢true}
use Prim.Native.Nat.{ℕ, ◌≤◌}
use native.Mathlib.Omega.{arith}
use lib.ListN.{length, take, drop}
use Rattle.text.specs.Key.{starts_with}
use Rattle.text.proofs.KeyLaws.{starts_split, starts_length, starts_joined}
use Rattle.log_line.specs.declared.Line.TheVariants.{Header, Machine}
use Rattle.log_line.specs.Printed.{ended, line_text}
use Rattle.log_fault.specs.declared.Stand.TheVariants.{First, Among}
use Rattle.log_fault.specs.Allowed.{keys_of}
use Rattle.log_fault.specs.Fault.{spot_of}
use Rattle.log_begins.specs.Fronts.{allowed}
use Rattle.log_fault.proofs.FaultLaws.{right_line, line_right}
use Rattle.log_rules.specs.Lines.{line_len, bytes_at, next_line}
use Rattle.log_rules.specs.Head.{head_text, machine_of, start_of}
use Rattle.log_rules.specs.Reading.{is_second, standing, read_in}
use Rattle.log_rules.proofs.PlaceLaws.{Had, bytes_long, line_split, read_some}

header_long : length (line_text Header) ≡ 6
unfolding line_text ended
header_long = refl

-- the lines of a PAL head

module _ (rest : List ℕ) where
  second_drop : drop 6 (head_text true ++ rest) ≡ line_text Machine ++ rest
  unfolding line_text ended
  second_drop = refl

  second_len : line_len (line_text Machine ++ rest) ≡ 12
  unfolding line_len line_text ended
  second_len = refl

  second_take : take 12 (line_text Machine ++ rest) ≡ line_text Machine
  unfolding line_text ended
  second_take = refl

head_long : length (head_text true) ≡ 18
unfolding line_text ended
head_long = refl

module _ (log : List ℕ) (p : machine_of log ≡ true) where
  pal_split : log ≡ head_text true ++ drop 18 log
  unfolding machine_of
  pal_split = starts_split (head_text true) log p ∙ ap (λ (n : ℕ). head_text true ++ drop n log) head_long

  pub pal_long : 18 ≤ length log
  unfolding machine_of
  pal_long = omega (arith, starts_length (head_text true) log p, head_long)

  second_rest : drop 6 log ≡ line_text Machine ++ drop 18 log
  second_rest = ap (drop 6) pal_split ∙ second_drop (drop 18 log)

  second_bytes : bytes_at log 6 ≡ line_text Machine
  unfolding bytes_at
  second_bytes = rw (second_rest, second_len (drop 18 log)) (second_take (drop 18 log))

  second_is : is_second log 6 ≡ true
  unfolding is_second
  second_is =
      ap (starts_with (line_text Header)) (pal_split ∙ append_assoc (line_text Header) (line_text Machine) (drop 18 log))
      ∙ starts_joined (line_text Header) (line_text Machine ++ drop 18 log)

  pub second_next : next_line log 6 ≡ 18
  unfolding next_line
  second_next = rw (second_rest, second_len (drop 18 log))

-- a log whose first line is right
module _ (log : List ℕ) (e : spot_of First (bytes_at log 0) ≡ Ok Header) where
  pub first_next : next_line log 0 ≡ 6
  first_next =
      let r = right_line First (bytes_at log 0) Header e in
      sym (bytes_long log 0) ∙ rw (r.is, header_long)

  first_rest : log ≡ line_text Header ++ drop 6 log
  first_rest =
      let r = right_line First (bytes_at log 0) Header e in
      line_split log 0 ∙ rw (r.is, first_next)

  -- the line behind it is the second
  pub first_second : is_second log 6 ≡ true
  unfolding is_second
  first_second = ap (starts_with (line_text Header)) first_rest ∙ starts_joined (line_text Header) (drop 6 log)

  -- without the second line it is NTSC
  pub ntsc_second : machine_of log ≡ false → spot_of (Among true 0) (bytes_at log 6) ≡ Ok Machine → ⊥
  unfolding machine_of
  ntsc_second m f =
      let r = right_line (Among true 0) (bytes_at log 6) Machine f in
      let s : log ≡ head_text true ++ drop (next_line log 6) log =
      first_rest ∙ (ap (λ (t : List ℕ). line_text Header ++ t) (line_split log 6 ∙ rw r.is) ∙ sym (append_assoc (line_text Header) (line_text Machine) (drop (next_line log 6) log))) in
      false≢true (sym m ∙ (ap (starts_with (head_text true)) s ∙ starts_joined (head_text true) (drop (next_line log 6) log)))

  pub ntsc_start : machine_of log ≡ false → start_of log ≡ 6
  unfolding start_of
  ntsc_start m = rw m first_next

  pub pal_start : machine_of log ≡ true → start_of log ≡ 18
  unfolding start_of
  pal_start m = rw (m, first_next) (second_next log m)

  -- the log is its head and the lines behind it
  pub head_split : (m : Bool) → machine_of log ≡ m → log ≡ head_text m ++ drop (start_of log) log
  head_split true m = rw (pal_start m) (pal_split log m)
  head_split false m = rw (ntsc_start m) first_rest

-- the second line of a PAL log, read
module _ (log : List ℕ) (short : length log ≤ 60000) (p : machine_of log ≡ true) where
  pub had_second : Had (Among true 0) log 6 Machine 18
  unfolding allowed keys_of
  had_second =
      record {
        short = short;
        inside = omega (arith, pal_long log p);
        found = rw (second_bytes log p) (line_right (Among true 0) Machine refl tt);
        on = sym (second_next log p);
      }

  pub read_second : read_in (standing log 6 0) log 6 ≡ Ok (Machine, 18)
  unfolding standing
  read_second = rw (second_is log p) (read_some (Among true 0) log 6 short had_second.inside ∙ rw (had_second.found, second_next log p))
