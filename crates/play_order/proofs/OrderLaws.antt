-- Request 13 in a log: two logs that differ in two neighbouring write lines to different channels, which have changed places. Assumes nothing.
use Prim.Native.Nat.{ℕ, zero, suc, ◌+◌, ◌-◌, ◌≤◌}
use mathlib.Core.Path.{◌≡◌, refl, sym, ap, ◌∙◌}
use mathlib.Core.Bool.{true, false}
use mathlib.Core.List.{List, [], ◌∷◌, ◌++◌}
use lib.Dec.{ltb}
use borrow.Author.Tests.{le-leb}
use Rattle.arith.specs.Iterate.{iterate}
use Rattle.arith.specs.Pick.{pick}
use Rattle.bus.specs.Register.{is_register}
use Rattle.bus.specs.declared.Access as busAccess
use Rattle.bus.specs.declared.Access.TheVariants.{Write}
use Rattle.log_line.specs.declared.Act.{Act}
use Rattle.log_line.specs.declared.Act.TheVariants.{Wait, Access}
use Rattle.log_line.specs.Printed.{Allowed}
use Rattle.log_rules.specs.Tree.{acts}
use Rattle.recording.specs.Whole.{is_file, machine_of, tree_of, check_of}
use Rattle.recording.proofs.ByteLaws.{bytes_swap}
use Rattle.recording.proofs.KindLaws.{log_machine, log_tree, log_check, front_file}
use Rattle.chip.specs.Clock.{chip_clock}
use Rattle.chip.specs.Level.{state_level}
use Rattle.chip.specs.Range.{power_on}
use Rattle.chip.specs.declared.State.{State}
use Rattle.chip_access.specs.Access.{access_state}
use Rattle.play_text.specs.declared.Entry.{Entry}
use Rattle.play_text.specs.declared.Entry.TheVariants.{Play, Level, Stop}
use Rattle.play_rules.specs.Sound.{heard, waited, read_line, entries_from, entries_of}
use Rattle.play_at.specs.Reached.{at_of, reached, state_at}
use Rattle.play_at.specs.declared.At.{At}
use Rattle.run_order.specs.Order.{Apart}
use Rattle.run_order.proofs.WriteLaws.{writes_swap}
use Rattle.play_order.specs.Order.{write_line, to_level, SameBut, ends, line, by_way, LinesSwap}
use Rattle.play_order.proofs.TreeLaws.{Swapped, finish, next, cross, acts_swapped}
use Rattle.play_order.proofs.LogLaws.{machine_same, exchanged, check_same, log, log'}

-- lines that are the same, in front
same_front : (front : List Entry) {l l' : List Entry} → SameBut l l' → SameBut (front ++ l) (front ++ l')
same_front [] h = h
same_front (e ∷ front) h = line e (same_front front h)

-- a wait, and then what is the same but for levels on the way
same_waited : (memory : List ℕ) (n t last : ℕ) (s : State) (rest rest' : ℕ → ℕ → State → List Entry)
    → ((t last : ℕ) (s : State) → SameBut (rest t last s) (rest' t last s)) → SameBut (waited memory n t last s rest) (waited memory n t last s rest')
unfolding waited
same_waited memory zero t last s rest rest' h = h t last s
same_waited memory (suc n) t last s rest rest' h =
    let s' = chip_clock memory s in same_front (heard (t + 1) last s') (same_waited memory n (t + 1) (state_level s') s' rest rest' h)

module _ (register register' value value' : ℕ) (apart : Apart register register') where
  abbrev x : busAccess.Access
  x = Write register value

  abbrev y : busAccess.Access
  y = Write register' value'

  access_swap : (s : State) → access_state y (access_state x s) ≡ access_state x (access_state y s)
  unfolding access_state
  access_swap s = writes_swap register register' value value' apart s

  -- THE STATE AT A CLOCK
  same_reached : (memory : List ℕ) (c : ℕ) {l l' : List Act} → Swapped (Access x) (Access y) l l' → (t : ℕ) (s : State)
      → reached memory c l t s ≡ reached memory c l' t s
  unfolding reached
  same_reached memory c finish t s = refl
  same_reached memory c (next (Wait n) e) t s =
      ap (λ (r : At). pick (ltb c (t + n)) (at_of c (iterate (chip_clock memory) (c - t) s)) r)
      (same_reached memory c e (t + n) (iterate (chip_clock memory) n s))
  same_reached memory c (next (Access z) e) t s = same_reached memory c e t (access_state z s)
  same_reached memory c (cross {l' = l'} e) t s =
      same_reached memory c e t (access_state y (access_state x s)) ∙ ap (reached memory c l' t) (access_swap s)

  -- THE PLAYER'S LINES
  same_entries : (memory : List ℕ) {l l' : List Act} → Swapped (Access x) (Access y) l l' → (t last : ℕ) (s : State)
      → SameBut (entries_from memory t last s l) (entries_from memory t last s l')
  unfolding entries_from read_line heard to_level
  same_entries memory finish t last s = line (Stop t) ends
  same_entries memory (next (Wait n) {l} {l'} e) t last s =
      same_waited memory n t last s (λ t last s. entries_from memory t last s l) (λ t last s. entries_from memory t last s l') (λ t last s. same_entries memory e t last s)
  same_entries memory (next (Access z) e) t last s =
      same_front (read_line z t s) (same_front (heard t last (access_state z s)) (same_entries memory e t (state_level (access_state z s)) (access_state z s)))
  same_entries memory (cross e) t last s =
      let xs = access_state x s in
      let ys = access_state y s in
      let yx = access_state x ys in
      rw (access_swap s) (by_way t last (state_level xs) (state_level ys) (state_level yx) (same_entries memory e t (state_level yx) yx))

-- a register of $4000..$4013 is one that can be written
is_register_lem : (register : ℕ) → 0x4000 ≤ register → register ≤ 0x4013 → is_register register ≡ true
unfolding is_register
is_register_lem register low high = rw (le-leb 0x4000 register low, le-leb register 0x4013 high)

-- REQUEST 13 IN A LOG
pub lines_swap : LinesSwap
unfolding state_at entries_of
lines_swap front back register register' value value' apart byte byte' kind =
    let p : Allowed (Access (Write register value)) = (is_register_lem register apart.low apart.high, byte) in
    let q : Allowed (Access (Write register' value')) = (is_register_lem register' apart.low' apart.high', byte') in
    let one : List ℕ = log front back register register' value value' in
    let other : List ℕ = log' front back register register' value value' in
    let kind' : is_file other ≡ false = sym (front_file front _ _ (bytes_swap (write_line register value) (write_line register' value') back)) ∙ kind in
    let check : check_of one ≡ check_of other =
    log_check one kind ∙ (check_same front back register register' value value' p q ∙ sym (log_check other kind')) in
    let machine : machine_of one ≡ machine_of other =
    log_machine one kind ∙ (machine_same front back register register' value value' ∙ sym (log_machine other kind')) in
    let list : Swapped (Access (Write register value)) (Access (Write register' value')) (acts (tree_of one)) (acts (tree_of other)) =
    rw (log_tree one kind, log_tree other kind') (acts_swapped _ _ (exchanged front back register register' value value' p q)) in
    record {
      check = check;
      states = λ memory c. rw (check, machine, same_reached register register' value value' apart memory c list 0 (power_on (machine_of other)));
      entries = λ memory.
          rw machine
          (line Play (line (Level 0 (state_level (power_on (machine_of other))))
          (same_entries register register' value value' apart memory list 0 (state_level (power_on (machine_of other))) (power_on (machine_of other)))));
    }
