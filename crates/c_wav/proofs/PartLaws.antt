-- The cursor's bytes and the state's as parts of those of a file under way. Assumes nothing.
use mathlib.Core.Path.{◌≡◌, sym, ap, ◌∙◌}
use mathlib.Core.List.{List, ◌++◌, append_assoc}
use Prim.Native.Nat.{ℕ, ◌+◌, ◌-◌, ◌≤◌, ◌<◌}
use native.Mathlib.Omega.{arith}
use lib.ListN.{length, take, drop, length-drop, drop_of_length-le}
use lib.Seq.{sets, sets-eq, take_all, drop-drop, length-take-le}
use borrow.Author.Tests.{eq-eqb}
use Rattle.chip.specs.declared.State.{State}
use Rattle.recording_cursor.specs.declared.Cursor.{Cursor}
use Rattle.c_state.specs.Bytes.{state_size, state_bytes}
use Rattle.c_state.specs.Encoded.{encoded}
use Rattle.c_state.proofs.CodeLaws.{state_size_lem}
use Rattle.c_recording.specs.Cursors.{cursor_size, cursor_bytes, cursor_encoded}
use Rattle.c_wav.specs.Wavs.{cursor_place, state_place, wav_size, cursor_part, state_part}

-- fewer bytes than stand before the cursor
pub cursor_none : (b : List ℕ) → length b < cursor_place → take 0 b ≡ cursor_part b
cursor_none b h = rw (drop_of_length-le b {i = cursor_place} (omega arith))

-- fewer than there are up to its end
pub cursor_short : (b : List ℕ) → length b < state_place → take (length b - cursor_place) (drop cursor_place b) ≡ cursor_part b
cursor_short b h =
    let size : length (drop cursor_place b) ≡ length b - cursor_place = length-drop cursor_place b in
    take_all (length b - cursor_place) (drop cursor_place b) (omega arith) ∙ sym (take_all cursor_size (drop cursor_place b) (omega arith))

-- fewer bytes than stand before the state
pub state_none : (b : List ℕ) → length b < state_place → take 0 b ≡ state_part b
state_none b h = sym (drop_of_length-le b {i = state_place} (omega arith))

-- all bytes behind a place
pub state_all : (b : List ℕ) → take (length b - state_place) (drop state_place b) ≡ state_part b
state_all b = take_all (length b - state_place) (drop state_place b) (omega (arith, length-drop state_place b))

-- a part of n bytes stored at its place
put_part : (b part : List ℕ) (at n : ℕ) → at + n ≤ length b → length part ≡ n → take at b ++ (part ++ drop n (drop at b)) ≡ sets b at part
put_part b part at n h l =
    rw (drop-drop n at b, ← append_assoc (take at b))
    (sym (sets-eq part b at (omega arith) ∙ ap (λ (k : ℕ). take at b ++ part ++ drop (at + k) b) l))

-- a cursor written to its part, which keeps its length
pub cursor_written :
    (c : Cursor) (b part : List ℕ)
    → length b ≡ wav_size
    → length part ≡ length (cursor_part b)
    → part ≡ cursor_encoded c (cursor_part b)
    → (take cursor_place b ++ (part ++ drop cursor_size (drop cursor_place b)) ≡ sets b cursor_place (cursor_bytes c)) × (length (cursor_bytes c) ≡ cursor_size)
unfolding cursor_encoded
cursor_written c b part h k e =
    let size : length (cursor_part b) ≡ cursor_size = length-take-le cursor_size (drop cursor_place b) (simp length-drop (omega arith)) in
    let new : part ≡ cursor_bytes c = e ∙ rw (eq-eqb (length (cursor_part b)) cursor_size size) in
    let long : length (cursor_bytes c) ≡ cursor_size = sym (ap length new) ∙ k ∙ size in
    (rw new (put_part b (cursor_bytes c) cursor_place cursor_size (omega arith) long), long)

-- a state written to its part
pub state_written :
    (s : State) (b part : List ℕ)
    → length b ≡ wav_size
    → part ≡ encoded s (take (length b - state_place) (drop state_place b))
    → take state_place b ++ (part ++ drop (length b - state_place) (drop state_place b)) ≡ sets b state_place (state_bytes s)
unfolding encoded
state_written s b part h e =
    let n : length b - state_place ≡ state_size = omega arith in
    let size : length (take (length b - state_place) (drop state_place b)) ≡ state_size =
    length-take-le (length b - state_place) (drop state_place b) (omega (arith, length-drop state_place b)) ∙ n in
    let new : part ≡ state_bytes s = e ∙ rw (eq-eqb (length (take (length b - state_place) (drop state_place b))) state_size size) in
    rw new (put_part b (state_bytes s) state_place (length b - state_place) (omega arith) (state_size_lem s ∙ sym n))
