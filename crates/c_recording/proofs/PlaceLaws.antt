-- The parts of a cursor's bytes. Assumes nothing.
use mathlib.Core.Path.{◌≡◌, sym, ap, ◌∙◌}
use mathlib.Core.List.{List, ◌++◌}
use Prim.Native.Nat.{ℕ, ◌+◌, ◌-◌, ◌<◌}
use native.Mathlib.Omega.{arith}
use borrow.Author.Tests.{eq-eqb}
use lib.ListN.{length, take, drop, length-append}
use lib.Seq.{sets, sets-eq, take_all, length-take-le}
use Rattle.c_bytes.specs.Numbers.{wide_bytes}
use Rattle.c_bytes.proofs.PlaceLaws.{put_next, put_all}
use Rattle.c_bytes.proofs.WideLaws.{wide_size}
use Rattle.c_cursor.specs.Cursors as log
use Rattle.c_cursor.proofs.PlaceLaws as place
use Rattle.log_cursor.specs.declared.Cursor as here
use Rattle.recording_cursor.specs.declared.Cursor.{Cursor}
use Rattle.c_recording.specs.Cursors.{cursor_size, cursor_bytes}

pub cursor_size_lem : (c : Cursor) → length c.log.starts ≡ 8 → length c.log.left ≡ 8 → length (cursor_bytes c) ≡ cursor_size
unfolding cursor_bytes
cursor_size_lem c s l = simp length-append (omega (arith, place.cursor_size_lem c.log s l, wide_size 4 c.samples, wide_size 4 c.clock))

-- fewer bytes than the log's cursor has
pub front_short : (b : List ℕ) → length b < log.cursor_size → take (length b) b ≡ take log.cursor_size b
front_short b h = take_all (length b) b (omega arith) ∙ sym (take_all log.cursor_size b (omega arith))

-- the log's cursor, written over the first of the bytes, which keep their length
pub put_log : (c : here.Cursor) (b part : List ℕ) → length b ≡ cursor_size → length part ≡ length (take log.cursor_size b) → part ≡ log.cursor_encoded c (take log.cursor_size b)
    → (part ++ drop log.cursor_size b ≡ sets b 0 (log.cursor_bytes c)) × (length (log.cursor_bytes c) ≡ log.cursor_size)
unfolding log.cursor_encoded
put_log c b part h k e =
    let size : length (take log.cursor_size b) ≡ log.cursor_size = length-take-le log.cursor_size b (omega arith) in
    let new : part ≡ log.cursor_bytes c = e ∙ rw (eq-eqb (length (take log.cursor_size b)) log.cursor_size size) in
    let long : length (log.cursor_bytes c) ≡ log.cursor_size = sym (ap length new) ∙ k ∙ size in
    (rw new (sym (sets-eq (log.cursor_bytes c) b 0 (omega arith) ∙ ap (λ (i : ℕ). log.cursor_bytes c ++ drop (0 + i) b) long)), long)

-- all parts, one behind the other
pub put_cursor : (c : Cursor) (old b₁ b₂ b₃ : List ℕ) → length old ≡ cursor_size → length (log.cursor_bytes c.log) ≡ log.cursor_size → b₁ ≡ sets old 0 (log.cursor_bytes c.log)
    → b₂ ≡ sets b₁ log.cursor_size (wide_bytes 4 c.samples) → b₃ ≡ sets b₂ (log.cursor_size + 4) (wide_bytes 4 c.clock) → b₃ ≡ cursor_bytes c
unfolding cursor_bytes
put_cursor c old b₁ b₂ b₃ h s e₁ e₂ e₃ =
    let long : length (cursor_bytes c) ≡ length old = simp length-append (omega (arith, s, wide_size 4 c.samples, wide_size 4 c.clock)) in
    put_all (cursor_bytes c) old b₃ long
    (put_next (log.cursor_bytes c.log) _ old b₁ b₃ 0 log.cursor_size (omega (arith, s)) e₁
    (put_next (wide_bytes 4 c.samples) _ b₁ b₂ b₃ log.cursor_size (log.cursor_size + 4) (omega (arith, wide_size 4 c.samples)) e₂ e₃))
