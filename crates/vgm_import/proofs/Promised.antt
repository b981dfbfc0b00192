-- What `import` leaves in the buffer stands for the stream. Assumes nothing.
use Prim.Native.Nat.{ℕ, suc, ◌≤◌}
use mathlib.Core.Path.{◌≡◌, sym, ap, ◌∙◌}
use mathlib.Core.Bool.{Bool}
use mathlib.Core.List.{List, [], ◌∷◌}
use lib.ListN.{length, get_or, take}
use Rattle.vgm_measure.specs.declared.Imported.{Imported}
use Rattle.vgm_measure.specs.Import.{import_for, buffer_for}
use Rattle.vgm_import.specs.Stamps.{Stands}
use Rattle.vgm_import.proofs.ImportLaws.{Bytes, imported_stands}
use Rattle.vgm_import.proofs.BufferLaws.{front_is}

pub bytes_of : (s : List ℕ) → ((k : ℕ) → get_or s k 0 ≤ 255) → Bytes s
bytes_of [] h = tt
bytes_of (b ∷ s) h = (h 0, bytes_of s (λ k. h (suc k)))

pub promised : (pal : Bool) (s out : List ℕ) → Bytes s → (r : Imported) → r ≡ import_for pal s (length out) → (out' : List ℕ) → out' ≡ buffer_for pal s out → r.number ≡ 0 → Stands pal s (take r.length out')
promised pal s out b r er out' eo e =
    let done : (import_for pal s (length out)).number ≡ 0 = sym (ap (λ (x : Imported). x.number) er) ∙ e in
    rw (er, eo, front_is pal s out done) (imported_stands pal s (length out) b done)
