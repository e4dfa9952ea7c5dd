-- The written page of an address, as the map of blocks gives it.
use Rattle.std.proofs.Common.{◌≡◌, ℕ, ◌-◌, ◌%◌, List, length, take, drop, Option, Some, None, refl, sym}
use Rattle.std.proofs.Math.Seq.{take-length}
use Rattle.std.proofs.lemmas.List.{length-drop}
use Rattle.phys_view.specs.Seen.{bytes_from}

pub bytes_from-none : (a : ℕ) (page : Option (List ℕ)) → page ≡ None → bytes_from page a ≡ None
bytes_from-none a page none = rw none refl

pub bytes_from-some : (a : ℕ) (page : Option (List ℕ)) (bytes : List ℕ) → page ≡ Some bytes
    → Some (take (length bytes - a % 4096) (drop (a % 4096) bytes)) ≡ bytes_from page a
bytes_from-some a page bytes some =
    let all : take (length bytes - a % 4096) (drop (a % 4096) bytes) ≡ drop (a % 4096) bytes =
    rw (sym (length-drop (a % 4096) bytes)) (take-length (drop (a % 4096) bytes)) in
    rw (all, some) refl
