-- The count of faults that missing names share.
use Rattle.std.proofs.Common.{◌≡◌, ℕ, List, refl}
use Rattle.std.specs.Prelude.{Option, None, Some}
use Rattle.std.specs.Option.{option_map_or}
use Rattle.std.specs.BTreeMap.{get_by_text}
use Rattle.outside.specs.declared.named_bytes.NamedBytes.{NamedBytes}
use Rattle.outside.specs.declared.mem_shelf.MemShelf.{MemShelf}
use Rattle.outside.specs.Shelf.{missing, has_bytes}
use Rattle.outside.specs.MemShelf.{known_in, faults_in, missing_faults}

-- of a missing name the shared count stands
faults_of : (found : Option NamedBytes) (shared : ℕ) → option_map_or (λ h. has_bytes h.bytes.items) found missing ≡ missing → option_map_or (λ h. h.faults) found shared ≡ shared
faults_of None shared known = refl
faults_of (Some h) shared known = cc

-- missing names share one count
pub faults_in-missing : (shelf : MemShelf) (name : List ℕ) → known_in shelf name ≡ missing → faults_in shelf name ≡ missing_faults shelf
faults_in-missing shelf name known = faults_of (get_by_text shelf.names name) (missing_faults shelf) known
