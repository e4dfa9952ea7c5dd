-- What a shelf in memory stands for: of each name its bytes, its reach and its faults, and beside them the calls so
-- far, the calls that are to fail, and the one count of all missing names.
use Rattle.std.specs.Prelude.{◌≡◌, ℕ, List}
use Rattle.std.specs.Option.{option_map_or}
use Rattle.std.specs.BTreeMap.{get_by_text}
use Rattle.outside.specs.declared.mem_shelf.MemShelf.{MemShelf}
use Rattle.outside.specs.Shelf.{Known, missing, has_bytes}

-- what is known of a name
abbrev pub known_in : MemShelf → List ℕ → Known
known_in shelf name = option_map_or (λ named. has_bytes named.bytes.items) (get_by_text shelf.names name) missing

-- the greatest offset up to which reads of a name gave bytes
abbrev pub reach_in : MemShelf → List ℕ → ℕ
reach_in shelf name = option_map_or (λ named. named.reach) (get_by_text shelf.names name) 0

-- how often reads of all missing names together have failed
abbrev pub missing_faults : MemShelf → ℕ
missing_faults shelf = shelf.missing_faults

-- how often reads of a name have failed; missing names share one count
abbrev pub faults_in : MemShelf → List ℕ → ℕ
faults_in shelf name = option_map_or (λ named. named.faults) (get_by_text shelf.names name) (missing_faults shelf)

-- how many reads there were
abbrev pub call_count : MemShelf → ℕ
call_count shelf = shelf.calls

-- the numbers of the reads that are to fail
abbrev pub failing_calls : MemShelf → List ℕ
failing_calls shelf = shelf.failing.items

-- a name has the same bytes, reach and count of faults
pub record SameName (old new : MemShelf) (name : List ℕ) : Type 0 where
  pub known : known_in new name ≡ known_in old name
  pub reach : reach_in new name ≡ reach_in old name
  pub faults : faults_in new name ≡ faults_in old name

-- the numbering, the failing calls and the shared count are the same
pub record SameCalls (old new : MemShelf) : Type 0 where
  pub calls : call_count new ≡ call_count old
  pub failing : failing_calls new ≡ failing_calls old
  pub missing : missing_faults new ≡ missing_faults old
