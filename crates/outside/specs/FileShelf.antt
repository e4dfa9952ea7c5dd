-- What a shelf over an opener's files stands for: what the opener knows of them, and how often reads failed.
use Rattle.std.specs.Prelude.{ℕ, List}
use Rattle.outside.specs.declared.file_shelf.FileShelf.{FileShelf}
use Rattle.outside.specs.declared.opener.Opener.{Ghosts}
use Rattle.outside.specs.Shelf.{Known}

-- what is known of the file of a name
abbrev pub known_on : {O File : Type 0} {of : Ghosts O File} → FileShelf O File of → List ℕ → Known
known_on {of = of} shelf name = of.known shelf.opener name

-- the greatest offset up to which reads of the file of a name gave bytes
abbrev pub reach_on : {O File : Type 0} {of : Ghosts O File} → FileShelf O File of → List ℕ → ℕ
reach_on {of = of} shelf name = of.reach shelf.opener name

-- how often reads have failed, of all names together
abbrev pub read_fault_count : {O File : Type 0} {of : Ghosts O File} → FileShelf O File of → ℕ
read_fault_count shelf = shelf.faults
