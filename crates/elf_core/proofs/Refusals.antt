-- The steps over notes and program headers, one at a time.
use Rattle.std.proofs.Common.{◌≡◌, ℕ, suc, ◌+◌, ◌-◌, ◌<◌, ◌≤◌, List, [], ◌∷◌, Result, Ok, refl, ap, arith, inl, inr}
use Rattle.elf_core.specs.Steps.{◌>>=◌, steps_over}
use Rattle.elf_core.specs.Cores.{after_header, after_headers, indices_from, blank_core, core_of, IsRefusalOf}
use Rattle.elf_core.specs.FileHeader.{file_header_check, e_phnum}
use Rattle.elf_core.specs.declared.core_file.Core.{Core}
use Rattle.elf_core.specs.declared.faults.CoreFault.{CoreFault}

-- a refused step refuses the whole
refused_first : {A B : Type 0} (first : Result A CoreFault) (next : A → Result B CoreFault) (fault : CoreFault) → IsRefusalOf first fault → IsRefusalOf (first >>= next) fault
refused_first first next fault (inl memory) = inl memory
refused_first first next fault (inr refused) = inr (ap (λ r. r >>= next) refused)

-- a step that succeeds leaves the steps after it
pub step_on : {S A E : Type 0} (step : S → A → Result S E) (item : A) (items : List A) (state next : S) → step state item ≡ Ok next → steps_over step state (item ∷ items) ≡ steps_over step next items
unfolding steps_over
step_on step item items state next h = ap (λ r. r >>= λ s. steps_over step s items) h

-- a step that is refused ends the steps
pub step_refused : {S A : Type 0} (step : S → A → Result S CoreFault) (item : A) (items : List A) (state : S) (fault : CoreFault) → IsRefusalOf (step state item) fault → IsRefusalOf (steps_over step state (item ∷ items)) fault
unfolding steps_over
step_refused step item items state fault h = refused_first (step state item) (λ s. steps_over step s items) fault h

-- without steps the state stays
pub no_steps : {S A E : Type 0} (step : S → A → Result S E) (state : S) → steps_over step state [] ≡ Ok state
unfolding steps_over
no_steps step state = refl

-- no header is left
pub headers_end : (bytes : List ℕ) (index count : ℕ) (core : Core) → count ≤ index → after_headers bytes core (indices_from index (count - index)) ≡ Ok core
headers_end bytes index count core done =
    let none : count - index ≡ 0 = omega arith in
    rw none (no_steps (after_header bytes) core)

-- a header, and those after it
pub headers_go_on : (bytes : List ℕ) (index count : ℕ) (core next : Core) → index < count → after_header bytes core index ≡ Ok next → after_headers bytes core (indices_from index (count - index)) ≡ after_headers bytes next (indices_from (index + 1) (count - (index + 1)))
headers_go_on bytes index count core next more step =
    let one : count - index ≡ suc (count - (index + 1)) = omega arith in
    rw one (step_on (after_header bytes) index (indices_from (index + 1) (count - (index + 1))) core next step)

-- a header that is refused
pub headers_refused : (bytes : List ℕ) (index count : ℕ) (core : Core) (fault : CoreFault) → index < count → IsRefusalOf (after_header bytes core index) fault → IsRefusalOf (after_headers bytes core (indices_from index (count - index))) fault
headers_refused bytes index count core fault more step =
    let one : count - index ≡ suc (count - (index + 1)) = omega arith in
    rw one (step_refused (after_header bytes) index (indices_from (index + 1) (count - (index + 1))) core fault step)

-- with a file header in order, the core is what its program headers state
pub headers_of_core : (bytes : List ℕ) → file_header_check bytes ≡ Ok tt → core_of bytes ≡ after_headers bytes blank_core (indices_from 0 (e_phnum bytes))
unfolding core_of
headers_of_core bytes checked = rw checked refl
