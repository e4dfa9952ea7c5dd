-- The event that a line spells, by its words. An empty line and a comment spell none. (Our own format; docs/FORMATS.md.)
use Rattle.std.specs.Prelude.{ℕ, List, [], ◌∷◌, length, ◌+◌, ◌*◌, ◌^◌, Option, Some, None, option_map, option_and_then, Result, Ok, Err, Bool, true, false, nat_lt, codes, ◌==◌, if◌then◌else◌}
use Rattle.std.specs.Str.{bytes_eq}
use Rattle.paging_model.specs.Registers.{alignment_check, machine_of}
use Rattle.paging_model.specs.declared.access.Access.{Access}
use Rattle.paging_model.specs.declared.access.Access.TheVariants as access
use Rattle.paging_model.specs.declared.registers.Regs.{Regs}
use Rattle.paging_model.specs.declared.registers.RegChange.{RegChange}
use Rattle.paging_model.specs.declared.registers.RegChange.TheVariants as change
use Rattle.history_model.specs.declared.events.Event.{Event}
use Rattle.history_model.specs.declared.events.Event.TheVariants.{Machine, Cpu, Write, Set, Invlpg, Invpcid, Ask, List as ListOf, Point}
use Rattle.edit_log.specs.declared.line_forms.LineFault.{LineFault}
use Rattle.edit_log.specs.declared.line_forms.LineFault.TheVariants.{TooLong, Syntax}
use Rattle.edit_log.specs.Log.{words_of}
use Rattle.edit_log.specs.Numbers.{between, hex_digit, number_of}

-- the greatest length of a line, without its LF
abbrev pub line_limit : ℕ
line_limit = 8300

-- nothing, or `#` and whatever follows
abbrev pub is_skipped : List ℕ → Bool
is_skipped [] = true
is_skipped (b ∷ rest) = b == 35

-- a number under a limit
abbrev pub number_under : ℕ → List ℕ → Option ℕ
number_under limit word = option_and_then (λ n. if nat_lt n limit then Some n else None) (number_of word)

-- a processor's number and a key register have 32 bits
abbrev pub word_of_32 : List ℕ → Option ℕ
word_of_32 word = number_under (2 ^ 32) word

-- 0 or 1
abbrev pub flag_of : List ℕ → Option Bool
flag_of word = option_map (λ n. n == 1) (number_under 2 word)

-- a physical width, from 32 to 52
abbrev pub width_of : List ℕ → Option ℕ
width_of word = option_and_then (λ n. if between 32 52 n then Some n else None) (number_of word)

-- pairs of hexadecimal digits, a byte each
abbrev pub bytes_of : List ℕ → Option (List ℕ)
bytes_of [] = Some []
bytes_of (high ∷ []) = None
bytes_of (high ∷ low ∷ rest) =
    option_and_then (λ h. option_and_then (λ l. option_map (λ bytes. (16 * h + l) ∷ bytes) (bytes_of rest)) (hex_digit low))
    (hex_digit high)

-- 1 to 4,096 bytes
abbrev pub payload_of : List ℕ → Option (List ℕ)
payload_of word = if between 2 8192 (length word) then bytes_of word else None

-- the word is spelled so
abbrev pub is_word : List ℕ → List ℕ → Bool
is_word word spelling = bytes_eq word spelling

-- the kinds of access by name: user, supervisor and implicit supervisor; read, write and fetch
unfoldable pub access_of_word : List ℕ → Option Access
access_of_word word =
    if is_word word (codes "ur") then Some access.Ur else
    (if is_word word (codes "uw") then Some access.Uw else
    (if is_word word (codes "ux") then Some access.Ux else
    (if is_word word (codes "sr") then Some access.Sr else
    (if is_word word (codes "sw") then Some access.Sw else
    (if is_word word (codes "sx") then Some access.Sx else
    (if is_word word (codes "ir") then Some access.Ir else
    (if is_word word (codes "iw") then Some access.Iw else None)))))))

-- a register by name, and its new value
unfoldable pub change_of_words : List ℕ → List ℕ → Option RegChange
change_of_words register value =
    if is_word register (codes "cr0") then option_map (λ n. change.Cr0 n) (number_of value) else
    (if is_word register (codes "cr3") then option_map (λ n. change.Cr3 n) (number_of value) else
    (if is_word register (codes "cr4") then option_map (λ n. change.Cr4 n) (number_of value) else
    (if is_word register (codes "efer") then option_map (λ n. change.Efer n) (number_of value) else
    (if is_word register (codes "ac") then option_map (λ b. change.Ac b) (flag_of value) else
    (if is_word register (codes "pkru") then option_map (λ n. change.Pkru n) (word_of_32 value) else
    (if is_word register (codes "pkrs") then option_map (λ n. change.Pkrs n) (word_of_32 value) else None))))))

-- `machine M BIG`
unfoldable pub machine_line : List (List ℕ) → Option Event
machine_line (m ∷ big ∷ []) =
    option_and_then (λ width. option_map (λ flag. Machine (machine_of width flag)) (flag_of big)) (width_of m)
machine_line _ = None

-- the registers of a `cpu` line; of RFLAGS only AC is kept
unfoldable pub regs_line : List (List ℕ) → Option Regs
regs_line (cr0 ∷ cr3 ∷ cr4 ∷ efer ∷ rflags ∷ pkru ∷ pkrs ∷ []) =
    option_and_then (λ a. option_and_then (λ b. option_and_then (λ c. option_and_then (λ d. option_and_then (λ e.
    option_and_then (λ f. option_map (λ g.
    record { cr0 = a; cr3 = b; cr4 = c; efer = d; ac = alignment_check e; pkru = f; pkrs = g })
    (word_of_32 pkrs)) (word_of_32 pkru)) (number_of rflags)) (number_of efer)) (number_of cr4)) (number_of cr3)) (number_of cr0)
regs_line _ = None

-- `cpu P CR0 CR3 CR4 EFER RFLAGS PKRU PKRS`
unfoldable pub cpu_line : List (List ℕ) → Option Event
cpu_line (cpu ∷ rest) = option_and_then (λ p. option_map (λ regs. Cpu p regs) (regs_line rest)) (word_of_32 cpu)
cpu_line [] = None

-- `write ADDR HEX`
unfoldable pub write_line : List (List ℕ) → Option Event
write_line (at ∷ hex ∷ []) = option_and_then (λ a. option_map (λ bytes. Write a bytes) (payload_of hex)) (number_of at)
write_line _ = None

-- `set P REG VALUE`
unfoldable pub set_line : List (List ℕ) → Option Event
set_line (cpu ∷ register ∷ value ∷ []) =
    option_and_then (λ p. option_map (λ change. Set p change) (change_of_words register value)) (word_of_32 cpu)
set_line _ = None

-- `invlpg P ADDR`
unfoldable pub invlpg_line : List (List ℕ) → Option Event
invlpg_line (cpu ∷ address ∷ []) = option_and_then (λ p. option_map (λ a. Invlpg p a) (number_of address)) (word_of_32 cpu)
invlpg_line _ = None

-- `invpcid P TYPE PCID ADDR`
unfoldable pub invpcid_line : List (List ℕ) → Option Event
invpcid_line (cpu ∷ kind ∷ pcid ∷ address ∷ []) =
    option_and_then (λ p. option_and_then (λ k. option_and_then (λ c. option_map (λ a. Invpcid p k c a) (number_of address))
    (number_of pcid)) (number_of kind)) (word_of_32 cpu)
invpcid_line _ = None

-- `ask P KIND ADDR`
unfoldable pub ask_line : List (List ℕ) → Option Event
ask_line (cpu ∷ kind ∷ pointer ∷ []) =
    option_and_then (λ p. option_and_then (λ k. option_map (λ a. Ask p k a) (number_of pointer)) (access_of_word kind)) (word_of_32 cpu)
ask_line _ = None

-- `list P`
unfoldable pub list_line : List (List ℕ) → Option Event
list_line (cpu ∷ []) = option_map (λ p. ListOf p) (word_of_32 cpu)
list_line _ = None

-- `point current` or `point all`
unfoldable pub point_line : List (List ℕ) → Option Event
point_line (scope ∷ []) =
    if is_word scope (codes "current") then Some (Point false) else (if is_word scope (codes "all") then Some (Point true) else None)
point_line _ = None

-- the form by the first word
unfoldable pub event_of_words : List (List ℕ) → Option Event
event_of_words [] = None
event_of_words (word ∷ rest) =
    if is_word word (codes "machine") then machine_line rest else
    (if is_word word (codes "cpu") then cpu_line rest else
    (if is_word word (codes "write") then write_line rest else
    (if is_word word (codes "set") then set_line rest else
    (if is_word word (codes "invlpg") then invlpg_line rest else
    (if is_word word (codes "invpcid") then invpcid_line rest else
    (if is_word word (codes "ask") then ask_line rest else
    (if is_word word (codes "list") then list_line rest else
    (if is_word word (codes "point") then point_line rest else None))))))))

-- words that spell no event are refused
abbrev pub if_event : Option Event → Result (Option Event) LineFault
if_event None = Err Syntax
if_event (Some event) = Ok (Some event)

-- what a line means, without its LF
unfoldable pub event_of : List ℕ → Result (Option Event) LineFault
event_of line =
    if nat_lt line_limit (length line) then Err TooLong else
    (if is_skipped line then Ok None else if_event (event_of_words (words_of line)))
