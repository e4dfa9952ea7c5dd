-- The event that each generated line spells.
use Rattle.std.proofs.Common.{◌≡◌, ℕ, zero, suc, ◌+◌, ◌*◌, ◌/◌, ◌%◌, ◌^◌, ◌<◌, ◌≤◌, List, [], ◌∷◌, ◌++◌, length, refl, arith, sym, subst, ap, ◌∙◌, append_assoc}
use Rattle.std.proofs.lemmas.Bool.Decides.{nat_tests}
use Rattle.std.specs.Prelude.{Some, None, Ok, Err, option_and_then, option_map, codes, false, nat_lt, if◌then◌else◌}
use Rattle.std.specs.List.{AllByRecursion}
use Rattle.std.specs.Int.{byte_at}
use Rattle.std.specs.Fmt.{decimal, digit_glyph}
use Rattle.byteorder.specs.Endian.{little_bytes}
use Rattle.edit_log.specs.Log.{words_of}
use Rattle.edit_log.specs.LogLine.{access_of_word, ask_line, bytes_of, change_of_words, event_of, event_of_words, if_event, invlpg_line, invpcid_line, is_skipped, line_limit, list_line, payload_of, point_line, set_line, word_of_32, write_line}
use Rattle.edit_log.specs.Numbers.{hex_digit, number_of}
use Rattle.history_model.specs.declared.events.Event.{Event}
use Rattle.history_model.specs.declared.events.Event.TheVariants as event
use Rattle.paging_model.specs.declared.registers.RegChange.TheVariants.{Cr3}
use Rattle.edit_log.specs.declared.line_forms.LineFault.TheVariants.{TooLong}
use Rattle.paging_model.specs.declared.access.Access.{Access}
use Rattle.paging_model.specs.declared.access.Access.TheVariants.{Ur, Uw, Ux, Sr, Sw, Sx, Ir, Iw}
use Rattle.rights_report.specs.Characters.{hexadecimal}
use Rattle.image_gen.specs.GeneratedTables.{root}
use Rattle.image_gen.specs.GeneratedLog.{event_of_line}
use Rattle.image_gen.specs.LineTexts.{access_text, byte_pairs, words_of_line}
use Rattle.image_gen.specs.declared.lines.Line.TheVariants.{Point, LoseAll, List as ListOf, Write, Invlpg, Ask, SetRoot}
use Rattle.image_gen.proofs.SpelledNumbers.{IsVisible, hex-glyph, length-decimal, length-hexadecimal, number-decimal, number-hexadecimal, under-limit, visible-decimal, visible-glyph, visible-hexadecimal}
use Rattle.image_gen.proofs.LinesApart.{IsPrintable, IsWord, length-line, printable-line, line_of_words, text-word, words-line}

-- two digits spell their byte
pub bytes-pairs : (bytes : List ℕ) → AllByRecursion (λ b. b < 256) bytes → bytes_of (byte_pairs bytes) ≡ Some bytes
bytes-pairs [] all = refl
bytes-pairs (b ∷ bytes) all =
    let small : b < 256 = all.0 in
    ap (option_and_then (λ h. option_and_then (λ l. option_map (λ more. (16 * h + l) ∷ more) (bytes_of (byte_pairs bytes)))
    (hex_digit (digit_glyph false (b % 16)))))
    (hex-glyph (b / 16) (omega (arith, small)))
    ∙ ap (option_and_then (λ l. option_map (λ more. (16 * (b / 16) + l) ∷ more) (bytes_of (byte_pairs bytes))))
    (hex-glyph (b % 16) (omega arith))
    ∙ ap (option_map (λ more. (16 * (b / 16) + b % 16) ∷ more)) (bytes-pairs bytes all.1)
    ∙ ap (λ x. Some (x ∷ bytes)) (omega arith)

pub visible-pairs : (bytes : List ℕ) → IsVisible (byte_pairs bytes)
visible-pairs [] = tt
visible-pairs (b ∷ bytes) = (visible-glyph (b / 16), (visible-glyph (b % 16), visible-pairs bytes))

low-byte : (i n : ℕ) → byte_at i n < 256
low-byte zero n = omega arith
low-byte (suc i) n = omega arith

payload-entry : (entry : ℕ) → payload_of (byte_pairs (little_bytes 8 entry)) ≡ Some (little_bytes 8 entry)
payload-entry entry = bytes-pairs (little_bytes 8 entry) (
  low-byte 0 entry,
  (
    low-byte 1 entry,
    (
      low-byte 2 entry,
      (
        low-byte 3 entry,
        (low-byte 4 entry, (low-byte 5 entry, (low-byte 6 entry, (low-byte 7 entry, tt)))),
      ),
    ),
  ),
)

-- a processor's number
cpu-is : (cpu : ℕ) → cpu < 2 ^ 32 → word_of_32 (decimal cpu) ≡ Some cpu
cpu-is cpu small =
    let low : cpu < 2 ^ 64 = omega (arith, small) in
    ap (option_and_then (λ n. if nat_lt n (2 ^ 32) then Some n else None)) (number-decimal cpu low)
    ∙ under-limit (2 ^ 32) cpu small

access-is : (access : Access) → access_of_word (access_text access) ≡ Some access
unfolding access_of_word
access-is Ur = refl
access-is Uw = refl
access-is Ux = refl
access-is Sr = refl
access-is Sw = refl
access-is Sx = refl
access-is Ir = refl
access-is Iw = refl

access-word : (access : Access) → IsWord (access_text access)
access-word Ur = text-word (codes "ur") refl refl
access-word Uw = text-word (codes "uw") refl refl
access-word Ux = text-word (codes "ux") refl refl
access-word Sr = text-word (codes "sr") refl refl
access-word Sw = text-word (codes "sw") refl refl
access-word Sx = text-word (codes "sx") refl refl
access-word Ir = text-word (codes "ir") refl refl
access-word Iw = text-word (codes "iw") refl refl

not-over : (limit n : ℕ) → n ≤ limit → nat_lt limit n ≡ false
not-over limit n few = grind (arith, nat_tests, few)

few-words : (size words limit : ℕ) → size ≤ 21 * words + 20 → words ≤ 4 → 104 ≤ limit → size ≤ limit
few-words size words limit few most room = omega arith

four-parts : (a b c d : List ℕ) → (((a ++ b) ++ c) ++ b) ++ d ≡ a ++ (b ++ (c ++ (b ++ d)))
four-parts a b c d = simp append_assoc

-- a line without an LF, and the event that it spells
pub record IsLineOf (event : Event) (line : List ℕ) : Type 0 where
  pub is : event_of line ≡ Ok (Some event)
  pub printable : IsPrintable line

-- a few words that spell an event
words-spell : (line : List ℕ) (words : List (List ℕ)) (event : Event) → length line ≤ line_limit → is_skipped line ≡ false
    → words_of line ≡ words → event_of_words words ≡ Some event → event_of line ≡ Ok (Some event)
unfolding event_of
words-spell line words event short kept are is =
    ap (λ long. if long then Err TooLong else
    (if is_skipped line then Ok None else if_event (event_of_words (words_of line))))
    (not-over line_limit (length line) short)
    ∙ ap (λ skipped. if skipped then Ok None else if_event (event_of_words (words_of line))) kept
    ∙ ap (λ words. if_event (event_of_words words)) are ∙ ap if_event is

line-spells : (word : List ℕ) (more : List (List ℕ)) (event : Event) → IsWord word → AllByRecursion IsWord more → length more ≤ 4
    → is_skipped (line_of_words word more) ≡ false → event_of_words (word ∷ more) ≡ Some event
    → IsLineOf event (line_of_words word more)
line-spells word more event first all few kept is = record {
  is = words-spell (line_of_words word more) (word ∷ more) event
      (few-words (length (line_of_words word more)) (length more) line_limit (length-line word more first all) few (omega arith))
      kept (words-line word more first all) is;
  printable = printable-line word more first all;
}

-- the words of a number
number-word : (n : ℕ) → n < 2 ^ 64 → IsWord (hexadecimal n)
number-word n small =
    let few = length-hexadecimal n small in record { visible = visible-hexadecimal n small; few = omega (arith, few) }

cpu-word : (cpu : ℕ) → cpu < 2 ^ 32 → IsWord (decimal cpu)
cpu-word cpu small =
    let low : cpu < 2 ^ 64 = omega (arith, small) in record { visible = visible-decimal cpu low; few = length-decimal cpu low }

pub point-spells : IsLineOf (event_of_line Point) (words_of_line Point)
unfolding event_of_words point_line
point-spells = line-spells (codes "point") (codes "current" ∷ []) (event_of_line Point) (text-word (codes "point") refl refl)
    (text-word (codes "current") refl refl, tt) (omega arith) refl refl

pub list-spells : IsLineOf (event_of_line ListOf) (words_of_line ListOf)
unfolding event_of_words list_line number_of
list-spells = line-spells (codes "list") (codes "0" ∷ []) (event_of_line ListOf) (text-word (codes "list") refl refl)
    (text-word (codes "0") refl refl, tt) (omega arith) refl refl

module _ (cpu : ℕ) (small : cpu < 2 ^ 32) where
  pub lose-spells : IsLineOf (event_of_line (LoseAll cpu)) (words_of_line (LoseAll cpu))
  unfolding event_of_words invpcid_line number_of
  lose-spells = line-spells (codes "invpcid") (decimal cpu ∷ codes "2" ∷ codes "0" ∷ codes "0x0" ∷ [])
      (event_of_line (LoseAll cpu)) (text-word (codes "invpcid") refl refl)
      (cpu-word cpu small, (text-word (codes "2") refl refl, (zero-word, (text-word (codes "0x0") refl refl, tt))))
      (omega arith) refl (ap (option_and_then (λ p. Some (event.Invpcid p 2 0 0))) (cpu-is cpu small))
    where
      zero-word : IsWord (codes "0")
      zero-word = text-word (codes "0") refl refl

  set-parts : line_of_words (codes "set") (decimal cpu ∷ codes "cr3" ∷ hexadecimal root ∷ []) ≡ words_of_line (SetRoot cpu)
  set-parts = ap (λ rest. codes "set " ++ rest) (sym (append_assoc (decimal cpu) (codes " cr3 ") (hexadecimal root)))

  set-is : event_of_words (codes "set" ∷ decimal cpu ∷ codes "cr3" ∷ hexadecimal root ∷ []) ≡ Some (event_of_line (SetRoot cpu))
  unfolding event_of_words set_line change_of_words
  set-is =
      ap (option_and_then (λ p. option_map (λ change. event.Set p change) (option_map (λ n. Cr3 n)
      (number_of (hexadecimal root)))))
      (cpu-is cpu small)
      ∙ ap (λ o. option_map (λ change. event.Set cpu change) (option_map (λ n. Cr3 n) o)) (number-hexadecimal root (omega arith))

  pub set-spells : IsLineOf (event_of_line (SetRoot cpu)) (words_of_line (SetRoot cpu))
  set-spells = subst (IsLineOf (event_of_line (SetRoot cpu))) set-parts (line-spells (codes "set")
      (decimal cpu ∷ codes "cr3" ∷ hexadecimal root ∷ []) (event_of_line (SetRoot cpu)) (text-word (codes "set") refl refl)
      (cpu-word cpu small, (text-word (codes "cr3") refl refl, (number-word root (omega arith), tt))) (omega arith) refl set-is)

  module _ (address : ℕ) (below : address < 2 ^ 64) where
    invlpg-parts : line_of_words (codes "invlpg") (decimal cpu ∷ hexadecimal address ∷ []) ≡ words_of_line (Invlpg cpu address)
    invlpg-parts = ap (λ rest. codes "invlpg " ++ rest) (sym (append_assoc (decimal cpu) (codes " ") (hexadecimal address)))

    invlpg-is : event_of_words (codes "invlpg" ∷ decimal cpu ∷ hexadecimal address ∷ [])
        ≡ Some (event_of_line (Invlpg cpu address))
    unfolding event_of_words invlpg_line
    invlpg-is =
        ap (option_and_then (λ p. option_map (λ a. event.Invlpg p a) (number_of (hexadecimal address)))) (cpu-is cpu small)
        ∙ ap (option_map (λ a. event.Invlpg cpu a)) (number-hexadecimal address below)

    pub invlpg-spells : IsLineOf (event_of_line (Invlpg cpu address)) (words_of_line (Invlpg cpu address))
    invlpg-spells = subst (IsLineOf (event_of_line (Invlpg cpu address))) invlpg-parts (line-spells (codes "invlpg")
        (decimal cpu ∷ hexadecimal address ∷ []) (event_of_line (Invlpg cpu address)) (text-word (codes "invlpg") refl refl)
        (cpu-word cpu small, (number-word address below, tt)) (omega arith) refl invlpg-is)

    module _ (access : Access) where
      abbrev ask-words : List (List ℕ)
      ask-words = decimal cpu ∷ access_text access ∷ hexadecimal address ∷ []

      ask-parts : line_of_words (codes "ask") ask-words ≡ words_of_line (Ask cpu access address)
      ask-parts =
          ap (λ rest. codes "ask " ++ rest)
          (sym (four-parts (decimal cpu) (codes " ") (access_text access) (hexadecimal address)))

      ask-is : event_of_words (codes "ask" ∷ ask-words) ≡ Some (event_of_line (Ask cpu access address))
      unfolding event_of_words ask_line
      ask-is =
          ap (option_and_then (λ p. option_and_then (λ k. option_map (λ a. event.Ask p k a) (number_of (hexadecimal address)))
          (access_of_word (access_text access)))) (cpu-is cpu small)
          ∙ ap (option_and_then (λ k. option_map (λ a. event.Ask cpu k a) (number_of (hexadecimal address)))) (access-is access)
          ∙ ap (option_map (λ a. event.Ask cpu access a)) (number-hexadecimal address below)

      pub ask-spells : IsLineOf (event_of_line (Ask cpu access address)) (words_of_line (Ask cpu access address))
      ask-spells = subst (IsLineOf (event_of_line (Ask cpu access address))) ask-parts (line-spells (codes "ask") ask-words
          (event_of_line (Ask cpu access address)) (text-word (codes "ask") refl refl)
          (cpu-word cpu small, (access-word access, (number-word address below, tt))) (omega arith) refl ask-is)

module _ (slot : ℕ) (below : slot < 2 ^ 64) (entry : ℕ) where
  abbrev entry-word : List ℕ
  entry-word = byte_pairs (little_bytes 8 entry)

  write-parts : line_of_words (codes "write") (hexadecimal slot ∷ entry-word ∷ []) ≡ words_of_line (Write slot entry)
  write-parts = ap (λ rest. codes "write " ++ rest) (sym (append_assoc (hexadecimal slot) (codes " ") entry-word))

  write-is : event_of_words (codes "write" ∷ hexadecimal slot ∷ entry-word ∷ []) ≡ Some (event_of_line (Write slot entry))
  unfolding event_of_words write_line
  write-is =
      ap (option_and_then (λ a. option_map (λ bytes. event.Write a bytes) (payload_of entry-word)))
      (number-hexadecimal slot below)
      ∙ ap (option_map (λ bytes. event.Write slot bytes)) (payload-entry entry)

  pub write-spells : IsLineOf (event_of_line (Write slot entry)) (words_of_line (Write slot entry))
  write-spells = subst (IsLineOf (event_of_line (Write slot entry))) write-parts (line-spells (codes "write")
      (hexadecimal slot ∷ entry-word ∷ []) (event_of_line (Write slot entry)) (text-word (codes "write") refl refl)
      (number-word slot below, (record { visible = visible-pairs (little_bytes 8 entry); few = omega arith }, tt))
      (omega arith) refl write-is)
