-- Words of certain forms, and the events that they spell.
use Rattle.std.proofs.Common.{◌≡◌, ℕ, List, [], ◌∷◌, refl}
use Rattle.std.specs.Prelude.{Option, Some, None, IsSome, codes}
use Rattle.edit_log.specs.LogLine.{event_of_words, is_word, machine_line, cpu_line, write_line, set_line, invlpg_line, invpcid_line, ask_line, list_line, point_line, payload_of}
use Rattle.edit_log.specs.Numbers.{number_of}
use Rattle.edit_log.specs.Reading.{Writes}
use Rattle.edit_log.proofs.Options.{none_either}

-- a word by itself spells none
pub lone_word : (word : List ℕ) → event_of_words (word ∷ []) ≡ None
unfolding event_of_words machine_line cpu_line write_line set_line invlpg_line invpcid_line ask_line list_line point_line
lone_word word =
    none_either (is_word word (codes "machine")) _ (none_either (is_word word (codes "cpu")) _
    (none_either (is_word word (codes "write")) _ (none_either (is_word word (codes "set")) _
    (none_either (is_word word (codes "invlpg")) _ (none_either (is_word word (codes "invpcid")) _
    (none_either (is_word word (codes "ask")) _ (none_either (is_word word (codes "list")) _
    (none_either (is_word word (codes "point")) None refl))))))))

writes-payload : (at word : List ℕ) (a : ℕ) (payload : Option (List ℕ)) → number_of at ≡ Some a → payload_of word ≡ payload → IsSome payload → Writes (write_line (at ∷ word ∷ []))
unfolding write_line
writes-payload at word a None is_at is_payload some = absurd cc
writes-payload at word a (Some bytes) is_at is_payload some = record { at = a; bytes = bytes; is = rw (is_at, is_payload) refl }

-- a write with bytes
pub writes : (words : List (List ℕ)) (at word : List ℕ) (a : ℕ) → write_line words ≡ write_line (at ∷ word ∷ []) → number_of at ≡ Some a → IsSome (payload_of word) → Writes (write_line words)
writes words at word a is is_at some = rw is (writes-payload at word a (payload_of word) is_at refl some)
