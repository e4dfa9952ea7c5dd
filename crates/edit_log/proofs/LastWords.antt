-- The last word of a line isn't searched for a space: with one it spells nothing, as more words do.
use Rattle.std.proofs.Common.{◌≡◌, ◌≢◌, ℕ, ◌+◌, ◌*◌, List, [], ◌∷◌, refl, arith, sym, ap, ◌∙◌, drop, inl, inr}
use Rattle.std.proofs.lemmas.Bool.Decides.{nat_tests, Decides-eqb}
use Rattle.std.proofs.lemmas.Slice.Eq.{bytes_eq-Decides, starts_is}
use Rattle.std.specs.Prelude.{Bool, true, false, Option, Some, None, IsSome, codes, nat_eq, if◌then◌else◌}
use Rattle.std.specs.List.{starts_with, AllByRecursion}
use Rattle.edit_log.specs.Log.{words_of, onto}
use Rattle.edit_log.specs.LogLine.{machine_line, regs_line, write_line, set_line, invlpg_line, invpcid_line, ask_line, list_line, point_line, change_of_words, is_word, payload_of, bytes_of, word_of_32, width_of, access_of_word}
use Rattle.edit_log.specs.Numbers.{number_of, value_of, value_after, if_64_bits, decimal_digit, hex_digit}
use Rattle.edit_log.proofs.HexPairs.{bytes-digits}
use Rattle.edit_log.proofs.Options.{none_either, none_then, some_then, then_some}
use Rattle.edit_log.proofs.Splitting.{HasMoreWords, one_or_more, word-last}

-- digits with a value have no space among them
digits-alone : (digit : ℕ → Option ℕ) (radix value n : ℕ) (line : List ℕ) → digit 32 ≡ None → value_after digit radix value line ≡ Some n
    → words_of line ≡ line ∷ []
digits-alone digit radix value n [] none is = refl
digits-alone digit radix value n (b ∷ line) none is =
    let first = some_then (digit b) _ n is in
    let rest = digits-alone digit radix (value * radix + first.0) n line none first.2 in
    let other : b ≢ 32 = λ space. cc (ap digit space, first.1, none) in
    grind (arith, nat_tests, rest, other)

value-alone : (digit : ℕ → Option ℕ) (radix most n : ℕ) (line : List ℕ) → digit 32 ≡ None → value_of digit radix most line ≡ Some n
    → words_of line ≡ line ∷ []
value-alone digit radix most n line none is =
    let whole = some_then (value_after digit radix 0 line) if_64_bits n (then_some _ _ n is) in
    digits-alone digit radix 0 whole.0 line none whole.1

either-alone : (prefixed : Bool) (line : List ℕ) (n : ℕ) → (prefixed ≡ true → line ≡ 48 ∷ 120 ∷ drop 2 line)
    → (if prefixed then value_of hex_digit 16 16 (drop 2 line) else value_of decimal_digit 10 20 line) ≡ Some n → words_of line ≡ line ∷ []
either-alone true line n begins is =
    ap words_of (begins refl) ∙ ap (λ words. onto 48 (onto 120 words)) (value-alone hex_digit 16 16 n (drop 2 line) refl is)
    ∙ ap (λ x. x ∷ []) (sym (begins refl))
either-alone false line n begins is = value-alone decimal_digit 10 20 n line refl is

number-alone : (line : List ℕ) (n : ℕ) → number_of line ≡ Some n → words_of line ≡ line ∷ []
unfolding number_of
number-alone line n is =
    either-alone (starts_with nat_eq line (codes "0x")) line n (starts_is Decides-eqb line (codes "0x") _ refl).0 is

no-number : (last : List ℕ) (number : Option ℕ) → HasMoreWords last → number_of last ≡ number → number ≡ None
no-number last None more is = refl
no-number last (Some n) more is = let one = number-alone last n is in let many = more.is in absurd cc

more-number : (last : List ℕ) → HasMoreWords last → number_of last ≡ None
more-number last more = no-number last (number_of last) more refl

digits-no_space : (word : List ℕ) → AllByRecursion (λ c. IsSome (hex_digit c)) word → AllByRecursion (λ c. c ≢ 32) word
digits-no_space [] all = tt
digits-no_space (c ∷ word) all = (λ space. let some = rw space at all.0 in absurd cc, digits-no_space word all.1)

payload-bytes : (word bytes : List ℕ) → payload_of word ≡ Some bytes → bytes_of word ≡ Some bytes
payload-bytes word bytes is = then_some _ (bytes_of word) bytes is

no-payload : (last : List ℕ) (payload : Option (List ℕ)) → HasMoreWords last → payload_of last ≡ payload → payload ≡ None
no-payload last None more is = refl
no-payload last (Some bytes) more is =
    let one : words_of last ≡ last ∷ [] = word-last last (digits-no_space last (bytes-digits last bytes (payload-bytes last bytes is))) in
    let many = more.is in absurd cc

more-payload : (last : List ℕ) → HasMoreWords last → payload_of last ≡ None
more-payload last more = no-payload last (payload_of last) more refl

more-change : (register value : List ℕ) → HasMoreWords value → change_of_words register value ≡ None
unfolding change_of_words
more-change register value more = rw (more-number value more)
    (none_either (is_word register (codes "cr0")) _ (none_either (is_word register (codes "cr3")) _
    (none_either (is_word register (codes "cr4")) _ (none_either (is_word register (codes "efer")) _
    (none_either (is_word register (codes "ac")) _ (none_either (is_word register (codes "pkru")) _
    (none_either (is_word register (codes "pkrs")) None refl)))))))

-- a form may take its last words unsplit, where it has no event for more of them
last-word : {A : Type 0} (F : List (List ℕ) → A) (none : A) (last : List ℕ)
    → ((first second : List ℕ) (more : List (List ℕ)) → F (first ∷ second ∷ more) ≡ none) → (HasMoreWords last → F (last ∷ []) ≡ none)
    → F (words_of last) ≡ F (last ∷ [])
last-word F none last many spaced = elim (one_or_more last) [
  | inl one ↦ ap F one
  | inr more ↦ ap F more.is ∙ many more.first more.second more.more ∙ sym (spaced more)
]

pub machine_last : (m last : List ℕ) → machine_line (m ∷ words_of last) ≡ machine_line (m ∷ last ∷ [])
unfolding machine_line
machine_last m last = last-word (λ words. machine_line (m ∷ words)) None last (λ first second more. refl)
    (λ more. rw (more-number last more) (none_then (width_of m) (λ width. refl)))

pub regs_last : (cr0 cr3 cr4 efer rflags pkru last : List ℕ)
    → regs_line (cr0 ∷ cr3 ∷ cr4 ∷ efer ∷ rflags ∷ pkru ∷ words_of last) ≡ regs_line (cr0 ∷ cr3 ∷ cr4 ∷ efer ∷ rflags ∷ pkru ∷ last ∷ [])
unfolding regs_line
regs_last cr0 cr3 cr4 efer rflags pkru last =
    last-word (λ words. regs_line (cr0 ∷ cr3 ∷ cr4 ∷ efer ∷ rflags ∷ pkru ∷ words)) None last (λ first second more. refl)
    (λ more. rw (more-number last more) (none_then (number_of cr0) (λ a. none_then (number_of cr3) (λ b. none_then (number_of cr4)
    (λ c. none_then (number_of efer) (λ d. none_then (number_of rflags) (λ e. none_then (word_of_32 pkru) (λ f. refl))))))))

-- a bad word before the last is enough, whatever follows
pub regs_none : (cr0 cr3 cr4 efer rflags pkru : List ℕ) (words : List (List ℕ)) → word_of_32 pkru ≡ None
    → regs_line (cr0 ∷ cr3 ∷ cr4 ∷ efer ∷ rflags ∷ pkru ∷ words) ≡ None
unfolding regs_line
regs_none cr0 cr3 cr4 efer rflags pkru [] none = refl
regs_none cr0 cr3 cr4 efer rflags pkru (last ∷ []) none = rw none (none_then (number_of cr0) (λ a. none_then (number_of cr3)
    (λ b. none_then (number_of cr4) (λ c. none_then (number_of efer) (λ d. none_then (number_of rflags) (λ e. refl))))))
regs_none cr0 cr3 cr4 efer rflags pkru (last ∷ second ∷ more) none = refl

pub write_last : (at last : List ℕ) → write_line (at ∷ words_of last) ≡ write_line (at ∷ last ∷ [])
unfolding write_line
write_last at last = last-word (λ words. write_line (at ∷ words)) None last (λ first second more. refl)
    (λ more. rw (more-payload last more) (none_then (number_of at) (λ a. refl)))

pub set_last : (cpu register last : List ℕ) → set_line (cpu ∷ register ∷ words_of last) ≡ set_line (cpu ∷ register ∷ last ∷ [])
unfolding set_line
set_last cpu register last = last-word (λ words. set_line (cpu ∷ register ∷ words)) None last (λ first second more. refl)
    (λ more. rw (more-change register last more) (none_then (word_of_32 cpu) (λ p. refl)))

pub invlpg_last : (cpu last : List ℕ) → invlpg_line (cpu ∷ words_of last) ≡ invlpg_line (cpu ∷ last ∷ [])
unfolding invlpg_line
invlpg_last cpu last = last-word (λ words. invlpg_line (cpu ∷ words)) None last (λ first second more. refl)
    (λ more. rw (more-number last more) (none_then (word_of_32 cpu) (λ p. refl)))

pub invpcid_last : (cpu kind pcid last : List ℕ) → invpcid_line (cpu ∷ kind ∷ pcid ∷ words_of last) ≡ invpcid_line (cpu ∷ kind ∷ pcid ∷ last ∷ [])
unfolding invpcid_line
invpcid_last cpu kind pcid last = last-word (λ words. invpcid_line (cpu ∷ kind ∷ pcid ∷ words)) None last (λ first second more. refl)
    (λ more. rw (more-number last more) (none_then (word_of_32 cpu) (λ p. none_then (number_of kind) (λ k. none_then (number_of pcid) (λ c. refl)))))

pub ask_last : (cpu kind last : List ℕ) → ask_line (cpu ∷ kind ∷ words_of last) ≡ ask_line (cpu ∷ kind ∷ last ∷ [])
unfolding ask_line
ask_last cpu kind last = last-word (λ words. ask_line (cpu ∷ kind ∷ words)) None last (λ first second more. refl)
    (λ more. rw (more-number last more) (none_then (word_of_32 cpu) (λ p. none_then (access_of_word kind) (λ k. refl))))

pub list_last : (last : List ℕ) → list_line (words_of last) ≡ list_line (last ∷ [])
unfolding list_line
list_last last = last-word list_line None last (λ first second more. refl) (λ more. rw (more-number last more) refl)

-- one of two words that have no space
scope-alone : (word last : List ℕ) → words_of word ≡ word ∷ [] → HasMoreWords last → is_word last word ≡ false
scope-alone word last one more = elim (is_word last word) as (λ b. is_word last word ≡ b → b ≡ false) [
  | true ↦ λ is. let same = (bytes_eq-Decides last word).0 is in let many = more.is in let single = ap words_of same in absurd cc
  | false ↦ λ is. refl
] refl

pub point_last : (last : List ℕ) → point_line (words_of last) ≡ point_line (last ∷ [])
unfolding point_line
point_last last = last-word point_line None last (λ first second more. refl)
    (λ more. rw (scope-alone (codes "current") last refl more, scope-alone (codes "all") last refl more) refl)
