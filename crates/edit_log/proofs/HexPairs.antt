-- Pairs of hexadecimal digits, from the first on.
use Rattle.std.proofs.Common.{◌≡◌, ◌≢◌, ◌%◌, ℕ, zero, suc, ◌+◌, ◌*◌, ◌/◌, ◌<◌, List, [], ◌∷◌, ◌++◌, length, refl, arith, sym, ap, ◌∙◌, append_assoc, take, drop, get_or}
use Rattle.std.proofs.lemmas.Grind.{common_steps}
use Rattle.std.proofs.lemmas.List.Elements.{recursion_from_All, All-from_recursion, All-more}
use Rattle.std.specs.Prelude.{Option, Some, None, IsSome, option_and_then, option_map, is_some, true, false, All}
use Rattle.std.specs.List.{AllByRecursion}
use Rattle.edit_log.specs.LogLine.{bytes_of}
use Rattle.edit_log.specs.Numbers.{hex_digit}
use Rattle.edit_log.specs.Digits.{byte_of}
use Rattle.edit_log.proofs.Options.{none_then, some_is, some_map, some_then}

drop_at : (word : List ℕ) (i : ℕ) → i < length word → drop i word ≡ get_or word i 0 ∷ drop (i + 1) word
drop_at word i within = grind (arith, common_steps)

-- the first pair, and the rest
bytes-pair : (high low : ℕ) (rest : List ℕ) → bytes_of (high ∷ low ∷ rest) ≡ option_and_then (λ b. option_map (λ bytes. b ∷ bytes) (bytes_of rest)) (byte_of high low)
bytes-pair high low rest =
    elim (hex_digit high) as (λ o. option_and_then (λ h. option_and_then (λ l. option_map (λ bytes. (16 * h + l) ∷ bytes) (bytes_of rest)) (hex_digit low)) o
    ≡ option_and_then (λ b. option_map (λ bytes. b ∷ bytes) (bytes_of rest)) (option_and_then (λ h. option_map (λ l. 16 * h + l) (hex_digit low)) o)) [
      | None ↦ refl
      | Some h ↦ elim (hex_digit low) as (λ o. option_and_then (λ l. option_map (λ bytes. (16 * h + l) ∷ bytes) (bytes_of rest)) o
          ≡ option_and_then (λ b. option_map (λ bytes. b ∷ bytes) (bytes_of rest)) (option_map (λ l. 16 * h + l) o)) [
            | None ↦ refl
            | Some l ↦ refl
          ]
    ]

-- one more byte
pub bytes-more : (word done rest : List ℕ) (high low byte : ℕ)
    → bytes_of word ≡ option_map (λ more. done ++ more) (bytes_of (high ∷ low ∷ rest)) → byte_of high low ≡ Some byte
    → bytes_of word ≡ option_map (λ more. (done ++ byte ∷ []) ++ more) (bytes_of rest)
bytes-more word done rest high low byte same is =
    same ∙ ap (option_map (λ more. done ++ more)) (bytes-pair high low rest ∙ ap (option_and_then (λ b. option_map (λ bytes. b ∷ bytes) (bytes_of rest))) is) ∙
    (elim (bytes_of rest) as (λ o. option_map (λ more. done ++ more) (option_map (λ bytes. byte ∷ bytes) o) ≡ option_map (λ more. (done ++ byte ∷ []) ++ more) o) [
      | None ↦ refl
      | Some more ↦ ap Some (sym (append_assoc done (byte ∷ []) more))
    ])

-- no byte next
pub bytes-none : (word done rest : List ℕ) (high low : ℕ)
    → bytes_of word ≡ option_map (λ more. done ++ more) (bytes_of (high ∷ low ∷ rest)) → byte_of high low ≡ None → None ≡ bytes_of word
bytes-none word done rest high low same is =
    sym (same ∙ ap (option_map (λ more. done ++ more)) (bytes-pair high low rest ∙ ap (option_and_then (λ b. option_map (λ bytes. b ∷ bytes) (bytes_of rest))) is))

-- an odd number of digits
odd-digits : (n : ℕ) (word : List ℕ) → length word ≡ 2 * n + 1 → bytes_of word ≡ None
odd-digits n [] odd = absurd (omega (arith, odd))
odd-digits n (c ∷ []) odd = refl
odd-digits zero (high ∷ low ∷ rest) odd = absurd (omega (arith, odd))
odd-digits (suc n) (high ∷ low ∷ rest) odd =
    rw (odd-digits n rest (omega (arith, odd))) (none_then (hex_digit high) (λ h. none_then (hex_digit low) (λ l. refl)))

pub bytes-odd : (word : List ℕ) → length word % 2 ≢ 0 → bytes_of word ≡ None
bytes-odd word odd = odd-digits (length word / 2) word (omega (arith, odd))

-- each is a digit
pub bytes-digits : (word bytes : List ℕ) → bytes_of word ≡ Some bytes → AllByRecursion (λ c. IsSome (hex_digit c)) word
bytes-digits [] bytes is = tt
bytes-digits (c ∷ []) bytes is = absurd cc
bytes-digits (high ∷ low ∷ rest) bytes is =
    let h = some_then (hex_digit high) _ bytes is in
    let l = some_then (hex_digit low) _ bytes h.2 in
    let more = some_map (bytes_of rest) _ bytes l.2 in
    (ap is_some h.1, (ap is_some l.1, bytes-digits rest more.0 more.1))

-- digits alone, in pairs
bytes-some : (n : ℕ) (word : List ℕ) → length word ≡ 2 * n → AllByRecursion (λ c. IsSome (hex_digit c)) word → IsSome (bytes_of word)
bytes-some n [] even all = refl
bytes-some zero (c ∷ word) even all = absurd (omega (arith, even))
bytes-some (suc n) (c ∷ []) even all = absurd (omega (arith, even))
bytes-some (suc n) (high ∷ low ∷ rest) even all =
    let h = some_is (hex_digit high) all.0 in
    let l = some_is (hex_digit low) all.1.0 in
    let more = some_is (bytes_of rest) (bytes-some n rest (omega (arith, even)) all.1.1) in
    rw (h.1, l.1, more.1) refl

pub bytes-all_digits : (word : List ℕ) → length word % 2 ≡ 0 → All (λ c. IsSome (hex_digit c)) word → true ≡ is_some (bytes_of word)
bytes-all_digits word even all = sym (bytes-some (length word / 2) word (omega (arith, even)) (recursion_from_All _ _ all))

not_digit : (word : List ℕ) (i : ℕ) (bytes : Option (List ℕ)) → i < length word → hex_digit (get_or word i 0) ≡ None → bytes_of word ≡ bytes → false ≡ is_some bytes
not_digit word i None within none is = refl
not_digit word i (Some bytes) within none is =
    let digit : IsSome (hex_digit (get_or word i 0)) = All-from_recursion (λ c. IsSome (hex_digit c)) word (bytes-digits word bytes is) i 0 within in
    absurd cc

pub bytes-not_digit : (word : List ℕ) (i : ℕ) → i < length word → hex_digit (get_or word i 0) ≡ None → false ≡ is_some (bytes_of word)
bytes-not_digit word i within none = not_digit word i (bytes_of word) within none refl

pub pair_at : (word : List ℕ) (i : ℕ) → 2 * i + 1 < length word → drop (2 * i) word ≡ get_or word (2 * i) 0 ∷ get_or word (2 * i + 1) 0 ∷ drop (2 * (i + 1)) word
pair_at word i within =
    let next : 2 * i + 1 + 1 ≡ 2 * (i + 1) = omega arith in
    drop_at word (2 * i) (omega (arith, within)) ∙ ap (λ x. get_or word (2 * i) 0 ∷ x) (drop_at word (2 * i + 1) within ∙ ap (λ n. get_or word (2 * i + 1) 0 ∷ drop n word) next)

pub digits-more : (word : List ℕ) (i digit : ℕ) → i < length word → All (λ c. IsSome (hex_digit c)) (take i word) → Some digit ≡ hex_digit (get_or word i 0)
    → All (λ c. IsSome (hex_digit c)) (take (i + 1) word)
digits-more word i digit within all is = All-more (λ c. IsSome (hex_digit c)) word i 0 within all (ap is_some (sym is))
