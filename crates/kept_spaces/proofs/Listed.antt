-- A space that is listed comes first.
use Rattle.std.proofs.Common.{◌≡◌, ℕ, zero, suc, ◌+◌, ◌<◌, ◌≤◌, inl, inr, Bool, true, false, cond, List, [], ◌∷◌, ◌++◌, length, take, drop, get_or, Some, None, Result, Ok, Err, OnOk, OnErr, refl, sym, subst, ap, ◌∙◌, arith, rules}
use Rattle.std.specs.Prelude.{All, IsOk, if◌then◌else◌, is_ok, nat_lt, position, remove, slice_get}
use Rattle.std.specs.List.{position_or_len}
use Rattle.std.proofs.lemmas.Bool.Decides.{nat_tests}
use Rattle.std.proofs.lemmas.List.{get_or_read, length-append, length-map, length-take, map-append, take-map, take_all}
use Rattle.std.proofs.lemmas.List.Elements.{All-append, All-cons, All-drop, All-get_or, All-head, All-take}
use Rattle.std.proofs.lemmas.List.Quantifiers.{position-Some}
use Rattle.paging_model.specs.Counting.{AreDistinct, IsIn}
use Rattle.paging_model.specs.Memory.{Memory}
use Rattle.paging_model.specs.declared.spaces.SpaceKey.{SpaceKey}
use Rattle.history_model.specs.KeptSpaces.{kept_limit, listed_first, same_key, without}
use Rattle.history_laws.proofs.KeyLaws.{same_key-value}
use Rattle.space_map.specs.TrueSpaces.{IsSpaceOf, IsTrueOf}
use Rattle.space_map.specs.declared.space.Space.{Space}
use Rattle.kept_spaces.specs.Keys.{MayBeKept, has_key, keys_of}
use Rattle.kept_spaces.specs.Listing.{IsListed, IsMovedFirst, IsPutFirst, ListTakes}
use Rattle.kept_spaces.proofs.KeyLists.{StandsOnce, distinct-around, distinct-first, take-distinct, without-none, without-once}

-- ---- whether a key is kept

absent : (key : SpaceKey) (spaces : List Space) → length spaces ≤ position_or_len (has_key key) spaces → IsIn key (keys_of spaces) → ⊥
absent key [] past is = is
absent key (one ∷ rest) past is = by_first (has_key key one) refl (λ later there. absent key rest later there)
  where
    by_first : (same : Bool) → same_key one.key key ≡ same
        → (length rest ≤ position_or_len (has_key key) rest → IsIn key (keys_of rest) → ⊥) → ⊥
    by_first true same none = let never : suc (length rest) ≤ 0 = rw same at past in omega arith
    by_first false same none =
        let more : suc (length rest) ≤ 1 + position_or_len (has_key key) rest = rw same at past in
        elim is [
          | inl own ↦ let own_is : same_key one.key key ≡ true = (same_key-value one.key key).1 (sym own) in
              let never : true ≡ false = sym own_is ∙ same in cc
          | inr there ↦ none (omega arith) there
        ]

-- no space has it
pub not-kept : (key : SpaceKey) (spaces : List Space) → None ≡ position (has_key key) spaces → IsIn key (keys_of spaces) → ⊥
not-kept key spaces none = absent key spaces (past (nat_lt (position_or_len (has_key key) spaces) (length spaces)) refl (sym none))
  where
    past : (within : Bool) → nat_lt (position_or_len (has_key key) spaces) (length spaces) ≡ within
        → cond within (Some (position_or_len (has_key key) spaces)) None ≡ None → length spaces ≤ position_or_len (has_key key) spaces
    past true is never = absurd cc
    past false is never = grind (arith, nat_tests)

-- a list is what stands before an index, the thing there, and what stands after it
around-index : (spaces : List Space) (index : ℕ) (d : Space) → index < length spaces
    → spaces ≡ take index spaces ++ get_or spaces index d ∷ drop (suc index) spaces
around-index [] index d within = absurd (omega arith)
around-index (one ∷ rest) zero d within = refl
around-index (one ∷ rest) (suc index) d within = ap (λ more. one ∷ more) (around-index rest index d (omega arith))

-- the space at an index has the key, and stands between others
pub record StandsAt (key : SpaceKey) (spaces : List Space) (index : ℕ) : Type 0 where
  pub within : index < length spaces
  pub key_is : (d : Space) → (get_or spaces index d).key ≡ key

pub kept-at : (key : SpaceKey) (spaces : List Space) (index : ℕ) → Some index ≡ position (has_key key) spaces → StandsAt key spaces index
kept-at key [] index is = absurd cc
kept-at key (one ∷ rest) index is = record {
  within = (position-Some (has_key key) (one ∷ rest) index one (sym is)).0;
  key_is = λ d. (same_key-value (get_or (one ∷ rest) index d).key key).0 ((position-Some (has_key key) (one ∷ rest) index d (sym is)).1);
}

key-in : (key : SpaceKey) (spaces : List Space) (index : ℕ) → StandsAt key spaces index → IsIn key (keys_of spaces)
key-in key [] index at = absurd (omega (arith, at.within))
key-in key (one ∷ rest) zero at = inl (sym (at.key_is one))
key-in key (one ∷ rest) (suc index) at = inr (key-in key rest index (record { within = omega (arith, at.within); key_is = at.key_is }))

pub listed-kept : (memory : Memory) (key : SpaceKey) (spaces : List Space) (steps : ℕ) → (index : ℕ)
    → Some index ≡ position (has_key key) spaces → ListTakes memory (keys_of spaces) key steps steps
listed-kept memory key spaces steps index is = inl (key-in key spaces index (kept-at key spaces index is), refl)

-- ---- a kept space moves to the front

-- what is taken out at an index and put in front is moved there
pub put-in-front : {T E : Type 0} (result : Result T E) (spaces others after : List Space) (index : ℕ) (d space : Space)
    → index < length spaces → space ≡ get_or spaces index space → others ≡ remove spaces index → IsOk result
    → after ≡ (if is_ok result then space ∷ others else others) → after ≡ get_or spaces index d ∷ remove spaces index
put-in-front (Err e) spaces others after index d space within read others_are ok after_is = absurd (search rules)
put-in-front (Ok t) spaces others after index d space within read others_are ok after_is =
    after_is
    ∙ (ap (λ (list : List Space). space ∷ list) others_are
    ∙ ap (λ (one : Space). one ∷ remove spaces index) (get_or_read spaces index space within read d))

keys-around : (key : SpaceKey) (spaces : List Space) (index : ℕ) → StandsAt key spaces index
    → keys_of spaces ≡ keys_of (take index spaces) ++ key ∷ keys_of (drop (suc index) spaces)
keys-around key [] index at = absurd (omega (arith, at.within))
keys-around key (one ∷ rest) index at =
    let spaces : List Space = one ∷ rest in
    ap keys_of (around-index spaces index one at.within)
    ∙ (map-append (λ (space : Space). space.key) (take index spaces) (get_or spaces index one ∷ drop (suc index) spaces)
    ∙ ap (λ (first : SpaceKey). keys_of (take index spaces) ++ first ∷ keys_of (drop (suc index) spaces)) (at.key_is one))

keys-moved : (key : SpaceKey) (old new : List Space) (index : ℕ) → StandsAt key old index → IsMovedFirst index old new
    → keys_of new ≡ key ∷ keys_of (take index old) ++ keys_of (drop (suc index) old)
keys-moved key [] new index at moved = absurd (omega (arith, at.within))
keys-moved key (one ∷ rest) new index at moved =
    let old : List Space = one ∷ rest in
    ap keys_of (moved one)
    ∙ (ap (λ (more : List SpaceKey). (get_or old index one).key ∷ more)
    (map-append (λ (space : Space). space.key) (take index old) (drop (suc index) old))
    ∙ ap (λ (first : SpaceKey). first ∷ keys_of (take index old) ++ keys_of (drop (suc index) old)) (at.key_is one))

once-around : (key : SpaceKey) (spaces : List Space) (index : ℕ) → MayBeKept spaces → StandsAt key spaces index
    → StandsOnce key (keys_of (take index spaces)) (keys_of (drop (suc index) spaces))
once-around key spaces index kept at =
    distinct-around key (keys_of (take index spaces)) (keys_of (drop (suc index) spaces))
    (subst (λ (keys : List SpaceKey). AreDistinct keys) (keys-around key spaces index at) kept.distinct)

-- as many keys as before
length-moved : (key : SpaceKey) (front back : List SpaceKey) → length (key ∷ front ++ back) ≡ length (front ++ key ∷ back)
length-moved key front back =
    omega (arith, length-append (key ∷ front) back, length-append front (key ∷ back))

few-moved : (key : SpaceKey) (old : List Space) (index : ℕ) → MayBeKept old → StandsAt key old index
    → length (key ∷ keys_of (take index old) ++ keys_of (drop (suc index) old)) ≤ kept_limit
few-moved key old index kept at =
    let same = length-moved key (keys_of (take index old)) (keys_of (drop (suc index) old)) in
    let were : length (keys_of old) ≡ length (keys_of (take index old) ++ key ∷ keys_of (drop (suc index) old)) = ap length (keys-around key old index at) in
    omega (arith, same, were, length-map old (λ (space : Space). space.key), kept.few)

listed-moved : (key : SpaceKey) (old new : List Space) (index : ℕ) → MayBeKept old → StandsAt key old index
    → IsMovedFirst index old new → keys_of new ≡ listed_first key (keys_of old)
listed-moved key old new index kept at moved =
    let front = keys_of (take index old) in
    let back = keys_of (drop (suc index) old) in
    let others : without key (keys_of old) ≡ front ++ back =
    ap (without key) (keys-around key old index at) ∙ without-once key front back (once-around key old index kept at) in
    keys-moved key old new index at moved
    ∙ (sym (take_all kept_limit (key ∷ front ++ back) (few-moved key old index kept at))
    ∙ ap (λ more. take kept_limit (key ∷ more)) (sym others))

pub moved-kept : (key : SpaceKey) (old new : List Space) (index : ℕ) → MayBeKept old → StandsAt key old index
    → IsMovedFirst index old new → MayBeKept new
moved-kept key old new index kept at moved = record {
  few =
      let same = ap length (keys-moved key old new index at moved) in
      omega (arith, few-moved key old index kept at, same, length-map new (λ (space : Space). space.key));
  distinct = subst (λ (keys : List SpaceKey). AreDistinct keys) (sym (keys-moved key old new index at moved))
      (distinct-first key (keys_of (take index old)) (keys_of (drop (suc index) old)) (once-around key old index kept at));
}

true-moved : (memory : Memory) (old new : List Space) (index : ℕ) → index < length old → IsMovedFirst index old new
    → All (IsTrueOf memory) old → All (IsTrueOf memory) new
true-moved memory [] new index within moved are_true = absurd (omega (arith, within))
true-moved memory (one ∷ rest) new index within moved are_true =
    let old : List Space = one ∷ rest in
    subst (All (IsTrueOf memory)) (sym (moved one))
    (All-cons (IsTrueOf memory) (get_or old index one) (remove old index)
    (All-get_or (IsTrueOf memory) old index one within are_true)
    (All-append (IsTrueOf memory) (take index old) (drop (suc index) old)
    (All-take (IsTrueOf memory) index old are_true) (All-drop (IsTrueOf memory) (suc index) old are_true)))

pub moved-listed : (memory : Memory) (key : SpaceKey) (old new : List Space) (index : ℕ) → MayBeKept old
    → All (IsTrueOf memory) old → StandsAt key old index → IsMovedFirst index old new → IsListed memory key old new
moved-listed memory key old new index kept are_true at moved = record {
  keys = listed-moved key old new index kept at moved;
  are_true = true-moved memory old new index at.within moved are_true;
}

-- ---- a space that was built is put to the front

keys-put : (key : SpaceKey) (space : Space) (old new : List Space) → space.key ≡ key → IsPutFirst space old new
    → keys_of new ≡ take kept_limit (key ∷ keys_of old)
keys-put key space old new key_is put =
    ap keys_of put
    ∙ (sym (take-map (λ (one : Space). one.key) kept_limit (space ∷ old))
    ∙ ap (λ (first : SpaceKey). take kept_limit (first ∷ keys_of old)) key_is)

put-kept : (key : SpaceKey) (space : Space) (old new : List Space) → MayBeKept old → (IsIn key (keys_of old) → ⊥)
    → space.key ≡ key → IsPutFirst space old new → MayBeKept new
put-kept key space old new kept none key_is put = record {
  few = let long = ap length put in omega (arith, long, length-take kept_limit (space ∷ old));
  distinct = subst (λ (keys : List SpaceKey). AreDistinct keys) (sym (keys-put key space old new key_is put))
      (take-distinct kept_limit (key ∷ keys_of old) (none, kept.distinct));
}

pub put-listed : (memory : Memory) (key : SpaceKey) (space : Space) (old new : List Space) → All (IsTrueOf memory) old
    → (IsIn key (keys_of old) → ⊥) → IsSpaceOf memory key space → IsPutFirst space old new → IsListed memory key old new
put-listed memory key space old new are_true none is put = record {
  keys = keys-put key space old new is.key_is put
      ∙ ap (λ more. take kept_limit (key ∷ more)) (sym (without-none key (keys_of old) none));
  are_true = subst (All (IsTrueOf memory)) (sym put)
      (All-take (IsTrueOf memory) kept_limit (space ∷ old) (All-cons (IsTrueOf memory) space old is.is_true are_true));
}

-- memory may have run out, and nothing changed then
pub put-kept-or-not : {E : Type 0} (done : Result (Unit {0}) E) (key : SpaceKey) (space : Space) (old new : List Space)
    → MayBeKept old → (IsIn key (keys_of old) → ⊥) → space.key ≡ key → OnOk done (IsPutFirst space old new)
    → OnErr done (new ≡ old) → MayBeKept new
put-kept-or-not (Ok u) key space old new kept none key_is put same = put-kept key space old new kept none key_is put
put-kept-or-not (Err e) key space old new kept none key_is put same = subst MayBeKept (sym same) kept

-- ---- the space that was listed

pub some-listed : (memory : Memory) (key : SpaceKey) (old new : List Space) → IsListed memory key old new → 1 ≤ length new
some-listed memory key old [] listed = let never = listed.keys in absurd cc
some-listed memory key old (one ∷ rest) listed = omega arith

pub first-listed : (memory : Memory) (key : SpaceKey) (space : Space) (old new : List Space) → IsListed memory key old new
    → slice_get new 0 ≡ Some space → IsSpaceOf memory key space
first-listed memory key space old [] listed is = absurd cc
first-listed memory key space old (one ∷ rest) listed is =
    let same : one ≡ space = same-some one space is in
    subst (IsSpaceOf memory key) same
    (record { key_is = first-key one.key key (keys_of rest) (take 15 (without key (keys_of old))) listed.keys; is_true = All-head (IsTrueOf memory) one rest listed.are_true })
  where
    same-some : (a b : Space) → Some a ≡ Some b → a ≡ b
    same-some a b h = cc

    first-key : (a b : SpaceKey) (more others : List SpaceKey) → a ∷ more ≡ b ∷ others → a ≡ b
    first-key a b more others h = cc
