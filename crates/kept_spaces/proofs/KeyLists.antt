-- Lists of keys: the others of one, and a key that stands once among them.
use Rattle.std.proofs.Common.{◌≡◌, ℕ, zero, suc, inl, inr, Bool, true, false, List, [], ◌∷◌, ◌++◌, take, refl, sym, ap, ◌∙◌}
use Rattle.std.specs.Prelude.{if◌then◌else◌}
use Rattle.paging_model.specs.Counting.{AreDistinct, IsIn}
use Rattle.paging_model.specs.declared.spaces.SpaceKey.{SpaceKey}
use Rattle.paging_laws.proofs.Membership.{in-append, append-left, append-right}
use Rattle.history_model.specs.KeptSpaces.{same_key, without}
use Rattle.history_laws.proofs.KeyLaws.{same_key-self, same_key-value}

-- ---- lists of things

module _ {Thing : Type 0} where
  -- the thing stands in neither part, and no thing stands twice in both
  pub record StandsOnce (thing : Thing) (front back : List Thing) : Type 0 where
    pub not_in_front : IsIn thing front → ⊥
    pub not_in_back : IsIn thing back → ⊥
    pub others : AreDistinct (front ++ back)

  in-around : (front back : List Thing) (middle thing : Thing) → IsIn thing (front ++ back) → IsIn thing (front ++ middle ∷ back)
  in-around front back middle thing is = elim (in-append front back thing is) [
    | inl left ↦ append-left front (middle ∷ back) thing left
    | inr right ↦ append-right front (middle ∷ back) thing (inr right)
  ]

  pub distinct-around : (thing : Thing) (front back : List Thing) → AreDistinct (front ++ thing ∷ back) → StandsOnce thing front back
  distinct-around thing [] back distinct =
      record { not_in_front = λ is. is; not_in_back = distinct.0; others = distinct.1 }
  distinct-around thing (one ∷ front) back distinct =
      let rest = distinct-around thing front back distinct.1 in
      record {
        not_in_front = λ is. elim is [
          | inl same ↦ distinct.0 (append-right front (thing ∷ back) one (inl (sym same)))
          | inr there ↦ rest.not_in_front there
        ];
        not_in_back = rest.not_in_back;
        others = ((λ is. distinct.0 (in-around front back thing one is)), rest.others);
      }

  pub distinct-first : (thing : Thing) (front back : List Thing) → StandsOnce thing front back → AreDistinct (thing ∷ front ++ back)
  distinct-first thing front back once = (
    λ is. elim (in-append front back thing is) [
      | inl left ↦ once.not_in_front left
      | inr right ↦ once.not_in_back right
    ],
    once.others,
  )

  take-in : (n : ℕ) (things : List Thing) (thing : Thing) → IsIn thing (take n things) → IsIn thing things
  take-in zero things thing is = absurd is
  take-in (suc n) [] thing is = is
  take-in (suc n) (one ∷ rest) thing (inl same) = inl same
  take-in (suc n) (one ∷ rest) thing (inr there) = inr (take-in n rest thing there)

  pub take-distinct : (n : ℕ) (things : List Thing) → AreDistinct things → AreDistinct (take n things)
  take-distinct zero things distinct = tt
  take-distinct (suc n) [] distinct = tt
  take-distinct (suc n) (one ∷ rest) distinct = ((λ is. distinct.0 (take-in n rest one is)), take-distinct n rest distinct.1)

-- ---- the others of a list

without-append : (key : SpaceKey) (front back : List SpaceKey) → without key (front ++ back) ≡ without key front ++ without key back
without-append key [] back = refl
without-append key (one ∷ front) back =
    ap (λ rest. if same_key one key then rest else one ∷ rest) (without-append key front back)
    ∙ both-ways (same_key one key) one (without key front) (without key back)
  where
    both-ways : (same : Bool) (one : SpaceKey) (front back : List SpaceKey)
        → (if same then front ++ back else one ∷ (front ++ back)) ≡ (if same then front else one ∷ front) ++ back
    both-ways true one front back = refl
    both-ways false one front back = refl

other-key : (key one : SpaceKey) (rest : List SpaceKey) (same : Bool) → same_key one key ≡ same → (IsIn key (one ∷ rest) → ⊥)
    → same ≡ false
other-key key one rest true is none = absurd (none (inl (sym ((same_key-value one key).0 is))))
other-key key one rest false is none = refl

-- where the key isn't in the list, they are all of it
pub without-none : (key : SpaceKey) (keys : List SpaceKey) → (IsIn key keys → ⊥) → without key keys ≡ keys
without-none key [] none = refl
without-none key (one ∷ rest) none =
    let other : same_key one key ≡ false = other-key key one rest (same_key one key) refl none in
    rw other (ap (λ more. one ∷ more) (without-none key rest (λ there. none (inr there))))

-- where it stands once, they are those before and after it
pub without-once : (key : SpaceKey) (front back : List SpaceKey) → StandsOnce key front back
    → without key (front ++ key ∷ back) ≡ front ++ back
without-once key front back once =
    let own : without key (key ∷ back) ≡ without key back = rw (same_key-self key) refl in
    without-append key front (key ∷ back)
    ∙ (ap (λ more. without key front ++ more) (own ∙ without-none key back once.not_in_back)
    ∙ ap (λ more. more ++ back) (without-none key front once.not_in_front))
