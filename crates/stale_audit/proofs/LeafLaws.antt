-- The first stale translation by some entries of a slot.
use Rattle.std.proofs.Common.{◌≡◌, ℕ, ◌+◌, ◌-◌, ◌*◌, ◌/◌, ◌%◌, ◌^◌, ◌<◌, ◌⊎◌, inl, inr, List, [], ◌∷◌, ◌++◌, length, get_or, take, Option, sym, ap, ◌∙◌, subst, arith}
use Rattle.std.proofs.lemmas.List.{take_more}
use Rattle.std.proofs.lemmas.Nat.{div-add-mod'}
use Rattle.std.proofs.Math.Pow.{mod-mod-pow}
use Rattle.paging_model.specs.LinearAddress.{span}
use Rattle.audit_laws.specs.Firsts.{IsFirst, first_of_two}
use Rattle.audit_laws.specs.declared.stale_pages.StalePage.{StalePage}
use Rattle.audit_laws.proofs.FirstLaws.{first-either, first-same}
use Rattle.past_entries.specs.declared.entries.PastEntry.{PastEntry}
use Rattle.stale_audit.specs.Facts.{Facts}
use Rattle.stale_audit.specs.SlotEntries.{IsLeafOf, IsLeafOfSome}

-- one entry more
leaf-front : (facts : Facts) (level first : ℕ) (entries : List PastEntry) (entry : PastEntry) (one : StalePage)
    → IsLeafOfSome facts level first (entries ++ entry ∷ []) one
    → IsLeafOfSome facts level first entries one ⊎ IsLeafOf facts level first entry one
leaf-front facts level first [] entry one (inl h) = inr h
leaf-front facts level first [] entry one (inr h) = absurd h
leaf-front facts level first (x ∷ entries) entry one (inl h) = inl (inl h)
leaf-front facts level first (x ∷ entries) entry one (inr h) =
    elim (leaf-front facts level first entries entry one h) [ inl a ↦ inl (inr a) | inr b ↦ inr b ]

leaf-back : (facts : Facts) (level first : ℕ) (entries : List PastEntry) (entry : PastEntry) (one : StalePage)
    → IsLeafOfSome facts level first entries one ⊎ IsLeafOf facts level first entry one
    → IsLeafOfSome facts level first (entries ++ entry ∷ []) one
leaf-back facts level first [] entry one (inl h) = absurd h
leaf-back facts level first [] entry one (inr h) = inl h
leaf-back facts level first (x ∷ entries) entry one (inl (inl h)) = inl h
leaf-back facts level first (x ∷ entries) entry one (inl (inr h)) = inr (leaf-back facts level first entries entry one (inl h))
leaf-back facts level first (x ∷ entries) entry one (inr h) = inr (leaf-back facts level first entries entry one (inr h))

pub leaf-more : (facts : Facts) (level first : ℕ) (entries : List PastEntry) (i : ℕ) (d : PastEntry) (best found : Option StalePage)
    → i < length entries → IsFirst (IsLeafOfSome facts level first (take i entries)) best
    → IsFirst (IsLeafOf facts level first (get_or entries i d)) found
    → IsFirst (IsLeafOfSome facts level first (take (i + 1) entries)) (first_of_two best found)
leaf-more facts level first entries i d best found h so_far next =
    subst (λ list. IsFirst (IsLeafOfSome facts level first list) (first_of_two best found)) (sym (take_more entries i d h))
    (first-same (λ one. IsLeafOfSome facts level first (take i entries) one ⊎ IsLeafOf facts level first (get_or entries i d) one)
    (IsLeafOfSome facts level first (take i entries ++ get_or entries i d ∷ [])) (first_of_two best found)
    (leaf-back facts level first (take i entries) (get_or entries i d))
    (leaf-front facts level first (take i entries) (get_or entries i d))
    (first-either (IsLeafOfSome facts level first (take i entries)) (IsLeafOf facts level first (get_or entries i d)) best found so_far next))

-- a list of one entry
pub leaf-one : (facts : Facts) (level first : ℕ) (entry : PastEntry) (found : Option StalePage)
    → IsFirst (IsLeafOf facts level first entry) found → IsFirst (IsLeafOfSome facts level first (entry ∷ [])) found
leaf-one facts level first entry found is = first-same (IsLeafOf facts level first entry) (IsLeafOfSome facts level first (entry ∷ [])) found
    (λ one leaf. inl leaf) (λ one h. elim h [ inl leaf ↦ leaf | inr n ↦ absurd n ]) is

-- the first address of a slot
pub page-begins : (level first : ℕ) → first % span level ≡ 0 → first % 4096 ≡ 0
page-begins level first h =
    let k : 12 + 9 * (level - 1) ≡ 9 * (level - 1) + 12 = omega arith in
    sym (mod-mod-pow first (9 * (level - 1)) 12) ∙ (ap (λ n. first % 2 ^ n % 4096) (sym k) ∙ ap (λ n. n % 4096) h)

pub prefix-first : (level first : ℕ) → first % span level ≡ 0 → first / span level * span level ≡ first
prefix-first level first h = let d = div-add-mod' first (span level) in omega (arith, d, h)
