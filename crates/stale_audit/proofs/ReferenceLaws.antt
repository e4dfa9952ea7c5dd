-- The tables that entries of a slot reference.
use Rattle.std.proofs.Common.{◌≡◌, ℕ, zero, suc, ◌+◌, ◌<◌, ◌≤◌, ◌⊎◌, inl, inr, Bool, true, false, List, [], ◌∷◌, ◌++◌, length, get_or, take, sym, subst, arith}
use Rattle.std.specs.Prelude.{◌↔◌}
use Rattle.std.proofs.lemmas.List.{take_more}
use Rattle.paging_model.specs.Entries.{IsFrame}
use Rattle.paging_model.specs.declared.entries.Bits.{Bits}
use Rattle.past_entries.specs.declared.entries.PastEntry.{PastEntry}
use Rattle.time_sets.specs.Sets.{has_time}
use Rattle.stale_audit.specs.Facts.{Facts}
use Rattle.stale_audit.specs.Findings.{IsListedAt}
use Rattle.stale_audit.specs.SlotEntries.{AreTablesBelow, IsFillHeldAt, IsReferenceOf, IsReferenceOfSome}
use Rattle.stale_audit.specs.declared.tables.HeldTable.{HeldTable}

abbrev IsUsedAt : HeldTable → ℕ → Bits → ℕ → Type 0
IsUsedAt one frame joined u = (one.frame ≡ frame) × (one.bits ≡ joined) × (has_time one.times u ≡ true)

listed-front : (list : List HeldTable) (one : HeldTable) (frame : ℕ) (joined : Bits) (u : ℕ)
    → IsListedAt (list ++ one ∷ []) frame joined u → IsListedAt list frame joined u ⊎ IsUsedAt one frame joined u
listed-front [] one frame joined u (inl h) = inr h
listed-front [] one frame joined u (inr h) = absurd h
listed-front (x ∷ list) one frame joined u (inl h) = inl (inl h)
listed-front (x ∷ list) one frame joined u (inr h) =
    elim (listed-front list one frame joined u h) [ inl a ↦ inl (inr a) | inr b ↦ inr b ]

listed-back : (list : List HeldTable) (one : HeldTable) (frame : ℕ) (joined : Bits) (u : ℕ)
    → IsListedAt list frame joined u ⊎ IsUsedAt one frame joined u → IsListedAt (list ++ one ∷ []) frame joined u
listed-back [] one frame joined u (inl h) = absurd h
listed-back [] one frame joined u (inr h) = inl h
listed-back (x ∷ list) one frame joined u (inl (inl h)) = inl h
listed-back (x ∷ list) one frame joined u (inl (inr h)) = inr (listed-back list one frame joined u (inl h))
listed-back (x ∷ list) one frame joined u (inr h) = inr (listed-back list one frame joined u (inr h))

-- one entry: its table is added, or it is held at no time
module _ (facts : Facts) (level first : ℕ) (entry : PastEntry) where
  pub listed-more : (list : List HeldTable) (times : List (ℕ × ℕ)) → entry.fill.leaf ≡ false
      → ((u : ℕ) → has_time times u ≡ true ↔ IsFillHeldAt facts level first entry u) → (frame : ℕ) (joined : Bits) (u : ℕ)
      → IsListedAt (list ++ record { frame = entry.fill.frame; bits = entry.fill.bits; times = times } ∷ []) frame joined u
      ↔ (IsListedAt list frame joined u ⊎ IsReferenceOf facts level first entry frame joined u)
  listed-more list times references held frame joined u =
      let one : HeldTable = record { frame = entry.fill.frame; bits = entry.fill.bits; times = times } in (
        (λ h. elim (listed-front list one frame joined u h) [
          | inl a ↦ inl a
          | inr b ↦ inr (record { references = references; frame_is = b.0; bits_are = b.1; kept = (held u).0 b.2 })
        ]),
        (λ h. listed-back list one frame joined u (elim h [
          | inl a ↦ inl a
          | inr r ↦ inr (r.frame_is, r.bits_are, (held u).1 r.kept)
        ])),
      )

  pub listed-same : (list : List HeldTable) → ((u : ℕ) → IsFillHeldAt facts level first entry u → ⊥)
      → (frame : ℕ) (joined : Bits) (u : ℕ)
      → IsListedAt list frame joined u ↔ (IsListedAt list frame joined u ⊎ IsReferenceOf facts level first entry frame joined u)
  listed-same list none frame joined u = ((λ h. inl h), (λ h. elim h [ inl a ↦ a | inr r ↦ absurd (none u r.kept) ]))

  pub listed-leaf : (list : List HeldTable) → entry.fill.leaf ≡ true → (frame : ℕ) (joined : Bits) (u : ℕ)
      → IsListedAt list frame joined u ↔ (IsListedAt list frame joined u ⊎ IsReferenceOf facts level first entry frame joined u)
  listed-leaf list leaf frame joined u = (
    (λ h. inl h),
    (λ h. elim h [ inl a ↦ a | inr r ↦ absurd (clash entry.fill.leaf leaf r.references) ]),
  )
    where
      clash : (b : Bool) → b ≡ true → b ≡ false → ⊥
      clash b is is-not = absurd (cc)

pub tables-more : (level : ℕ) (list : List HeldTable) (one : HeldTable) → 2 ≤ level → IsFrame one.frame
    → AreTablesBelow level list → AreTablesBelow level (list ++ one ∷ [])
tables-more level [] one two frame are = (two, frame, tt)
tables-more level (x ∷ list) one two frame are = (are.0, are.1, tables-more level list one two frame are.2)

-- one entry more
some-front : (facts : Facts) (level first : ℕ) (entries : List PastEntry) (entry : PastEntry) (frame : ℕ) (joined : Bits) (u : ℕ)
    → IsReferenceOfSome facts level first (entries ++ entry ∷ []) frame joined u
    → IsReferenceOfSome facts level first entries frame joined u ⊎ IsReferenceOf facts level first entry frame joined u
some-front facts level first [] entry frame joined u (inl h) = inr h
some-front facts level first [] entry frame joined u (inr h) = absurd h
some-front facts level first (x ∷ entries) entry frame joined u (inl h) = inl (inl h)
some-front facts level first (x ∷ entries) entry frame joined u (inr h) =
    elim (some-front facts level first entries entry frame joined u h) [ inl a ↦ inl (inr a) | inr b ↦ inr b ]

some-back : (facts : Facts) (level first : ℕ) (entries : List PastEntry) (entry : PastEntry) (frame : ℕ) (joined : Bits) (u : ℕ)
    → IsReferenceOfSome facts level first entries frame joined u ⊎ IsReferenceOf facts level first entry frame joined u
    → IsReferenceOfSome facts level first (entries ++ entry ∷ []) frame joined u
some-back facts level first [] entry frame joined u (inl h) = absurd h
some-back facts level first [] entry frame joined u (inr h) = inl h
some-back facts level first (x ∷ entries) entry frame joined u (inl (inl h)) = inl h
some-back facts level first (x ∷ entries) entry frame joined u (inl (inr h)) =
    inr (some-back facts level first entries entry frame joined u (inl h))
some-back facts level first (x ∷ entries) entry frame joined u (inr h) =
    inr (some-back facts level first entries entry frame joined u (inr h))

-- a step of the loop over the entries, from the tables `old`: `so` after i of them, and `new` after one more
pub references-more : (facts : Facts) (level first : ℕ) (entries : List PastEntry) (i : ℕ) (d : PastEntry)
    (old so new : List HeldTable) (frame : ℕ) (joined : Bits) (u : ℕ) → i < length entries
    → IsListedAt so frame joined u ↔ (IsListedAt old frame joined u ⊎ IsReferenceOfSome facts level first (take i entries) frame joined u)
    → IsListedAt new frame joined u ↔ (IsListedAt so frame joined u ⊎ IsReferenceOf facts level first (get_or entries i d) frame joined u)
    → IsListedAt new frame joined u ↔ (IsListedAt old frame joined u ⊎ IsReferenceOfSome facts level first (take (i + 1) entries) frame joined u)
references-more facts level first entries i d old so new frame joined u h so_far next =
    let more : take (i + 1) entries ≡ take i entries ++ get_or entries i d ∷ [] = take_more entries i d h in
    let Some_of : List PastEntry → Type 0 = λ list. IsReferenceOfSome facts level first list frame joined u in (
      (λ n. elim (next.0 n) [
        | inl s ↦ elim (so_far.0 s) [
          | inl o ↦ inl o
          | inr r ↦ inr (subst Some_of (sym more) (some-back facts level first (take i entries) (get_or entries i d) frame joined u (inl r)))
        ]
        | inr r ↦ inr (subst Some_of (sym more) (some-back facts level first (take i entries) (get_or entries i d) frame joined u (inr r)))
      ]),
      (λ w. next.1 (elim w [
        | inl o ↦ inl (so_far.1 (inl o))
        | inr r ↦ elim (some-front facts level first (take i entries) (get_or entries i d) frame joined u (subst Some_of more r)) [
          | inl a ↦ inl (so_far.1 (inr a))
          | inr b ↦ inr b
        ]
      ])),
    )

-- no entry, and a list of one
pub references-none : (facts : Facts) (level first : ℕ) (old : List HeldTable) (frame : ℕ) (joined : Bits) (u : ℕ)
    → IsListedAt old frame joined u ↔ (IsListedAt old frame joined u ⊎ IsReferenceOfSome facts level first [] frame joined u)
references-none facts level first old frame joined u = ((λ h. inl h), (λ h. elim h [ inl a ↦ a | inr n ↦ absurd n ]))

pub references-one : (facts : Facts) (level first : ℕ) (entry : PastEntry) (old new : List HeldTable) (frame : ℕ) (joined : Bits) (u : ℕ)
    → IsListedAt new frame joined u ↔ (IsListedAt old frame joined u ⊎ IsReferenceOf facts level first entry frame joined u)
    → IsListedAt new frame joined u ↔ (IsListedAt old frame joined u ⊎ IsReferenceOfSome facts level first (entry ∷ []) frame joined u)
references-one facts level first entry old new frame joined u is = (
  (λ n. elim (is.0 n) [ inl o ↦ inl o | inr r ↦ inr (inl r) ]),
  (λ w. is.1 (elim w [ inl o ↦ inl o | inr s ↦ elim s [ inl r ↦ inr r | inr n ↦ absurd n ] ])),
)

-- a listed table
table-in : (level : ℕ) (list : List HeldTable) (k : ℕ) (d : HeldTable) → k < length list → AreTablesBelow level list
    → (2 ≤ level) × IsFrame (get_or list k d).frame
table-in level [] k d h are = absurd (omega arith)
table-in level (x ∷ list) zero d h are = (are.0, are.1)
table-in level (x ∷ list) (suc k) d h are = table-in level list k d (omega arith) are.2

pub table-at : (level : ℕ) (list : List HeldTable) (k : ℕ) (one : HeldTable) → k < length list → one ≡ get_or list k one
    → AreTablesBelow level list → (2 ≤ level) × IsFrame one.frame
table-at level list k one h is are =
    subst (λ (table : HeldTable). (2 ≤ level) × IsFrame table.frame) (sym is) (table-in level list k one h are)
