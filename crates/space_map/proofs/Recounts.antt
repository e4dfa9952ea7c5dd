-- The numbers of pages of the uses of patches are changed, one after another.
use Rattle.std.proofs.Common.{◌≡◌, ℕ, zero, suc, ◌+◌, ◌-◌, ◌<◌, ◌≤◌, ◌^◌, ◌⊎◌, inl, inr, List, [], ◌∷◌, length, drop, get_or, refl, sym, ap, ◌∙◌, subst, arith}
use Rattle.std.proofs.lemmas.Bool.{cases_lt}
use Rattle.std.proofs.lemmas.List.{drop_more, drop_all}
use Rattle.paging_model.specs.Counting.{IsIn}
use Rattle.paging_model.specs.declared.spaces.TableUse.{TableUse}
use Rattle.frame_index.specs.CountedUses.{IsAt, IsRecounted, with_pages}
use Rattle.frame_index.specs.declared.counted_use.CountedUse.{CountedUse}
use Rattle.kept_laws.specs.declared.patches.Patch.{Patch}
use Rattle.space_map.specs.PatchWalks.{AreNumberChanges, AreFramed, AreNumbered, AreOfOwnUses, HaveSameTables, IsChange, IsChanged, IsOfPatch, IsTableOf}

same-number : (m n : ℕ) → ((m ≡ n) ⊎ (m ≡ n → ⊥))
same-number m n = elim (cases_lt m n) [
  | inl less ↦ inr (λ is. omega (arith, less, is))
  | inr most ↦ elim (cases_lt n m) [ inl more ↦ inr (λ is. omega (arith, more, is)) | inr least ↦ inl (omega (arith, most, least)) ]
]

pub is-of_patch : (patch : Patch) (table : TableUse) → (IsOfPatch patch table ⊎ (IsOfPatch patch table → ⊥))
is-of_patch patch table = elim (same-number patch.table.level table.level) [
  | inl level ↦ elim (same-number patch.table.prefix table.prefix) [
    | inl prefix ↦ inl (level, prefix)
    | inr other ↦ inr (λ at. other at.1)
  ]
  | inr other ↦ inr (λ at. other at.0)
]

is-at : (level prefix : ℕ) (one : CountedUse) → (IsAt level prefix one ⊎ (IsAt level prefix one → ⊥))
is-at level prefix one = elim (same-number one.table.level level) [
  | inl l ↦ elim (same-number one.table.prefix prefix) [
    | inl p ↦ inl (l, p)
    | inr other ↦ inr (λ at. other at.1)
  ]
  | inr other ↦ inr (λ at. other at.0)
]

pub tables-same : (index : List CountedUse) → HaveSameTables index index
tables-same index = record { were = λ one is. (one, is, refl); stay = λ one is. (one, is, refl) }

pub tables-both : (old between new : List CountedUse) → HaveSameTables old between → HaveSameTables between new → HaveSameTables old new
tables-both old between new first second = record {
  were = λ one is. let mid = second.were one is in let was = first.were mid.0 mid.1 in (was.0, was.1, was.2 ∙ mid.2);
  stay = λ one is. let mid = first.stay one is in let now = second.stay mid.0 mid.1 in (now.0, now.1, now.2 ∙ mid.2);
}

pub tables-with_pages : (level prefix pages : ℕ) (old new : List CountedUse) → IsRecounted level prefix pages old new → HaveSameTables old new
tables-with_pages level prefix pages old new is = record {
  were = λ one is_in. elim (is.each one is_in) [
    | inl stays ↦ (one, stays.0, refl)
    | inr changed ↦ (changed.0, changed.1, ap (λ (it : CountedUse). it.table) (sym changed.3))
  ];
  stay = λ one is_in. elim (is-at level prefix one) [
    | inl at ↦ (with_pages pages one, is.changed one is_in at, refl)
    | inr other ↦ (one, is.others one is_in other, refl)
  ];
}

module _ (was is : TableUse → ℕ) (patch : Patch) (before after : ℕ) where
  -- the entries of the patch map as many pages as before
  pub changed-same : (index : List CountedUse) → before ≡ after → AreFramed (patch ∷ []) index → IsChange was is patch before after
      → IsChanged was is patch index index
  changed-same index same framed change = record {
    each = λ one is_in. elim (is-of_patch patch one.table) [
      | inl at ↦ inr (
        one,
        is_in,
        refl,
        at,
        λ old. old ∙ (let number = change.same one.table (at, framed patch (inl refl) one is_in at) in omega (arith, number, same)),
      )
      | inr other ↦ inl (is_in, other)
    ];
  }

  -- there is no such use
  pub changed-none : (index : List CountedUse) → ((one : CountedUse) → IsIn one index → IsAt patch.table.level patch.table.prefix one → ⊥)
      → IsChanged was is patch index index
  changed-none index never = record { each = λ one is_in. inl (is_in, λ at. never one is_in (sym at.0, sym at.1)) }

  -- the use has its new number
  pub changed-use : (found : CountedUse) (pages : ℕ) (old new : List CountedUse) → AreFramed (patch ∷ []) old → IsChange was is patch before after
      → (pages ≡ found.pages - before + after ⊎ (2 ^ 16 ≤ found.pages - before + after))
      → ((one : CountedUse) → IsIn one old → IsAt patch.table.level patch.table.prefix one → one ≡ found)
      → IsRecounted patch.table.level patch.table.prefix pages old new → IsChanged was is patch old new
  changed-use found pages old new framed change number only is_new = record {
    each = λ one is_in. elim (is_new.each one is_in) [
      | inl stays ↦ inl (stays.0, λ at. stays.1 (sym at.0, sym at.1))
      | inr changed ↦
          let table : one.table ≡ changed.0.table = ap (λ (it : CountedUse). it.table) changed.3 in
          let at : IsOfPatch patch one.table =
          (sym changed.2.0 ∙ ap (λ (it : TableUse). it.level) (sym table), sym changed.2.1 ∙ ap (λ (it : TableUse). it.prefix) (sym table)) in
          inr (
            changed.0,
            changed.1,
            sym table,
            at,
            λ old_number.
                let one_of = only changed.0 changed.1 changed.2 in
                let had : found.pages ≡ was changed.0.table = ap (λ (it : CountedUse). it.pages) (sym one_of) ∙ old_number in
                let place : IsOfPatch patch changed.0.table = (sym changed.2.0, sym changed.2.1) in
                let there : IsTableOf patch changed.0.table = (place, framed patch (inl refl) changed.0 changed.1 place) in
                let same = change.same changed.0.table there in
                let least = change.least changed.0.table there in
                let most = change.most changed.0.table there in
                let has : one.pages ≡ pages = ap (λ (it : CountedUse). it.pages) changed.3 in
                let now : is changed.0.table ≡ is one.table = ap is (sym table) in
                elim number [
                  | inl exact ↦ omega (arith, has, exact, had, same, least, now)
                  | inr over ↦ absurd (omega (arith, over, had, same, least, most))
                ],
          )
    ];
  }

-- the patches before have their new numbers
pub numbered-next : (was is : TableUse → ℕ) (patch : Patch) (rest : List Patch) (old new : List CountedUse)
    → ((other : Patch) → IsIn other rest → other.table.level ≡ patch.table.level → other.table.prefix ≡ patch.table.prefix → ⊥)
    → AreNumbered was is (patch ∷ rest) old → IsChanged was is patch old new → AreNumbered was is rest new
numbered-next was is patch rest old new own numbered changed = record {
  waiting = λ one is_in other there at. elim (changed.each one is_in) [
    | inl stays ↦ numbered.waiting one stays.0 other (inr there) at
    | inr here ↦ absurd (own other there (at.0 ∙ sym here.3.0) (at.1 ∙ sym here.3.1))
  ];
  settled = λ one is_in none. elim (changed.each one is_in) [
    | inl stays ↦
        numbered.settled one stays.0
        (λ other there at. elim there [
          | inl same ↦ stays.1 (subst (λ (it : Patch). IsOfPatch it one.table) same at)
          | inr later ↦ none other later at
        ])
    | inr here ↦
        here.4 (numbered.waiting here.0 here.1 patch (inl refl) (subst (λ (it : TableUse). IsOfPatch patch it) (sym here.2) here.3))
  ];
}

-- the rest of the patches, from one on
pub own-drop : (patches : List Patch) (i : ℕ) → AreOfOwnUses patches → AreOfOwnUses (drop i patches)
own-drop patches zero own = own
own-drop [] (suc i) own = tt
own-drop (one ∷ rest) (suc i) own = own-drop rest i own.1

pub changes-drop : (was is : TableUse → ℕ) (patches : List Patch) (before after : List ℕ) (i : ℕ) → AreNumberChanges was is patches before after
    → AreNumberChanges was is (drop i patches) (drop i before) (drop i after)
changes-drop was is patches before after zero changes = changes
changes-drop was is [] before after (suc i) changes = tt
changes-drop was is (one ∷ rest) [] after (suc i) changes = absurd changes
changes-drop was is (one ∷ rest) (b ∷ before) [] (suc i) changes = absurd changes
changes-drop was is (one ∷ rest) (b ∷ before) (a ∷ after) (suc i) changes = changes-drop was is rest before after i changes.1

module _ (was is : TableUse → ℕ) (patches : List Patch) (before after : List ℕ) (i : ℕ) (d : Patch) (b a : ℕ) (within : i < length patches)
    (befores : length before ≡ length patches) (afters : length after ≡ length patches) where
  pub change-at : AreNumberChanges was is patches before after → IsChange was is (get_or patches i d) (get_or before i b) (get_or after i a)
  change-at changes =
      let rest = changes-drop was is patches before after i changes in
      let here = drop_more patches i d within in
      let one = drop_more before i b (omega (arith, within, befores)) in
      let other = drop_more after i a (omega (arith, within, afters)) in
      (subst (λ (it : List ℕ). AreNumberChanges was is (get_or patches i d ∷ drop (i + 1) patches) (get_or before i b ∷ drop (i + 1) before) it) other
      (subst (λ (it : List ℕ). AreNumberChanges was is (get_or patches i d ∷ drop (i + 1) patches) it (drop i after)) one
      (subst (λ (it : List Patch). AreNumberChanges was is it (drop i before) (drop i after)) here rest))).0

  pub numbered-more : (old new : List CountedUse) → AreOfOwnUses patches → AreNumbered was is (drop i patches) old
      → IsChanged was is (get_or patches i d) old new → AreNumbered was is (drop (i + 1) patches) new
  numbered-more old new own numbered changed =
      let here = drop_more patches i d within in
      let own_here = subst AreOfOwnUses here (own-drop patches i own) in
      numbered-next was is (get_or patches i d) (drop (i + 1) patches) old new own_here.0
      (subst (λ (it : List Patch). AreNumbered was is it old) here numbered) changed

pub numbered-ends : (was is : TableUse → ℕ) (patches : List Patch) (i : ℕ) (index : List CountedUse) → length patches ≤ i
    → AreNumbered was is (drop i patches) index → AreNumbered was is [] index
numbered-ends was is patches i index all numbered = subst (λ (it : List Patch). AreNumbered was is it index) (drop_all i patches all) numbered

-- the tables stay at the places of the patches, and so do their frames
pub framed-same : (patches : List Patch) (old new : List CountedUse) → HaveSameTables old new → AreFramed patches old → AreFramed patches new
framed-same patches old new same framed patch is one is_in at =
    let was = same.were one is_in in
    ap (λ (it : TableUse). it.frame) (sym was.2)
    ∙ framed patch is was.0 was.1 (subst (λ (it : TableUse). IsOfPatch patch it) (sym was.2) at)

pub framed-one : (patches : List Patch) (patch : Patch) (index : List CountedUse) → IsIn patch patches → AreFramed patches index → AreFramed (patch ∷ []) index
framed-one patches patch index is framed other (inl same) one is_in at = framed other (subst (λ (it : Patch). IsIn it patches) (sym same) is) one is_in at
framed-one patches patch index is framed other (inr never) one is_in at = absurd never
