-- What a processor may use, by what it holds under each PCID.
use Rattle.std.proofs.Common.{◌≡◌, ℕ, ◌⊎◌, ◌↔◌, ◌&&◌, inl, inr, Bool, true, false, Option, Some, List, [], ◌∷◌, refl, sym, ap, ◌∙◌, subst}
use Rattle.std.specs.Prelude.{filter}
use Rattle.paging_model.specs.Counting.{IsIn}
use Rattle.paging_model.specs.LinearAddress.{IsPage}
use Rattle.paging_model.specs.Registers.{la57}
use Rattle.paging_model.specs.Translations.{Target, present_target}
use Rattle.paging_model.specs.declared.registers.Regs.{Regs}
use Rattle.history_model.specs.History.{History, last_root, machine, memory, regs, visited_pcids}
use Rattle.history_model.specs.declared.caches.Finding.{Finding}
use Rattle.history_model.specs.CachedTranslations.{MayHold, frame_at}
use Rattle.history_model.specs.StaleTranslations.{Exceeds, IsStale, excess_over, held_target}
use Rattle.history_reference.specs.CacheEntries.{HeldEntry, entry_of_level}
use Rattle.history_reference.specs.GivenPages.{IsFoundOf, IsGlobalUnder, IsStaleAmong, IsUsable}
use Rattle.history_reference.specs.HeldLists.{AreHeld}
use Rattle.paging_reference.proofs.Membership.{IsIn-filter, IsIn-filter_only}

abbrev pub is_global_leaf : HeldEntry → Bool
is_global_leaf entry = entry.held.leaf && entry.held.global

both_hold : (one other : Bool) → (one && other) ≡ true → (one ≡ true) × (other ≡ true)
both_hold true other h = (refl, h)
both_hold false other h = absurd (cc)

both_true : (one other : Bool) → one ≡ true → other ≡ true → (one && other) ≡ true
both_true one other h k = rw (h, k) refl

module _ (history : History) (p : ℕ) (under page : ℕ) (held : List HeldEntry) (all : AreHeld history p under page held) (entry : HeldEntry) where
  listed_global : IsIn entry (filter is_global_leaf held) ↔ IsGlobalUnder history p under page entry
  listed_global = (
    λ is_in. let both = IsIn-filter_only is_global_leaf entry held is_in in
        let tests = both_hold entry.held.leaf entry.held.global both.1 in
        record { leaf = tests.0; global = tests.1; held_there = (all entry.level entry.held).0 both.0 },
    λ is. IsIn-filter is_global_leaf entry held ((all entry.level entry.held).1 is.held_there) (both_true entry.held.leaf entry.held.global is.leaf is.global),
  )

  pub added_global : {Now Before : Type 0} → (Now ↔ (Before ⊎ IsIn entry (filter is_global_leaf held)))
      → Now ↔ (Before ⊎ IsGlobalUnder history p under page entry)
  added_global now = (
    λ is_in. elim (now.0 is_in) [ inl before ↦ inl before | inr made ↦ inr (listed_global.0 made) ],
    elim [ inl before ↦ now.1 (inl before) | inr is ↦ now.1 (inr (listed_global.1 is)) ],
  )

-- held under the PCID itself, or global and held under one of these
abbrev pub IsUsableAmong : History → ℕ → ℕ → ℕ → List ℕ → HeldEntry → Type 0
IsUsableAmong history p c page pcids entry =
    ((entry.held.leaf ≡ true) × MayHold history p c entry.level page entry.held)
    ⊎ ((under : ℕ) × IsIn under pcids × IsGlobalUnder history p under page entry)

abbrev pub AreUsable : History → ℕ → ℕ → ℕ → List ℕ → List HeldEntry → Type 0
AreUsable history p c page pcids list = (entry : HeldEntry) → IsIn entry list ↔ IsUsableAmong history p c page pcids entry

module _ (history : History) (p c page : ℕ) where
  pub usable-start : (held : List HeldEntry) → AreHeld history p c page held
      → AreUsable history p c page [] (filter (λ (entry : HeldEntry). entry.held.leaf) held)
  usable-start held all entry = (
    λ is_in. let both = IsIn-filter_only (λ (one : HeldEntry). one.held.leaf) entry held is_in in
        inl (both.1, (all entry.level entry.held).0 both.0),
    elim [
      | inl own ↦ IsIn-filter (λ (one : HeldEntry). one.held.leaf) entry held ((all entry.level entry.held).1 own.1) own.0
      | inr other ↦ absurd (elim other.1 [ ])
    ],
  )

  -- one PCID more
  pub usable-next : (pcids pcids' : List ℕ) (next : ℕ) (list list' : List HeldEntry)
      → ((under : ℕ) → IsIn under pcids' ↔ (IsIn under pcids ⊎ (under ≡ next)))
      → AreUsable history p c page pcids list
      → ((entry : HeldEntry) → IsIn entry list' ↔ (IsIn entry list ⊎ IsGlobalUnder history p next page entry))
      → AreUsable history p c page pcids' list'
  usable-next pcids pcids' next list list' more before now entry = (
    λ is_in. elim ((now entry).0 is_in) [
      | inl old ↦ elim ((before entry).0 old) [ inl own ↦ inl own | inr other ↦ inr (other.0, (more other.0).1 (inl other.1), other.2) ]
      | inr is ↦ inr (next, (more next).1 (inr refl), is)
    ],
    elim [
      | inl own ↦ (now entry).1 (inl ((before entry).1 (inl own)))
      | inr other ↦ elim ((more other.0).0 other.1) [
        | inl old ↦ (now entry).1 (inl ((before entry).1 (inr (other.0, old, other.2))))
        | inr same ↦ (now entry).1 (inr (subst (λ under. IsGlobalUnder history p under page entry) same other.2))
      ]
    ],
  )

  -- with all PCIDs that were visited
  pub usable-end : (list : List HeldEntry) → AreUsable history p c page (visited_pcids history p) list
      → (entry : HeldEntry) → IsIn entry list ↔ IsUsable history p c page entry
  usable-end list all entry = (
    λ is_in. elim ((all entry).0 is_in) [
      | inl own ↦ record { leaf = own.0; under = c; reaches = inl refl; held_there = own.1 }
      | inr other ↦ record { leaf = other.2.leaf; under = other.0; reaches = inr (other.2.global, other.1); held_there = other.2.held_there }
    ],
    λ usable. (all entry).1 (elim usable.reaches [
      | inl same ↦ inl (usable.leaf, subst (λ under. MayHold history p under entry.level page entry.held) same usable.held_there)
      | inr both ↦ inr (usable.under, both.1, record { leaf = usable.leaf; global = both.0; held_there = usable.held_there })
    ]),
  )

-- what is found of these translations
abbrev pub AreFoundOf : Option (Target ℕ) → Regs → ℕ → ℕ → ℕ → List HeldEntry → List Finding → Type 0
AreFoundOf there known cpu pcid page usable list =
    (finding : Finding) → IsIn finding list ↔ ((entry : HeldEntry) × IsIn entry usable × IsFoundOf there known cpu pcid page entry finding)

module _ (there : Option (Target ℕ)) (known : Regs) (cpu pcid page : ℕ) where
  pub found-start : AreFoundOf there known cpu pcid page [] []
  found-start finding = (λ is_in. elim is_in [ ], λ found. absurd (elim found.1 [ ]))

  -- one translation more
  pub found-next : (usable usable' : List HeldEntry) (next : HeldEntry) (list list' : List Finding) (found : Option Finding)
      → ((entry : HeldEntry) → IsIn entry usable' ↔ (IsIn entry usable ⊎ (entry ≡ next)))
      → AreFoundOf there known cpu pcid page usable list
      → ((finding : Finding) → (found ≡ Some finding) ↔ IsFoundOf there known cpu pcid page next finding)
      → ((finding : Finding) → IsIn finding list' ↔ (IsIn finding list ⊎ (found ≡ Some finding)))
      → AreFoundOf there known cpu pcid page usable' list'
  found-next usable usable' next list list' found more before is_found now finding = (
    λ is_in. elim ((now finding).0 is_in) [
      | inl old ↦ let of = (before finding).0 old in (of.0, (more of.0).1 (inl of.1), of.2)
      | inr one ↦ (next, (more next).1 (inr refl), (is_found finding).0 one)
    ],
    λ of. elim ((more of.0).0 of.1) [
      | inl old ↦ (now finding).1 (inl ((before finding).1 (of.0, old, of.2)))
      | inr same ↦ (now finding).1 (inr ((is_found finding).1 (subst (λ entry. IsFoundOf there known cpu pcid page entry finding) same of.2)))
    ],
  )

abbrev finding_of : ℕ → ℕ → ℕ → ℕ → ℕ → Finding
finding_of cpu pcid page frame excess = record { cpu = cpu; pcid = pcid; page = page; frame = frame; excess = excess }

only_page : (one page : ℕ) → IsIn one (page ∷ []) → one ≡ page
only_page one page (inl same) = same
only_page one page (inr none) = elim none [ ]

same_some : {A : Type 0} (one other : A) → Some one ≡ Some other → one ≡ other
same_some one other same = cc

module _ (history : History) (known : Regs) (cpu pcid page root : ℕ) (usable : List HeldEntry) (is_known : regs history cpu ≡ Some known)
    (is_root : last_root history cpu pcid ≡ Some root)
    (may_use : (entry : HeldEntry) → IsIn entry usable ↔ IsUsable history cpu pcid page entry) where
  of_stale : (frame excess : ℕ) → IsStale history (finding_of cpu pcid page frame excess)
      → (entry : HeldEntry) × IsIn entry usable
      × IsFoundOf (present_target (memory history) (machine history) known root page) known cpu pcid page entry (finding_of cpu pcid page frame excess)
  of_stale frame excess stale =
      let now = memory history in
      let here = machine history in
      let same : stale.known ≡ known = same_some stale.known known (sym stale.is_known ∙ is_known) in
      let same_root : stale.root ≡ root = same_some stale.root root (sym stale.is_root ∙ is_root) in
      let there : present_target now here stale.known stale.root page ≡ present_target now here known root page =
      ap (λ one. present_target now here one stale.root page) same ∙ ap (λ at. present_target now here known at page) same_root in
      let granted : held_target stale.known stale.level page stale.held ≡ held_target known stale.level page stale.held =
      ap (λ one. held_target one stale.level page stale.held) same in (
        entry_of_level stale.level stale.held,
        (may_use (entry_of_level stale.level stale.held)).1 stale.may_use,
        record {
          exceeds = subst (λ it. Exceeds (present_target now here known root page) it) granted
              (subst (λ it. Exceeds it (held_target stale.known stale.level page stale.held)) there stale.exceeds);
          is = ap (λ n. finding_of cpu pcid page n excess) stale.frame
              ∙ ap (finding_of cpu pcid page (frame_at stale.level page stale.held))
              (stale.excess
              ∙ (ap (λ it. excess_over it (held_target stale.known stale.level page stale.held)) there
              ∙ ap (excess_over (present_target now here known root page)) granted));
        },
      )

  -- what is found of all that may be used is all that is stale at the page
  pub found-stale : (list : List Finding) → IsPage (la57 known) page
      → AreFoundOf (present_target (memory history) (machine history) known root page) known cpu pcid page usable list
      → (finding : Finding) → IsIn finding list ↔ IsStaleAmong history cpu pcid (page ∷ []) finding
  found-stale list is_page found finding = (
    λ is_in. let of = (found finding).0 is_in in
        let one : Finding = finding_of cpu pcid page (frame_at of.0.level page of.0.held)
        (excess_over (present_target (memory history) (machine history) known root page) (held_target known of.0.level page of.0.held)) in
        let stale : IsStaleAmong history cpu pcid (page ∷ []) one = record {
          of_cpu = refl;
          of_pcid = refl;
          listed = inl refl;
          stale = record {
            known = known;
            is_known = is_known;
            root = root;
            is_root = is_root;
            page = is_page;
            level = of.0.level;
            held = of.0.held;
            may_use = (may_use of.0).0 of.1;
            exceeds = of.2.exceeds;
            frame = refl;
            excess = refl;
          };
        } in
        subst (IsStaleAmong history cpu pcid (page ∷ [])) (sym of.2.is) stale,
    λ among. let page_is : finding.page ≡ page = only_page finding.page page among.listed in
        let is : finding ≡ finding_of cpu pcid page finding.frame finding.excess =
        ap (λ n. finding_of n finding.pcid finding.page finding.frame finding.excess) among.of_cpu
        ∙ (ap (λ n. finding_of cpu n finding.page finding.frame finding.excess) among.of_pcid
        ∙ ap (λ n. finding_of cpu pcid n finding.frame finding.excess) page_is) in
        (found finding).1
        (subst (λ it. (entry : HeldEntry) × IsIn entry usable × IsFoundOf (present_target (memory history) (machine history) known root page) known cpu pcid page entry it)
        (sym is) (of_stale finding.frame finding.excess (subst (IsStale history) is among.stale))),
  )
