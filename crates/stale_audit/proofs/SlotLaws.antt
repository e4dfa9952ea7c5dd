-- What a slot comes to, by the entries that it made with NXE 0 and with NXE 1.
use Rattle.std.proofs.Common.{◌≡◌, ℕ, ◌+◌, ◌-◌, ◌*◌, ◌/◌, ◌%◌, ◌<◌, ◌≤◌, ◌⊎◌, inl, inr, true, false, List, [], ◌∷◌, Option, None, refl, sym, ap, ◌∙◌, subst, arith}
use Rattle.std.specs.Prelude.{◌↔◌}
use Rattle.std.proofs.lemmas.Nat.{pow_pos}
use Rattle.paging_model.specs.LinearAddress.{span}
use Rattle.paging_model.specs.Memory.{entry_at}
use Rattle.paging_model.specs.Walking.{entry_address}
use Rattle.paging_model.specs.declared.entries.Bits.{Bits}
use Rattle.phys_view.specs.Seen.{memory_of}
use Rattle.history_model.specs.CachedTranslations.{Held, cache_key}
use Rattle.history_laws.proofs.PrefixLaws.{key_of-same}
use Rattle.audit_laws.specs.Firsts.{IsFirst, first_of_two}
use Rattle.audit_laws.specs.Leads.{IsKept, IsTimeOf}
use Rattle.audit_laws.specs.declared.stale_pages.StalePage.{StalePage}
use Rattle.audit_laws.proofs.FirstLaws.{first-either, first-same}
use Rattle.cache_rules.specs.Removals.{removed_in}
use Rattle.past_entries.specs.Fills.{held_of_fill}
use Rattle.past_entries.specs.PastEntries.{WasMade}
use Rattle.past_entries.specs.declared.entries.PastEntry.{PastEntry}
use Rattle.present_pages.specs.StalePages.{IsPageIn}
use Rattle.present_pages.proofs.Slots.{same-quotient}
use Rattle.stale_audit.specs.Facts.{Facts, AreTimely, IsStaleBy, made_in_pcid, makes_of, takes_of}
use Rattle.stale_audit.specs.Findings.{IsLeafFoundIn, IsListedAt, IsReferenced, IsSlot}
use Rattle.stale_audit.specs.SlotEntries.{IsHarmless, IsLeafOfSome, IsMadeInUse, IsMadeWith, IsReferenceOfSome, IsTimed, is_in_use}
use Rattle.stale_audit.specs.declared.tables.HeldTable.{HeldTable}
use Rattle.stale_audit.specs.declared.slots.SlotFindings.{SlotFindings}
use Rattle.stale_audit.specs.declared.timed_tables.TimedTable.{TimedTable}
use Rattle.stale_audit.proofs.EntryLaws.{clash, in_use-with, unknown-made, with-in_use}

-- not taken from a time on up to another, for the first address that the slot serves
abbrev IsSparedAt : Facts → ℕ → ℕ → Held → ℕ → ℕ → Type 0
IsSparedAt facts level first held t u =
    (v : ℕ) → t < v → v ≤ u → removed_in facts.host.removals (cache_key facts.under level first held) v ≡ false

-- a translation that was made at some time, is held now and stale at a page
record IsLeafMade (facts : Facts) (level first : ℕ) (Made : Held → ℕ → Type 0) (one : StalePage) : Type 0 where
  pub page : IsPageIn first (first + span level) one.page
  pub held : Held
  pub leaf : held.leaf ≡ true
  pub t : ℕ
  pub is_made : Made held t
  pub order : t ≤ facts.end
  pub spared : IsSparedAt facts level first held t facts.end
  pub stale : IsStaleBy facts level held one

-- a reference of a table that was made at some time and is held at another
record IsReferenceMade (facts : Facts) (level first : ℕ) (Made : Held → ℕ → Type 0) (frame : ℕ) (joined : Bits) (u : ℕ) : Type 0 where
  pub held : Held
  pub references : held.leaf ≡ false
  pub frame_is : held.frame ≡ frame
  pub bits_are : held.bits ≡ joined
  pub t : ℕ
  pub is_made : Made held t
  pub order : t ≤ u
  pub within : u ≤ facts.end
  pub spared : IsSparedAt facts level first held t u

module _ (facts : Facts) (level first : ℕ) where
  leaf-made : (entries : List PastEntry) (one : StalePage) → IsLeafOfSome facts level first entries one
      → IsLeafMade facts level first (WasMade entries) one
  leaf-made [] one h = absurd h
  leaf-made (entry ∷ entries) one (inl h) = record {
    page = h.page;
    held = held_of_fill entry.fill;
    leaf = h.leaf;
    t = h.kept.t;
    is_made = inl (refl, h.kept.is_made);
    order = h.kept.order;
    spared = h.kept.spared;
    stale = h.stale;
  }
  leaf-made (entry ∷ entries) one (inr h) =
      let r : IsLeafMade facts level first (WasMade entries) one = leaf-made entries one h in
      record { page = r.page; held = r.held; leaf = r.leaf; t = r.t; is_made = inr r.is_made; order = r.order; spared = r.spared; stale = r.stale }

  made-leaf : (entries : List PastEntry) (one : StalePage) (page : IsPageIn first (first + span level) one.page) (held : Held) (t : ℕ)
      → held.leaf ≡ true → t ≤ facts.end → IsSparedAt facts level first held t facts.end → IsStaleBy facts level held one
      → WasMade entries held t → IsLeafOfSome facts level first entries one
  made-leaf [] one page held t leaf order spared stale m = absurd m
  made-leaf (entry ∷ entries) one page held t leaf order spared stale (inl m) = inl (record {
    page = page;
    leaf = ap (λ (h : Held). h.leaf) m.0 ∙ leaf;
    kept = record {
      t = t;
      is_made = m.1;
      order = order;
      within = omega arith;
      spared = λ v p q. ap (λ (h : Held). removed_in facts.host.removals (cache_key facts.under level first h) v) m.0 ∙ spared v p q;
    };
    stale = subst (λ (h : Held). IsStaleBy facts level h one) (sym m.0) stale;
  })
  made-leaf (entry ∷ entries) one page held t leaf order spared stale (inr m) =
      inr (made-leaf entries one page held t leaf order spared stale m)

  reference-made : (entries : List PastEntry) (frame : ℕ) (joined : Bits) (u : ℕ) → IsReferenceOfSome facts level first entries frame joined u
      → IsReferenceMade facts level first (WasMade entries) frame joined u
  reference-made [] frame joined u h = absurd h
  reference-made (entry ∷ entries) frame joined u (inl h) = record {
    held = held_of_fill entry.fill;
    references = h.references;
    frame_is = h.frame_is;
    bits_are = h.bits_are;
    t = h.kept.t;
    is_made = inl (refl, h.kept.is_made);
    order = h.kept.order;
    within = h.kept.within;
    spared = h.kept.spared;
  }
  reference-made (entry ∷ entries) frame joined u (inr h) =
      let r : IsReferenceMade facts level first (WasMade entries) frame joined u = reference-made entries frame joined u h in
      record { held = r.held; references = r.references; frame_is = r.frame_is; bits_are = r.bits_are; t = r.t; is_made = inr r.is_made; order = r.order; within = r.within; spared = r.spared }

  made-reference : (entries : List PastEntry) (frame : ℕ) (joined : Bits) (u : ℕ) (held : Held) (t : ℕ) → held.leaf ≡ false
      → held.frame ≡ frame → held.bits ≡ joined → t ≤ u → u ≤ facts.end → IsSparedAt facts level first held t u
      → WasMade entries held t → IsReferenceOfSome facts level first entries frame joined u
  made-reference [] frame joined u held t r f b order within spared m = absurd m
  made-reference (entry ∷ entries) frame joined u held t r f b order within spared (inl m) = inl (record {
    references = ap (λ (h : Held). h.leaf) m.0 ∙ r;
    frame_is = ap (λ (h : Held). h.frame) m.0 ∙ f;
    bits_are = ap (λ (h : Held). h.bits) m.0 ∙ b;
    kept = record {
      t = t;
      is_made = m.1;
      order = order;
      within = within;
      spared = λ v p q. ap (λ (h : Held). removed_in facts.host.removals (cache_key facts.under level first h) v) m.0 ∙ spared v p q;
    };
  })
  made-reference (entry ∷ entries) frame joined u held t r f b order within spared (inr m) =
      inr (made-reference entries frame joined u held t r f b order within spared m)

-- a slot of a table
module _ (facts : Facts) (table : TimedTable) (level first address : ℕ) (ready : AreTimely facts) (timed : IsTimed facts table)
    (whole : first % span level ≡ 0) (address_is : address ≡ entry_address level first table.frame) where
  abbrev Use : ℕ → Type 0
  Use = IsTimeOf (is_in_use table)

  -- all addresses that the slot serves have its address and its key
  quotient : (x : ℕ) → first ≤ x → x < first + span level → x / span level ≡ first / span level
  quotient x low high = same-quotient (span level) first x (pow_pos (12 + 9 * (level - 1))) whole low high

  place : (x : ℕ) → first ≤ x → x < first + span level → address ≡ entry_address level x table.frame
  place x low high = address_is ∙ ap (λ q. table.frame + 8 * (q % 512)) (sym (quotient x low high))

  key-same : (x : ℕ) (held : Held) → first ≤ x → x < first + span level
      → cache_key facts.under level x held ≡ cache_key facts.under level first held
  key-same x held low high = key_of-same facts.under x first level held (quotient x low high)

  abbrev Kept : ℕ → ℕ → Held → Type 0
  Kept x u held = IsKept (makes_of facts) (takes_of facts) facts.end x Use level table.frame table.bits u held

  kept-used : (x u : ℕ) (held : Held) → first ≤ x → x < first + span level → (k : Kept x u held)
      → IsMadeInUse facts table level address table.bits held k.t
  kept-used x u held low high k = record {
    in_use = k.in_use;
    is_made = ap (λ a. made_in_pcid facts level a table.bits k.t) (place x low high) ∙ k.is_made;
  }

  kept-spared : (x u : ℕ) (held : Held) → first ≤ x → x < first + span level → (k : Kept x u held)
      → IsSparedAt facts level first held k.t u
  kept-spared x u held low high k v p q =
      ap (λ key. removed_in facts.host.removals key v) (sym (key-same x held low high)) ∙ k.spared v p q

  used-kept : (x u t : ℕ) (held : Held) → first ≤ x → x < first + span level → t ≤ u → u ≤ facts.end
      → IsSparedAt facts level first held t u → IsMadeInUse facts table level address table.bits held t → Kept x u held
  used-kept x u t held low high order within spared m = record {
    t = t;
    in_use = m.in_use;
    is_made = ap (λ a. made_in_pcid facts level a table.bits t) (sym (place x low high)) ∙ m.is_made;
    order = order;
    within = within;
    spared = λ v p q. ap (λ key. removed_in facts.host.removals key v) (key-same x held low high) ∙ spared v p q;
  }

  abbrev Leaf : StalePage → Type 0
  Leaf one = IsLeafFoundIn facts first (first + span level) Use level table.frame table.bits one

  -- a slot of which all that it made is harmless
  pub harmless-slot : (slot : SlotFindings)
      → ((held : Held) (t : ℕ) → IsMadeInUse facts table level address table.bits held t → IsHarmless facts level first held)
      → slot.found ≡ None → slot.tables.items ≡ []
      → IsSlot facts first (IsTimeOf (is_in_use table)) level table.frame table.bits slot
  harmless-slot slot harmless found_is tables_are = record {
    found = subst (IsFirst Leaf) (sym found_is) (λ one f.
        let made = kept-used one.page facts.end f.held f.page.least f.page.below f.kept in
        (harmless f.held f.kept.t made).1 one f.page f.stale);
    listed = λ x frame joined u low high r.
        let made = kept-used x u r.above low high r.kept in
        absurd (clash r.above.leaf (harmless r.above r.kept.t made).0 r.references);
    referenced = λ x frame joined u low high l.
        absurd (subst (λ list. IsListedAt list frame joined u) tables_are l);
  }

  -- the entries that it made with NXE 0 and with NXE 1
  module _ (clear set : List PastEntry)
      (made_clear : (held : Held) (t : ℕ) → WasMade clear held t ↔ IsMadeWith facts false table.nxe_clear level address table.bits held t)
      (made_set : (held : Held) (t : ℕ) → WasMade set held t ↔ IsMadeWith facts true table.nxe_set level address table.bits held t) where
    some-used : (held : Held) (t : ℕ) → WasMade clear held t ⊎ WasMade set held t → IsMadeInUse facts table level address table.bits held t
    some-used held t h = with-in_use facts table level address table.bits ready timed held t
        (elim h [ inl a ↦ inl ((made_clear held t).0 a) | inr b ↦ inr ((made_set held t).0 b) ])

    used-some : (held : Held) (t : ℕ) → IsMadeInUse facts table level address table.bits held t → WasMade clear held t ⊎ WasMade set held t
    used-some held t h = elim (in_use-with facts table level address table.bits ready timed held t h) [
      | inl a ↦ inl ((made_clear held t).1 a)
      | inr b ↦ inr ((made_set held t).1 b)
    ]

    made-found : (Made : Held → ℕ → Type 0) → ((held : Held) (t : ℕ) → Made held t → WasMade clear held t ⊎ WasMade set held t)
        → (one : StalePage) → IsLeafMade facts level first Made one → Leaf one
    made-found Made some one r = record {
      page = r.page;
      held = r.held;
      leaf = r.leaf;
      kept = used-kept one.page facts.end r.t r.held r.page.least r.page.below r.order (omega arith) r.spared
          (some-used r.held r.t (some r.held r.t r.is_made));
      stale = r.stale;
    }

    leaf-found : (one : StalePage) → IsLeafOfSome facts level first clear one ⊎ IsLeafOfSome facts level first set one → Leaf one
    leaf-found one (inl h) = made-found (WasMade clear) (λ held t m. inl m) one (leaf-made facts level first clear one h)
    leaf-found one (inr h) = made-found (WasMade set) (λ held t m. inr m) one (leaf-made facts level first set one h)

    found-leaf : (one : StalePage) → Leaf one → IsLeafOfSome facts level first clear one ⊎ IsLeafOfSome facts level first set one
    found-leaf one f =
        let spared = kept-spared one.page facts.end f.held f.page.least f.page.below f.kept in
        elim (used-some f.held f.kept.t (kept-used one.page facts.end f.held f.page.least f.page.below f.kept)) [
          | inl a ↦ inl (made-leaf facts level first clear one f.page f.held f.kept.t f.leaf f.kept.order spared f.stale a)
          | inr b ↦ inr (made-leaf facts level first set one f.page f.held f.kept.t f.leaf f.kept.order spared f.stale b)
        ]

    made-referenced : (Made : Held → ℕ → Type 0) → ((held : Held) (t : ℕ) → Made held t → WasMade clear held t ⊎ WasMade set held t)
        → (x frame : ℕ) (joined : Bits) (u : ℕ) → first ≤ x → x < first + span level
        → IsReferenceMade facts level first Made frame joined u → IsReferenced facts x Use level table.frame table.bits frame joined u
    made-referenced Made some x frame joined u low high r = record {
      above = r.held;
      references = r.references;
      frame_is = r.frame_is;
      bits_are = r.bits_are;
      kept = used-kept x u r.t r.held low high r.order r.within r.spared (some-used r.held r.t (some r.held r.t r.is_made));
    }

    reference-found : (x frame : ℕ) (joined : Bits) (u : ℕ) → first ≤ x → x < first + span level
        → IsReferenceOfSome facts level first clear frame joined u ⊎ IsReferenceOfSome facts level first set frame joined u
        → IsReferenced facts x Use level table.frame table.bits frame joined u
    reference-found x frame joined u low high (inl h) =
        made-referenced (WasMade clear) (λ held t m. inl m) x frame joined u low high (reference-made facts level first clear frame joined u h)
    reference-found x frame joined u low high (inr h) =
        made-referenced (WasMade set) (λ held t m. inr m) x frame joined u low high (reference-made facts level first set frame joined u h)

    found-reference : (x frame : ℕ) (joined : Bits) (u : ℕ) → first ≤ x → x < first + span level
        → IsReferenced facts x Use level table.frame table.bits frame joined u
        → IsReferenceOfSome facts level first clear frame joined u ⊎ IsReferenceOfSome facts level first set frame joined u
    found-reference x frame joined u low high r =
        let spared = kept-spared x u r.above low high r.kept in
        elim (used-some r.above r.kept.t (kept-used x u r.above low high r.kept)) [
          | inl a ↦ inl (made-reference facts level first clear frame joined u r.above r.kept.t r.references r.frame_is r.bits_are r.kept.order r.kept.within spared a)
          | inr b ↦ inr (made-reference facts level first set frame joined u r.above r.kept.t r.references r.frame_is r.bits_are r.kept.order r.kept.within spared b)
        ]

    pub slot-is : (by_clear by_set : Option StalePage) (some : List HeldTable) (slot : SlotFindings)
        → IsFirst (IsLeafOfSome facts level first clear) by_clear → IsFirst (IsLeafOfSome facts level first set) by_set
        → slot.found ≡ first_of_two by_clear by_set
        → ((frame : ℕ) (joined : Bits) (u : ℕ)
        → IsListedAt some frame joined u ↔ (IsListedAt [] frame joined u ⊎ IsReferenceOfSome facts level first clear frame joined u))
        → ((frame : ℕ) (joined : Bits) (u : ℕ)
        → IsListedAt slot.tables.items frame joined u ↔ (IsListedAt some frame joined u ⊎ IsReferenceOfSome facts level first set frame joined u))
        → IsSlot facts first (IsTimeOf (is_in_use table)) level table.frame table.bits slot
    slot-is by_clear by_set some slot first_clear first_set found_is listed more = record {
      found = subst (IsFirst (IsLeafFoundIn facts first (first + span level) Use level table.frame table.bits)) (sym found_is)
          (first-same (λ one. IsLeafOfSome facts level first clear one ⊎ IsLeafOfSome facts level first set one)
          (IsLeafFoundIn facts first (first + span level) Use level table.frame table.bits) (first_of_two by_clear by_set)
          leaf-found found-leaf
          (first-either (IsLeafOfSome facts level first clear) (IsLeafOfSome facts level first set) by_clear by_set first_clear first_set));
      listed = λ x frame joined u low high r. (more frame joined u).1 (elim (found-reference x frame joined u low high r) [
        | inl a ↦ inl ((listed frame joined u).1 (inr a))
        | inr b ↦ inr b
      ]);
      referenced = λ x frame joined u low high l. reference-found x frame joined u low high (elim ((more frame joined u).0 l) [
        | inl a ↦ elim ((listed frame joined u).0 a) [ inl n ↦ absurd n | inr b ↦ inl b ]
        | inr b ↦ inr b
      ]);
    }

-- a slot that isn't known
pub unknown-slot : (facts : Facts) (table : TimedTable) (level first : ℕ) (slot : SlotFindings) → AreTimely facts → IsTimed facts table
    → first % span level ≡ 0 → None ≡ entry_at (memory_of facts.seen) (entry_address level first table.frame)
    → slot.found ≡ None → slot.tables.items ≡ []
    → IsSlot facts first (IsTimeOf (is_in_use table)) level table.frame table.bits slot
unknown-slot facts table level first slot ready timed whole none found_is tables_are =
    slot-is facts table level first (entry_address level first table.frame) ready timed whole refl [] []
    (λ held t. unknown-made facts false table.nxe_clear level (entry_address level first table.frame) table.bits held t none)
    (λ held t. unknown-made facts true table.nxe_set level (entry_address level first table.frame) table.bits held t none)
    None None [] slot (λ one h. absurd h) (λ one h. absurd h) found_is
    (λ frame joined u. ((λ l. absurd l), (λ l. elim l [ inl a ↦ absurd a | inr b ↦ absurd b ])))
    (λ frame joined u. subst (λ list. IsListedAt list frame joined u
    ↔ (IsListedAt [] frame joined u ⊎ IsReferenceOfSome facts level first [] frame joined u)) (sym tables_are)
    ((λ l. absurd l), (λ l. elim l [ inl a ↦ absurd a | inr b ↦ absurd b ])))
