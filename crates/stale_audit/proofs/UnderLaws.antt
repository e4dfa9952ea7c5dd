-- The findings of one slot: by the translations that its entries make, and under the tables that they reference.
use Rattle.std.proofs.Common.{◌≡◌, ℕ, suc, ◌+◌, ◌⊎◌, inl, inr, List, [], ◌∷◌, ◌++◌, refl, sym, subst}
use Rattle.paging_model.specs.LinearAddress.{span}
use Rattle.paging_model.specs.declared.entries.Bits.{Bits}
use Rattle.history_model.specs.CachedTranslations.{Held}
use Rattle.audit_laws.specs.Leads.{IsKept, IsTimeOf, Leads, LeadsAtOneTime}
use Rattle.audit_laws.specs.declared.stale_pages.StalePage.{StalePage}
use Rattle.audit_laws.proofs.LeadLaws.{leads-more, leads-once}
use Rattle.present_pages.specs.StalePages.{IsPageIn}
use Rattle.time_sets.specs.Sets.{has_time}
use Rattle.stale_audit.specs.Facts.{Facts, IsStaleBy, makes_of, takes_of}
use Rattle.stale_audit.specs.Findings.{IsFoundIn, IsFoundUnder, IsLeafFoundIn, IsListedAt, IsReferenced, IsSlot}
use Rattle.stale_audit.specs.declared.tables.HeldTable.{HeldTable}
use Rattle.stale_audit.specs.declared.slots.SlotFindings.{SlotFindings}

module _ (facts : Facts) (first end level : ℕ) where
  -- one table more
  pub under-front : (list : List HeldTable) (one : HeldTable) (found : StalePage)
      → IsFoundUnder facts first end level list found → IsFoundUnder facts first end level (list ++ one ∷ []) found
  under-front [] one found h = absurd h
  under-front (l ∷ list) one found (inl h) = inl h
  under-front (l ∷ list) one found (inr h) = inr (under-front list one found h)

  pub under-last : (list : List HeldTable) (one : HeldTable) (found : StalePage)
      → IsFoundIn facts first end (IsTimeOf (has_time one.times)) level one.frame one.bits found
      → IsFoundUnder facts first end level (list ++ one ∷ []) found
  under-last [] one found h = inl h
  under-last (l ∷ list) one found h = inr (under-last list one found h)

  pub under-cases : (list : List HeldTable) (one : HeldTable) (found : StalePage)
      → IsFoundUnder facts first end level (list ++ one ∷ []) found
      → IsFoundUnder facts first end level list found
      ⊎ IsFoundIn facts first end (IsTimeOf (has_time one.times)) level one.frame one.bits found
  under-cases [] one found (inl h) = inr h
  under-cases [] one found (inr h) = absurd h
  under-cases (l ∷ list) one found (inl h) = inl (inl h)
  under-cases (l ∷ list) one found (inr h) = elim (under-cases list one found h) [ inl a ↦ inl (inr a) | inr b ↦ inr b ]

  abbrev LeadsAt : ℕ → (ℕ → Type 0) → ℕ → Bits → ℕ → Held → Type 0
  LeadsAt x InUse frame bits k held = Leads (makes_of facts) (takes_of facts) facts.end x InUse level frame bits k held

  -- a table that is listed at a time leads to what the time leads to
  listed-found : (list : List HeldTable) (frame : ℕ) (bits : Bits) (u : ℕ) (found : StalePage) (page : IsPageIn first end found.page)
      (k : ℕ) (held : Held) → IsStaleBy facts k held found → LeadsAt found.page (λ v. v ≡ u) frame bits k held
      → IsListedAt list frame bits u → IsFoundUnder facts first end level list found
  listed-found [] frame bits u found page k held stale leads h = absurd h
  listed-found (one ∷ list) frame bits u found page k held stale leads (inl h) = inl (record {
    page = page;
    k = k;
    held = held;
    leads = subst (λ b. LeadsAt found.page (IsTimeOf (has_time one.times)) one.frame b k held) (sym h.1)
        (subst (λ f. LeadsAt found.page (IsTimeOf (has_time one.times)) f bits k held) (sym h.0)
        (leads-more (makes_of facts) (takes_of facts) facts.end found.page (λ v. v ≡ u) (IsTimeOf (has_time one.times)) level frame bits k held
        (λ v e. subst (IsTimeOf (has_time one.times)) (sym e) h.2) leads));
    stale = stale;
  })
  listed-found (one ∷ list) frame bits u found page k held stale leads (inr h) =
      inr (listed-found list frame bits u found page k held stale leads h)

  -- what is found under a listed table, by a time at which it is in use
  record IsFoundBy (list : List HeldTable) (found : StalePage) : Type 0 where
    pub page : IsPageIn first end found.page
    pub k : ℕ
    pub held : Held
    pub stale : IsStaleBy facts k held found
    pub frame : ℕ
    pub bits : Bits
    pub u : ℕ
    pub listed : IsListedAt list frame bits u
    pub leads : Leads (makes_of facts) (takes_of facts) facts.end found.page (λ v. v ≡ u) level frame bits k held

  found-by : (list : List HeldTable) (found : StalePage) → IsFoundUnder facts first end level list found → IsFoundBy list found
  found-by [] found h = absurd h
  found-by (one ∷ list) found (inl h) =
      let once : LeadsAtOneTime (makes_of facts) (takes_of facts) facts.end found.page (IsTimeOf (has_time one.times)) level one.frame one.bits h.k h.held =
      leads-once (makes_of facts) (takes_of facts) facts.end found.page (IsTimeOf (has_time one.times)) level one.frame one.bits h.k h.held h.leads in
      record {
        page = h.page;
        k = h.k;
        held = h.held;
        stale = h.stale;
        frame = one.frame;
        bits = one.bits;
        u = once.t;
        listed = inl (refl, refl, once.in_use);
        leads = once.leads;
      }
  found-by (one ∷ list) found (inr h) =
      let rest : IsFoundBy list found = found-by list found h in
      record { page = rest.page; k = rest.k; held = rest.held; stale = rest.stale; frame = rest.frame; bits = rest.bits; u = rest.u; listed = inr rest.listed; leads = rest.leads }

module _ (facts : Facts) (first : ℕ) (Use : ℕ → Type 0) (lower table : ℕ) (bits : Bits) (slot : SlotFindings)
    (is_slot : IsSlot facts first Use (suc lower) table bits slot) where
  abbrev Kept : ℕ → ℕ → Held → Type 0
  Kept x u held = IsKept (makes_of facts) (takes_of facts) facts.end x Use (suc lower) table bits u held

  abbrev Below : ℕ → (ℕ → Type 0) → ℕ → Bits → ℕ → Held → Type 0
  Below x InUse frame joined k held = Leads (makes_of facts) (takes_of facts) facts.end x InUse lower frame joined k held

  abbrev Parts : StalePage → Type 0
  Parts one = IsLeafFoundIn facts first (first + span (suc lower)) Use (suc lower) table bits one
      ⊎ IsFoundUnder facts first (first + span (suc lower)) lower slot.tables.items one

  pub parts-found : (one : StalePage) → IsLeafFoundIn facts first (first + span (suc lower)) Use (suc lower) table bits one
      ⊎ IsFoundUnder facts first (first + span (suc lower)) lower slot.tables.items one
      → IsFoundIn facts first (first + span (suc lower)) Use (suc lower) table bits one
  parts-found one (inl h) = record { page = h.page; k = suc lower; held = h.held; leads = inl (refl, h.leaf, h.kept); stale = h.stale }
  parts-found one (inr h) =
      let by : IsFoundBy facts first (first + span (suc lower)) lower slot.tables.items one =
      found-by facts first (first + span (suc lower)) lower slot.tables.items one h in
      let r : IsReferenced facts one.page Use (suc lower) table bits by.frame by.bits by.u =
      is_slot.referenced one.page by.frame by.bits by.u by.page.least by.page.below by.listed in
      record {
        page = by.page;
        k = by.k;
        held = by.held;
        leads = inr (
          r.above,
          r.references,
          subst (λ b. Below one.page (λ u. Kept one.page u r.above) r.above.frame b by.k by.held) (sym r.bits_are)
              (subst (λ f. Below one.page (λ u. Kept one.page u r.above) f by.bits by.k by.held) (sym r.frame_is)
              (leads-more (makes_of facts) (takes_of facts) facts.end one.page (λ v. v ≡ by.u) (λ u. Kept one.page u r.above) lower by.frame by.bits by.k by.held
              (λ v e. subst (λ w. Kept one.page w r.above) (sym e) r.kept) by.leads)),
        );
        stale = by.stale;
      }

  pub found-parts : (one : StalePage) → IsFoundIn facts first (first + span (suc lower)) Use (suc lower) table bits one
      → IsLeafFoundIn facts first (first + span (suc lower)) Use (suc lower) table bits one
      ⊎ IsFoundUnder facts first (first + span (suc lower)) lower slot.tables.items one
  found-parts one h = by_way h.leads
    where
      by_way : Leads (makes_of facts) (takes_of facts) facts.end one.page Use (suc lower) table bits h.k h.held → Parts one
      by_way (inl leaf) = inl (record {
        page = h.page;
        held = h.held;
        leaf = leaf.1;
        kept = leaf.2;
        stale = subst (λ n. IsStaleBy facts n h.held one) leaf.0 h.stale;
      })
      by_way (inr l) =
          let once : LeadsAtOneTime (makes_of facts) (takes_of facts) facts.end one.page (λ u. Kept one.page u l.0) lower l.0.frame l.0.bits h.k h.held =
          leads-once (makes_of facts) (takes_of facts) facts.end one.page (λ u. Kept one.page u l.0) lower l.0.frame l.0.bits h.k h.held l.2 in
          inr (listed-found facts first (first + span (suc lower)) lower slot.tables.items l.0.frame l.0.bits once.t one h.page h.k h.held h.stale once.leads
          (is_slot.listed one.page l.0.frame l.0.bits once.t h.page.least h.page.below
          (record { above = l.0; references = l.1; frame_is = refl; bits_are = refl; kept = once.in_use })))
