-- What a table leads to, by the times at which it is in use, and by what is made of it and taken.
use Rattle.std.proofs.Common.{◌≡◌, ℕ, zero, suc, ◌%◌, inl, inr, refl, sym, ◌∙◌, subst}
use Rattle.paging_model.specs.declared.entries.Bits.{Bits}
use Rattle.history_model.specs.CachedTranslations.{Held}
use Rattle.audit_laws.specs.Leads.{IsKept, Leads, LeadsAtOneTime, MakeAlike, TakeAlike, ReferenceTables, WayOfMaking, WayOfTaking}

module _ (makes : WayOfMaking) (takes : WayOfTaking) (now : ℕ) where
  pub kept-more : (x : ℕ) (Some_use Other_use : ℕ → Type 0) (level table : ℕ) (bits : Bits) (u : ℕ) (held : Held) → ((t : ℕ) → Some_use t → Other_use t)
      → IsKept makes takes now x Some_use level table bits u held → IsKept makes takes now x Other_use level table bits u held
  kept-more x Some_use Other_use level table bits u held more k =
      record { t = k.t; in_use = more k.t k.in_use; is_made = k.is_made; order = k.order; within = k.within; spared = k.spared }

  -- in use at more times, a table leads to all that it led to
  pub leads-more : (x : ℕ) (Some_use Other_use : ℕ → Type 0) (level table : ℕ) (bits : Bits) (k : ℕ) (held : Held) → ((t : ℕ) → Some_use t → Other_use t)
      → Leads makes takes now x Some_use level table bits k held → Leads makes takes now x Other_use level table bits k held
  leads-more x Some_use Other_use zero table bits k held more l = absurd l
  leads-more x Some_use Other_use (suc lower) table bits k held more (inl leaf) = inl (leaf.0, leaf.1, kept-more x Some_use Other_use (suc lower) table bits now held more leaf.2)
  leads-more x Some_use Other_use (suc lower) table bits k held more (inr l) = inr (
    l.0,
    l.1,
    leads-more x (λ u. IsKept makes takes now x Some_use (suc lower) table bits u l.0) (λ u. IsKept makes takes now x Other_use (suc lower) table bits u l.0) lower l.0.frame l.0.bits k held
        (λ u kept. kept-more x Some_use Other_use (suc lower) table bits u l.0 more kept) l.2,
  )

  pub kept-once : (x : ℕ) (InUse : ℕ → Type 0) (level table : ℕ) (bits : Bits) (u : ℕ) (held : Held) (k : IsKept makes takes now x InUse level table bits u held)
      → IsKept makes takes now x (λ v. v ≡ k.t) level table bits u held
  kept-once x InUse level table bits u held k = record { t = k.t; in_use = refl; is_made = k.is_made; order = k.order; within = k.within; spared = k.spared }

  -- one time of use is enough
  pub leads-once : (x : ℕ) (InUse : ℕ → Type 0) (level table : ℕ) (bits : Bits) (k : ℕ) (held : Held)
      → Leads makes takes now x InUse level table bits k held → LeadsAtOneTime makes takes now x InUse level table bits k held
  leads-once x InUse zero table bits k held l = absurd l
  leads-once x InUse (suc lower) table bits k held (inl leaf) =
      record { t = leaf.2.t; in_use = leaf.2.in_use; leads = inl (leaf.0, leaf.1, kept-once x InUse (suc lower) table bits now held leaf.2) }
  leads-once x InUse (suc lower) table bits k held (inr l) =
      let once : LeadsAtOneTime makes takes now x (λ u. IsKept makes takes now x InUse (suc lower) table bits u l.0) lower l.0.frame l.0.bits k held =
      leads-once x (λ u. IsKept makes takes now x InUse (suc lower) table bits u l.0) lower l.0.frame l.0.bits k held l.2 in
      let kept : IsKept makes takes now x InUse (suc lower) table bits once.t l.0 = once.in_use in
      record {
        t = kept.t;
        in_use = kept.in_use;
        leads = inr (
          l.0,
          l.1,
          leads-more x (λ v. v ≡ once.t) (λ u. IsKept makes takes now x (λ v. v ≡ kept.t) (suc lower) table bits u l.0) lower l.0.frame l.0.bits k held
              (λ v e. subst (λ w. IsKept makes takes now x (λ s. s ≡ kept.t) (suc lower) table bits w l.0) (sym e) (kept-once x InUse (suc lower) table bits once.t l.0 kept)) once.leads,
        );
      }

module _ (some_makes other_makes : WayOfMaking) (some_takes other_takes : WayOfTaking) (now : ℕ)
    (made : MakeAlike some_makes other_makes) (taken : TakeAlike some_takes other_takes) (named : ReferenceTables some_makes) where
  kept-same : (x : ℕ) (Some_use Other_use : ℕ → Type 0) (level table : ℕ) (bits : Bits) (u : ℕ) (held : Held) → table % 4096 ≡ 0 → ((t : ℕ) → Some_use t → Other_use t)
      → IsKept some_makes some_takes now x Some_use level table bits u held → IsKept other_makes other_takes now x Other_use level table bits u held
  kept-same x Some_use Other_use level table bits u held aligned more k = record {
    t = k.t;
    in_use = more k.t k.in_use;
    is_made = sym (made level table x k.t bits aligned) ∙ k.is_made;
    order = k.order;
    within = k.within;
    spared = λ v p q. sym (taken level x v held) ∙ k.spared v p q;
  }

  -- two ways of making and taking that are alike for tables at multiples of 4 KBytes lead to the same
  pub leads-same : (x : ℕ) (Some_use Other_use : ℕ → Type 0) (level table : ℕ) (bits : Bits) (k : ℕ) (held : Held) → table % 4096 ≡ 0 → ((t : ℕ) → Some_use t → Other_use t)
      → Leads some_makes some_takes now x Some_use level table bits k held → Leads other_makes other_takes now x Other_use level table bits k held
  leads-same x Some_use Other_use zero table bits k held aligned more l = absurd l
  leads-same x Some_use Other_use (suc lower) table bits k held aligned more (inl leaf) = inl (leaf.0, leaf.1, kept-same x Some_use Other_use (suc lower) table bits now held aligned more leaf.2)
  leads-same x Some_use Other_use (suc lower) table bits k held aligned more (inr l) =
      let once : LeadsAtOneTime some_makes some_takes now x (λ u. IsKept some_makes some_takes now x Some_use (suc lower) table bits u l.0) lower l.0.frame l.0.bits k held =
      leads-once some_makes some_takes now x (λ u. IsKept some_makes some_takes now x Some_use (suc lower) table bits u l.0) lower l.0.frame l.0.bits k held l.2 in
      let kept : IsKept some_makes some_takes now x Some_use (suc lower) table bits once.t l.0 = once.in_use in
      inr (
        l.0,
        l.1,
        leads-same x (λ u. IsKept some_makes some_takes now x Some_use (suc lower) table bits u l.0) (λ u. IsKept other_makes other_takes now x Other_use (suc lower) table bits u l.0) lower l.0.frame l.0.bits k held
            (named (suc lower) table x kept.t bits l.0 aligned kept.is_made l.1)
            (λ u h. kept-same x Some_use Other_use (suc lower) table bits u l.0 aligned more h) l.2,
      )

-- what is alike the one way is alike the other way
pub made-alike_back : (some other : WayOfMaking) → MakeAlike some other → MakeAlike other some
made-alike_back some other made level table x t bits aligned = sym (made level table x t bits aligned)

pub taken-alike_back : (some other : WayOfTaking) → TakeAlike some other → TakeAlike other some
taken-alike_back some other taken level x t held = sym (taken level x t held)

pub named-alike : (some other : WayOfMaking) → MakeAlike some other → ReferenceTables some → ReferenceTables other
named-alike some other made named level table x t bits held aligned is_made leaf =
    named level table x t bits held aligned (made level table x t bits aligned ∙ is_made) leaf
