-- The roots that a processor had, by the map that keeps their times.
use Rattle.std.proofs.Common.{◌≡◌, ℕ, zero, suc, ◌<◌, ◌≤◌, inl, inr, ◌&&◌, Bool, true, false, List, [], ◌∷◌, length, Option, Some, None, refl, sym, ap, ◌∙◌, subst, arith}
use Rattle.std.specs.Prelude.{◌==◌, nat_le, if◌then◌else◌, slice_index_or}
use Rattle.std.specs.BTreeMap.{BTreeMap, IsOrdered, get}
use Rattle.std.specs.List.{Contains}
use Rattle.std.specs.Ordering.{nat_cmp}
use Rattle.std.proofs.lemmas.Bool.Decides.{nat_tests}
use Rattle.std.proofs.lemmas.Cmp.{nat_cmp_total}
use Rattle.std.proofs.lemmas.Map.Lookups.{exact_unsigned}
use Rattle.std.proofs.lemmas.Map.Views.{btree_map_get_iff}
use Rattle.paging_model.specs.Entries.{IsFrame, root_bits}
use Rattle.paging_model.specs.Registers.{pcid_of, root_of}
use Rattle.paging_model.specs.Walking.{top_level}
use Rattle.paging_model.specs.declared.entries.Bits.{Bits}
use Rattle.paging_model.specs.declared.registers.Regs.{Regs}
use Rattle.paging_model.specs.declared.registers.Settings.{Settings}
use Rattle.history_model.specs.CachedTranslations.{Held}
use Rattle.history_model.specs.History.{History, time}
use Rattle.audit_laws.specs.Leads.{IsKept, IsTimeOf, Leads, LeadsAtOneTime, WayOfMaking, WayOfTaking}
use Rattle.audit_laws.specs.MadeAtTimes.{IsRootAt}
use Rattle.audit_laws.specs.declared.stale_pages.StalePage.{StalePage}
use Rattle.audit_laws.proofs.LeadLaws.{leads-more, leads-once}
use Rattle.cache_rules.specs.Hosts.{Keeping}
use Rattle.cache_rules.specs.Standing.{IsStayAt, stay_in}
use Rattle.cache_rules.specs.declared.stays.Stay.{Stay}
use Rattle.stay_times.specs.Periods.{HasSomeTime, has_if, is_wanted, is_wanted_if, under_root}
use Rattle.time_sets.specs.Sets.{has_time}
use Rattle.stale_audit.specs.Facts.{Facts, makes_of, takes_of}
use Rattle.stale_audit.specs.Tops.{AreFrames, IsFoundFrom, IsFoundFromSome}
use Rattle.audit_points.specs.Audits.{is_recent_stay}
use Rattle.audit_points.specs.StandingFacts.{FactsStandFor, IsFoundUnderRoots}

-- one of the roots leads to it
record IsOneRoot (facts : Facts) (level : ℕ) (entries : List (ℕ × List (ℕ × ℕ))) (one : StalePage) : Type 0 where
  pub root : ℕ × List (ℕ × ℕ)
  pub among : Contains entries root
  pub found : IsFoundFrom facts (IsTimeOf (has_time root.1)) level root.0 one

one-root : (facts : Facts) (level : ℕ) (entries : List (ℕ × List (ℕ × ℕ))) (one : StalePage) → IsFoundFromSome facts level entries one → IsOneRoot facts level entries one
one-root facts level [] one h = absurd h
one-root facts level (x ∷ entries) one (inl h) = record { root = x; among = (0, omega arith, refl); found = h }
one-root facts level (x ∷ entries) one (inr h) =
    let later : IsOneRoot facts level entries one = one-root facts level entries one h in
    let under = later.among.1 in
    record { root = later.root; among = (suc later.among.0, omega (arith, under), later.among.2); found = later.found }

root-one : (facts : Facts) (level : ℕ) (entries : List (ℕ × List (ℕ × ℕ))) (root : ℕ × List (ℕ × ℕ)) (one : StalePage) (k : ℕ) → k < length entries → slice_index_or entries k root ≡ root
    → IsFoundFrom facts (IsTimeOf (has_time root.1)) level root.0 one → IsFoundFromSome facts level entries one
root-one facts level [] root one k h is found = absurd (omega (arith, h))
root-one facts level (x ∷ entries) root one zero h is found =
    inl (subst (λ (r : ℕ × List (ℕ × ℕ)). IsFoundFrom facts (IsTimeOf (has_time r.1)) level r.0 one) (sym is) found)
root-one facts level (x ∷ entries) root one (suc k) h is found = inr (root-one facts level entries root one k (omega (arith, h)) is found)

frames-all : (entries : List (ℕ × List (ℕ × ℕ))) → ((root : ℕ × List (ℕ × ℕ)) → Contains entries root → IsFrame root.0) → AreFrames entries
frames-all [] each = tt
frames-all (x ∷ entries) each = (
  each x (0, omega arith, refl),
  frames-all entries (λ root among. let under = among.1 in each root (suc among.0, omega (arith, under), among.2)),
)

-- what a table leads to is a translation of a page
leads-leaf : (makes : WayOfMaking) (takes : WayOfTaking) (now x : ℕ) (InUse : ℕ → Type 0) (level table : ℕ) (bits : Bits) (k : ℕ) (held : Held)
    → Leads makes takes now x InUse level table bits k held → held.leaf ≡ true
leads-leaf makes takes now x InUse zero table bits k held l = absurd l
leads-leaf makes takes now x InUse (suc lower) table bits k held (inl leaf) = leaf.1
leads-leaf makes takes now x InUse (suc lower) table bits k held (inr l) =
    leads-leaf makes takes now x (λ u. IsKept makes takes now x InUse (suc lower) table bits u l.0) lower l.0.frame l.0.bits k held l.2

-- the tests of the stay at a time
wanted-true : (c root : ℕ) (stay : Stay) → stay.pcid ≡ c → stay.root ≡ root → is_wanted (under_root c root) stay ≡ true
wanted-true c root stay p r =
    let a : (stay.pcid == c) ≡ true = grind (arith, nat_tests, p) in
    let b : (root == stay.root) ≡ true = grind (arith, nat_tests, r) in
    rw (a, b) refl

true-wanted : (c root : ℕ) (stay : Stay) → is_wanted (under_root c root) stay ≡ true → (stay.pcid ≡ c) × (stay.root ≡ root)
true-wanted c root stay h = by_test (stay.pcid == c) (root == stay.root) refl refl h
  where
    by_test : (a b : Bool) → (stay.pcid == c) ≡ a → (root == stay.root) ≡ b → ((a && true) && b) ≡ true → (stay.pcid ≡ c) × (stay.root ≡ root)
    by_test true true e f q = (grind (arith, nat_tests, e), grind (arith, nat_tests, f))
    by_test true false e f q = absurd (cc)
    by_test false b e f q = absurd (cc)

-- a stay that is asked for at a recent time
record IsRecent (host : Keeping) (now c root t : ℕ) : Type 0 where
  pub since : host.horizon ≤ t
  pub until : t ≤ now
  pub stay : Stay
  pub is : stay_in host.past t ≡ Some stay
  pub pcid : stay.pcid ≡ c
  pub root_is : stay.root ≡ root

recent-stay : (host : Keeping) (now c root t : ℕ) → is_recent_stay host now (under_root c root) t ≡ true → IsRecent host now c root t
recent-stay host now c root t h = by_test (nat_le host.horizon t) (nat_le t now) (stay_in host.past t) refl refl refl h
  where
    by_test : (a b : Bool) (o : Option Stay) → nat_le host.horizon t ≡ a → nat_le t now ≡ b → stay_in host.past t ≡ o → (a && (b && is_wanted_if (under_root c root) o)) ≡ true → IsRecent host now c root t
    by_test true true (Some stay) e f is q =
        let two = true-wanted c root stay q in
        record { since = grind (arith, nat_tests, e); until = grind (arith, nat_tests, f); stay = stay; is = is; pcid = two.0; root_is = two.1 }
    by_test true true None e f is q = absurd (cc)
    by_test true false o e f is q = absurd (cc)
    by_test false b o e f is q = absurd (cc)

abbrev IsRootsMap : Keeping → ℕ → ℕ → BTreeMap ℕ (List (ℕ × ℕ)) → Type 0
IsRootsMap host now c roots = (root t : ℕ) → has_if (get nat_cmp roots root) t ≡ is_recent_stay host now (under_root c root) t

some-get : (roots : BTreeMap ℕ (List (ℕ × ℕ))) (root : ℕ × List (ℕ × ℕ)) → IsOrdered nat_cmp roots → Contains roots.entries root → get nat_cmp roots root.0 ≡ Some root.1
some-get roots root ordered among = (btree_map_get_iff nat_cmp_total exact_unsigned roots ordered root.0 root.1).1 among

pub roots-frames : (host : Keeping) (now c : ℕ) (roots : BTreeMap ℕ (List (ℕ × ℕ))) → IsOrdered nat_cmp roots
    → ((root t : ℕ) → has_if (get nat_cmp roots root) t ≡ is_recent_stay host now (under_root c root) t)
    → ((root : ℕ) (times : List (ℕ × ℕ)) → get nat_cmp roots root ≡ Some times → HasSomeTime times)
    → ((t : ℕ) (stay : Stay) → stay_in host.past t ≡ Some stay → IsFrame stay.root)
    → AreFrames roots.entries
roots-frames host now c roots ordered are in_use frames = frames-all roots.entries (λ root among.
    let some = some-get roots root ordered among in
    let used : HasSomeTime root.1 = in_use root.0 root.1 some in
    let recent : IsRecent host now c root.0 used.t = recent-stay host now c root.0 used.t (sym (are root.0 used.t) ∙ (ap (λ o. has_if o used.t) some ∙ used.is)) in
    subst IsFrame recent.root_is (frames used.t recent.stay recent.is))

module _ (facts : Facts) (history : History) (level : ℕ) (one : StalePage) (stand : FactsStandFor facts history) (top : level ≡ top_level facts.settings)
    (roots : BTreeMap ℕ (List (ℕ × ℕ))) (ordered : IsOrdered nat_cmp roots)
    (are : (root t : ℕ) → has_if (get nat_cmp roots root) t ≡ is_recent_stay facts.host facts.end (under_root facts.under root) t) where
  root-then : (table t : ℕ) → IsRootAt history facts.host.number facts.under level table t → is_recent_stay facts.host facts.end (under_root facts.under table) t ≡ true
  root-then table t r =
      let at : IsStayAt facts.host history t = stand.host.stays t r.is_in.within in
      let known : at.known ≡ r.known = some-regs at.known r.known (sym at.is_known ∙ r.is_in.is_known) in
      let low : nat_le facts.host.horizon t ≡ true = let h : facts.host.horizon ≤ t = subst (λ n. n ≤ t) stand.host.horizon_is r.is_in.recent in grind (arith, nat_tests, h) in
      let high : nat_le t facts.end ≡ true = let h : t ≤ facts.end = subst (λ n. t ≤ n) (sym stand.end_is) r.is_in.within in grind (arith, nat_tests, h) in
      let pcid : at.stay.pcid ≡ facts.under = at.is_stay.pcid ∙ (ap pcid_of known ∙ sym r.is_in.current) in
      let root : at.stay.root ≡ table = at.is_stay.root ∙ (ap (λ k. root_of k facts.host.machine) known ∙ (ap (λ m. root_of r.known m) (sym stand.host.machine_is) ∙ sym r.root)) in
      rw (low, high) (ap (is_wanted_if (under_root facts.under table)) at.is_kept ∙ wanted-true facts.under table at.stay pcid root)
    where
      some-regs : (a b : Regs) → Some a ≡ Some b → a ≡ b
      some-regs a b h = cc

  then-root : (table t : ℕ) → is_recent_stay facts.host facts.end (under_root facts.under table) t ≡ true → IsRootAt history facts.host.number facts.under level table t
  then-root table t h =
      let recent : IsRecent facts.host facts.end facts.under table t = recent-stay facts.host facts.end facts.under table t h in
      let within : t ≤ time history = subst (λ n. t ≤ n) stand.end_is recent.until in
      let at : IsStayAt facts.host history t = stand.host.stays t within in
      let same : at.stay ≡ recent.stay = some-stay at.stay recent.stay (sym at.is_kept ∙ recent.is) in
      record {
        known = at.known;
        is_in = record {
          recent = subst (λ n. n ≤ t) (sym stand.host.horizon_is) recent.since;
          within = within;
          is_known = at.is_known;
          current = sym (ap (λ (s : Stay). s.pcid) same ∙ recent.pcid) ∙ at.is_stay.pcid;
        };
        top = top ∙ (ap (λ (s : Settings). if s.la57 then 5 else 4) stand.settings_is ∙ ap (λ (b : Bool). if b then 5 else 4) (sym (stand.host.la57_is t at.known within at.is_known)));
        root = sym (ap (λ (s : Stay). s.root) same ∙ recent.root_is) ∙ (at.is_stay.root ∙ ap (λ m. root_of at.known m) (sym stand.host.machine_is));
      }
    where
      some-stay : (a b : Stay) → Some a ≡ Some b → a ≡ b
      some-stay a b h = cc

  from-under : IsFoundFromSome facts level roots.entries one → IsFoundUnderRoots facts history level one
  from-under h =
      let o : IsOneRoot facts level roots.entries one = one-root facts level roots.entries one h in
      let some = some-get roots o.root ordered o.among in
      record {
        page = o.found.page;
        root = o.root.0;
        k = o.found.k;
        held = o.found.held;
        leaf = leads-leaf (makes_of facts) (takes_of facts) facts.end one.page (IsTimeOf (has_time o.root.1)) level o.root.0 root_bits o.found.k o.found.held o.found.leads;
        leads = leads-more (makes_of facts) (takes_of facts) facts.end one.page (IsTimeOf (has_time o.root.1)) (IsRootAt history facts.host.number facts.under level o.root.0) level o.root.0 root_bits o.found.k o.found.held
            (λ t used. then-root o.root.0 t (sym (are o.root.0 t) ∙ (ap (λ times. has_if times t) some ∙ used))) o.found.leads;
        stale = o.found.stale;
      }

  under-from : IsFoundUnderRoots facts history level one → IsFoundFromSome facts level roots.entries one
  under-from f =
      let once : LeadsAtOneTime (makes_of facts) (takes_of facts) facts.end one.page (IsRootAt history facts.host.number facts.under level f.root) level f.root root_bits f.k f.held =
      leads-once (makes_of facts) (takes_of facts) facts.end one.page (IsRootAt history facts.host.number facts.under level f.root) level f.root root_bits f.k f.held f.leads in
      by_get once.t (get nat_cmp roots f.root) refl (are f.root once.t ∙ root-then f.root once.t once.in_use)
    where
      by_get : (t : ℕ) (o : Option (List (ℕ × ℕ))) → get nat_cmp roots f.root ≡ o → has_if (get nat_cmp roots f.root) t ≡ true → IsFoundFromSome facts level roots.entries one
      by_get t None is used = absurd (nothing (sym (ap (λ o. has_if o t) is) ∙ used))
        where
          nothing : false ≡ true → ⊥
          nothing h = absurd (cc)
      by_get t (Some times) is used =
          let among : Contains roots.entries (f.root, times) = (btree_map_get_iff nat_cmp_total exact_unsigned roots ordered f.root times).0 is in
          root-one facts level roots.entries (f.root, times) one among.0 among.1 among.2 (record {
            page = f.page;
            k = f.k;
            held = f.held;
            leads = leads-more (makes_of facts) (takes_of facts) facts.end one.page (IsRootAt history facts.host.number facts.under level f.root) (IsTimeOf (has_time times)) level f.root root_bits f.k f.held
                (λ v at. sym (ap (λ o. has_if o v) is) ∙ (are f.root v ∙ root-then f.root v at)) f.leads;
            stale = f.stale;
          })

  pub roots-under : (IsFoundFromSome facts level roots.entries one → IsFoundUnderRoots facts history level one) × (IsFoundUnderRoots facts history level one → IsFoundFromSome facts level roots.entries one)
  roots-under = (from-under, under-from)
