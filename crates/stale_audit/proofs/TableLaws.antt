-- The findings of a table by its slots, and by the times at which it was in use.
use Rattle.std.proofs.Common.{◌≡◌, ℕ, zero, suc, ◌+◌, ◌-◌, ◌*◌, ◌<◌, ◌≤◌, ◌&&◌, ◌⊎◌, inl, inr, Bool, true, false, List, [], take, get_or, length, Option, Some, None, refl, sym, subst, arith}
use Rattle.std.specs.Prelude.{is_some, nat_lt, if◌then◌else◌, Result, Ok, Err, IfOk}
use Rattle.std.proofs.lemmas.List.{take_more}
use Rattle.std.proofs.lemmas.Bool.Decides.{nat_tests}
use Rattle.paging_model.specs.LinearAddress.{span}
use Rattle.paging_model.specs.Walking.{entry_address}
use Rattle.paging_model.specs.declared.entries.Bits.{Bits}
use Rattle.history_model.specs.CachedTranslations.{Held}
use Rattle.audit_laws.specs.Firsts.{IsFirst, first_of_two}
use Rattle.audit_laws.specs.Leads.{IsKept, IsTimeOf, Leads}
use Rattle.audit_laws.specs.declared.stale_pages.StalePage.{StalePage}
use Rattle.audit_laws.proofs.FirstLaws.{first-either, first-same}
use Rattle.audit_laws.proofs.LeadLaws.{leads-more}
use Rattle.time_sets.specs.Sets.{has_time}
use Rattle.stale_audit.specs.Facts.{Facts, made_with, makes_of, takes_of}
use Rattle.stale_audit.specs.Findings.{IsFoundIn, IsFoundUnder, IsLeafFoundIn, IsSlot}
use Rattle.stale_audit.specs.SlotEntries.{IsSplit, is_in_use}
use Rattle.stale_audit.specs.declared.tables.HeldTable.{HeldTable}
use Rattle.stale_audit.specs.declared.slots.SlotFindings.{SlotFindings}
use Rattle.stale_audit.specs.declared.timed_tables.TimedTable.{TimedTable}
use Rattle.stale_audit.proofs.EntryLaws.{either, or-left, or-right}
use Rattle.stale_audit.proofs.RangeLaws.{slot-ends}
use Rattle.stale_audit.proofs.UnderLaws.{found-parts, parts-found, under-cases, under-front, under-last}

pub if_ok-more : {A E : Type 0} (P Q : A → Type 0) (r : Result A E) → ((a : A) → P a → Q a) → IfOk r P → IfOk r Q
if_ok-more P Q (Ok a) f p = f a p
if_ok-more P Q (Err e) f p = p

-- what is made is made at a time of one of the two sets: a table leads to the same by these as by all times at which it
-- was in use
module _ (facts : Facts) (in_use : List (ℕ × ℕ)) (table : TimedTable) (split : IsSplit facts in_use table) where
  and-is : (a b c : Bool) → a ≡ (b && c) → b ≡ true → c ≡ true → a ≡ true
  and-is a true true is p q = is
  and-is a true false is p q = absurd (cc)
  and-is a false c is p q = absurd (cc)

  and-first : (a b c : Bool) → a ≡ (b && c) → a ≡ true → b ≡ true
  and-first a true c is p = refl
  and-first a false c is p = absurd (cc)

  all-used : (t : ℕ) → is_in_use table t ≡ true → has_time in_use t ≡ true
  all-used t h = elim (either (has_time table.nxe_clear t) (has_time table.nxe_set t) h) [
    | inl a ↦ and-first (has_time table.nxe_clear t) (has_time in_use t) (has_time facts.nxe_clear t) (split.clear t) a
    | inr b ↦ and-first (has_time table.nxe_set t) (has_time in_use t) (has_time facts.nxe_set t) (split.set t) b
  ]

  made-used : (level frame x t : ℕ) (bits : Bits) (held : Held) → makes_of facts level frame bits x t ≡ Some held
      → has_time in_use t ≡ true → is_in_use table t ≡ true
  made-used level frame x t bits held made used = by_test (has_time facts.nxe_clear t) (has_time facts.nxe_set t) refl refl made
    where
      by_test : (a b : Bool) → has_time facts.nxe_clear t ≡ a → has_time facts.nxe_set t ≡ b
          → (if a then made_with facts false level (entry_address level x frame) bits t else (if b then made_with facts true level (entry_address level x frame) bits t else None)) ≡ Some held
          → is_in_use table t ≡ true
      by_test true b p q h = or-left _ _ (and-is _ _ _ (split.clear t) used p)
      by_test false true p q h = or-right _ _ (and-is _ _ _ (split.set t) used q)
      by_test false false p q h = absurd (cc)

  kept-split : (x level frame : ℕ) (bits : Bits) (u : ℕ) (held : Held)
      → IsKept (makes_of facts) (takes_of facts) facts.end x (IsTimeOf (has_time in_use)) level frame bits u held
      → IsKept (makes_of facts) (takes_of facts) facts.end x (IsTimeOf (is_in_use table)) level frame bits u held
  kept-split x level frame bits u held k = record {
    t = k.t;
    in_use = made-used level frame x k.t bits held k.is_made k.in_use;
    is_made = k.is_made;
    order = k.order;
    within = k.within;
    spared = k.spared;
  }

  leads-split : (x level frame : ℕ) (bits : Bits) (k : ℕ) (held : Held)
      → Leads (makes_of facts) (takes_of facts) facts.end x (IsTimeOf (has_time in_use)) level frame bits k held
      → Leads (makes_of facts) (takes_of facts) facts.end x (IsTimeOf (is_in_use table)) level frame bits k held
  leads-split x zero frame bits k held l = absurd l
  leads-split x (suc lower) frame bits k held (inl leaf) = inl (leaf.0, leaf.1, kept-split x (suc lower) frame bits facts.end held leaf.2)
  leads-split x (suc lower) frame bits k held (inr l) = inr (
    l.0,
    l.1,
    leads-more (makes_of facts) (takes_of facts) facts.end x
        (λ u. IsKept (makes_of facts) (takes_of facts) facts.end x (IsTimeOf (has_time in_use)) (suc lower) frame bits u l.0)
        (λ u. IsKept (makes_of facts) (takes_of facts) facts.end x (IsTimeOf (is_in_use table)) (suc lower) frame bits u l.0)
        lower l.0.frame l.0.bits k held (λ u kept. kept-split x (suc lower) frame bits u l.0 kept) l.2,
  )

  pub leads-all : (x level frame : ℕ) (bits : Bits) (k : ℕ) (held : Held)
      → Leads (makes_of facts) (takes_of facts) facts.end x (IsTimeOf (is_in_use table)) level frame bits k held
      → Leads (makes_of facts) (takes_of facts) facts.end x (IsTimeOf (has_time in_use)) level frame bits k held
  leads-all x level frame bits k held l =
      leads-more (makes_of facts) (takes_of facts) facts.end x (IsTimeOf (is_in_use table)) (IsTimeOf (has_time in_use)) level frame bits k held all-used l

  pub split-leads : (x level frame : ℕ) (bits : Bits) (k : ℕ) (held : Held)
      → Leads (makes_of facts) (takes_of facts) facts.end x (IsTimeOf (has_time in_use)) level frame bits k held
      → Leads (makes_of facts) (takes_of facts) facts.end x (IsTimeOf (is_in_use table)) level frame bits k held
  split-leads = leads-split

  pub first-all : (first end level frame : ℕ) (bits : Bits) (found : Option StalePage)
      → IsFirst (IsFoundIn facts first end (IsTimeOf (is_in_use table)) level frame bits) found
      → IsFirst (IsFoundIn facts first end (IsTimeOf (has_time in_use)) level frame bits) found
  first-all first end level frame bits found is =
      first-same (IsFoundIn facts first end (IsTimeOf (is_in_use table)) level frame bits)
      (IsFoundIn facts first end (IsTimeOf (has_time in_use)) level frame bits) found
      (λ one f. record { page = f.page; k = f.k; held = f.held; leads = leads-all one.page level frame bits f.k f.held f.leads; stale = f.stale })
      (λ one f. record { page = f.page; k = f.k; held = f.held; leads = leads-split one.page level frame bits f.k f.held f.leads; stale = f.stale })
      is

-- a step of the loop over the tables that a slot references
pub under-more : (facts : Facts) (first end level : ℕ) (list : List HeldTable) (i : ℕ) (d : HeldTable) (Leaf : StalePage → Type 0)
    (best found : Option StalePage) → i < length list
    → IsFirst (λ one. Leaf one ⊎ IsFoundUnder facts first end level (take i list) one) best
    → IsFirst (IsFoundIn facts first end (IsTimeOf (has_time (get_or list i d).times)) level (get_or list i d).frame (get_or list i d).bits) found
    → IsFirst (λ one. Leaf one ⊎ IsFoundUnder facts first end level (take (i + 1) list) one) (first_of_two best found)
under-more facts first end level list i d Leaf best found h so_far next =
    let at : HeldTable = get_or list i d in
    let Under : List HeldTable → StalePage → Type 0 = λ l one. IsFoundUnder facts first end level l one in
    let Next : StalePage → Type 0 = λ one. IsFoundIn facts first end (IsTimeOf (has_time at.times)) level at.frame at.bits one in
    let more = take_more list i d h in
    first-same (λ one. (Leaf one ⊎ Under (take i list) one) ⊎ Next one) (λ one. Leaf one ⊎ Under (take (i + 1) list) one) (first_of_two best found)
    (λ one x. elim x [
      | inl y ↦ elim y [
        | inl p ↦ inl p
        | inr u ↦ inr (subst (λ l. Under l one) (sym more) (under-front facts first end level (take i list) at one u))
      ]
      | inr n ↦ inr (subst (λ l. Under l one) (sym more) (under-last facts first end level (take i list) at one n))
    ])
    (λ one x. elim x [
      | inl p ↦ inl (inl p)
      | inr u ↦ elim (under-cases facts first end level (take i list) at one (subst (λ l. Under l one) more u)) [
        | inl a ↦ inl (inr a)
        | inr b ↦ inr b
      ]
    ])
    (first-either (λ one. Leaf one ⊎ Under (take i list) one) Next best found so_far next)

pub under-begun : (facts : Facts) (first end level : ℕ) (Leaf : StalePage → Type 0) (found : Option StalePage) → IsFirst Leaf found
    → IsFirst (λ one. Leaf one ⊎ IsFoundUnder facts first end level [] one) found
under-begun facts first end level Leaf found is =
    first-same Leaf (λ one. Leaf one ⊎ ⊥) found (λ one p. inl p) (λ one x. elim x [ inl p ↦ p | inr n ↦ absurd n ]) is

-- the first finding of a whole slot
pub slot-first : (facts : Facts) (first : ℕ) (Use : ℕ → Type 0) (level table : ℕ) (bits : Bits) (slot : SlotFindings) (best : Option StalePage)
    → 1 ≤ level → IsSlot facts first Use level table bits slot
    → IsFirst (λ one. IsLeafFoundIn facts first (first + span level) Use level table bits one
    ⊎ IsFoundUnder facts first (first + span level) (level - 1) slot.tables.items one) best
    → IsFirst (IsFoundIn facts first (first + span level) Use level table bits) best
slot-first facts first Use zero table bits slot best least is_slot so_far = absurd (omega arith)
slot-first facts first Use (suc lower) table bits slot best least is_slot so_far =
    let e : suc lower - 1 ≡ lower = omega arith in
    let Leaf : StalePage → Type 0 = λ one. IsLeafFoundIn facts first (first + span (suc lower)) Use (suc lower) table bits one in
    first-same (λ one. Leaf one ⊎ IsFoundUnder facts first (first + span (suc lower)) lower slot.tables.items one)
    (IsFoundIn facts first (first + span (suc lower)) Use (suc lower) table bits) best
    (parts-found facts first Use lower table bits slot is_slot) (found-parts facts first Use lower table bits slot is_slot)
    (subst (λ n. IsFirst (λ one. Leaf one ⊎ IsFoundUnder facts first (first + span (suc lower)) n slot.tables.items one) best) e so_far)

-- slot by slot: s is the length of a slot's range
module _ (facts : Facts) (first s i : ℕ) (Use : ℕ → Type 0) (level table : ℕ) (bits : Bits) where
  abbrev Range : ℕ → ℕ → StalePage → Type 0
  Range from end one = IsFoundIn facts from end Use level table bits one

  within : (from end : ℕ) (one : StalePage) → from ≤ one.page → one.page < end → Range first (first + 512 * s) one → Range from end one
  within from end one low high r = record {
    page = record { least = low; below = high; aligned = r.page.aligned };
    k = r.k;
    held = r.held;
    leads = r.leads;
    stale = r.stale;
  }

  widen : (from end : ℕ) (one : StalePage) → first ≤ from → end ≤ first + 512 * s → Range from end one → Range first (first + 512 * s) one
  widen from end one low high r =
      let p = r.page.least in let q = r.page.below in
      record {
        page = record { least = omega arith; below = omega arith; aligned = r.page.aligned };
        k = r.k;
        held = r.held;
        leads = r.leads;
        stale = r.stale;
      }

  where-is : (one : StalePage) → Range first (first + 512 * s) one
      → Range first (first + i * s) one ⊎ (Range (first + i * s) (first + i * s + s) one ⊎ (first + i * s + s ≤ one.page))
  where-is one r = by_test (nat_lt one.page (first + i * s)) (nat_lt one.page (first + i * s + s)) refl refl
    where
      by_test : (a b : Bool) → nat_lt one.page (first + i * s) ≡ a → nat_lt one.page (first + i * s + s) ≡ b
          → Range first (first + i * s) one ⊎ (Range (first + i * s) (first + i * s + s) one ⊎ (first + i * s + s ≤ one.page))
      by_test true b e f = inl (within first (first + i * s) one r.page.least (grind (arith, nat_tests, e)) r)
      by_test false true e f = inr (inl (within (first + i * s) (first + i * s + s) one (grind (arith, nat_tests, e)) (grind (arith, nat_tests, f)) r))
      by_test false false e f = inr (inr (grind (arith, nat_tests, f)))

  -- the first finding of a slot is that of the table, where the slots before have none
  pub table-some : (found : Option StalePage) → i < 512 → is_some found ≡ true → IsFirst (Range first (first + i * s)) None
      → IsFirst (Range (first + i * s) (first + i * s + s)) found → IsFirst (Range first (first + 512 * s)) found
  table-some None h t none is = absurd (cc)
  table-some (Some one) h t none is =
      let ends : i * s + s ≤ 512 * s = slot-ends s i h in
      let below = is.0.page.below in (
        widen (first + i * s) (first + i * s + s) one (omega arith) (omega (arith, ends)) is.0,
        λ other r. elim (where-is other r) [
          | inl before ↦ absurd (none other before)
          | inr later ↦ elim later [ inl here ↦ is.1 other here | inr past ↦ inl (omega (arith, below, past)) ]
        ],
      )

  pub table-none : (found : Option StalePage) → i < 512 → is_some found ≡ false → IsFirst (Range first (first + i * s)) None
      → IsFirst (Range (first + i * s) (first + i * s + s)) found → IsFirst (Range first (first + (i + 1) * s)) None
  table-none (Some one) h t none is = absurd (cc)
  table-none None h t none is = λ other r.
      let e : (i + 1) * s ≡ i * s + s = grind arith in
      let ends : i * s + s ≤ 512 * s = slot-ends s i h in
      let below : other.page < first + (i + 1) * s = r.page.below in
      let whole : Range first (first + 512 * s) other = record {
        page = record { least = r.page.least; below = omega (arith, e, ends, below); aligned = r.page.aligned };
        k = r.k;
        held = r.held;
        leads = r.leads;
        stale = r.stale;
      } in
      elim (where-is other whole) [
        | inl before ↦ none other before
        | inr later ↦ elim later [ inl here ↦ is other here | inr past ↦ absurd (omega (arith, e, below, past)) ]
      ]

  pub table-begun : IsFirst (Range first (first + 0 * s)) None
  table-begun = λ one r. let low = r.page.least in let high = r.page.below in absurd (omega (arith, low, high))
