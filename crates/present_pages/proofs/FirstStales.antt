-- The first page of a range at which a held page exceeds the present tables.
use Rattle.std.proofs.Common.{◌≡◌, ℕ, ◌+◌, ◌-◌, ◌*◌, ◌/◌, ◌%◌, ◌^◌, ◌<◌, ◌≤◌, inl, inr, true, false, Option, Some, None, sym, ap, ◌∙◌, subst, arith}
use Rattle.std.specs.Prelude.{is_some, max}
use Rattle.std.proofs.lemmas.Bool.{cases_lt}
use Rattle.std.proofs.lemmas.Nat.{pow-add, pow_pos, shr-shr, div-add-mod'}
use Rattle.std.proofs.Math.Pow.{mod-mod-pow}
use Rattle.std.proofs.Math.Nat.{le_trans, le-max_left, le-max_right, max-eq_left, max-eq_right, max-le, mod-lt, mul-le-mul_right, mul-mod_left}
use Rattle.paging_model.specs.LinearAddress.{span}
use Rattle.paging_model.specs.Memory.{Memory}
use Rattle.paging_model.specs.Translations.{Target, Protection, granted_target, raw_target_of}
use Rattle.paging_model.specs.Walking.{walk_from}
use Rattle.paging_model.specs.declared.entries.Bits.{Bits}
use Rattle.paging_model.specs.declared.registers.Settings.{Settings}
use Rattle.paging_model.specs.declared.registers.Regs.{Regs}
use Rattle.history_model.specs.CachedTranslations.{frame_at}
use Rattle.history_model.specs.StaleTranslations.{excess_over}
use Rattle.audit_laws.specs.AlikePages.{AreInOnePage, target_within}
use Rattle.audit_laws.specs.Firsts.{ComesNotAfter, IsFirst}
use Rattle.audit_laws.specs.declared.stale_pages.StalePage.{StalePage}
use Rattle.audit_laws.proofs.AlikeLaws.{exceeds-same, pages-alike}
use Rattle.present_pages.specs.declared.ranges.PresentPage.{PresentPage}
use Rattle.present_pages.specs.declared.ranges.PresentRange.{PresentRange}
use Rattle.present_pages.specs.declared.ranges.There.{There}
use Rattle.present_pages.specs.declared.ranges.There.TheVariants as there
use Rattle.present_pages.specs.declared.stale_pages.HeldPage.{HeldPage}
use Rattle.present_pages.specs.PresentRanges.{IsPresentRange, mapping_of, maps}
use Rattle.present_pages.specs.StalePages.{IsExcess, IsExcessAt, IsPageIn, IsStaleIn, held_page_target, translation_of}
use Rattle.present_pages.proofs.Slots.{same-quotient}

-- the ranges of a table's slots
pub span-up : (level : ℕ) → 2 ≤ level → 512 * span (level - 1) ≡ span level
span-up level h =
    let e : 12 + 9 * (level - 1) ≡ 9 + (12 + 9 * (level - 1 - 1)) = omega arith in
    sym (ap (λ n. 2 ^ n) e ∙ pow-add 2 9 (12 + 9 * (level - 1 - 1)))

pub slot_begins : (first i s : ℕ) → first % (512 * s) ≡ 0 → (first + i * s) % s ≡ 0
slot_begins first i s h = grind (arith, mul-mod_left (first / (512 * s) * 512 + i) s, div-add-mod' first (512 * s), h)

pub slot_ends : (s i : ℕ) → i < 512 → i * s + s ≤ 512 * s
slot_ends s i h =
    let m : (i + 1) * s ≤ 512 * s = mul-le-mul_right s (omega arith) in
    let e : (i + 1) * s ≡ i * s + s = grind arith in
    omega (arith, m, e)

pub slot_page : (level first i : ℕ) → first % 4096 ≡ 0 → (first + i * span level) % 4096 ≡ 0
slot_page level first i h =
    let k : 12 + 9 * (level - 1) ≡ 9 * (level - 1) + 12 = omega arith in
    let s : span level ≡ 2 ^ (9 * (level - 1)) * 4096 = ap (λ n. 2 ^ n) k ∙ pow-add 2 (9 * (level - 1)) 12 in
    ap (λ n. (first + i * n) % 4096) s ∙ by_pages (2 ^ (9 * (level - 1)))
  where
    by_pages : (m : ℕ) → (first + i * (m * 4096)) % 4096 ≡ 0
    by_pages m = grind (arith, mul-mod_left (first / 4096 + i * m) 4096, div-add-mod' first 4096, h)

-- the slot of an address of a table's range
pub slot_of-begins : (first from s : ℕ) → first ≤ from → first + (from - first) / s * s ≤ from
slot_of-begins first from s low = let d = div-add-mod' (from - first) s in omega (arith, d, low)

pub slot_of-ends : (first from s : ℕ) → 0 < s → first ≤ from → from < first + (from - first) / s * s + s
slot_of-ends first from s some low =
    let d = div-add-mod' (from - first) s in
    let m : (from - first) % s < s = mod-lt (from - first) some in
    omega (arith, d, m, low)

-- the next slot
pub slot_next : (first i s : ℕ) → first + (i + 1) * s ≡ first + i * s + s
slot_next first i s = grind arith

pub slots-end : (first i s : ℕ) → 512 ≤ i → first + 512 * s ≤ first + i * s
slots-end first i s past = let m : 512 * s ≤ i * s = mul-le-mul_right s past in omega (arith, m)

-- a range of a level begins at a page
pub range-page : (level first : ℕ) → first % span level ≡ 0 → first % 4096 ≡ 0
range-page level first whole =
    let k : 12 + 9 * (level - 1) ≡ 9 * (level - 1) + 12 = omega arith in
    sym (ap (λ n. first % 2 ^ n % 4096) k ∙ mod-mod-pow first (9 * (level - 1)) 12) ∙ ap (λ n. n % 4096) whole

pub max-page : (from at : ℕ) → from % 4096 ≡ 0 → at % 4096 ≡ 0 → max from at % 4096 ≡ 0
max-page from at h k = elim (cases_lt from at) [
  | inl less ↦ ap (λ n. n % 4096) (max-eq_right (omega (arith, less))) ∙ k
  | inr more ↦ ap (λ n. n % 4096) (max-eq_left more) ∙ h
]

pub max-lt : (from at end : ℕ) → from < end → at < end → max from at < end
max-lt from at end h k = elim (cases_lt from at) [
  | inl less ↦ subst (λ n. n < end) (sym (max-eq_right (omega (arith, less)))) k
  | inr more ↦ subst (λ n. n < end) (sym (max-eq_left more)) h
]

-- a range of a level lies in one of each higher level
higher : (level k x y : ℕ) → 1 ≤ level → level ≤ k → x / span level ≡ y / span level → x / span k ≡ y / span k
higher level k x y least h q =
    let e : 12 + 9 * (k - 1) ≡ 12 + 9 * (level - 1) + 9 * (k - level) = omega arith in
    rw (e, ← shr-shr x (12 + 9 * (level - 1)) (9 * (k - level)), ← shr-shr y (12 + 9 * (level - 1)) (9 * (k - level)))
    (ap (λ n. n / 2 ^ (9 * (k - level))) q)

module _ (regs : Regs) (held : HeldPage) where
  -- what exceeds at a page is known by the page
  comes-not_after : (mapped : ℕ → Option (Target Protection)) (one other : StalePage) → IsExcess regs held (mapped one.page) one → IsExcess regs held (mapped other.page) other
      → one.page ≤ other.page → ComesNotAfter one other
  comes-not_after mapped one other is is_other order = elim (cases_lt one.page other.page) [
    | inl before ↦ inl before
    | inr not_before ↦
        let same : one.page ≡ other.page = omega (arith, order, not_before) in
        let frames : one.frame ≡ other.frame = is.frame ∙ (ap (λ x. frame_at held.level x (translation_of held)) same ∙ sym is_other.frame) in
        let excesses : one.excess ≡ other.excess =
        is.excess ∙ (ap (λ x. excess_over (granted_target regs x (mapped x)) (held_page_target regs held x)) same ∙ sym is_other.excess) in
        inr (same, inr (frames, omega (arith, excesses)))
  ]

  -- one page maps the range, or none does
  module _ (piece : Option (Target Protection)) (level first from : ℕ) (least : 1 ≤ level) (within : level ≤ held.level) (most : held.level ≤ 3) (whole : first % span level ≡ 0) (ends : first + span level ≤ 2 ^ 64) (low : first ≤ from) (high : from < first + span level) (aligned : from % 4096 ≡ 0) where
    alike : (x : ℕ) → IsPageIn from (first + span level) x → AreInOnePage held.level first x from
    alike x page =
        let some : 0 < span level = pow_pos (12 + 9 * (level - 1)) in
        let above = page.least in
        let below = page.below in
        let q : x / span level ≡ from / span level =
        same-quotient (span level) first x some whole (omega (arith, above, low)) below ∙ sym (same-quotient (span level) first from some whole low high) in
        record {
          of_pages = most;
          below = omega (arith, below, ends);
          one_range = higher level held.level x from least within q;
          from_first = omega (arith, above, low);
          other_from_first = low;
        }

    pub piece-first : (result : Option StalePage) → IsExcessAt regs held (target_within piece first from) from result
        → IsFirst (IsStaleIn regs held (λ x. target_within piece first x) from (first + span level)) result
    piece-first None none = λ one is.
        none (exceeds-same _ _ _ _ (pages-alike regs piece first held.level (translation_of held) one.page from (alike one.page is.page)) is.excess.exceeds)
    piece-first (Some found) some =
        let here : found.page ≡ from = some.0 in
        let is : IsStaleIn regs held (λ x. target_within piece first x) from (first + span level) found = record {
          page = record { least = omega (arith, here); below = omega (arith, here, high); aligned = ap (λ n. n % 4096) here ∙ aligned };
          excess = subst (λ (n : ℕ). IsExcess regs held (target_within piece first n) found) (sym here) some.1;
        } in
        (is, λ one other. comes-not_after (λ x. target_within piece first x) found one is.excess other.excess (let above = other.page.least in omega (arith, here, above)))

  -- the same pages mapped alike
  stale-same : (some other : ℕ → Option (Target Protection)) (from end : ℕ) (one : StalePage) → ((x : ℕ) → IsPageIn from end x → some x ≡ other x)
      → IsStaleIn regs held some from end one → IsStaleIn regs held other from end one
  stale-same some other from end one same is = record {
    page = is.page;
    excess = subst (λ p. IsExcess regs held p one) (same one.page is.page) is.excess;
  }

  pub first-same : (some other : ℕ → Option (Target Protection)) (from end : ℕ) (result : Option StalePage)
      → ((x : ℕ) → IsPageIn from end x → some x ≡ other x)
      → IsFirst (IsStaleIn regs held some from end) result → IsFirst (IsStaleIn regs held other from end) result
  first-same some other from end None same none = λ one is. none one (stale-same other some from end one (λ x page. sym (same x page)) is)
  first-same some other from end (Some found) same first = (
    stale-same some other from end found same first.0,
    λ one is. first.1 one (stale-same other some from end one (λ x page. sym (same x page)) is),
  )

  module _ (mapped : ℕ → Option (Target Protection)) where
    other-ends : (from end low high : ℕ) (one : StalePage) → low ≤ one.page → one.page < high → IsStaleIn regs held mapped from end one → IsStaleIn regs held mapped low high one
    other-ends from end low high one least below is = record {
      page = record { least = least; below = below; aligned = is.page.aligned };
      excess = is.excess;
    }

    -- no page before `from` comes from it on
    pub none-before : (from at : ℕ) → at ≤ from → IsFirst (IsStaleIn regs held mapped from at) None
    none-before from at low one is = let least = is.page.least in let below = is.page.below in omega (arith, low, least, below)

    pub none-shorter : (from end to : ℕ) → end ≤ to → IsFirst (IsStaleIn regs held mapped from to) None → IsFirst (IsStaleIn regs held mapped from end) None
    none-shorter from end to low none one is = none one (other-ends from end from to one is.page.least (let below = is.page.below in omega (arith, low, below)) is)

    -- none before `at`, and the pages from there on are searched to `next`
    module _ (from at next : ℕ) (none : IsFirst (IsStaleIn regs held mapped from at) None) where
      later : (end : ℕ) (one : StalePage) → at ≤ one.page → one.page < next → IsStaleIn regs held mapped from end one → IsStaleIn regs held mapped (max from at) next one
      later end one low below is = other-ends from end (max from at) next one (max-le is.page.least low) below is

      earlier : (end : ℕ) (one : StalePage) → one.page < at → IsStaleIn regs held mapped from end one → ⊥
      earlier end one low is = none one (other-ends from end from at one is.page.least low is)

      pub none-joined : (found : Option StalePage) → is_some found ≡ false → IsFirst (IsStaleIn regs held mapped (max from at) next) found
          → IsFirst (IsStaleIn regs held mapped from next) None
      none-joined (Some found) h first = absurd (cc)
      none-joined None h first = λ one is. elim (cases_lt one.page at) [
        | inl low ↦ earlier next one low is
        | inr high ↦ first one (later next one high is.page.below is)
      ]

      pub some-joined : (end : ℕ) (found : Option StalePage) → is_some found ≡ true → next ≤ end
          → IsFirst (IsStaleIn regs held mapped (max from at) next) found → IsFirst (IsStaleIn regs held mapped from end) found
      some-joined end None h within first = absurd (cc)
      some-joined end (Some found) h within first =
          let below = first.0.page.below in (
            other-ends (max from at) next from end found (le_trans (le-max_left from at) first.0.page.least) (omega (arith, below, within)) first.0,
            λ one is. elim (cases_lt one.page at) [
              | inl low ↦ absurd (earlier end one low is)
              | inr high ↦ elim (cases_lt one.page next) [
                | inl inside ↦ first.1 one (later end one high inside is)
                | inr past ↦ inl (omega (arith, below, past))
              ]
            ],
          )

  -- the first of a slot's pages, as one of the range that its table serves
  pub of-slot : (memory : Memory) (settings : Settings) (level first : ℕ) (at_range : There) (frame : ℕ) (bits : Bits) → at_range ≡ there.Table frame bits
      → (slot : ℕ → Option (Target Protection)) (from begin at end : ℕ) (result : Option StalePage) → begin ≡ max from at
      → ((x : ℕ) → at ≤ x → x < end → x % 4096 ≡ 0 → slot x ≡ raw_target_of (walk_from memory settings (level - 1) x frame bits))
      → IsFirst (IsStaleIn regs held slot begin end) result → IsFirst (IsStaleIn regs held (maps memory settings level first at_range) (max from at) end) result
  of-slot memory settings level first at_range frame bits is_table slot from begin at end result begin_is is found =
      subst (λ n. IsFirst (IsStaleIn regs held (maps memory settings level first at_range) n end) result) begin_is
      (subst (λ it. IsFirst (IsStaleIn regs held (maps memory settings level first it) begin end) result) (sym is_table)
      (first-same slot (maps memory settings level first (there.Table frame bits)) begin end result
      (λ x page. is x (le_trans (rw begin_is (le-max_right from at)) page.least) page.below page.aligned) found))

  -- the first of the pages of a range that one page maps
  pub of-page : (memory : Memory) (settings : Settings) (range : PresentRange) (page : PresentPage) (from : ℕ) (result : Option StalePage) → range.there ≡ there.Page page
      → IsPresentRange range → range.level ≤ held.level → held.level ≤ 3 → IsPageIn range.first (range.first + span range.level) from
      → IsExcessAt regs held (target_within (Some (mapping_of page)) range.first from) from result
      → IsFirst (IsStaleIn regs held (maps memory settings range.level range.first range.there) from (range.first + span range.level)) result
  of-page memory settings range page from result is_page is within most at excess =
      subst (λ it. IsFirst (IsStaleIn regs held (maps memory settings range.level range.first it) from (range.first + span range.level)) result) (sym is_page)
      (piece-first (Some (mapping_of page)) range.level range.first from is.least within most is.whole is.ends at.least at.below at.aligned result excess)
