-- What a processor may hold right after it removed all that could serve an address is what the present walk comes to.
use Rattle.std.proofs.Common.{◌≡◌, ℕ, suc, ◌+◌, ◌-◌, ◌*◌, ◌/◌, ◌^◌, ◌<◌, ◌≤◌, ◌⊎◌, inl, inr, Bool, true, false, ◌&&◌, Option, Some, None, refl, sym, ap, ◌∙◌, arith, subst}
use Rattle.std.proofs.Math.Nat.{div-mul-le_self, lt-div-mul-add}
use Rattle.std.proofs.lemmas.Nat.{pow_pos, shr-shr}
use Rattle.std.proofs.lemmas.Bool.Decides.{nat_tests}
use Rattle.std.specs.Prelude.{◌==◌, ◌||◌, if◌then◌else◌, nat_le, nat_lt}
use Rattle.paging_model.specs.LinearAddress.{is_canonical, span}
use Rattle.paging_model.specs.Registers.{la57, pcid_of, root_of}
use Rattle.paging_model.specs.declared.registers.Machine.{Machine}
use Rattle.paging_model.specs.declared.registers.Regs.{Regs}
use Rattle.history_model.specs.History.{History, begun, next, memory, machine, regs, last_root, last_root_under, page_of}
use Rattle.history_model.specs.Horizons.{takes_all}
use Rattle.history_model.specs.Invalidations.{kills, key_covers, invlpg_kills}
use Rattle.history_model.specs.CachedTranslations.{Held, MayHold, MayUse, kept, at_root, below, cache_key}
use Rattle.history_model.specs.StaleTranslations.{IsStale}
use Rattle.history_model.specs.declared.caches.Finding.{Finding}
use Rattle.history_model.specs.declared.events.Event.{Event}
use Rattle.history_model.specs.declared.events.Event.TheVariants as event
use Rattle.history_laws.specs.HeldLevels.{HasLevel}
use Rattle.history_laws.specs.QuietHistories.{IsPresent}
use Rattle.history_laws.proofs.LevelLaws.{held_has_level}
use Rattle.history_laws.proofs.HorizonLaws.{takes_each}
use Rattle.history_laws.proofs.WalkLaws.{some-same, Stands, stands_at_root, stands_below, present_when_it_stands, translation_not_stale}

-- an event removes each entry of a processor that it held for an address under a PCID
pub record TakesEach (before : History) (happened : Event) (p c x : ℕ) : Type 0 where
  pub takes : (known : Regs) (level : ℕ) (held : Held) → regs before p ≡ Some known → kills happened p known (cache_key c level x held) ≡ true

-- then all that may be held there is made after it
pub stands_anew : {p c x : ℕ} {before : History} {happened : Event} {level : ℕ} {held : Held} → TakesEach before happened p c x → MayHold (next before happened) p c level x held
    → Stands (memory (next before happened)) (machine (next before happened)) (regs (next before happened) p) c x level held
stands_anew {before = before} each (kept happened {level = level} {held = held} {known = known} earlier is_known spares) =
    let taken = each.takes known level held is_known in absurd (cc (taken, spares))
stands_anew {p = p} {c = c} {x = x} {before = before} {happened = happened} each (at_root {level = level} {held = held} {known = known} is_known current top is_made) =
    stands_at_root (next before happened) p c x level held known is_known current top is_made
stands_anew {p = p} {c = c} {x = x} {before = before} {happened = happened} each (below {level = level} {held = held} {known = known} above is_known current above_held references is_made) =
    let over : HasLevel (suc level) above = held_has_level above_held in
    stands_below (next before happened) p c x level held above known is_known current (over.of_table references) (stands_anew each above_held) references is_made

equal_self : (n : ℕ) → (n == n) ≡ true
equal_self n = grind (arith, nat_tests)

last_root_under-now : (known : Regs) (now : Option Regs) (m : Machine) (c root : ℕ) (earlier : Option ℕ) → now ≡ Some known → c ≡ pcid_of known → last_root_under m now c earlier ≡ Some root → root ≡ root_of known m
last_root_under-now known now m c root earlier is_known current h =
    let own : (pcid_of known == c) ≡ true = ap (λ n. pcid_of known == n) current ∙ equal_self (pcid_of known) in
    let here : (if pcid_of known == c then Some (root_of known m) else earlier) ≡ Some root = sym (ap (λ one. last_root_under m one c earlier) is_known) ∙ h in
    sym (some-same (root_of known m) root (sym (ap (λ (test : Bool). if test then Some (root_of known m) else earlier) own) ∙ here))

-- the root that a processor had last in its current PCID is its present one
pub last_root-now : (history : History) (p c root : ℕ) (known : Regs) → regs history p ≡ Some known → c ≡ pcid_of known → last_root history p c ≡ Some root → root ≡ root_of known (machine history)
last_root-now (begun start) p c root known is_known current h = last_root_under-now known _ start.machine c root None is_known current h
last_root-now (next before happened) p c root known is_known current h = last_root_under-now known _ (machine before) c root (last_root before p c) is_known current h

-- what stands isn't stale under the current PCID
standing_not_stale : (history : History) (finding : Finding) (known : Regs) (stale : IsStale history finding) → regs history finding.cpu ≡ Some known → finding.pcid ≡ pcid_of known
    → Stands (memory history) (machine history) (regs history finding.cpu) stale.may_use.under finding.page stale.level stale.held → ⊥
standing_not_stale history finding known stale is_known current stands =
    let same : known ≡ stale.known = some-same known stale.known (sym is_known ∙ stale.is_known) in
    let present : IsPresent history stale.known stale.level finding.page stale.held =
    present_when_it_stands history finding.cpu stale.may_use.under finding.page stale.level stale.held stale.known stale.is_known stale.page.aligned stale.may_use.leaf stands in
    translation_not_stale history finding stale
    (last_root-now history finding.cpu finding.pcid stale.root stale.known stale.is_known (current ∙ ap pcid_of same) stale.is_root) present.translated

-- right after a processor lost everything, nothing is stale under its current PCID
pub lost_not_stale : (before : History) (happened : Event) (finding : Finding) (known : Regs) → takes_all happened finding.cpu (regs before finding.cpu) ≡ true
    → regs (next before happened) finding.cpu ≡ Some known → finding.pcid ≡ pcid_of known → IsStale (next before happened) finding → ⊥
lost_not_stale before happened finding known lost is_known current stale =
    let each : TakesEach before happened finding.cpu stale.may_use.under finding.page =
    record { takes = λ known level held was_known. takes_each happened finding.cpu known (cache_key stale.may_use.under level finding.page held) (sym (ap (takes_all happened finding.cpu) was_known) ∙ lost) } in
    standing_not_stale (next before happened) finding known stale is_known current (stands_anew each stale.may_use.held_there)

-- an entry serves the addresses of its prefix
pub covers-same : (size x address : ℕ) → 0 < size → x / size ≡ address / size → (nat_le (x / size * size) address && nat_lt address (x / size * size + size)) ≡ true
covers-same size x address some same =
    let low : address / size * size ≤ address = div-mul-le_self address size in
    let high : address < address / size * size + size = lt-div-mul-add some in
    rw same (grind (arith, nat_tests))

-- a page and an address in it have the same prefixes
page_of-prefix : (level address : ℕ) → page_of address / span level ≡ address / span level
page_of-prefix level address =
    rw (← shr-shr (address / 4096 * 4096) 12 (9 * (level - 1)), ← shr-shr address 12 (9 * (level - 1))) (let e : address / 4096 * 4096 / 2 ^ 12 ≡ address / 2 ^ 12 = omega arith in ap (λ n. n / 2 ^ (9 * (level - 1))) e)

invlpg_takes : (canonical covered own global leaf : Bool) → canonical ≡ true → covered ≡ true → (own ≡ true) ⊎ ((leaf ≡ true) × (global ≡ true)) → (canonical && (if leaf then covered && (own || global) else own)) ≡ true
invlpg_takes false covered own global leaf h k f = h
invlpg_takes true false own global leaf h k f = absurd (cc)
invlpg_takes true true true global true h k f = refl
invlpg_takes true true true global false h k f = refl
invlpg_takes true true false global leaf h k (inl e) = absurd (cc)
invlpg_takes true true false global leaf h k (inr e) = let leaf_is = e.0 in rw (leaf_is) e.1

-- INVLPG removes the translations of the page of its address, of the current PCID or global, and each reference of a
-- table of the current PCID
invlpg-kills : (p c page address level : ℕ) (known : Regs) (held : Held) → is_canonical (la57 known) address ≡ true → page ≡ page_of address
    → ((c == pcid_of known) ≡ true) ⊎ ((held.leaf ≡ true) × (held.global ≡ true)) → kills (event.Invlpg p address) p known (cache_key c level page held) ≡ true
unfolding kills
invlpg-kills p c page address level known held canonical page_is serves =
    let same : page / span level ≡ address / span level = rw page_is (page_of-prefix level address) in
    let covered : key_covers (cache_key c level page held) address ≡ true = covers-same (span level) page address (pow_pos (12 + 9 * (level - 1))) same in
    ap (λ own. own && invlpg_kills address known (cache_key c level page held)) (equal_self p)
    ∙ invlpg_takes (is_canonical (la57 known) address) (key_covers (cache_key c level page held) address) (c == pcid_of known) held.global held.leaf canonical covered serves

-- what an event removes is held after it only if it was made anew
stands_removed : {p c x : ℕ} {before : History} {happened : Event} {level : ℕ} {held : Held} (known : Regs) → regs before p ≡ Some known → regs (next before happened) p ≡ Some known
    → kills happened p known (cache_key c level x held) ≡ true → TakesEach before happened p (pcid_of known) x → MayHold (next before happened) p c level x held
    → Stands (memory (next before happened)) (machine (next before happened)) (regs (next before happened) p) c x level held
stands_removed {p = p} {c = c} {x = x} known was_known now_known taken each (kept happened {level = level} {held = held} {known = earlier_known} earlier is_known spares) =
    let same : earlier_known ≡ known = some-same earlier_known known (sym is_known ∙ was_known) in
    let spared : kills happened p known (cache_key c level x held) ≡ false = subst (λ one. kills happened p one (cache_key c level x held) ≡ false) same spares in
    absurd (cc (taken, spared))
stands_removed {p = p} {c = c} {x = x} {before = before} {happened = happened} known was_known now_known taken each (at_root {known = later_known} is_known current top is_made) =
    let own : c ≡ pcid_of known = current ∙ ap pcid_of (some-same later_known known (sym is_known ∙ now_known)) in
    stands_anew (subst (λ n. TakesEach before happened p n x) (sym own) each) (at_root is_known current top is_made)
stands_removed {p = p} {c = c} {x = x} {before = before} {happened = happened} known was_known now_known taken each (below {known = later_known} above is_known current above_held references is_made) =
    let own : c ≡ pcid_of known = current ∙ ap pcid_of (some-same later_known known (sym is_known ∙ now_known)) in
    stands_anew (subst (λ n. TakesEach before happened p n x) (sym own) each) (below above is_known current above_held references is_made)

-- right after INVLPG of an address in a page, nothing of the page is stale under the current PCID
pub invlpg_not_stale : (before : History) (address : ℕ) (finding : Finding) (known : Regs) → regs before finding.cpu ≡ Some known → is_canonical (la57 known) address ≡ true
    → finding.page ≡ page_of address → finding.pcid ≡ pcid_of known → IsStale (next before (event.Invlpg finding.cpu address)) finding → ⊥
invlpg_not_stale before address finding known is_known canonical page_is current stale =
    let each : TakesEach before (event.Invlpg finding.cpu address) finding.cpu (pcid_of known) finding.page =
    record {
      takes = λ was level held was_known.
          subst (λ one. kills (event.Invlpg finding.cpu address) finding.cpu one (cache_key (pcid_of known) level finding.page held) ≡ true) (some-same known was (sym is_known ∙ was_known))
          (invlpg-kills finding.cpu (pcid_of known) finding.page address level known held canonical page_is (inl (equal_self (pcid_of known))));
    } in
    let may_use : MayUse (next before (event.Invlpg finding.cpu address)) finding.cpu finding.pcid stale.level finding.page stale.held = stale.may_use in
    let serves : ((may_use.under == pcid_of known) ≡ true) ⊎ ((stale.held.leaf ≡ true) × (stale.held.global ≡ true)) =
    elim may_use.reaches [
      | inl same ↦ inl (ap (λ n. n == pcid_of known) (same ∙ current) ∙ equal_self (pcid_of known))
      | inr global ↦ inr (may_use.leaf, global.0)
    ] in
    let taken = invlpg-kills finding.cpu may_use.under finding.page address stale.level known stale.held canonical page_is serves in
    standing_not_stale (next before (event.Invlpg finding.cpu address)) finding known stale is_known current
    (stands_removed known is_known is_known taken each may_use.held_there)
