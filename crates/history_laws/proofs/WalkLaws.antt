-- One step of a walk to an entry of which something is held, and what then stands of it.
use Rattle.std.proofs.Common.{◌≡◌, ℕ, suc, ◌+◌, ◌-◌, ◌*◌, ◌/◌, ◌%◌, ◌^◌, ◌≤◌, ◌&&◌, inl, inr, Bool, true, false, Option, Some, refl, sym, ap, ◌∙◌, arith, subst}
use Rattle.std.proofs.Math.Pow.{mod-mod-pow}
use Rattle.paging_model.proofs.WalkSteps.{walk_from-step}
use Rattle.paging_model.specs.Memory.{Memory}
use Rattle.paging_model.specs.LinearAddress.{span}
use Rattle.paging_model.specs.Registers.{la57, pcid_of, pge, root_of, settings_of}
use Rattle.paging_model.specs.Entries.{entry_of, joined_bits, root_bits}
use Rattle.paging_model.specs.Translations.{Target, rights_of, granted_target, raw_target_of, present_target}
use Rattle.paging_model.specs.Walking.{at_entry, at_value, own_frame, top_level, walk, walk_from}
use Rattle.paging_model.specs.declared.entries.Bits.{Bits}
use Rattle.paging_model.specs.declared.entries.Entry.{Entry}
use Rattle.paging_model.specs.declared.entries.Entry.TheVariants as entry
use Rattle.paging_model.specs.declared.registers.Machine.{Machine}
use Rattle.paging_model.specs.declared.registers.Regs.{Regs}
use Rattle.paging_model.specs.declared.walks.Walk.{Walk}
use Rattle.history_model.specs.History.{History, memory, machine, regs}
use Rattle.history_model.specs.CachedTranslations.{Held, fill_of, held_of}
use Rattle.history_model.specs.StaleTranslations.{held_target, Exceeds, IsStale}
use Rattle.history_model.specs.declared.caches.Finding.{Finding}
use Rattle.history_laws.specs.QuietHistories.{IsPageOf, IsPresent}
use Rattle.history_laws.proofs.LevelLaws.{read_of, levels_within}

pub some-same : {A : Type 0} (a b : A) → Some a ≡ Some b → a ≡ b
some-same a b h = cc

-- what a walk comes to at the entry of which something is held: its page, or the walk from its table
pub record ComesTo (pages_are_global : Bool) (level x : ℕ) (held : Held) (onward : ℕ → Bits → Walk) (walked : Walk) : Type 0 where
  pub page : held.leaf ≡ true → IsPageOf pages_are_global level x held walked
  pub table : held.leaf ≡ false → walked ≡ onward held.frame held.bits

at_held : (pages_are_global : Bool) (above : Bits) (level x : ℕ) (held : Held) (onward : ℕ → Bits → Walk) (meaning : Entry)
    → held_of pages_are_global above meaning ≡ Some held → ComesTo pages_are_global level x held onward (at_entry onward level x above meaning)
at_held pages_are_global above level x held onward entry.Absent h = absurd (cc)
at_held pages_are_global above level x held onward entry.Reserved h = absurd (cc)
at_held pages_are_global above level x held onward (entry.Table frame bits) h =
    let made_of : Held = record { leaf = false; frame = frame; bits = joined_bits above bits; key = 0; global = false } in
    subst (λ one. ComesTo pages_are_global level x one onward (onward frame (joined_bits above bits))) (some-same made_of held h)
    (record { page = λ leaf. absurd (cc); table = λ leaf. refl })
at_held pages_are_global above level x held onward (entry.Leaf frame bits key global) h =
    let made_of : Held = record { leaf = true; frame = frame; bits = joined_bits above bits; key = key; global = global && pages_are_global } in
    subst (λ one. ComesTo pages_are_global level x one onward (at_entry onward level x above (entry.Leaf frame bits key global))) (some-same made_of held h)
    (record { page = λ leaf. record { global = global; is_global = refl; is_page = refl }; table = λ leaf. absurd (cc) })

-- one step of a walk, to an entry of which something is held
pub step_to_held : (memory : Memory) (machine : Machine) (known : Regs) (x level table : ℕ) (above : Bits) (held : Held) → 1 ≤ level → fill_of memory machine known level x table above ≡ Some held
    → ComesTo (pge known) level x held (λ frame bits. walk_from memory (settings_of known machine) (level - 1) x frame bits) (walk_from memory (settings_of known machine) level x table above)
step_to_held memory machine known x level table above held least is_made =
    let settings = settings_of known machine in
    let read = read_of memory machine known x level table above held is_made in
    let onward = λ (frame : ℕ) (bits : Bits). walk_from memory settings (level - 1) x frame bits in
    let step : walk_from memory settings level x table above ≡ at_entry onward level x above (entry_of level settings read.number) =
    walk_from-step memory settings x level table above least ∙ ap (at_value onward settings level x above) read.was_read in
    subst (λ walked. ComesTo (pge known) level x held onward walked) (sym step) (at_held (pge known) above level x held onward (entry_of level settings read.number) read.is_held)

-- the present walk comes to what is held, under the current PCID
pub record Stands (memory : Memory) (machine : Machine) (now : Option Regs) (c x level : ℕ) (held : Held) : Type 0 where
  pub known : Regs
  pub is_known : now ≡ Some known
  pub current : c ≡ pcid_of known
  pub comes_to : ComesTo (pge known) level x held (λ frame bits. walk_from memory (settings_of known machine) (level - 1) x frame bits) (walk memory (settings_of known machine) (root_of known machine) x)

-- what is made of the top table stands
pub stands_at_root : (history : History) (p c x level : ℕ) (held : Held) (known : Regs) → regs history p ≡ Some known → c ≡ pcid_of known → level ≡ top_level (settings_of known (machine history))
    → fill_of (memory history) (machine history) known level x (root_of known (machine history)) root_bits ≡ Some held
    → Stands (memory history) (machine history) (regs history p) c x level held
unfolding walk
stands_at_root history p c x level held known is_known current top is_made =
    let least : 1 ≤ level = let within = levels_within (la57 known) in omega (arith, top, within.0) in
    let step = step_to_held (memory history) (machine history) known x level (root_of known (machine history)) root_bits held least is_made in
    let settings = settings_of known (machine history) in
    record {
      known = known;
      is_known = is_known;
      current = current;
      comes_to = subst (λ at. ComesTo (pge known) level x held (λ frame bits. walk_from (memory history) settings (level - 1) x frame bits) (walk_from (memory history) settings at x (root_of known (machine history)) root_bits)) top step;
    }

-- what is made of a table that is referenced by what stands, stands
pub stands_below : (history : History) (p c x level : ℕ) (held above : Held) (known : Regs) → regs history p ≡ Some known → c ≡ pcid_of known → 2 ≤ suc level
    → Stands (memory history) (machine history) (regs history p) c x (suc level) above → above.leaf ≡ false
    → fill_of (memory history) (machine history) known level x above.frame above.bits ≡ Some held
    → Stands (memory history) (machine history) (regs history p) c x level held
stands_below history p c x level held above known is_known current two over references is_made =
    let step = step_to_held (memory history) (machine history) known x level above.frame above.bits held (omega arith) is_made in
    let settings = settings_of known (machine history) in
    let same : over.known ≡ known = some-same over.known known (sym over.is_known ∙ is_known) in
    let down : walk (memory history) settings (root_of known (machine history)) x ≡ walk_from (memory history) settings (suc level - 1) x above.frame above.bits =
    subst (λ one. walk (memory history) (settings_of one (machine history)) (root_of one (machine history)) x ≡ walk_from (memory history) (settings_of one (machine history)) (suc level - 1) x above.frame above.bits) same (over.comes_to.table references) in
    let lower : suc level - 1 ≡ level = omega arith in
    record {
      known = known;
      is_known = is_known;
      current = current;
      comes_to = subst (ComesTo (pge known) level x held (λ frame bits. walk_from (memory history) settings (level - 1) x frame bits))
          (sym (down ∙ ap (λ at. walk_from (memory history) settings at x above.frame above.bits) lower)) step;
    }

-- of the first address of a page
pub own_frame-page : (level frame page : ℕ) → page % 4096 ≡ 0 → own_frame level page frame ≡ frame + page % span level
own_frame-page level frame page aligned =
    let k : 12 + 9 * (level - 1) ≡ 9 * (level - 1) + 12 = omega arith in
    let whole : page % span level % 4096 ≡ 0 = ap (λ n. page % 2 ^ n % 4096) k ∙ (mod-mod-pow page (9 * (level - 1)) 12 ∙ aligned) in
    ap (λ n. frame + n) (multiple (page % span level) whole)
  where
    multiple : (n : ℕ) → n % 4096 ≡ 0 → n / 4096 * 4096 ≡ n
    multiple n h = omega arith

-- where the walk ends at the page of what is held, that is the page's present translation
pub translation_of_page : (memory : Memory) (machine : Machine) (known : Regs) (level page : ℕ) (held : Held) (pages_are_global : Bool) → page % 4096 ≡ 0
    → IsPageOf pages_are_global level page held (walk memory (settings_of known machine) (root_of known machine) page)
    → present_target memory machine known (root_of known machine) page ≡ Some (held_target known level page held)
translation_of_page memory machine known level page held pages_are_global aligned walked =
    let target = λ (frame : ℕ). let at : Target ℕ = record { frame = frame; kind = rights_of known page (record { bits = held.bits; key = held.key }) } in Some at in
    ap (λ end. granted_target known page (raw_target_of end)) walked.is_page ∙ ap target (own_frame-page level held.frame page aligned)

-- a translation of a page that stands is the page's present translation
pub present_when_it_stands : (history : History) (p c page level : ℕ) (held : Held) (known : Regs) → regs history p ≡ Some known → page % 4096 ≡ 0 → held.leaf ≡ true
    → Stands (memory history) (machine history) (regs history p) c page level held → IsPresent history known level page held
present_when_it_stands history p c page level held known is_known aligned leaf stands =
    let same : stands.known ≡ known = some-same stands.known known (sym stands.is_known ∙ is_known) in
    let walked : IsPageOf (pge known) level page held (walk (memory history) (settings_of known (machine history)) (root_of known (machine history)) page) =
    subst (λ one. IsPageOf (pge one) level page held (walk (memory history) (settings_of one (machine history)) (root_of one (machine history)) page)) same (stands.comes_to.page leaf) in
    record { walked = walked; translated = translation_of_page (memory history) (machine history) known level page held (pge known) aligned walked }

pub not_over_itself : (target : Target ℕ) → Exceeds (Some target) target → ⊥
not_over_itself target (inl differs) = differs refl
not_over_itself target (inr more) = let granted = more.1 in let refused = more.2 in absurd (cc (granted, refused))

-- a present translation isn't stale from the present root
pub translation_not_stale : (history : History) (finding : Finding) (stale : IsStale history finding) → stale.root ≡ root_of stale.known (machine history)
    → present_target (memory history) (machine history) stale.known (root_of stale.known (machine history)) finding.page ≡ Some (held_target stale.known stale.level finding.page stale.held) → ⊥
translation_not_stale history finding stale root translated =
    let granted : Target ℕ = held_target stale.known stale.level finding.page stale.held in
    let there : present_target (memory history) (machine history) stale.known stale.root finding.page ≡ Some granted =
    ap (λ at. present_target (memory history) (machine history) stale.known at finding.page) root ∙ translated in
    not_over_itself granted (subst (λ one. Exceeds one granted) there stale.exceeds)
