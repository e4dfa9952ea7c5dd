-- What may be held of an address over small tables: the references to three tables, and the translations of two pages.
use Rattle.std.proofs.Common.{◌≡◌, ℕ, suc, ◌<◌, inl, inr, Bool, true, false, Option, Some, None, refl, sym, ap, ◌∙◌, subst, arith}
use Rattle.std.specs.Prelude.{option_and_then}
use Rattle.std.proofs.lemmas.Bool.{cases_lt, false≢true}
use Rattle.std.proofs.lemmas.Option.{same_Some}
use Rattle.paging_model.specs.LinearAddress.{index}
use Rattle.paging_model.specs.Memory.{Memory}
use Rattle.paging_model.specs.Entries.{root_bits}
use Rattle.paging_model.specs.Registers.{pcid_of, pge, root_of, settings_of}
use Rattle.paging_model.specs.Walking.{entry_read, top_level}
use Rattle.paging_model.specs.WorkedExamples.{all, no_write}
use Rattle.paging_model.specs.WorkedSpaces.{small_settings}
use Rattle.paging_model.specs.declared.registers.Machine.{Machine}
use Rattle.paging_model.specs.declared.registers.Regs.{Regs}
use Rattle.paging_model.specs.declared.entries.Bits.{Bits}
use Rattle.paging_model.specs.declared.entries.Entry.{Entry}
use Rattle.paging_model.specs.declared.entries.Entry.TheVariants as entry
use Rattle.paging_model.proofs.SmallMemory.{first_entry, second_entry}
use Rattle.paging_model.proofs.SmallTables.{IsVoid, HasSmallTables, read_by_index}
use Rattle.history_model.specs.History.{Start, History, begun, next, memory, machine, regs}
use Rattle.history_model.specs.Invalidations.{kills}
use Rattle.history_model.specs.CachedTranslations.{Held, MayHold, kept, at_root, below, held_of, fill_of, cache_key}
use Rattle.history_model.specs.WorkedTranslations.{page_at}
use Rattle.history_model.specs.declared.events.Event.{Event}
use Rattle.history_model.proofs.HeldEntries.{table_at}

module _ (p c x : ℕ) (Fits : ℕ → Held → Type 0) where
  -- whatever is made in a moment fits
  pub record Makes (history : History) : Type 0 where
    pub known : Regs
    pub is_known : regs history p ≡ Some known
    pub at_top : (held : Held) → c ≡ pcid_of known
        → fill_of (memory history) (machine history) known (top_level (settings_of known (machine history))) x (root_of known (machine history)) root_bits ≡ Some held
        → Fits (top_level (settings_of known (machine history))) held
    pub lower : (level : ℕ) (above held : Held) → c ≡ pcid_of known → Fits (suc level) above → above.leaf ≡ false
        → fill_of (memory history) (machine history) known level x above.frame above.bits ≡ Some held → Fits level held

  top_fits : (history : History) (makes : Makes history) (known : Regs) (level : ℕ) (held : Held) → regs history p ≡ Some known
      → c ≡ pcid_of known → level ≡ top_level (settings_of known (machine history))
      → fill_of (memory history) (machine history) known level x (root_of known (machine history)) root_bits ≡ Some held → Fits level held
  top_fits history makes known level held is_known current top made =
      let same : known ≡ makes.known = same_Some _ _ (sym is_known ∙ makes.is_known) in
      let top_is : level ≡ top_level (settings_of makes.known (machine history)) = rw (← same) top in
      let made_is : fill_of (memory history) (machine history) makes.known (top_level (settings_of makes.known (machine history))) x (root_of makes.known (machine history)) root_bits ≡ Some held =
      rw (← top_is, ← same) made in
      subst (λ l. Fits l held) (sym top_is) (makes.at_top held (current ∙ ap pcid_of same) made_is)

  lower_fits : (history : History) (makes : Makes history) (known : Regs) (level : ℕ) (above held : Held) → regs history p ≡ Some known
      → c ≡ pcid_of known → Fits (suc level) above → above.leaf ≡ false
      → fill_of (memory history) (machine history) known level x above.frame above.bits ≡ Some held → Fits level held
  lower_fits history makes known level above held is_known current above_fits references made =
      let same : known ≡ makes.known = same_Some _ _ (sym is_known ∙ makes.is_known) in
      makes.lower level above held (current ∙ ap pcid_of same) above_fits references (rw (← same) made)

  pub fits_at_first : (start : Start) → Makes (begun start) → (level : ℕ) (held : Held) → MayHold (begun start) p c level x held → Fits level held
  fits_at_first start makes level held (at_root {known = known} is_known current top made) =
      top_fits (begun start) makes known level held is_known current top made
  fits_at_first start makes level held (below {known = known} above is_known current above_held references made) =
      lower_fits (begun start) makes known level above held is_known current (fits_at_first start makes (suc level) above above_held) references made

  pub fits_at_next : (before : History) (happened : Event) → Makes (next before happened)
      → ((known : Regs) (level : ℕ) (held : Held) → regs before p ≡ Some known → MayHold before p c level x held
      → kills happened p known (cache_key c level x held) ≡ false → Fits level held)
      → (level : ℕ) (held : Held) → MayHold (next before happened) p c level x held → Fits level held
  fits_at_next before happened makes stays level held (kept happened1 {known = known} held_before is_known spared) =
      stays known level held is_known held_before spared
  fits_at_next before happened makes stays level held (at_root {known = known} is_known current top made) =
      top_fits (next before happened) makes known level held is_known current top made
  fits_at_next before happened makes stays level held (below {known = known} above is_known current above_held references made) =
      lower_fits (next before happened) makes known level above held is_known current (fits_at_next before happened makes stays (suc level) above above_held) references made

-- what is held of an entry of one of the tables, where the entry of page 0 gives what is first
pub data SmallHeld (x : ℕ) (First : Held → Type 0) (level : ℕ) (held : Held) : Type 0 where
  of_pml4 : level ≡ 4 → held ≡ table_at 0x2000 → index 4 x ≡ 0 → SmallHeld x First level held
  of_pdpt : level ≡ 3 → held ≡ table_at 0x3000 → index 4 x ≡ 0 → index 3 x ≡ 0 → SmallHeld x First level held
  of_pd : level ≡ 2 → held ≡ table_at 0x4000 → index 4 x ≡ 0 → index 3 x ≡ 0 → index 2 x ≡ 0 → SmallHeld x First level held
  of_first : level ≡ 1 → First held → index 4 x ≡ 0 → index 3 x ≡ 0 → index 2 x ≡ 0 → index 1 x ≡ 0 → SmallHeld x First level held
  of_second : level ≡ 1 → held ≡ record (page_at 0x6000) { bits = no_write } → index 4 x ≡ 0 → index 3 x ≡ 0 → index 2 x ≡ 0 → index 1 x ≡ 1
      → SmallHeld x First level held

-- nothing is held of an entry that maps nothing
nothing_held : (global : Bool) (above : Bits) (read : Option Entry) (held : Held) → IsVoid read
    → option_and_then (λ meaning. held_of global above meaning) read ≡ Some held → ⊥
nothing_held global above None held void made = absurd cc
nothing_held global above (Some entry.Absent) held void made = absurd cc
nothing_held global above (Some entry.Reserved) held void made = void
nothing_held global above (Some (entry.Table frame bits)) held void made = void
nothing_held global above (Some (entry.Leaf frame bits key is_global)) held void made = void

module _ (memory : Memory) (machine : Machine) (known : Regs) (settings_is : settings_of known machine ≡ small_settings) where
  -- what is made of an entry, by what is read of it
  made_of : (level x table : ℕ) (above : Bits) (held : Held) → fill_of memory machine known level x table above ≡ Some held
      → option_and_then (λ meaning. held_of (pge known) above meaning) (entry_read memory small_settings level x table) ≡ Some held
  unfolding fill_of
  made_of level x table above held made =
      ap (λ settings. option_and_then (λ meaning. held_of (pge known) above meaning) (entry_read memory settings level x table)) (sym settings_is) ∙ made

  pub void_made : (level x table : ℕ) (above : Bits) (held : Held) → IsVoid (entry_read memory small_settings level x table)
      → fill_of memory machine known level x table above ≡ Some held → ⊥
  void_made level x table above held void made =
      nothing_held (pge known) above (entry_read memory small_settings level x table) held void (made_of level x table above held made)

  -- of an entry with the index of another one
  made_at : (level x y table : ℕ) (above : Bits) (held : Held) (read : Option Entry) → index level x ≡ index level y
      → entry_read memory small_settings level y table ≡ read → fill_of memory machine known level x table above ≡ Some held
      → option_and_then (λ meaning. held_of (pge known) above meaning) read ≡ Some held
  made_at level x y table above held read same is_read made =
      ap (λ one. option_and_then (λ meaning. held_of (pge known) above meaning) one) (sym (read_by_index memory small_settings level x y table same ∙ is_read))
      ∙ made_of level x table above held made

  -- of a table whose first entry alone maps something
  made_first : (level x table target : ℕ) (held : Held) → index level 0 ≡ 0
      → entry_read memory small_settings level 0 table ≡ Some (entry.Table target all)
      → ((y : ℕ) → 0 < index level y → IsVoid (entry_read memory small_settings level y table))
      → fill_of memory machine known level x table all ≡ Some held → (held ≡ table_at target) × (index level x ≡ 0)
  made_first level x table target held first reference void made =
      elim (cases_lt 0 (index level x)) [
        | inl some ↦ absurd (void_made level x table all held (void x some) made)
        | inr none ↦
            let at_first : index level x ≡ 0 = omega arith in
            let same : Some (table_at target) ≡ Some held = made_at level x 0 table all held _ (at_first ∙ sym first) reference made in
            (sym (same_Some _ _ same), at_first)
      ]

  module _ {first_read : Option Entry} (tables : HasSmallTables memory all first_read second_entry) (First : Held → Type 0)
      (leaves : (held : Held) → First held → held.leaf ≡ true)
      (gives : (held : Held) → option_and_then (λ meaning. held_of (pge known) all meaning) first_read ≡ Some held → First held) where
    pub small_top : (x : ℕ) (held : Held) → fill_of memory machine known 4 x 0x1000 root_bits ≡ Some held → SmallHeld x First 4 held
    small_top x held made =
        let it = made_first 4 x 0x1000 0x2000 held refl tables.pointers tables.no_pointers made in
        of_pml4 refl it.0 it.1

    pub small_lower : (x level : ℕ) (above held : Held) → SmallHeld x First (suc level) above → above.leaf ≡ false
        → fill_of memory machine known level x above.frame above.bits ≡ Some held → SmallHeld x First level held
    small_lower x level above held (of_pml4 level_is above_is four) references made =
        let lower : level ≡ 3 = omega arith in
        let made_here : fill_of memory machine known 3 x 0x2000 all ≡ Some held = rw (lower, above_is) at made in
        let it = made_first 3 x 0x2000 0x3000 held refl tables.directory tables.no_directory made_here in
        of_pdpt lower it.0 four it.1
    small_lower x level above held (of_pdpt level_is above_is four three) references made =
        let lower : level ≡ 2 = omega arith in
        let made_here : fill_of memory machine known 2 x 0x3000 all ≡ Some held = rw (lower, above_is) at made in
        let it = made_first 2 x 0x3000 0x4000 held refl tables.pages tables.no_pages made_here in
        of_pd lower it.0 four three it.1
    small_lower x level above held (of_pd level_is above_is four three two) references made =
        let lower : level ≡ 1 = omega arith in
        let made_here : fill_of memory machine known 1 x 0x4000 all ≡ Some held = rw (lower, above_is) at made in
        elim (cases_lt 1 (index 1 x)) [
          | inl more ↦ absurd (void_made 1 x 0x4000 all held (tables.no_page x more) made_here)
          | inr few ↦ elim (cases_lt 0 (index 1 x)) [
            | inl some ↦
                let is_second : index 1 x ≡ 1 = omega arith in
                let same : Some (record (page_at 0x6000) { bits = no_write }) ≡ Some held = made_at 1 x 0x1000 0x4000 all held second_entry is_second tables.second_page made_here in
                of_second lower (sym (same_Some _ _ same)) four three two is_second
            | inr none ↦
                let is_first : index 1 x ≡ 0 = omega arith in
                of_first lower (gives held (made_at 1 x 0 0x4000 all held first_read is_first tables.first_page made_here)) four three two is_first
          ]
        ]
    small_lower x level above held (of_first level_is is_first four three two one) references made =
        absurd (false≢true (sym references ∙ leaves above is_first))
    small_lower x level above held (of_second level_is above_is four three two one) references made =
        absurd (false≢true (sym references ∙ ap (λ (it : Held). it.leaf) above_is))

-- each moment with such tables makes such entries, where the top table does
pub makes_small : (p c x : ℕ) (history : History) (known : Regs) (First : Held → Type 0) {first_read : Option Entry}
    → HasSmallTables (memory history) all first_read second_entry → regs history p ≡ Some known
    → settings_of known (machine history) ≡ small_settings → ((held : Held) → First held → held.leaf ≡ true)
    → ((held : Held) → option_and_then (λ meaning. held_of (pge known) all meaning) first_read ≡ Some held → First held)
    → ((held : Held) → fill_of (memory history) (machine history) known 4 x (root_of known (machine history)) root_bits ≡ Some held → SmallHeld x First 4 held)
    → Makes p c x (SmallHeld x First) history
makes_small p c x history known First tables is_known settings_is leaves gives top =
    let top_is : top_level (settings_of known (machine history)) ≡ 4 = ap top_level settings_is in
    record {
      known = known;
      is_known = is_known;
      at_top = λ held current made. subst (λ l. SmallHeld x First l held) (sym top_is) (top held (rw top_is at made));
      lower = λ level above held current it references made.
          small_lower (memory history) (machine history) known settings_is tables First leaves gives x level above held it references made;
    }

-- the translation that the small core's entry of page 0 gives
abbrev pub IsFirst : Held → Type 0
IsFirst held = held ≡ page_at 0x5000

pub IsFirst-leaf : (held : Held) → IsFirst held → held.leaf ≡ true
IsFirst-leaf held is_first = ap (λ (it : Held). it.leaf) is_first

pub IsFirst-given : (held : Held) → option_and_then (λ meaning. held_of false all meaning) first_entry ≡ Some held → IsFirst held
IsFirst-given held made = let same : Some (page_at 0x5000) ≡ Some held = made in sym (same_Some _ _ same)
