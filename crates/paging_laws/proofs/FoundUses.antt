-- What is found at entries that walks come to: all tables and pages of their ranges, each once.
use Rattle.std.proofs.Common.{◌≡◌, ℕ, zero, suc, ◌+◌, ◌-◌, ◌%◌, ◌<◌, ◌≤◌, inl, inr, Bool, Some, refl, sym, ap, ◌∙◌, subst, arith}
use Rattle.std.proofs.lemmas.Bool.{cases_lt}
use Rattle.paging_model.specs.Counting.{IsIn, AreAll}
use Rattle.paging_model.specs.Memory.{Memory, entry_at}
use Rattle.paging_model.specs.LinearAddress.{span}
use Rattle.paging_model.specs.Entries.{joined_bits}
use Rattle.paging_model.specs.TableUses.{Reaches, IsPrefix, IsUse, IsLeaf}
use Rattle.paging_model.specs.Walking.{entry_address, entry_read, walk_from}
use Rattle.paging_model.specs.declared.registers.Settings.{Settings}
use Rattle.paging_model.specs.declared.entries.Bits.{Bits}
use Rattle.paging_model.specs.declared.entries.Entry.TheVariants as entry
use Rattle.paging_model.specs.declared.walks.Page.{Page}
use Rattle.paging_model.proofs.WalkSteps.{walk_from-step}
use Rattle.paging_laws.specs.SpaceParts.{SpacePart, a_table, a_page, slot_read, slot_prefix, found, uses_in, leaves_in}
use Rattle.paging_laws.specs.ReachedSlots.{AreReached, IsUseWithin, IsLeafWithin}
use Rattle.paging_laws.proofs.Reaching.{Reaches-level, Reaches-one}
use Rattle.paging_laws.proofs.Readings.{walk-reached}
use Rattle.paging_laws.proofs.MappedPages.{Ending, ending, ends_at_value, page_of as ending_page}
use Rattle.paging_laws.proofs.SlotRanges.{span_least, number_for}
use Rattle.paging_laws.proofs.Finding.{table_part, page_part, Place, of_table, of_lower, of_page, place_of, found_below, in-found, none-found, below-found, page-found}
use Rattle.paging_laws.proofs.PartLists.{all-tables, all-pages}
use Rattle.paging_laws.proofs.PartRanges.{LiesIn, first-before, found-lies, found-distinct}
use Rattle.paging_laws.proofs.ReachedTables.{slot-is_prefix, slot-reached, slot-read, below-reached, below-some, all-below, passing, read_above, first_in_slot, read_in_slot, going_on}

-- a use or a leaf
abbrev IsPart : Memory → Settings → ℕ → SpacePart → Type 0
IsPart memory settings root (a_table one) = IsUse memory settings root one
IsPart memory settings root (a_page leaf) = IsLeaf memory settings root leaf

-- below a level, and in a range
abbrev pub IsPartWithin : Memory → Settings → ℕ → ℕ → ℕ → ℕ → SpacePart → Type 0
IsPartWithin memory settings root level low high (a_table one) = IsUseWithin memory settings root level low high one
IsPartWithin memory settings root level low high (a_page leaf) = IsLeafWithin memory settings root low high leaf

next_level : (lower : ℕ) → suc lower ≡ lower + 1
next_level lower = omega arith

same_table : (level level' prefix prefix' frame frame' : ℕ) (bits bits' : Bits) → level ≡ level' → prefix ≡ prefix' → frame ≡ frame'
    → bits ≡ bits' → table_part level prefix frame bits ≡ table_part level' prefix' frame' bits'
same_table level level' prefix prefix' frame frame' bits bits' levels prefixes frames joins = cc

same_page : (level level' prefix prefix' : ℕ) → level ≡ level' → prefix ≡ prefix' → page_part level prefix ≡ page_part level' prefix'
same_page level level' prefix prefix' levels prefixes = cc

module _ (memory : Memory) (settings : Settings) (root : ℕ) where
  -- a page by which a walk ends
  leaf_at : (lower prefix table frame : ℕ) (above bits : Bits) (key : ℕ) (global : Bool) → IsPrefix settings (suc lower) prefix
      → Reaches memory settings root (suc lower) prefix table above
      → entry_read memory settings (suc lower) prefix table ≡ Some (entry.Leaf frame bits key global)
      → IsLeaf memory settings root (record { level = suc lower; prefix = prefix })
  leaf_at lower prefix table frame above bits key global is_prefix reached read = record {
    prefix = is_prefix;
    page = ending_page (suc lower) prefix frame (joined_bits above bits) key global;
    mapped =
        walk-reached reached
        ∙ (walk_from-step memory settings prefix (suc lower) table above (omega arith)
        ∙ ends_at_value (λ frame bits. walk_from memory settings (suc lower - 1) prefix frame bits) settings (suc lower) prefix above
        (entry_at memory (entry_address (suc lower) prefix table)) frame bits key global read);
    level = refl;
  }

  module _ (lower table prefix : ℕ) (above : Bits) (from count : ℕ) (all : AreReached memory settings root (suc lower) table prefix above from count)
      (i : ℕ) (least : from ≤ i) (less : i < from + count) where
    slot-part : (x : SpacePart)
        → ((frame : ℕ) (bits : Bits) → slot_read memory settings (suc lower) table i ≡ Some (entry.Table frame bits)
        → IsIn x (found_below memory settings lower frame (slot_prefix (suc lower) prefix i) (joined_bits above bits))
        → IsPart memory settings root x)
        → Place (found_below memory settings lower) lower (slot_prefix (suc lower) prefix i) above (slot_read memory settings (suc lower) table i) x
        → IsPart memory settings root x
    slot-part x deeper (of_table frame bits read is) =
        let some = span_least (suc lower) in
        let is_prefix = slot-is_prefix lower table prefix above from count all i least less in
        let most = Reaches-level (slot-reached lower table prefix above from count all i least less) in
        subst (λ (it : SpacePart). IsPart memory settings root it) (sym is)
        (record {
          serves = inr (
            below-some lower table prefix above from count all i least less frame bits read,
            omega arith,
            subst (λ (n : ℕ). IsPrefix settings n (slot_prefix (suc lower) prefix i)) (next_level lower) is_prefix,
          );
          reached =
              below-reached lower table prefix above from count all i least less frame bits read (slot_prefix (suc lower) prefix i) (omega arith) (omega arith);
        })
    slot-part x deeper (of_lower frame bits read is) = deeper frame bits read is
    slot-part x deeper (of_page frame bits key global read is) =
        subst (λ (it : SpacePart). IsPart memory settings root it) (sym is)
        (leaf_at lower (slot_prefix (suc lower) prefix i) table frame above bits key global
        (slot-is_prefix lower table prefix above from count all i least less)
        (slot-reached lower table prefix above from count all i least less)
        (slot-read lower table prefix above from count all i least less ∙ read))

  -- what is found is a use or a leaf
  found-part : (level table prefix : ℕ) (above : Bits) (from count : ℕ) → AreReached memory settings root level table prefix above from count
      → (x : SpacePart) → IsIn x (found memory settings level table prefix above from count) → IsPart memory settings root x
  found-part zero table prefix above from count all x is = absurd (none-found memory settings table prefix above from count x is)
  found-part (suc lower) table prefix above from count all x is =
      let it = in-found memory settings lower table prefix above from count x is in
      slot-part lower table prefix above from count all it.number it.least it.less x
      (λ frame bits read is_below. found-part lower frame (slot_prefix (suc lower) prefix it.number) (joined_bits above bits) 0 512
      (all-below lower table prefix above from count all it.number it.least it.less frame bits read) x is_below)
      (place_of (found_below memory settings lower) lower (slot_prefix (suc lower) prefix it.number) above
      (slot_read memory settings (suc lower) table it.number) x it.is_in)

  -- a table that the walk of its first address comes to is found
  table-found : (level table prefix : ℕ) (above : Bits) (from count : ℕ) → AreReached memory settings root level table prefix above from count
      → (y : ℕ) → slot_prefix level prefix from ≤ y → y < slot_prefix level prefix (from + count)
      → (l frame : ℕ) (bits : Bits) → y % span (suc l) ≡ 0 → Reaches memory settings root l y frame bits → l < level
      → IsIn (table_part l y frame bits) (found memory settings level table prefix above from count)
  table-found zero table prefix above from count all y low high l frame bits whole reached less = absurd (omega arith)
  table-found (suc lower) table prefix above from count all y low high l frame bits whole reached less =
      let on = going_on lower table prefix above from count all y low high reached (omega arith) in
      below-found memory settings lower table prefix above from count on.number on.frame on.bits (table_part l y frame bits) on.least on.less on.read
      (elim (cases_lt l lower) [
        | inl deeper ↦
            inr (table-found lower on.frame (slot_prefix (suc lower) prefix on.number) (joined_bits above on.bits) 0 512
            on.all y on.low on.high l frame bits whole reached deeper)
        | inr last ↦
            let is : l ≡ lower = omega arith in
            let here : Reaches memory settings root lower y frame bits =
            subst (λ (n : ℕ). Reaches memory settings root n y frame bits) is reached in
            let one = Reaches-one lower frame on.frame bits (joined_bits above on.bits) here on.reached in
            let begins_it = on.is_first (subst (λ (n : ℕ). y % span (suc n) ≡ 0) is whole) in
            inl (same_table l lower y (slot_prefix (suc lower) prefix on.number) frame on.frame bits (joined_bits above on.bits) is begins_it one.0 one.1)
      ])

  -- a page at which the walk of its first address ends is found
  leaf-found : (level table prefix : ℕ) (above : Bits) (from count : ℕ) → AreReached memory settings root level table prefix above from count
      → (y : ℕ) → slot_prefix level prefix from ≤ y → y < slot_prefix level prefix (from + count)
      → (page : Page) → (end : Ending memory settings root y page) → y % span (suc end.lower) ≡ 0 → suc end.lower ≤ level
      → IsIn (page_part (suc end.lower) y) (found memory settings level table prefix above from count)
  leaf-found zero table prefix above from count all y low high page end whole least = absurd (omega arith)
  leaf-found (suc lower) table prefix above from count all y low high page end whole least = elim (cases_lt end.lower lower) [
    | inl deeper ↦
        let on = going_on lower table prefix above from count all y low high end.reached (omega arith) in
        below-found memory settings lower table prefix above from count on.number on.frame on.bits (page_part (suc end.lower) y) on.least on.less on.read
        (inr (leaf-found lower on.frame (slot_prefix (suc lower) prefix on.number) (joined_bits above on.bits) 0 512
        on.all y on.low on.high page end whole (omega arith)))
    | inr last ↦
        let is : suc end.lower ≡ suc lower = omega arith in
        let slot = number_for (suc lower) prefix from count y low high in
        let here : Reaches memory settings root (suc lower) y end.table end.above =
        subst (λ (n : ℕ). Reaches memory settings root n y end.table end.above) is end.reached in
        let one = Reaches-one (suc lower) end.table table end.above above here (all.reached y low high) in
        let read : entry_read memory settings (suc lower) y table ≡ Some (entry.Leaf end.frame end.bits end.key end.global) =
        ap (entry_read memory settings (suc lower) y) (sym one.0)
        ∙ subst (λ (n : ℕ). entry_read memory settings n y end.table ≡ Some (entry.Leaf end.frame end.bits end.key end.global)) is end.read in
        let begins_it = first_in_slot lower table prefix above from count all y low high slot (subst (λ (n : ℕ). y % span n ≡ 0) is whole) in
        subst (λ (it : SpacePart). IsIn it (found memory settings (suc lower) table prefix above from count))
        (sym (same_page (suc end.lower) (suc lower) y (slot_prefix (suc lower) prefix slot.number) is begins_it))
        (page-found memory settings lower table prefix above from count slot.number end.frame end.bits end.key end.global slot.least slot.less
        (read_in_slot lower table prefix above from count all y low high slot ∙ read))
  ]

  module _ (level table prefix : ℕ) (above : Bits) (from count : ℕ) (all : AreReached memory settings root level table prefix above from count) where
    -- a walk that comes to these entries ends no higher
    ends-lower : (y : ℕ) → slot_prefix level prefix from ≤ y → y < slot_prefix level prefix (from + count)
        → {page : Page} → (end : Ending memory settings root y page) → suc end.lower ≤ level
    ends-lower y low high end = elim (cases_lt end.lower level) [
      | inl less ↦ omega arith
      | inr more ↦
          let at = passing end.lower (all.reached y low high) more (let most = Reaches-level end.reached in omega arith) in
          let read = read_above end.lower end.table y at.frame end.above at.bits end.reached at.reached in
          let twice : Some (entry.Table at.frame read.0) ≡ Some (entry.Leaf end.frame end.bits end.key end.global) = sym read.1 ∙ end.read in
          absurd cc
    ]

    part-found : (x : SpacePart) → IsPartWithin memory settings root level (slot_prefix level prefix from) (slot_prefix level prefix (from + count)) x
        → IsIn x (found memory settings level table prefix above from count)
    part-found (a_table one) is = elim is.is_use.serves [
      | inl top ↦
          let some = span_least level in
          let most = Reaches-level (all.reached one.prefix is.from is.before) in
          absurd (omega (arith, is.lower, top.0))
      | inr lower ↦
          table-found level table prefix above from count all one.prefix is.from is.before one.level one.frame one.bits
          (subst (λ (n : ℕ). one.prefix % span n ≡ 0) (sym (next_level one.level)) lower.2.whole) is.is_use.reached is.lower
    ]
    part-found (a_page leaf) is =
        let end = ending memory settings root leaf.prefix is.is_leaf.page is.is_leaf.mapped in
        let same : suc end.lower ≡ leaf.level = ap (λ (it : Page). it.level) end.is_page ∙ is.is_leaf.level in
        let whole : leaf.prefix % span (suc end.lower) ≡ 0 = subst (λ (n : ℕ). leaf.prefix % span n ≡ 0) (sym same) is.is_leaf.prefix.whole in
        subst (λ (it : SpacePart). IsIn it (found memory settings level table prefix above from count))
        (same_page (suc end.lower) leaf.level leaf.prefix leaf.prefix same refl)
        (leaf-found level table prefix above from count all leaf.prefix is.from is.before is.is_leaf.page end whole
        (ends-lower leaf.prefix is.from is.before end))

    within : (x : SpacePart) → IsPart memory settings root x → LiesIn level (slot_prefix level prefix from) (slot_prefix level prefix (from + count)) x
        → IsPartWithin memory settings root level (slot_prefix level prefix from) (slot_prefix level prefix (from + count)) x
    within (a_table one) is lies = record { is_use = is; lower = lies.lower; from = lies.from; before = first-before (a_table one) lies }
    within (a_page leaf) is lies = record { is_leaf = is; from = lies.from; before = first-before (a_page leaf) lies }

    pub all-parts : AreAll (IsPartWithin memory settings root level (slot_prefix level prefix from) (slot_prefix level prefix (from + count)))
        (found memory settings level table prefix above from count)
    all-parts = record {
      some = record {
        have = λ x is.
            within x (found-part level table prefix above from count all x is) (found-lies memory settings level table prefix above from count x is);
        distinct = found-distinct memory settings level table prefix above from count;
      };
      all = part-found;
    }

    pub all-uses_in : AreAll (IsUseWithin memory settings root level (slot_prefix level prefix from) (slot_prefix level prefix (from + count)))
        (uses_in memory settings level table prefix above from count)
    unfolding uses_in
    all-uses_in = all-tables (found memory settings level table prefix above from count) all-parts

    pub all-leaves_in : AreAll (IsLeafWithin memory settings root (slot_prefix level prefix from) (slot_prefix level prefix (from + count)))
        (leaves_in memory settings level table prefix above from count)
    unfolding leaves_in
    all-leaves_in = all-pages (found memory settings level table prefix above from count) all-parts
