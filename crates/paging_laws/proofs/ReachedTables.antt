-- The tables and pages below entries that the walks of their addresses come to.
use Rattle.std.proofs.Common.{◌≡◌, ℕ, ◌%◌, suc, ◌+◌, ◌^◌, ◌<◌, ◌≤◌, inl, inr, Some, sym, ap, ◌∙◌, subst, arith}
use Rattle.std.proofs.lemmas.Bool.{cases_lt}
use Rattle.paging_model.specs.Memory.{Memory}
use Rattle.paging_model.specs.LinearAddress.{span, index}
use Rattle.paging_model.specs.Entries.{joined_bits, root_bits}
use Rattle.paging_model.specs.TableUses.{Reaches, at_root, below, IsPrefix}
use Rattle.paging_model.specs.Walking.{entry_read, top_level}
use Rattle.paging_model.specs.declared.registers.Settings.{Settings}
use Rattle.paging_model.specs.declared.entries.Bits.{Bits}
use Rattle.paging_model.specs.declared.entries.Entry.TheVariants as entry
use Rattle.paging_laws.specs.SpaceParts.{slot_read, slot_prefix}
use Rattle.paging_laws.specs.ReachedSlots.{AreReached}
use Rattle.paging_laws.proofs.Reaching.{arrival, begins, referenced, Reaches-level, Reaches-one}
use Rattle.paging_laws.proofs.Serving.{Reaches-some}
use Rattle.paging_laws.proofs.SlotRanges.{span_suc, span_least, slot_of, slot_whole, slot_ends, slot_starts, first_is, SlotFor, number_for}

-- a table of a level that the walk of y comes to
pub record Passing (memory : Memory) (settings : Settings) (root y level : ℕ) : Type 0 where
  pub frame : ℕ
  pub bits : Bits
  pub reached : Reaches memory settings root level y frame bits

-- the entry by which the walk of y goes on to the level below; y lies in the range of that entry
pub record GoingOn (memory : Memory) (settings : Settings) (root lower table prefix : ℕ) (above : Bits) (from count y : ℕ) : Type 0 where
  pub number : ℕ
  pub least : from ≤ number
  pub less : number < from + count
  pub frame : ℕ
  pub bits : Bits
  pub read : slot_read memory settings (suc lower) table number ≡ Some (entry.Table frame bits)
  pub reached : Reaches memory settings root lower y frame (joined_bits above bits)
  pub all : AreReached memory settings root lower frame (slot_prefix (suc lower) prefix number) (joined_bits above bits) 0 512
  pub low : slot_prefix lower (slot_prefix (suc lower) prefix number) 0 ≤ y
  pub high : y < slot_prefix lower (slot_prefix (suc lower) prefix number) (0 + 512)
  pub is_first : y % span (suc lower) ≡ 0 → y ≡ slot_prefix (suc lower) prefix number

module _ {memory : Memory} {settings : Settings} {root : ℕ} where
  module _ (lower table prefix : ℕ) (above : Bits) (from count : ℕ) (all : AreReached memory settings root (suc lower) table prefix above from count)
      (i : ℕ) (least : from ≤ i) (less : i < from + count) where
    -- the range of entry i is one of theirs
    in_low : (y : ℕ) → slot_prefix (suc lower) prefix i ≤ y → slot_prefix (suc lower) prefix from ≤ y
    in_low y low = omega (arith, slot_starts (span (suc lower)) prefix from i least)

    in_high : (y : ℕ) → y < slot_prefix (suc lower) prefix i + span (suc lower) → y < slot_prefix (suc lower) prefix (from + count)
    in_high y high = omega (arith, slot_ends (span (suc lower)) prefix i (from + count) less)

    slot_in_table : slot_prefix (suc lower) prefix i + span (suc lower) ≤ 2 ^ 64
    slot_in_table = omega (arith, all.ends, slot_ends (span (suc lower)) prefix i 512 (omega (arith, all.slots)))

    pub slot-index : (y : ℕ) → slot_prefix (suc lower) prefix i ≤ y → y < slot_prefix (suc lower) prefix i + span (suc lower)
        → index (suc lower) y ≡ i
    slot-index y low high = slot_of (span (suc lower)) prefix i y all.whole (omega (arith, all.slots)) low high

    pub slot-is_prefix : IsPrefix settings (suc lower) (slot_prefix (suc lower) prefix i)
    slot-is_prefix =
        let some = span_least (suc lower) in
        record {
          below = omega (arith, slot_in_table);
          whole = slot_whole (span (suc lower)) prefix i (omega arith) all.whole;
          canonical = all.canonical (slot_prefix (suc lower) prefix i) (in_low _ (omega arith)) (in_high _ (omega arith));
        }

    pub slot-reached : Reaches memory settings root (suc lower) (slot_prefix (suc lower) prefix i) table above
    slot-reached =
        let some = span_least (suc lower) in
        all.reached (slot_prefix (suc lower) prefix i) (in_low _ (omega arith)) (in_high _ (omega arith))

    -- what is read for the first address of the range
    pub slot-read : entry_read memory settings (suc lower) (slot_prefix (suc lower) prefix i) table ≡ slot_read memory settings (suc lower) table i
    slot-read =
        let some = span_least (suc lower) in
        ap (slot_read memory settings (suc lower) table) (slot-index (slot_prefix (suc lower) prefix i) (omega arith) (omega arith))

    module _ (frame : ℕ) (bits : Bits) (read : slot_read memory settings (suc lower) table i ≡ Some (entry.Table frame bits)) where
      pub below-reached : (y : ℕ) → slot_prefix (suc lower) prefix i ≤ y → y < slot_prefix (suc lower) prefix i + span (suc lower)
          → Reaches memory settings root lower y frame (joined_bits above bits)
      below-reached y low high =
          below (all.reached y (in_low y low) (in_high y high))
          (ap (slot_read memory settings (suc lower) table) (slot-index y low high) ∙ read)

      pub below-some : 1 ≤ lower
      below-some = let some = span_least (suc lower) in Reaches-some (below-reached (slot_prefix (suc lower) prefix i) (omega arith) (omega arith))

      -- so are all entries of the table that entry i references
      pub all-below : AreReached memory settings root lower frame (slot_prefix (suc lower) prefix i) (joined_bits above bits) 0 512
      all-below =
          let longer = span_suc lower below-some in
          record {
            whole = rw (← longer) slot-is_prefix.whole;
            slots = omega arith;
            ends = omega (arith, slot_in_table);
            canonical = λ y low high. all.canonical y (in_low y (omega arith)) (in_high y (omega arith));
            reached = λ y low high. below-reached y (omega arith) (omega arith);
          }

  -- a walk that comes to a table comes to one of each level above it
  pub passing : {y l frame : ℕ} {bits : Bits} (level : ℕ) → Reaches memory settings root l y frame bits → l ≤ level
      → level ≤ top_level settings → Passing memory settings root y level
  passing {y = y} level at_root least most =
      let top : top_level settings ≡ level = omega arith in
      subst (λ (n : ℕ). Passing memory settings root y n) top (record { frame = root; bits = root_bits; reached = at_root })
  passing {y = y} level (below {level = l} {frame = frame} {above = above} {bits = bits} reached read) least most = elim (cases_lt l level) [
    | inl less ↦ passing level reached (omega arith) most
    | inr same ↦
        let is : l ≡ level = omega arith in
        subst (λ (n : ℕ). Passing memory settings root y n) is (record { frame = frame; bits = joined_bits above bits; reached = below reached read })
  ]

  -- by an entry of the table above it
  pub read_above : (lower table y frame : ℕ) (above bits : Bits) → Reaches memory settings root (suc lower) y table above
      → Reaches memory settings root lower y frame bits
      → (own : Bits) × (entry_read memory settings (suc lower) y table ≡ Some (entry.Table frame own)) × (bits ≡ joined_bits above own)
  read_above lower table y frame above bits upper reached = elim (arrival reached) [
    | begins top is_root is_bits ↦ absurd (let most = Reaches-level upper in omega arith)
    | referenced table' above' own reached' read is_bits ↦
        let same = Reaches-one (suc lower) table' table above' above reached' upper in (
          own,
          subst (λ (n : ℕ). entry_read memory settings (suc lower) y n ≡ Some (entry.Table frame own)) same.0 read,
          is_bits ∙ ap (λ (it : Bits). joined_bits it own) same.1,
        )
  ]

  module _ (lower table prefix : ℕ) (above : Bits) (from count : ℕ)
      (all : AreReached memory settings root (suc lower) table prefix above from count) (y : ℕ)
      (low : slot_prefix (suc lower) prefix from ≤ y) (high : y < slot_prefix (suc lower) prefix (from + count)) where
    -- the one address of a range that begins one
    pub first_in_slot : (slot : SlotFor (span (suc lower)) prefix from count y) → y % span (suc lower) ≡ 0
        → y ≡ slot_prefix (suc lower) prefix slot.number
    first_in_slot slot whole =
        let some = span_least (suc lower) in
        let at = slot-is_prefix lower table prefix above from count all slot.number slot.least slot.less in
        first_is (span (suc lower)) (slot_prefix (suc lower) prefix slot.number) y (omega arith) at.whole slot.low slot.high whole

    -- what is read for an address is read of the entry whose range it lies in
    pub read_in_slot : (slot : SlotFor (span (suc lower)) prefix from count y)
        → slot_read memory settings (suc lower) table slot.number ≡ entry_read memory settings (suc lower) y table
    read_in_slot slot =
        ap (slot_read memory settings (suc lower) table)
        (sym (slot-index lower table prefix above from count all slot.number slot.least slot.less y slot.low slot.high))

    pub going_on : {l frame : ℕ} {bits : Bits} → Reaches memory settings root l y frame bits → l ≤ lower
        → GoingOn memory settings root lower table prefix above from count y
    going_on reached least =
        let slot = number_for (suc lower) prefix from count y low high in
        let upper = all.reached y low high in
        let at = passing lower reached least (let most = Reaches-level upper in omega arith) in
        let above_it = read_above lower table y at.frame above at.bits upper at.reached in
        let read : slot_read memory settings (suc lower) table slot.number ≡ Some (entry.Table at.frame above_it.0) = read_in_slot slot ∙ above_it.1 in
        let longer = span_suc lower (below-some lower table prefix above from count all slot.number slot.least slot.less at.frame above_it.0 read) in
        record {
          number = slot.number;
          least = slot.least;
          less = slot.less;
          frame = at.frame;
          bits = above_it.0;
          read = read;
          reached = subst (λ (it : Bits). Reaches memory settings root lower y at.frame it) above_it.2 at.reached;
          all = all-below lower table prefix above from count all slot.number slot.least slot.less at.frame above_it.0 read;
          low = omega (arith, slot.low);
          high = omega (arith, longer, slot.high);
          is_first = first_in_slot slot;
        }
