-- One step of a walk, by what is read of the entry.
use Rattle.std.proofs.Common.{◌≡◌, ℕ, zero, suc, ◌-◌, ◌<◌, refl, arith, Some, None, sym, ap, ◌∙◌}
use Rattle.paging_model.specs.declared.registers.Settings.{Settings}
use Rattle.paging_model.specs.declared.entries.Bits.{Bits}
use Rattle.paging_model.specs.declared.entries.Entry.{Entry}
use Rattle.paging_model.specs.declared.walks.Walk.TheVariants.{Unknown, Absent}
use Rattle.paging_model.specs.Memory.{Memory, entry_at}
use Rattle.paging_model.specs.Entries.{entry_of}
use Rattle.paging_model.specs.Walking.{walk_from, at_value, at_entry, entry_address}

pub walk_from-step : (memory : Memory) (settings : Settings) (x level table : ℕ) (above : Bits) → 0 < level
    → walk_from memory settings level x table above
    ≡ at_value (λ frame bits. walk_from memory settings (level - 1) x frame bits) settings level x above (entry_at memory (entry_address level x table))
unfolding walk_from
walk_from-step memory settings x zero table above some = absurd (omega arith)
walk_from-step memory settings x (suc lower) table above some =
    let lower_is : suc lower - 1 ≡ lower = omega arith in
    rw lower_is refl

-- a byte of the entry is unknown
pub walk_from-unknown : (memory : Memory) (settings : Settings) (x level table : ℕ) (above : Bits) (address : ℕ)
    → 0 < level → address ≡ entry_address level x table → None ≡ entry_at memory address
    → walk_from memory settings level x table above ≡ Unknown level
walk_from-unknown memory settings x level table above address some address_is read =
    let unread : entry_at memory (entry_address level x table) ≡ None = rw (← address_is) (sym read) in
    walk_from-step memory settings x level table above some
    ∙ ap (at_value (λ frame bits. walk_from memory settings (level - 1) x frame bits) settings level x above) unread

-- the entry is known and means this
pub walk_from-entry : (memory : Memory) (settings : Settings) (x level table : ℕ) (above : Bits) (address value : ℕ) (meaning : Entry)
    → 0 < level → address ≡ entry_address level x table → Some value ≡ entry_at memory address → meaning ≡ entry_of level settings value
    → walk_from memory settings level x table above ≡ at_entry (λ frame bits. walk_from memory settings (level - 1) x frame bits) level x above meaning
walk_from-entry memory settings x level table above address value meaning some address_is read means =
    let was_read : entry_at memory (entry_address level x table) ≡ Some value = rw (← address_is) (sym read) in
    walk_from-step memory settings x level table above some
    ∙ (ap (at_value (λ frame bits. walk_from memory settings (level - 1) x frame bits) settings level x above) was_read
    ∙ ap (at_entry (λ frame bits. walk_from memory settings (level - 1) x frame bits) level x above) (sym means))

-- there is no level 0
pub walk_from-end : (memory : Memory) (settings : Settings) (x level table : ℕ) (above : Bits)
    → level ≡ 0 → Absent 0 ≡ walk_from memory settings level x table above
unfolding walk_from
walk_from-end memory settings x level table above none = rw none refl
