-- One step of a walk, by what the entry means that it reads.
use Rattle.std.proofs.Common.{◌≡◌, ℕ, ◌-◌, ◌<◌, Option, Some, None, refl, sym, ap, ◌∙◌}
use Rattle.std.specs.Prelude.{option_map}
use Rattle.paging_model.proofs.WalkSteps.{walk_from-step}
use Rattle.paging_model.specs.Entries.{entry_of}
use Rattle.paging_model.specs.Memory.{Memory, entry_at}
use Rattle.paging_model.specs.Walking.{at_entry, at_value, entry_address, entry_read, walk_from}
use Rattle.paging_model.specs.declared.entries.Bits.{Bits}
use Rattle.paging_model.specs.declared.entries.Entry.{Entry}
use Rattle.paging_model.specs.declared.registers.Settings.{Settings}
use Rattle.paging_model.specs.declared.walks.Walk.{Walk}
use Rattle.paging_model.specs.declared.walks.Walk.TheVariants.{Unknown}

-- what the walk comes to at an entry by its meaning; none where a byte of it is unknown
at_read : (ℕ → Bits → Walk) → ℕ → ℕ → Bits → Option Entry → Walk
at_read below level x above None = Unknown level
at_read below level x above (Some meaning) = at_entry below level x above meaning

at_value-read : (below : ℕ → Bits → Walk) (settings : Settings) (level x : ℕ) (above : Bits) (value : Option ℕ)
    → at_value below settings level x above value ≡ at_read below level x above (option_map (λ number. entry_of level settings number) value)
unfolding at_read
at_value-read below settings level x above None = refl
at_value-read below settings level x above (Some number) = refl

module _ (memory : Memory) (settings : Settings) (x level table : ℕ) (above : Bits) (some : 0 < level) where
  by_read : (read : Option Entry) → read ≡ entry_read memory settings level x table
      → at_read (λ frame bits. walk_from memory settings (level - 1) x frame bits) level x above read ≡ walk_from memory settings level x table above
  by_read read is_read =
      sym (walk_from-step memory settings x level table above some
      ∙ (at_value-read (λ frame bits. walk_from memory settings (level - 1) x frame bits) settings level x above (entry_at memory (entry_address level x table))
      ∙ ap (at_read (λ frame bits. walk_from memory settings (level - 1) x frame bits) level x above) (sym is_read)))

  -- a byte of the entry is unknown
  pub walk_from-unread : None ≡ entry_read memory settings level x table → Unknown level ≡ walk_from memory settings level x table above
  unfolding at_read
  walk_from-unread is_read = by_read None is_read

  -- the entry is known and means this
  pub walk_from-read : (meaning : Entry) → Some meaning ≡ entry_read memory settings level x table
      → at_entry (λ frame bits. walk_from memory settings (level - 1) x frame bits) level x above meaning ≡ walk_from memory settings level x table above
  unfolding at_read
  walk_from-read meaning is_read = by_read (Some meaning) is_read
