-- What one event removes, with the registers before it taken in, and what removals take at which times. The kinds are
-- those of SDM 3A, "Operations that Invalidate TLBs and Paging-Structure Caches"; that they are kept by time is our own.
use Rattle.std.specs.Prelude.{◌≡◌, ℕ, ◌+◌, ◌<◌, ◌≤◌, ◌^◌, ◌==◌, ◌&&◌, ◌||◌, not, Bool, true, false, if◌then◌else◌, Option, Some, None, List, [], ◌∷◌}
use Rattle.paging_model.specs.declared.registers.Regs.{Regs}
use Rattle.history_model.specs.Invalidations.{kills, key_covers, is_global_leaf, is_of}
use Rattle.history_model.specs.declared.caches.CacheKey.{CacheKey}
use Rattle.history_model.specs.declared.events.Event.{Event}
use Rattle.cache_rules.specs.declared.removals.Removal.{Removal}
use Rattle.cache_rules.specs.declared.removals.Removal.TheVariants as removal
use Rattle.cache_rules.specs.declared.removals.Removed.{Removed}

-- whether a removal takes what has a key
abbrev pub removal_takes : Removal → CacheKey → Bool
removal_takes (removal.Address pcid address) key =
    if key.leaf then key_covers key address && (key.pcid == pcid || key.global) else key.pcid == pcid
removal_takes (removal.AddressOfPcid pcid address) key = is_of pcid key && key_covers key address
removal_takes (removal.Pcid pcid) key = is_of pcid key
removal_takes (removal.PcidAndGlobal pcid) key = key.pcid == pcid
removal_takes removal.AllButGlobal key = not (is_global_leaf key)
removal_takes removal.Everything key = true

-- the same, where there may be no removal
abbrev pub takes_if : Option Removal → CacheKey → Bool
takes_if None key = false
takes_if (Some one) key = removal_takes one key

-- this is what an event removes of a processor with these registers before it; each key has a PCID of 16 bits
abbrev pub IsRemovalOf : Event → ℕ → Regs → Option Removal → Type 0
IsRemovalOf happened p before removal =
    (key : CacheKey) → key.pcid < 2 ^ 16 → takes_if removal key ≡ kills happened p before key

-- whether a removal of this time takes what has a key
abbrev pub removed_in : List Removed → CacheKey → ℕ → Bool
removed_in [] key t = false
removed_in (one ∷ rest) key t = (one.time == t && removal_takes one.removal key) || removed_in rest key t

-- the time of the first of these removals that takes what has a key
abbrev pub first_time : List Removed → CacheKey → Option ℕ
first_time [] key = None
first_time (one ∷ rest) key = if removal_takes one.removal key then Some one.time else first_time rest key

-- the first time after another one at which something is taken; none where it is taken no more
abbrev pub IsNextTime : (ℕ → Bool) → ℕ → Option ℕ → Type 0
IsNextTime is_taken t None = (u : ℕ) → t < u → is_taken u ≡ false
IsNextTime is_taken t (Some k) =
    (t < k) × (is_taken k ≡ true) × ((u : ℕ) → t < u → u < k → is_taken u ≡ false)

-- numbers ascend from a number on, each of them once
abbrev pub AreAscending : ℕ → List ℕ → Type 0
AreAscending low [] = Unit {0}
AreAscending low (one ∷ rest) = (low ≤ one) × AreAscending (one + 1) rest
