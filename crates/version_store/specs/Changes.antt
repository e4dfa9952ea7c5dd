-- The kept changes of memory, and the values that they tell. Our own words.
use Rattle.std.specs.Prelude.{◌≡◌, ℕ, zero, suc, ◌+◌, ◌/◌, ◌%◌, ◌<◌, ◌==◌, ◌&&◌, Bool, List, [], ◌∷◌, ◌++◌, length, Option, Some, None, max, nat_lt, unwrap_or, if◌then◌else◌}
use Rattle.std.specs.BTreeMap.{insert_entry, is_at}
use Rattle.std.specs.List.{filter, list_any, sum_by}
use Rattle.std.specs.Map.{lookup, values_of}
use Rattle.std.specs.Ordering.{nat_cmp}
use Rattle.version_store.specs.declared.change.Change.{Change}

-- the changes of each frame that has any, ascending by the frame's number, which is its address divided by 4,096; those of
-- one frame in the order in which they were noted
abbrev pub KeptChanges : Type 0
KeptChanges = List (ℕ × List Change)

-- the changes of a frame
abbrev pub changes_of : KeptChanges → ℕ → List Change
changes_of kept frame = unwrap_or (lookup (is_at (nat_cmp frame)) kept) []

-- kept changes, and one more of a slot
abbrev pub with_new_change : KeptChanges → ℕ → ℕ → ℕ → KeptChanges
with_new_change kept slot time old =
    insert_entry nat_cmp kept (slot / 4096)
    (changes_of kept (slot / 4096) ++ record { offset = slot % 4096; time = time; old = old } ∷ [])

-- kept changes, and those of slots one after another, from one on, that had these values; no change of one whose value isn't known
abbrev pub with_changes : KeptChanges → ℕ → List (Option ℕ) → ℕ → KeptChanges
with_changes kept slot [] time = kept
with_changes kept slot (None ∷ rest) time = with_changes kept (slot + 8) rest time
with_changes kept slot (Some old ∷ rest) time = with_changes (with_new_change kept slot time old) (slot + 8) rest time

-- the place of a slot in its frame
pub record IsSlotOffset (offset : ℕ) : Type 0 where
  pub aligned : offset % 8 ≡ 0
  pub within : offset < 4096

-- the old value of the first change of the slot at an offset after a time
abbrev pub old_in : List Change → ℕ → ℕ → Option ℕ
old_in [] offset t = None
old_in (one ∷ rest) offset t = if one.offset == offset && nat_lt t one.time then Some one.old else old_in rest offset t

-- the value at a time of the slot at an offset, by its present value
abbrev pub value_in : List Change → ℕ → ℕ → ℕ → ℕ
value_in changes offset present t = unwrap_or (old_in changes offset t) present

-- the old value of the first change of a slot after a time
abbrev pub old_at : KeptChanges → ℕ → ℕ → Option ℕ
old_at kept slot t = old_in (changes_of kept (slot / 4096)) (slot % 4096) t

-- the value of a slot at a time, by its present value
abbrev pub value_at : KeptChanges → ℕ → ℕ → ℕ → ℕ
value_at kept slot = value_in (changes_of kept (slot / 4096)) (slot % 4096)

-- the time of the last of some changes; 0 where there are none
abbrev pub last_time : List Change → ℕ
last_time [] = 0
last_time (one ∷ rest) = max one.time (last_time rest)

-- the time of the last kept change of any slot; 0 where none is kept
abbrev pub last_kept_time : KeptChanges → ℕ
last_kept_time [] = 0
last_kept_time (one ∷ rest) = max (last_time one.1) (last_kept_time rest)

-- whether the slot at an offset has a change
abbrev pub is_changed : List Change → ℕ → Bool
is_changed changes offset = list_any (λ one. one.offset == offset) changes

-- whether the slot at an offset has a change after a time
abbrev pub is_changed_after : List Change → ℕ → ℕ → Bool
is_changed_after changes offset t = list_any (λ one. one.offset == offset && nat_lt t one.time) changes

-- so many slots one after another, from one on
unfoldable pub slots_from : ℕ → ℕ → List ℕ
slots_from slot zero = []
slots_from slot (suc n) = slot ∷ slots_from (slot + 8) n

-- the slots that have a change, of the frame at an address, ascending
abbrev pub changed_in : List Change → ℕ → List ℕ
changed_in changes frame = filter (λ slot. is_changed changes (slot % 4096)) (slots_from frame 512)

-- the slots of the frame at an address that have a kept change, ascending
abbrev pub changed_slots : KeptChanges → ℕ → List ℕ
changed_slots kept frame = changed_in (changes_of kept (frame / 4096)) frame

-- the number of blocks for the changes of a frame, of which each has 256
abbrev pub blocks_for : List Change → ℕ
blocks_for changes = (length changes + 255) / 256

-- the number of blocks for kept changes: each frame has its own
abbrev pub kept_blocks : KeptChanges → ℕ
kept_blocks kept = sum_by blocks_for (values_of kept)

-- so many blocks, and such a time of the last change, are those of kept changes
pub record AreCounted (kept : KeptChanges) (blocks last : ℕ) : Type 0 where
  pub blocks_are : blocks ≡ kept_blocks kept
  pub last_is : last ≡ last_kept_time kept

-- the number of kept changes
abbrev pub change_count : KeptChanges → ℕ
change_count kept = sum_by (λ changes. length changes) (values_of kept)

-- the number of frames that have a kept change
abbrev pub frame_count : KeptChanges → ℕ
frame_count kept = sum_by (λ changes. if nat_lt 0 (length changes) then 1 else 0) (values_of kept)
