-- What a write leaves of memory, of walks, and of the tables that a space uses.
use Rattle.std.proofs.Common.{◌≡◌, ℕ, zero, suc, ◌+◌, ◌*◌, ◌%◌, ◌<◌, ◌≤◌, ◌⊎◌, inl, inr, Bool, true, false, List, length, Option, Some, refl, sym, ap, ◌∙◌, arith}
use Rattle.std.proofs.lemmas.Bool.{cases_lt}
use Rattle.std.proofs.lemmas.Bool.Decides.{nat_tests}
use Rattle.std.specs.Prelude.{◌↔◌, ◌&&◌, if◌then◌else◌, is_some, nat_le, nat_lt, option_and_then, option_map, slice_index, ◌-◌}
use Rattle.paging_model.specs.LinearAddress.{index}
use Rattle.paging_model.specs.Memory.{Memory, entry_at, number_at}
use Rattle.paging_model.specs.declared.spaces.SpaceKey.{SpaceKey}
use Rattle.paging_model.specs.declared.spaces.TableUse.{TableUse}
use Rattle.paging_model.specs.Walking.{entry_address, walk}
use Rattle.paging_model.specs.declared.entries.Bits.{Bits}
use Rattle.paging_model.specs.declared.registers.Settings.{Settings}
use Rattle.paging_model.specs.TableUses.{Reaches}
use Rattle.paging_laws.proofs.Readings.{Reaches-back, use-alike, walk-alike}
use Rattle.paging_laws.proofs.TableFrames.{Reaches-aligned}
use Rattle.paging_laws.specs.ReadEntries.{ReadAlike, ReadAlikeAbove}
use Rattle.history_model.specs.History.{with_bytes}
use Rattle.history_model.specs.KeptSpaces.{IsWrittenSlot}
use Rattle.history_laws.specs.UntouchedUses.{IsUntouched}
use Rattle.history_laws.specs.WrittenSlots.{ReadsNoWrittenSlot}

-- an address lies outside of so many bytes from an address on
abbrev IsOutside : ℕ → ℕ → ℕ → Type 0
IsOutside at n a = (a < at) ⊎ (at + n ≤ a)

within_none : (at n a : ℕ) → IsOutside at n a → (nat_le at a && nat_lt a (at + n)) ≡ false
within_none at n a (inl low) = grind (arith, nat_tests)
within_none at n a (inr high) = grind (arith, nat_tests)

unless_within : (known first last : Bool) (byte before : Option ℕ) → (first && last) ≡ false → (if known && first && last then byte else before) ≡ before
unless_within true first last byte before h = ap (λ (b : Bool). if b then byte else before) h
unless_within false first last byte before h = refl

-- a byte outside of a write is as before
with_bytes-outside : (at : ℕ) (bytes : List ℕ) (before : Memory) (a : ℕ) → IsOutside at (length bytes) a → with_bytes at bytes before a ≡ before a
with_bytes-outside at bytes before a outside =
    unless_within (is_some (before a)) (nat_le at a) (nat_lt a (at + length bytes)) (Some (slice_index bytes (a - at))) (before a)
    (within_none at (length bytes) a outside)

number_at-alike : (one other : Memory) (n a : ℕ) → ((x : ℕ) → a ≤ x → x < a + n → one x ≡ other x) → number_at one n a ≡ number_at other n a
number_at-alike one other zero a same = refl
number_at-alike one other (suc n) a same =
    ap (λ (low : Option ℕ). option_and_then (λ low. option_map (λ high. low + 256 * high) (number_at one n (a + 1))) low) (same a (omega arith) (omega arith))
    ∙ ap (λ (high : Option ℕ). option_and_then (λ low. option_map (λ high. low + 256 * high) high) (other a))
    (number_at-alike one other n (a + 1) (λ x from to. same x (omega arith) (omega arith)))

unwritten_sides : (at n slot : ℕ) → slot % 8 ≡ 0 → (IsWrittenSlot at n slot → ⊥) → (slot + 8 ≤ at) ⊎ (at + n ≤ slot)
unwritten_sides at n slot aligned unwritten = elim (cases_lt slot (at + n)) [
  | inl begins ↦ elim (cases_lt at (slot + 8)) [
    | inl ends ↦ absurd (unwritten (record { aligned = aligned; begins = begins; ends = ends }))
    | inr before ↦ inl before
  ]
  | inr after ↦ inr after
]

-- an entry in a slot that a write doesn't touch is as before
pub entry_at-unwritten : (at : ℕ) (bytes : List ℕ) (before : Memory) (slot : ℕ) → slot % 8 ≡ 0 → (IsWrittenSlot at (length bytes) slot → ⊥)
    → entry_at (with_bytes at bytes before) slot ≡ entry_at before slot
unfolding entry_at
entry_at-unwritten at bytes before slot aligned unwritten =
    number_at-alike (with_bytes at bytes before) before 8 slot
    (λ x from to. with_bytes-outside at bytes before x (elim (unwritten_sides at (length bytes) slot aligned unwritten) [
      | inl low ↦ inl (omega arith)
      | inr high ↦ inr (omega arith)
    ]))

whole_entry : (table i : ℕ) → table % 4096 ≡ 0 → (table + 8 * i) % 8 ≡ 0
whole_entry table i aligned = omega arith

-- memories that are alike but in written slots
abbrev AreAlikeBut : ℕ → ℕ → Memory → Memory → Type 0
AreAlikeBut at n one other = (slot : ℕ) → slot % 8 ≡ 0 → (IsWrittenSlot at n slot → ⊥) → entry_at one slot ≡ entry_at other slot

-- a use that isn't touched in the one memory is one in the other, and isn't touched there
untouched_there : (at n : ℕ) (one other : Memory) (key : SpaceKey) (table : TableUse) → AreAlikeBut at n one other → key.root % 4096 ≡ 0
    → IsUntouched one key at n table → IsUntouched other key at n table
untouched_there at n one other key table same aligned is_untouched =
    let alike : ReadAlikeAbove table.level one other key.settings key.root table.prefix =
    λ level frame bits above reached.
    same (entry_address level table.prefix frame) (whole_entry frame (index level table.prefix) (Reaches-aligned aligned reached))
    (λ written. is_untouched.untouched (record { use_is = is_untouched.use_is; level = level; frame = frame; bits = bits; above = above; reached = reached; written = written })) in
    record {
      use_is = use-alike one other key.settings key.root table is_untouched.use_is alike;
      untouched = λ touched.
          let within : table.level ≤ touched.level = omega (arith, touched.above) in
          is_untouched.untouched (record {
            use_is = is_untouched.use_is;
            level = touched.level;
            frame = touched.frame;
            bits = touched.bits;
            above = touched.above;
            reached = Reaches-back table.level alike within touched.reached;
            written = touched.written;
          });
    }

pub untouched_as_before : (before : Memory) (at : ℕ) (bytes : List ℕ) (key : SpaceKey) (table : TableUse) → key.root % 4096 ≡ 0
    → (IsUntouched (with_bytes at bytes before) key at (length bytes) table ↔ IsUntouched before key at (length bytes) table)
untouched_as_before before at bytes key table aligned = (
  untouched_there at (length bytes) (with_bytes at bytes before) before key table (λ slot whole unwritten. entry_at-unwritten at bytes before slot whole unwritten) aligned,
  untouched_there at (length bytes) before (with_bytes at bytes before) key table (λ slot whole unwritten. sym (entry_at-unwritten at bytes before slot whole unwritten)) aligned,
)

-- a walk that reads no written slot in the one memory is the same in the other
walk_there : (at n : ℕ) (one other : Memory) (settings : Settings) (root x : ℕ) → AreAlikeBut at n one other → root % 4096 ≡ 0
    → ReadsNoWrittenSlot one settings root x at n → walk one settings root x ≡ walk other settings root x
walk_there at n one other settings root x same aligned none =
    let alike : ReadAlike one other settings root x =
    λ level table above reached.
    same (entry_address level x table) (whole_entry table (index level x) (Reaches-aligned aligned reached)) (none level table above reached) in
    walk-alike one other settings root x alike

pub walk_past : (before : Memory) (at : ℕ) (bytes : List ℕ) (settings : Settings) (root x : ℕ) → root % 4096 ≡ 0
    → ReadsNoWrittenSlot before settings root x at (length bytes) → walk (with_bytes at bytes before) settings root x ≡ walk before settings root x
walk_past before at bytes settings root x aligned none =
    sym (walk_there at (length bytes) before (with_bytes at bytes before) settings root x
    (λ slot whole unwritten. sym (entry_at-unwritten at bytes before slot whole unwritten)) aligned none)

pub walk_past-after : (before : Memory) (at : ℕ) (bytes : List ℕ) (settings : Settings) (root x : ℕ) → root % 4096 ≡ 0
    → ReadsNoWrittenSlot (with_bytes at bytes before) settings root x at (length bytes) → walk (with_bytes at bytes before) settings root x ≡ walk before settings root x
walk_past-after before at bytes settings root x aligned none =
    walk_there at (length bytes) (with_bytes at bytes before) before settings root x
    (λ slot whole unwritten. entry_at-unwritten at bytes before slot whole unwritten) aligned none
