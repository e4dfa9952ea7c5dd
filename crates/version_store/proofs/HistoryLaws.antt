-- What a history's kept changes tell of its moments, and what of memory is known at them.
use Rattle.std.proofs.Common.{◌≡◌, ◌≢◌, ℕ, zero, suc, ◌+◌, ◌-◌, ◌*◌, ◌/◌, ◌%◌, ◌<◌, ◌≤◌, ◌⊎◌, inl, inr, ◌&&◌, Bool, true, false, List, length, Option, Some, None, refl, sym, ap, ◌∙◌, arith}
use Rattle.std.proofs.lemmas.Bool.{cases_lt}
use Rattle.std.specs.Prelude.{nat_le, nat_lt, is_some, option_map, option_and_then, slice_index, unwrap_or, if◌then◌else◌}
use Rattle.paging_model.specs.Memory.{Memory, number_at, entry_at}
use Rattle.history_model.specs.History.{History, begun, next, memory, memory_after, time, with_bytes}
use Rattle.history_model.specs.Horizons.{is_memory_write}
use Rattle.history_model.specs.KeptSpaces.{IsWrittenSlot, slots_written}
use Rattle.history_model.specs.declared.events.Event.{Event}
use Rattle.history_model.specs.declared.events.Event.TheVariants as event
use Rattle.history_laws.specs.MomentsByTime.{moment_at}
use Rattle.history_laws.proofs.StillLaws.{unwritten_memory}
use Rattle.history_laws.proofs.TimeLaws.{moment_at-early, moment_at-late}
use Rattle.history_laws.proofs.WriteLaws.{entry_at-unwritten}
use Rattle.version_store.specs.Changes.{KeptChanges, old_at, value_at}
use Rattle.version_store.specs.WrittenChanges.{first_slot, touched_entries, with_changes_of, kept_changes, TellValues}
use Rattle.version_store.proofs.ChangeLaws.{or_else-some, with_changes-late, with_changes-slot, with_changes-outside}

pub record IsSome (o : Option ℕ) : Type 0 where
  pub value : ℕ
  pub is : o ≡ Some value

some_or_none : (o : Option ℕ) → IsSome o ⊎ (o ≡ None)
some_or_none None = inr refl
some_or_none (Some v) = inl (record { value = v; is = refl })

never_both : (o : Option ℕ) (v : ℕ) → o ≡ None → o ≡ Some v → ⊥
never_both o v none some = absurd (cc)

some-same : (a b : ℕ) → Some a ≡ Some b → a ≡ b
some-same a b h = cc

-- a byte is known after a write if it was known before
byte-unknown : (at : ℕ) (bytes : List ℕ) (before : Memory) (a : ℕ) → before a ≡ None → with_bytes at bytes before a ≡ None
byte-unknown at bytes before a h = ap (λ o. if is_some o && nat_le at a && nat_lt a (at + length bytes) then Some (slice_index bytes (a - at)) else o) h

byte-known : (at : ℕ) (bytes : List ℕ) (before : Memory) (a v : ℕ) → before a ≡ Some v → IsSome (with_bytes at bytes before a)
byte-known at bytes before a v known = by_test (is_some (before a) && nat_le at a && nat_lt a (at + length bytes))
  where
    by_test : (b : Bool) → IsSome (if b then Some (slice_index bytes (a - at)) else before a)
    by_test true = record { value = slice_index bytes (a - at); is = refl }
    by_test false = record { value = v; is = known }

both_known : (first rest : Option ℕ) (v : ℕ) → option_and_then (λ low. option_map (λ high. low + 256 * high) rest) first ≡ Some v → IsSome first × IsSome rest
both_known None rest v h = absurd (cc)
both_known (Some low) None v h = absurd (cc)
both_known (Some low) (Some high) v h = (record { value = low; is = refl }, record { value = high; is = refl })

joined : (first rest : Option ℕ) → IsSome first → IsSome rest → IsSome (option_and_then (λ low. option_map (λ high. low + 256 * high) rest) first)
joined first rest one more = record {
  value = one.value + 256 * more.value;
  is = ap (λ o. option_and_then (λ low. option_map (λ high. low + 256 * high) rest) o) one.is ∙ ap (λ r. option_map (λ high. one.value + 256 * high) r) more.is;
}

-- memories that know the same bytes know the same numbers
number-known : (some other : Memory) → ((a v : ℕ) → some a ≡ Some v → IsSome (other a)) → (n a v : ℕ) → number_at some n a ≡ Some v → IsSome (number_at other n a)
number-known some other known zero a v h = record { value = 0; is = refl }
number-known some other known (suc n) a v h =
    let parts = both_known (some a) (number_at some n (a + 1)) v h in
    joined (other a) (number_at other n (a + 1)) (known a parts.0.value parts.0.is) (number-known some other known n (a + 1) parts.1.value parts.1.is)

entry-known : (some other : Memory) → ((a v : ℕ) → some a ≡ Some v → IsSome (other a)) → (slot v : ℕ) → entry_at some slot ≡ Some v → IsSome (entry_at other slot)
unfolding entry_at
entry-known some other known slot v h = number-known some other known 8 slot v h

entry-before : (at : ℕ) (bytes : List ℕ) (before : Memory) (slot v : ℕ) → entry_at (with_bytes at bytes before) slot ≡ Some v → IsSome (entry_at before slot)
entry-before at bytes before slot v h =
    entry-known (with_bytes at bytes before) before
    (λ a b known. elim (some_or_none (before a)) [
      | inl some ↦ some
      | inr none ↦ absurd (never_both (with_bytes at bytes before a) b (byte-unknown at bytes before a none) known)
    ]) slot v h

entry-after : (at : ℕ) (bytes : List ℕ) (before : Memory) (slot v : ℕ) → entry_at before slot ≡ Some v → IsSome (entry_at (with_bytes at bytes before) slot)
entry-after at bytes before slot v h = entry-known before (with_bytes at bytes before) (λ a b known. byte-known at bytes before a b known) slot v h

-- what is known of memory stays known, and nothing becomes known
event-before : (happened : Event) (before : Memory) (slot : ℕ) → entry_at before slot ≡ None → entry_at (memory_after happened before) slot ≡ None
event-before (event.Write at bytes) before slot none = elim (some_or_none (entry_at (with_bytes at bytes before) slot)) [
  | inl some ↦ let known = entry-before at bytes before slot some.value some.is in absurd (never_both (entry_at before slot) known.value none known.is)
  | inr unknown ↦ unknown
]
event-before (event.Machine m) before slot none = none
event-before (event.Cpu cpu given) before slot none = none
event-before (event.Set cpu change) before slot none = none
event-before (event.Invlpg cpu address) before slot none = none
event-before (event.Invpcid cpu kind pcid address) before slot none = none
event-before (event.Ask cpu access pointer) before slot none = none
event-before (event.List cpu) before slot none = none
event-before (event.Point all) before slot none = none

event-after : (happened : Event) (before : Memory) (slot : ℕ) → entry_at (memory_after happened before) slot ≡ None → entry_at before slot ≡ None
event-after (event.Write at bytes) before slot none = elim (some_or_none (entry_at before slot)) [
  | inl some ↦ let known = entry-after at bytes before slot some.value some.is in absurd (never_both (entry_at (with_bytes at bytes before) slot) known.value none known.is)
  | inr unknown ↦ unknown
]
event-after (event.Machine m) before slot none = none
event-after (event.Cpu cpu given) before slot none = none
event-after (event.Set cpu change) before slot none = none
event-after (event.Invlpg cpu address) before slot none = none
event-after (event.Invpcid cpu kind pcid address) before slot none = none
event-after (event.Ask cpu access pointer) before slot none = none
event-after (event.List cpu) before slot none = none
event-after (event.Point all) before slot none = none

pub unknown-past : (history : History) (slot t : ℕ) → entry_at (memory history) slot ≡ None → entry_at (memory (moment_at history t)) slot ≡ None
unknown-past (begun start) slot t none = none
unknown-past (next before happened) slot t none = elim (cases_lt (time before) t) [
  | inl late ↦ ap (λ m. entry_at (memory m) slot) (moment_at-late before happened t late) ∙ none
  | inr early ↦ ap (λ m. entry_at (memory m) slot) (moment_at-early before happened t early) ∙ unknown-past before slot t (event-after happened (memory before) slot none)
]

pub unknown-future : (history : History) (slot t : ℕ) → entry_at (memory (moment_at history t)) slot ≡ None → entry_at (memory history) slot ≡ None
unknown-future (begun start) slot t none = none
unknown-future (next before happened) slot t none = elim (cases_lt (time before) t) [
  | inl late ↦ ap (λ m. entry_at (memory m) slot) (sym (moment_at-late before happened t late)) ∙ none
  | inr early ↦ event-before happened (memory before) slot (unknown-future before slot t (ap (λ m. entry_at (memory m) slot) (sym (moment_at-early before happened t early)) ∙ none))
]

-- an event that writes nothing makes no change
with_changes_of-none : (happened : Event) (before : History) (kept : KeptChanges) → is_memory_write happened ≡ false → with_changes_of happened before kept ≡ kept
with_changes_of-none (event.Write at bytes) before kept h = absurd (cc)
with_changes_of-none (event.Machine m) before kept h = refl
with_changes_of-none (event.Cpu cpu given) before kept h = refl
with_changes_of-none (event.Set cpu change) before kept h = refl
with_changes_of-none (event.Invlpg cpu address) before kept h = refl
with_changes_of-none (event.Invpcid cpu kind pcid address) before kept h = refl
with_changes_of-none (event.Ask cpu access pointer) before kept h = refl
with_changes_of-none (event.List cpu) before kept h = refl
with_changes_of-none (event.Point all) before kept h = refl

-- an event either writes or doesn't
abbrev IsWriteOf : Event → Type 0
IsWriteOf happened = (at : ℕ) × (bytes : List ℕ) × (happened ≡ event.Write at bytes)

write_or_not : (happened : Event) → IsWriteOf happened ⊎ (is_memory_write happened ≡ false)
write_or_not (event.Write at bytes) = inl (at, bytes, refl)
write_or_not (event.Machine m) = inr refl
write_or_not (event.Cpu cpu given) = inr refl
write_or_not (event.Set cpu change) = inr refl
write_or_not (event.Invlpg cpu address) = inr refl
write_or_not (event.Invpcid cpu kind pcid address) = inr refl
write_or_not (event.Ask cpu access pointer) = inr refl
write_or_not (event.List cpu) = inr refl
write_or_not (event.Point all) = inr refl

-- after the present time nothing has changed
none-late : (history : History) (slot t : ℕ) → time history ≤ t → old_at (kept_changes history) slot t ≡ None
none-late (begun start) slot t late = refl
none-late (next before happened) slot t late = elim (write_or_not happened) [
  | inl write ↦
      ap (λ e. old_at (with_changes_of e before (kept_changes before)) slot t) write.2
      ∙ (with_changes-late (kept_changes before) (first_slot write.0) (touched_entries (memory before) write.0 (length write.1)) (time before + 1) slot t late
      ∙ none-late before slot t (omega arith))
  | inr none ↦ ap (λ kept. old_at kept slot t) (with_changes_of-none happened before (kept_changes before) none) ∙ none-late before slot t (omega arith)
]

-- the place of a slot among those that a write touches
record IsTouchedAt (at n slot : ℕ) : Type 0 where
  place : ℕ
  below : place < slots_written at n
  is : slot ≡ first_slot at + 8 * place

touched_or_not : (at n slot : ℕ) → slot % 8 ≡ 0 → IsTouchedAt at n slot ⊎ ((i : ℕ) → i < slots_written at n → slot ≢ first_slot at + 8 * i)
touched_or_not at n slot aligned = elim (cases_lt slot (first_slot at)) [
  | inl before ↦ inr (λ i below same. omega arith)
  | inr from ↦ elim (cases_lt (slot / 8 - at / 8) (slots_written at n)) [
    | inl within ↦ inl (record { place = slot / 8 - at / 8; below = within; is = omega arith })
    | inr past ↦ inr (λ i below same. omega arith)
  ]
]

untouched_unwritten : (at n slot : ℕ) → ((i : ℕ) → i < slots_written at n → slot ≢ first_slot at + 8 * i) → IsWrittenSlot at n slot → ⊥
untouched_unwritten at n slot apart written =
    let aligned = written.aligned in
    let begins = written.begins in
    let ends = written.ends in
    apart (slot / 8 - at / 8) (omega arith) (omega arith)

-- what a slot held at a time before a write
value-write : (before : History) (at : ℕ) (bytes : List ℕ) (slot present t : ℕ) → slot % 8 ≡ 0 → t ≤ time before → entry_at (with_bytes at bytes (memory before)) slot ≡ Some present
    → ((old : ℕ) → entry_at (memory before) slot ≡ Some old → entry_at (memory (moment_at before t)) slot ≡ Some (value_at (kept_changes before) slot old t))
    → entry_at (memory (moment_at before t)) slot ≡ Some (value_at (with_changes_of (event.Write at bytes) before (kept_changes before)) slot present t)
value-write before at bytes slot present t aligned early is earlier =
    let old : IsSome (entry_at (memory before) slot) = entry-before at bytes (memory before) slot present is in
    elim (touched_or_not at (length bytes) slot aligned) [
      | inl touched ↦
          earlier old.value old.is
          ∙ ap Some (sym (ap (λ o. unwrap_or o present) (with_changes-slot (memory before) (kept_changes before) (first_slot at) (slots_written at (length bytes)) (time before + 1) touched.place slot old.value t touched.below touched.is old.is (omega arith))
          ∙ or_else-some (old_at (kept_changes before) slot t) old.value present))
      | inr apart ↦
          let same : present ≡ old.value = some-same present old.value (sym is ∙ (entry_at-unwritten at bytes (memory before) slot aligned (untouched_unwritten at (length bytes) slot apart) ∙ old.is)) in
          earlier old.value old.is
          ∙ ap Some (ap (λ n. value_at (kept_changes before) slot n t) (sym same)
          ∙ ap (λ o. unwrap_or o present) (sym (with_changes-outside (memory before) (kept_changes before) (first_slot at) (slots_written at (length bytes)) (time before + 1) slot t apart)))
    ]

-- the values that a history's changes tell
value-history : (history : History) (slot present t : ℕ) → slot % 8 ≡ 0 → t ≤ time history → entry_at (memory history) slot ≡ Some present
    → entry_at (memory (moment_at history t)) slot ≡ Some (value_at (kept_changes history) slot present t)
value-history (begun start) slot present t aligned within is = is
value-history (next before happened) slot present t aligned within is = elim (cases_lt (time before) t) [
  | inl late ↦
      ap (λ m. entry_at (memory m) slot) (moment_at-late before happened t late)
      ∙ (is ∙ ap (λ o. Some (unwrap_or o present)) (sym (none-late (next before happened) slot t (omega arith))))
  | inr early ↦ ap (λ m. entry_at (memory m) slot) (moment_at-early before happened t early) ∙ (elim (write_or_not happened) [
    | inl write ↦
        value-write before write.0 write.1 slot present t aligned early (ap (λ e. entry_at (memory_after e (memory before)) slot) (sym write.2) ∙ is) (λ old known. value-history before slot old t aligned early known)
        ∙ ap (λ e. Some (value_at (with_changes_of e before (kept_changes before)) slot present t)) (sym write.2)
    | inr none ↦
        value-history before slot present t aligned early (ap (λ m. entry_at m slot) (sym (unwritten_memory happened (memory before) none)) ∙ is)
        ∙ ap (λ kept. Some (value_at kept slot present t)) (sym (with_changes_of-none happened before (kept_changes before) none))
  ])
]

pub kept_changes-tell : (history : History) → TellValues (kept_changes history) 0 history
kept_changes-tell history = record { values = λ slot present t aligned since within is. value-history history slot present t aligned within is }
