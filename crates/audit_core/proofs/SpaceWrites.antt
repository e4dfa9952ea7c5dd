-- What a write to memory is to the kept spaces: a write to some slots of a frame.
use Rattle.std.proofs.Common.{◌≡◌, ◌≢◌, ℕ, ◌+◌, ◌-◌, ◌*◌, ◌/◌, ◌%◌, ◌<◌, ◌≤◌, ◌⊎◌, inl, inr, Bool, true, false, List, [], ◌∷◌, length, Option, Some, Result, Ok, Err, OnOk, OnErr, IfErr, refl, sym, subst, ap, ◌∙◌, arith}
use Rattle.std.specs.Prelude.{◌&&◌, All, if◌then◌else◌, is_some, nat_le, nat_lt, slice_index}
use Rattle.std.proofs.lemmas.Bool.Decides.{nat_tests}
use Rattle.paging_model.specs.Counting.{AtLeast}
use Rattle.paging_model.specs.Memory.{Memory}
use Rattle.paging_model.specs.declared.spaces.SpaceKey.{SpaceKey}
use Rattle.history_model.specs.Bounds.{UpdateMayTake, UpdatesMayTake}
use Rattle.history_model.specs.History.{memory, page_of, with_bytes}
use Rattle.history_model.specs.KeptSpaces.{IsTouched, IsWrittenEntry, IsWrittenSlot, slots_written}
use Rattle.history_model.specs.declared.answers.Answer.{Answer}
use Rattle.history_model.specs.declared.answers.Answer.TheVariants.{Nothing}
use Rattle.history_model.specs.declared.faults.StepFault.{StepFault}
use Rattle.history_model.specs.declared.faults.StepFault.TheVariants as fault
use Rattle.kept_laws.specs.WrittenPlaces.{IsWrittenTo}
use Rattle.kept_laws.proofs.Unwritten.{alike-but}
use Rattle.phys_view.specs.Seen.{memory_of}
use Rattle.space_map.specs.TrueSpaces.{IsTrueOf}
use Rattle.space_map.specs.declared.space.Space.{Space}
use Rattle.kept_spaces.specs.Keys.{keys_of}
use Rattle.kept_spaces.specs.Updating.{AreUpdated, UpdatesTake, WereTrue}
use Rattle.audit_core.specs.Remembering.{KeepsWrite, Remembering, WriteTakes}
use Rattle.audit_core.specs.Standing.{AreTrueSpaces}
use Rattle.audit_core.proofs.Writing.{within-page}

-- ---- memory before and after

-- an address lies outside of so many bytes from an address on
abbrev IsOutside : ℕ → ℕ → ℕ → Type 0
IsOutside at n a = (a < at) ⊎ (at + n ≤ a)

within-none : (at n a : ℕ) → IsOutside at n a → (nat_le at a && nat_lt a (at + n)) ≡ false
within-none at n a (inl low) = grind (arith, nat_tests)
within-none at n a (inr high) = grind (arith, nat_tests)

unless-within : (known first last : Bool) (byte before : Option ℕ) → (first && last) ≡ false
    → (if known && first && last then byte else before) ≡ before
unless-within true first last byte before h = ap (λ (b : Bool). if b then byte else before) h
unless-within false first last byte before h = refl

-- a byte outside of a write is as before
outside-same : (at : ℕ) (bytes : List ℕ) (before : Memory) (a : ℕ) → IsOutside at (length bytes) a
    → with_bytes at bytes before a ≡ before a
outside-same at bytes before a outside =
    unless-within (is_some (before a)) (nat_le at a) (nat_lt a (at + length bytes)) (Some (slice_index bytes (a - at))) (before a)
    (within-none at (length bytes) a outside)

-- the slots of its page that a write touches, from a first to a last one
pub record AreSlotsOf (at n first last : ℕ) : Type 0 where
  pub some : 1 ≤ n
  pub within : at % 4096 + n ≤ 4096
  pub first_is : first ≡ at % 4096 / 8
  pub last_is : last ≡ (at % 4096 + n - 1) / 8

-- they begin and end with whole slots
slots-begin : (at n first last : ℕ) → AreSlotsOf at n first last → at - at % 4096 + 8 * first ≡ at - at % 8
slots-begin at n first last are = omega (arith, are.first_is)

slots-end : (at n first last : ℕ) → (are : AreSlotsOf at n first last)
    → at - at % 4096 + 8 * first + 8 * (last + 1 - first) ≡ at + n - 1 - (at + n - 1) % 8 + 8
slots-end at n first last are = omega (arith, are.first_is, are.last_is, are.some, are.within)

slots-around : (at n first last a : ℕ) → AreSlotsOf at n first last
    → IsOutside (at - at % 4096 + 8 * first) (8 * (last + 1 - first)) a → IsOutside at n a
slots-around at n first last a are (inl low) = inl (omega (arith, low, slots-begin at n first last are))
slots-around at n first last a are (inr high) = inr (omega (arith, high, slots-end at n first last are, are.some))

written-to : (at first last : ℕ) (bytes : List ℕ) (before after : Memory) → AreSlotsOf at (length bytes) first last
    → ((a : ℕ) → after a ≡ with_bytes at bytes before a)
    → IsWrittenTo (at - at % 4096 + 8 * first) (8 * (last + 1 - first)) before after
written-to at first last bytes before after are after_is a outside =
    sym (after_is a ∙ outside-same at bytes before a (slots-around at (length bytes) first last a are outside))

pub slots-are : (old new : Remembering) (now at first last : ℕ) (bytes : List ℕ) → KeepsWrite old new now at bytes → 1 ≤ length bytes
    → first ≡ at % 4096 / 8 → last ≡ (at % 4096 + length bytes - 1) / 8 → AreSlotsOf at (length bytes) first last
slots-are old new now at first last bytes keeps some first_is last_is = record {
  some = some;
  within = within-page old.seen at (length bytes) keeps.writes.unrefused;
  first_is = first_is;
  last_is = last_is;
}

pub were-true : (old new : Remembering) (now at first last : ℕ) (bytes : List ℕ) (spaces : List Space)
    → KeepsWrite old new now at bytes → AreSlotsOf at (length bytes) first last → All (IsTrueOf (memory_of old.seen)) spaces
    → WereTrue spaces (at - at % 4096) first last (memory_of new.seen)
were-true old new now at first last bytes spaces keeps are are_true = record {
  old = memory_of old.seen;
  are_true = are_true;
  alike = alike-but (at - at % 4096 + 8 * first) (8 * (last + 1 - first)) (memory_of old.seen) (memory_of new.seen)
      (written-to at first last bytes (memory_of old.seen) (memory_of new.seen) are keeps.writes.memory);
}

-- ---- steps

slot-written : (at n first last slot : ℕ) → AreSlotsOf at n first last
    → IsWrittenSlot (at - at % 4096 + 8 * first) (8 * (last + 1 - first)) slot → IsWrittenSlot at n slot
slot-written at n first last slot are is = record {
  aligned = is.aligned;
  begins = omega (arith, is.aligned, is.begins, slots-end at n first last are, are.some);
  ends = omega (arith, is.aligned, is.ends, slots-begin at n first last are);
}

page-same : (at n first last : ℕ) → AreSlotsOf at n first last → page_of (at - at % 4096 + 8 * first) ≡ page_of at
page-same at n first last are = omega (arith, are.first_is)

at-least : {Thing : Type 0} (n : ℕ) (Has Other : Thing → Type 0) → ((thing : Thing) → Has thing → Other thing) → AtLeast n Has
    → AtLeast n Other
at-least n Has Other weaker least = record {
  things = least.things;
  some = record { have = λ thing is. weaker thing (least.some.have thing is); distinct = least.some.distinct };
  many = least.many;
}

module _ (memory : Memory) (at n first last : ℕ) (are : AreSlotsOf at n first last) where
  abbrev start : ℕ
  start = at - at % 4096 + 8 * first

  abbrev len : ℕ
  len = 8 * (last + 1 - first)

  update-of : (key : SpaceKey) (steps : ℕ) → UpdateMayTake memory key start len steps → UpdateMayTake memory key at n steps
  update-of key steps may = record {
    touched = may.touched;
    entries = may.entries;
    are_touched = at-least may.touched (IsTouched memory key start len) (IsTouched memory key at n)
        (λ table is. record {
          use_is = is.use_is;
          level = is.level;
          frame = is.frame;
          bits = is.bits;
          above = is.above;
          reached = is.reached;
          written = slot-written at n first last _ are is.written;
        }) may.are_touched;
    are_entries = at-least may.entries (IsWrittenEntry memory key start len) (IsWrittenEntry memory key at n)
        (λ entry is. record {
          use_is = is.use_is;
          frame = is.frame ∙ page-same at n first last are;
          slot = slot-written at n first last _ are is.slot;
        }) may.are_entries;
    bound = may.bound;
  }

  updates-of : (keys : List SpaceKey) (steps : ℕ) → UpdatesMayTake memory start len keys steps → UpdatesMayTake memory at n keys steps
  updates-of [] steps may = may
  updates-of (key ∷ rest) steps may = (may.0, may.1, update-of key may.0 may.2, updates-of rest may.1 may.3, may.4)

-- the updates after a write that stands in memory
pub write-takes : (old new : Remembering) (now at first last : ℕ) (bytes : List ℕ) (spaces : List Space) (before middle after : ℕ)
    → KeepsWrite old new now at bytes → AreSlotsOf at (length bytes) first last
    → middle ≤ before + slots_written at (length bytes)
    → UpdatesTake (memory_of new.seen) (keys_of spaces) (at - at % 4096) first last middle after
    → WriteTakes (memory_of old.seen) at bytes (keys_of spaces) before after
write-takes old new now at first last bytes spaces before middle after keeps are few takes =
    let same : memory_of new.seen ≡ with_bytes at bytes (memory_of old.seen) = λ i a. keeps.writes.memory a i in
    record {
      updates = takes.steps;
      may = subst (λ memory. UpdatesMayTake memory at (length bytes) (keys_of spaces) takes.steps) same
          (updates-of (memory_of new.seen) at (length bytes) first last are (keys_of spaces) takes.steps takes.may);
      bound = omega (arith, takes.bound, few);
    }

no-update : (memory : Memory) (key : SpaceKey) (at n : ℕ) → UpdateMayTake memory key at n 0
no-update memory key at n = record {
  touched = 0;
  entries = 0;
  are_touched = record { things = []; some = record { have = λ thing is. absurd is; distinct = tt }; many = omega arith };
  are_entries = record { things = []; some = record { have = λ thing is. absurd is; distinct = tt }; many = omega arith };
  bound = omega arith;
}

no-updates : (memory : Memory) (at n : ℕ) (keys : List SpaceKey) → UpdatesMayTake memory at n keys 0
no-updates memory at n [] = refl
no-updates memory at n (key ∷ rest) = (0, 0, no-update memory key at n, no-updates memory at n rest, refl)

-- no space was updated
pub write-alone : (memory : Memory) (at : ℕ) (bytes : List ℕ) (keys : List SpaceKey) (before after : ℕ)
    → after ≤ before + slots_written at (length bytes) → WriteTakes memory at bytes keys before after
write-alone memory at bytes keys before after few = record {
  updates = 0;
  may = no-updates (with_bytes at bytes memory) at (length bytes) keys;
  bound = omega (arith, few);
}

-- ---- what the session holds then

-- the kept spaces are true of memory, unless memory ran out
pub true-written : (done : Result (Unit {0}) StepFault) (old new : Remembering) (before after : List Space) (poisoned later : Bool)
    → AreTrueSpaces poisoned old.seen before → OnOk done (AreUpdated (memory_of new.seen) before after)
    → OnErr done (done ≢ Err fault.Memory → (new ≡ old) × (after ≡ before))
    → (later ≡ false → (poisoned ≡ false) × (done ≢ Err fault.Memory)) → AreTrueSpaces later new.seen after
true-written (Ok u) old new before after poisoned later were updated unchanged only is = updated.are_true
true-written (Err e) old new before after poisoned later were updated unchanged only is =
    let same = unchanged (only is).1 in
    subst (λ (one : Remembering). All (IsTrueOf (memory_of one.seen)) after) (sym same.0)
    (subst (All (IsTrueOf (memory_of old.seen))) (sym same.1) (were (only is).0))

-- what holds where it was done holds where the session says so
pub said-done : (done : Result (Unit {0}) StepFault) (said : Result Answer StepFault) (X : Type 0) → OnOk done (said ≡ Ok Nothing)
    → IfErr done (λ fault. said ≡ Err fault) → OnOk done X → OnOk said X
said-done (Ok u) said X answer why x = subst (λ one. OnOk one X) (sym answer) x
said-done (Err e) said X answer why x = subst (λ one. OnOk one X) (sym why) tt

pub said-memory : (done : Result (Unit {0}) StepFault) (said : Result Answer StepFault) (X : Type 0) → OnOk done (said ≡ Ok Nothing)
    → IfErr done (λ fault. said ≡ Err fault) → (done ≡ Err fault.Memory → X) → said ≡ Err fault.Memory → X
said-memory (Ok u) said X answer why x is = absurd (let never : Ok Nothing ≡ Err fault.Memory = sym answer ∙ is in cc)
said-memory (Err e) said X answer why x is = x (ap Err (same-fault e why is))
  where
    same-fault : (one : StepFault) → said ≡ Err one → said ≡ Err fault.Memory → one ≡ fault.Memory
    same-fault one first second = cc
