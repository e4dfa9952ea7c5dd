-- The time of the last change, after one change more.
use Rattle.std.proofs.Common.{◌≡◌, ◌≢◌, ℕ, ◌+◌, ◌*◌, ◌/◌, ◌%◌, ◌<◌, ◌≤◌, inl, inr, length, drop, subst, List, [], ◌∷◌, ◌++◌, Bool, true, false, Some, sym, ap, ◌∙◌, arith, Ordering, Less, Equal, Greater}
use Rattle.std.proofs.Math.Nat.{le-max_left, le-max_right, max-zero, zero-max}
use Rattle.std.proofs.lemmas.Bool.{cases_lt}
use Rattle.std.specs.BTreeMap.{insert_entry, is_at}
use Rattle.std.specs.Map.{lookup}
use Rattle.std.specs.Ordering.{match_ordering, nat_cmp, is_eq}
use Rattle.std.specs.Prelude.{cond, max, slice_index_or, unwrap_or}
use Rattle.version_store.specs.Changes.{IsSlotOffset, KeptChanges, changes_of, last_kept_time, last_time}
use Rattle.version_store.specs.Records.{IsFilledTo, change_at, change_from}
use Rattle.version_store.specs.declared.change.Change.{Change}

max-assoc : (a b c : ℕ) → max a (max b c) ≡ max (max a b) c
max-assoc a b c = omega arith

max-swap : (a b c : ℕ) → max a (max b c) ≡ max (max a c) b
max-swap a b c = omega arith

max-in : (a b c : ℕ) → b ≤ c → max (max b a) c ≡ max c a
max-in a b c h = omega arith

-- one change more
pub last_time-push : (changes : List Change) (one : Change) → last_time (changes ++ one ∷ []) ≡ max (last_time changes) one.time
last_time-push [] one = max-zero one.time ∙ sym (zero-max one.time)
last_time-push (first ∷ rest) one =
    ap (λ n. max first.time n) (last_time-push rest one) ∙ max-assoc first.time (last_time rest) one.time

-- no frame has a later one
pub last_time-kept : (kept : KeptChanges) (frame : ℕ) → last_time (changes_of kept frame) ≤ last_kept_time kept
last_time-kept [] frame = omega arith
last_time-kept (one ∷ rest) frame = by_order (is_eq (nat_cmp frame one.0)) (last_time-kept rest frame)
  where
    by_order : (same : Bool) → last_time (changes_of rest frame) ≤ last_kept_time rest
        → last_time (unwrap_or (cond same (Some one.1) (lookup (is_at (nat_cmp frame)) rest)) []) ≤ max (last_time one.1) (last_kept_time rest)
    by_order true later = le-max_left (last_time one.1) (last_kept_time rest)
    by_order false later = let right = le-max_right (last_time one.1) (last_kept_time rest) in omega (arith, later, right)

-- changes in the place of those of a frame, which aren't later than they
inserted : (kept : KeptChanges) (frame : ℕ) (changes : List Change) (time : ℕ) → last_time changes ≡ max (last_time (changes_of kept frame)) time
    → last_kept_time (insert_entry nat_cmp kept frame changes) ≡ max (last_kept_time kept) time
inserted [] frame changes time is = ap (λ n. max n 0) is ∙ omega arith
inserted (one ∷ rest) frame changes time is = by_order (nat_cmp frame one.0) is (inserted rest frame changes time) (last_time-kept rest frame)
  where
    by_order : (order : Ordering) → last_time changes ≡ max (last_time (unwrap_or (cond (is_eq order) (Some one.1) (lookup (is_at (nat_cmp frame)) rest)) [])) time
        → (last_time changes ≡ max (last_time (changes_of rest frame)) time → last_kept_time (insert_entry nat_cmp rest frame changes) ≡ max (last_kept_time rest) time)
        → last_time (changes_of rest frame) ≤ last_kept_time rest
        → last_kept_time (match_ordering order ((frame, changes) ∷ one ∷ rest) ((one.0, changes) ∷ rest) (one ∷ insert_entry nat_cmp rest frame changes)) ≡ max (max (last_time one.1) (last_kept_time rest)) time
    by_order Less is later within = omega (arith, is, within)
    by_order Equal is later within = omega (arith, is)
    by_order Greater is later within = ap (λ n. max (last_time one.1) n) (later is) ∙ max-assoc (last_time one.1) (last_kept_time rest) time

-- one change more of a frame
pub last_kept_time_noted : (kept : KeptChanges) (frame : ℕ) (one : Change)
    → last_kept_time (insert_entry nat_cmp kept frame (changes_of kept frame ++ one ∷ [])) ≡ max (last_kept_time kept) one.time
last_kept_time_noted kept frame one =
    inserted kept frame (changes_of kept frame ++ one ∷ []) one.time (last_time-push (changes_of kept frame) one)

-- the offsets of a frame's changes, after one change more
pub offsets-pushed : (before old new : List (List ℕ)) (n : ℕ) (one : Change) → IsFilledTo before n
    → ((k : ℕ) → k < length before → slice_index_or old k [] ≡ slice_index_or before k [])
    → change_at new n ≡ one → ((k : ℕ) → k ≢ n → change_at new k ≡ change_at old k) → IsSlotOffset one.offset
    → ((i : ℕ) → i < n → IsSlotOffset (change_at before i).offset) → (i : ℕ) → i < n + 1 → IsSlotOffset (change_at new i).offset
offsets-pushed before old new n one filled same value others offset slots i below = elim (cases_lt i n) [
  | inl earlier ↦
      let is : change_at new i ≡ change_at before i = others i (omega arith)
      ∙ ap (λ (b : List ℕ). change_from (drop (16 * (i % 256)) b)) (same (i / 256) (let room = filled.room in omega arith)) in
      subst (λ (change : Change). IsSlotOffset change.offset) (sym is) (slots i earlier)
  | inr last ↦
      let here : n ≡ i = omega arith in
      subst (λ (k : ℕ). IsSlotOffset (change_at new k).offset) here (subst (λ (change : Change). IsSlotOffset change.offset) (sym value) offset)
]
