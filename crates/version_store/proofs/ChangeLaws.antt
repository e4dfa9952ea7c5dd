-- What kept changes tell of slots, after one change more and after those of a write.
use Rattle.std.proofs.Common.{◌≡◌, ◌≢◌, ℕ, zero, suc, ◌+◌, ◌*◌, ◌/◌, ◌%◌, ◌<◌, ◌≤◌, inl, inr, ◌==◌, ◌&&◌, Bool, true, false, List, [], ◌∷◌, ◌++◌, length, Option, Some, None, refl, sym, ap, ◌∙◌, arith, Ordering, Less, Equal, Greater}
use Rattle.std.proofs.lemmas.Bool.{cases_eq}
use Rattle.std.proofs.lemmas.Bool.Decides.{nat_tests}
use Rattle.std.specs.BTreeMap.{insert_entry, is_at}
use Rattle.std.specs.Map.{lookup}
use Rattle.std.specs.Ordering.{match_ordering, nat_cmp, is_eq}
use Rattle.std.specs.Prelude.{cond, nat_lt, slice_index_or, unwrap_or, if◌then◌else◌}
use Rattle.paging_model.specs.Memory.{Memory, entry_at}
use Rattle.version_store.specs.Changes.{KeptChanges, changes_of, with_new_change, with_changes, old_in, old_at}
use Rattle.version_store.specs.WrittenChanges.{entries_from}
use Rattle.version_store.specs.declared.change.Change.{Change}

-- an old value, or else another
abbrev pub or_else : Option ℕ → Option ℕ → Option ℕ
or_else (Some v) other = Some v
or_else None other = other

or_else-none : (o : Option ℕ) → or_else o None ≡ o
or_else-none None = refl
or_else-none (Some v) = refl

pub or_else-some : (o : Option ℕ) (old present : ℕ) → unwrap_or (or_else o (Some old)) present ≡ unwrap_or o old
or_else-some None old present = refl
or_else-some (Some v) old present = refl

-- the old value that one change gives
abbrev old_of : Change → ℕ → ℕ → Option ℕ
old_of one offset t = if one.offset == offset && nat_lt t one.time then Some one.old else None

old_in-push : (changes : List Change) (one : Change) (offset t : ℕ) → old_in (changes ++ one ∷ []) offset t ≡ or_else (old_in changes offset t) (old_of one offset t)
old_in-push [] one offset t = refl
old_in-push (first ∷ rest) one offset t = by_test (first.offset == offset && nat_lt t first.time) (old_in-push rest one offset t)
  where
    by_test : (b : Bool) → old_in (rest ++ one ∷ []) offset t ≡ or_else (old_in rest offset t) (old_of one offset t)
        → (if b then Some first.old else old_in (rest ++ one ∷ []) offset t) ≡ or_else (if b then Some first.old else old_in rest offset t) (old_of one offset t)
    by_test true h = refl
    by_test false h = h

order-equal : (m n : ℕ) → nat_cmp m n ≡ Equal → m ≡ n
order-equal m n h = grind (arith, nat_tests)

order-greater : (m n : ℕ) → nat_cmp m n ≡ Greater → m ≢ n
order-greater m n h = grind (arith, nat_tests)

order-same : (n : ℕ) → is_eq (nat_cmp n n) ≡ true
order-same n = grind (arith, nat_tests)

order-other : (m n : ℕ) → m ≢ n → is_eq (nat_cmp m n) ≡ false
order-other m n h = grind (arith, nat_tests)

-- the changes of a frame whose changes were replaced
lookup-inserted : (kept : KeptChanges) (frame : ℕ) (changes : List Change) → lookup (is_at (nat_cmp frame)) (insert_entry nat_cmp kept frame changes) ≡ Some changes
lookup-inserted [] frame changes = ap (λ (b : Bool). cond b (Some changes) None) (order-same frame)
lookup-inserted (one ∷ rest) frame changes = by_order (nat_cmp frame one.0) refl (lookup-inserted rest frame changes)
  where
    by_order : (order : Ordering) → nat_cmp frame one.0 ≡ order → lookup (is_at (nat_cmp frame)) (insert_entry nat_cmp rest frame changes) ≡ Some changes
        → lookup (is_at (nat_cmp frame)) (match_ordering order ((frame, changes) ∷ one ∷ rest) ((one.0, changes) ∷ rest) (one ∷ insert_entry nat_cmp rest frame changes)) ≡ Some changes
    by_order Less is later = ap (λ (b : Bool). cond b (Some changes) (lookup (is_at (nat_cmp frame)) (one ∷ rest))) (order-same frame)
    by_order Equal is later = ap (λ (order : Ordering). cond (is_eq order) (Some changes) (lookup (is_at (nat_cmp frame)) rest)) is
    by_order Greater is later =
        ap (λ (order : Ordering). cond (is_eq order) (Some one.1) (lookup (is_at (nat_cmp frame)) (insert_entry nat_cmp rest frame changes))) is ∙ later

-- the changes of another frame
lookup-beside : (kept : KeptChanges) (frame other : ℕ) (changes : List Change) → other ≢ frame → lookup (is_at (nat_cmp other)) (insert_entry nat_cmp kept frame changes) ≡ lookup (is_at (nat_cmp other)) kept
lookup-beside [] frame other changes apart = ap (λ (b : Bool). cond b (Some changes) None) (order-other other frame apart)
lookup-beside (one ∷ rest) frame other changes apart = by_order (nat_cmp frame one.0) refl (lookup-beside rest frame other changes apart)
  where
    by_order : (order : Ordering) → nat_cmp frame one.0 ≡ order → lookup (is_at (nat_cmp other)) (insert_entry nat_cmp rest frame changes) ≡ lookup (is_at (nat_cmp other)) rest
        → lookup (is_at (nat_cmp other)) (match_ordering order ((frame, changes) ∷ one ∷ rest) ((one.0, changes) ∷ rest) (one ∷ insert_entry nat_cmp rest frame changes)) ≡ lookup (is_at (nat_cmp other)) (one ∷ rest)
    by_order Less is later = ap (λ (b : Bool). cond b (Some changes) (lookup (is_at (nat_cmp other)) (one ∷ rest))) (order-other other frame apart)
    by_order Equal is later =
        let same : frame ≡ one.0 = order-equal frame one.0 is in
        let not : is_eq (nat_cmp other one.0) ≡ false = order-other other one.0 (omega arith) in
        ap (λ (b : Bool). cond b (Some changes) (lookup (is_at (nat_cmp other)) rest)) not
        ∙ sym (ap (λ (b : Bool). cond b (Some one.1) (lookup (is_at (nat_cmp other)) rest)) not)
    by_order Greater is later = ap (λ (found : Option (List Change)). cond (is_eq (nat_cmp other one.0)) (Some one.1) found) later

-- one change more: of another slot it tells nothing, nor of times from its own on
changed_alike : (kept : KeptChanges) (slot time old other t : ℕ) → other / 4096 ≡ slot / 4096
    → old_at (with_new_change kept slot time old) other t ≡ or_else (old_at kept other t) (old_of (record { offset = slot % 4096; time = time; old = old }) (other % 4096) t)
changed_alike kept slot time old other t same =
    ap (λ (frame : ℕ). old_in (changes_of (with_new_change kept slot time old) frame) (other % 4096) t) same
    ∙ (ap (λ (found : Option (List Change)). old_in (unwrap_or found []) (other % 4096) t) (lookup-inserted kept (slot / 4096) (changes_of kept (slot / 4096) ++ record { offset = slot % 4096; time = time; old = old } ∷ []))
    ∙ (old_in-push (changes_of kept (slot / 4096)) (record { offset = slot % 4096; time = time; old = old }) (other % 4096) t
    ∙ ap (λ (frame : ℕ). or_else (old_in (changes_of kept frame) (other % 4096) t) (old_of (record { offset = slot % 4096; time = time; old = old }) (other % 4096) t)) (sym same)))

changed_apart : (kept : KeptChanges) (slot time old other t : ℕ) → (other / 4096) ≢ (slot / 4096) → old_at (with_new_change kept slot time old) other t ≡ old_at kept other t
changed_apart kept slot time old other t apart =
    ap (λ (found : Option (List Change)). old_in (unwrap_or found []) (other % 4096) t)
    (lookup-beside kept (slot / 4096) (other / 4096) (changes_of kept (slot / 4096) ++ record { offset = slot % 4096; time = time; old = old } ∷ []) apart)

with_new_change-other : (kept : KeptChanges) (slot time old other t : ℕ) → other ≢ slot → old_at (with_new_change kept slot time old) other t ≡ old_at kept other t
with_new_change-other kept slot time old other t apart = elim (cases_eq (other / 4096) (slot / 4096)) [
  | inl same ↦
      let differ : (other % 4096) ≢ (slot % 4096) = omega arith in
      let test : (slot % 4096 == other % 4096 && nat_lt t time) ≡ false = grind (arith, nat_tests, differ) in
      changed_alike kept slot time old other t same
      ∙ (ap (λ (b : Bool). or_else (old_at kept other t) (if b then Some old else None)) test ∙ or_else-none (old_at kept other t))
  | inr beside ↦ changed_apart kept slot time old other t beside
]

with_new_change-late : (kept : KeptChanges) (slot time old other t : ℕ) → time ≤ t → old_at (with_new_change kept slot time old) other t ≡ old_at kept other t
with_new_change-late kept slot time old other t late = elim (cases_eq (other / 4096) (slot / 4096)) [
  | inl same ↦
      let test : (slot % 4096 == other % 4096 && nat_lt t time) ≡ false = grind (arith, nat_tests) in
      changed_alike kept slot time old other t same
      ∙ (ap (λ (b : Bool). or_else (old_at kept other t) (if b then Some old else None)) test ∙ or_else-none (old_at kept other t))
  | inr beside ↦ changed_apart kept slot time old other t beside
]

with_new_change-slot : (kept : KeptChanges) (slot time old t : ℕ) → t < time → old_at (with_new_change kept slot time old) slot t ≡ or_else (old_at kept slot t) (Some old)
with_new_change-slot kept slot time old t early =
    let test : (slot % 4096 == slot % 4096 && nat_lt t time) ≡ true = grind (arith, nat_tests) in
    changed_alike kept slot time old slot t refl
    ∙ ap (λ (b : Bool). or_else (old_at kept slot t) (if b then Some old else None)) test

-- the changes of slots one after another: of other slots they tell nothing
pub with_changes-other : (kept : KeptChanges) (slot : ℕ) (olds : List (Option ℕ)) (time other t : ℕ) → ((i : ℕ) → i < length olds → other ≢ slot + 8 * i)
    → old_at (with_changes kept slot olds time) other t ≡ old_at kept other t
with_changes-other kept slot [] time other t apart = refl
with_changes-other kept slot (None ∷ rest) time other t apart =
    with_changes-other kept (slot + 8) rest time other t (λ i below. let next = apart (suc i) (omega arith) in λ same. next (omega arith))
with_changes-other kept slot (Some old ∷ rest) time other t apart =
    with_changes-other (with_new_change kept slot time old) (slot + 8) rest time other t (λ i below. let next = apart (suc i) (omega arith) in λ same. next (omega arith))
    ∙ with_new_change-other kept slot time old other t (let first = apart 0 (omega arith) in λ same. first (omega arith))

-- nor of times from their own on
pub with_changes-late : (kept : KeptChanges) (slot : ℕ) (olds : List (Option ℕ)) (time other t : ℕ) → time ≤ t → old_at (with_changes kept slot olds time) other t ≡ old_at kept other t
with_changes-late kept slot [] time other t late = refl
with_changes-late kept slot (None ∷ rest) time other t late = with_changes-late kept (slot + 8) rest time other t late
with_changes-late kept slot (Some old ∷ rest) time other t late =
    with_changes-late (with_new_change kept slot time old) (slot + 8) rest time other t late ∙ with_new_change-late kept slot time old other t late

length-entries_from : (memory : Memory) (slot n : ℕ) → length (entries_from memory slot n) ≡ n
length-entries_from memory slot zero = refl
length-entries_from memory slot (suc n) = let rest = length-entries_from memory (slot + 8) n in omega (arith, rest)

-- of a slot whose value was known they tell it, for times before their own
pub with_changes-slot : (memory : Memory) (kept : KeptChanges) (slot n time i other old t : ℕ) → i < n → other ≡ slot + 8 * i → entry_at memory other ≡ Some old → t < time
    → old_at (with_changes kept slot (entries_from memory slot n) time) other t ≡ or_else (old_at kept other t) (Some old)
with_changes-slot memory kept slot zero time i other old t below is known early = absurd (omega arith)
with_changes-slot memory kept slot (suc n) time zero other old t below is known early =
    let same : slot ≡ other = omega arith in
    let first : entry_at memory slot ≡ Some old = ap (entry_at memory) same ∙ known in
    ap (λ (entry : Option ℕ). old_at (with_changes kept slot (entry ∷ entries_from memory (slot + 8) n) time) other t) first
    ∙ (with_changes-other (with_new_change kept slot time old) (slot + 8) (entries_from memory (slot + 8) n) time other t (λ j within. λ later. absurd (omega arith))
    ∙ (ap (λ (s : ℕ). old_at (with_new_change kept s time old) other t) same ∙ with_new_change-slot kept other time old t early))
with_changes-slot memory kept slot (suc n) time (suc i) other old t below is known early =
    by_entry (entry_at memory slot) (λ before. with_changes-slot memory before (slot + 8) n time i other old t (omega arith) (omega arith) known early)
  where
    by_entry : (entry : Option ℕ) → ((before : KeptChanges) → old_at (with_changes before (slot + 8) (entries_from memory (slot + 8) n) time) other t ≡ or_else (old_at before other t) (Some old))
        → old_at (with_changes kept slot (entry ∷ entries_from memory (slot + 8) n) time) other t ≡ or_else (old_at kept other t) (Some old)
    by_entry None rest = rest kept
    by_entry (Some first) rest =
        rest (with_new_change kept slot time first)
        ∙ ap (λ (o : Option ℕ). or_else o (Some old)) (with_new_change-other kept slot time first other t (omega arith))

-- a slot outside of those that were read
pub with_changes-outside : (memory : Memory) (kept : KeptChanges) (slot n time other t : ℕ) → ((i : ℕ) → i < n → other ≢ slot + 8 * i)
    → old_at (with_changes kept slot (entries_from memory slot n) time) other t ≡ old_at kept other t
with_changes-outside memory kept slot n time other t apart =
    with_changes-other kept slot (entries_from memory slot n) time other t
    (λ i within. apart i (let long = length-entries_from memory slot n in omega (arith, long)))

-- entries that are read one by one
pub entries-read : (memory : Memory) (slot : ℕ) (entries : List (Option ℕ)) → ((i : ℕ) → i < length entries → slice_index_or entries i None ≡ entry_at memory (slot + 8 * i))
    → entries ≡ entries_from memory slot (length entries)
entries-read memory slot [] read = refl
entries-read memory slot (one ∷ rest) read =
    let first : one ≡ entry_at memory slot = read 0 (omega arith) ∙ ap (entry_at memory) (omega arith) in
    let more : rest ≡ entries_from memory (slot + 8) (length rest) =
    entries-read memory (slot + 8) rest (λ i below. read (suc i) (omega arith) ∙ ap (entry_at memory) (omega arith)) in
    ap (λ (entry : Option ℕ). entry ∷ rest) first ∙ ap (λ (entries : List (Option ℕ)). entry_at memory slot ∷ entries) more
