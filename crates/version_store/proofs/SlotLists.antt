-- Slots one after another, and those of them that have a change.
use Rattle.std.proofs.Common.{◌≡◌, ℕ, zero, suc, ◌+◌, ◌*◌, ◌%◌, ◌<◌, Bool, true, false, List, [], ◌∷◌, ◌++◌, refl, sym, ap, ◌∙◌, add-one, append-nil, arith}
use Rattle.std.proofs.lemmas.List.Elements.{filter-append}
use Rattle.std.specs.List.{filter}
use Rattle.std.specs.Prelude.{cond}
use Rattle.version_store.specs.Changes.{is_changed, slots_from}
use Rattle.version_store.specs.declared.change.Change.{Change}

slots_from-more : (slot n : ℕ) → slots_from slot (suc n) ≡ slots_from slot n ++ (slot + 8 * n) ∷ []
unfolding slots_from
slots_from-more slot zero = ap (λ (s : ℕ). s ∷ []) (omega arith)
slots_from-more slot (suc n) =
    let last : slot + 8 + 8 * n ≡ slot + 8 * suc n = omega arith in
    ap (λ (more : List ℕ). slot ∷ more) (slots_from-more (slot + 8) n ∙ ap (λ (s : ℕ). slots_from (slot + 8) n ++ s ∷ []) last)

-- a slot more, which has a change or has none
changed-more : (changes : List Change) (frame n : ℕ) (b : Bool) → is_changed changes ((frame + 8 * n) % 4096) ≡ b
    → filter (λ slot. is_changed changes (slot % 4096)) (slots_from frame (n + 1)) ≡ filter (λ slot. is_changed changes (slot % 4096)) (slots_from frame n) ++ cond b ((frame + 8 * n) ∷ []) []
changed-more changes frame n b is =
    ap (λ (k : ℕ). filter (λ slot. is_changed changes (slot % 4096)) (slots_from frame k)) (add-one n)
    ∙ (ap (filter (λ slot. is_changed changes (slot % 4096))) (slots_from-more frame n)
    ∙ (filter-append (λ slot. is_changed changes (slot % 4096)) (slots_from frame n) ((frame + 8 * n) ∷ [])
    ∙ ap (λ (t : Bool). filter (λ slot. is_changed changes (slot % 4096)) (slots_from frame n) ++ cond t ((frame + 8 * n) ∷ []) []) is))

place_in : (frame n : ℕ) → frame % 4096 ≡ 0 → n < 512 → (frame + 8 * n) % 4096 ≡ 8 * n
place_in frame n aligned below = omega arith

pub changed-pushed : (changes : List Change) (frame n : ℕ) (items : List ℕ) → frame % 4096 ≡ 0 → n < 512 → is_changed changes (8 * n) ≡ true
    → items ≡ filter (λ slot. is_changed changes (slot % 4096)) (slots_from frame n) → items ++ (frame + 8 * n) ∷ [] ≡ filter (λ slot. is_changed changes (slot % 4096)) (slots_from frame (n + 1))
changed-pushed changes frame n items aligned below is same =
    ap (λ (before : List ℕ). before ++ (frame + 8 * n) ∷ []) same
    ∙ sym (changed-more changes frame n true (ap (is_changed changes) (place_in frame n aligned below) ∙ is))

pub changed-passed : (changes : List Change) (frame n : ℕ) (items : List ℕ) → frame % 4096 ≡ 0 → n < 512 → is_changed changes (8 * n) ≡ false
    → items ≡ filter (λ slot. is_changed changes (slot % 4096)) (slots_from frame n) → items ≡ filter (λ slot. is_changed changes (slot % 4096)) (slots_from frame (n + 1))
changed-passed changes frame n items aligned below is same =
    same ∙ (sym (append-nil _) ∙ sym (changed-more changes frame n false (ap (is_changed changes) (place_in frame n aligned below) ∙ is)))

pub changed-none : (changes : List Change) (frame : ℕ) → [] ≡ filter (λ slot. is_changed changes (slot % 4096)) (slots_from frame 0)
unfolding slots_from
changed-none changes frame = refl
