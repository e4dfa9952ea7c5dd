-- What a list of rules refuses, rule by rule.
use Rattle.std.proofs.Common.{◌≡◌, ◌<◌, ◌+◌, ℕ, zero, suc, Bool, true, false, not, ◌&&◌, ◌||◌, List, [], ◌∷◌, length, take, get_or, Some, None, cond, refl, arith, ◌∙◌, sym, ap}
use Rattle.std.specs.Prelude.{find}
use Rattle.std.specs.List.{list_any}
use Rattle.std.proofs.lemmas.List.Folds.{list_any_more}
use Rattle.paging_model.specs.declared.access.Rule.{Rule}

not-or : (a b : Bool) → not (a || b) ≡ (not a && not b)
not-or true b = refl
not-or false b = refl

-- no rule as far as the next refuses where none before it does, nor it
pub none_refuses-more : (refuses : Rule → Bool) (list : List Rule) (i : ℕ) (next : Rule) (granted refused : Bool)
    → i < length list → granted ≡ not (list_any refuses (take i list)) → refused ≡ refuses (get_or list i next)
    → (granted && not refused) ≡ not (list_any refuses (take (i + 1) list))
none_refuses-more refuses list i next granted refused within before here =
    rw (before, here) (sym (ap not (list_any_more refuses list i next within) ∙ not-or (list_any refuses (take i list)) (refuses (get_or list i next))))

-- nor does it where the test of it fails
pub none_refuses-next : (refuses : Rule → Bool) (list : List Rule) (i : ℕ) (next : Rule) (refused : Bool)
    → i < length list → list_any refuses (take i list) ≡ false → refused ≡ refuses (get_or list i next) → refused ≡ false
    → list_any refuses (take (i + 1) list) ≡ false
none_refuses-next refuses list i next refused within before here passes =
    list_any_more refuses list i next within ∙ rw (before, ← here) passes

or-false_left : (a b : Bool) → (a || b) ≡ false → a ≡ false
or-false_left true b e = e
or-false_left false b e = refl

or-false_right : (a b : Bool) → (a || b) ≡ false → b ≡ false
or-false_right true b e = absurd (cc)
or-false_right false b e = e

-- the first that refuses is the one that does where none before it does
pub find-first : (refuses : Rule → Bool) (list : List Rule) (i : ℕ) (next : Rule)
    → i < length list → list_any refuses (take i list) ≡ false → refuses (get_or list i next) ≡ true
    → find refuses list ≡ Some (get_or list i next)
find-first refuses [] i next within before here = absurd (omega arith)
find-first refuses (one ∷ list) zero next within before here = ap (λ passes. cond passes (Some one) (find refuses list)) here
find-first refuses (one ∷ list) (suc i) next within before here =
    ap (λ passes. cond passes (Some one) (find refuses list)) (or-false_left (refuses one) (list_any refuses (take i list)) before)
    ∙ find-first refuses list i next (omega arith) (or-false_right (refuses one) (list_any refuses (take i list)) before) here

-- none is found where none refuses
pub find-none : (refuses : Rule → Bool) (list : List Rule) → list_any refuses list ≡ false → find refuses list ≡ None
find-none refuses [] none = refl
find-none refuses (one ∷ list) none =
    ap (λ passes. cond passes (Some one) (find refuses list)) (or-false_left (refuses one) (list_any refuses list) none)
    ∙ find-none refuses list (or-false_right (refuses one) (list_any refuses list) none)
