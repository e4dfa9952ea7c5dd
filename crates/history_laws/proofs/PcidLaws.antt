-- The PCIDs under which something is held, and global translations.
use Rattle.std.proofs.Common.{◌≡◌, ℕ, ◌⊎◌, inl, inr, Bool, true, false, Option, Some, None, List, [], ◌∷◌, refl, sym, arith, subst}
use Rattle.std.proofs.lemmas.Bool.Decides.{nat_tests}
use Rattle.std.specs.Prelude.{◌==◌, if◌then◌else◌, option_map, nat_lt}
use Rattle.paging_model.specs.Counting.{IsIn}
use Rattle.paging_model.specs.Registers.{pcid_of}
use Rattle.paging_model.specs.declared.registers.Regs.{Regs}
use Rattle.history_model.specs.History.{History, begun, next, regs, visited_pcids, with_number, with_pcid}
use Rattle.history_model.specs.CachedTranslations.{Held, MayHold, MayUse, kept, at_root, below}

new_where : (same less : Bool) (n one : ℕ) (rest : List ℕ) → (same ≡ true → n ≡ one) → IsIn n (with_number n rest)
    → IsIn n (if same then one ∷ rest else (if less then n ∷ one ∷ rest else one ∷ with_number n rest))
new_where true less n one rest e i = inl (e refl)
new_where false true n one rest e i = inl refl
new_where false false n one rest e i = inr i

old_where : (same less : Bool) (m n one : ℕ) (rest : List ℕ) → IsIn m (one ∷ rest) → (IsIn m rest → IsIn m (with_number n rest))
    → IsIn m (if same then one ∷ rest else (if less then n ∷ one ∷ rest else one ∷ with_number n rest))
old_where true less m n one rest i f = i
old_where false true m n one rest i f = inr i
old_where false false m n one rest (inl e) f = inl e
old_where false false m n one rest (inr i) f = inr (f i)

pub with_number-new : (n : ℕ) (list : List ℕ) → IsIn n (with_number n list)
with_number-new n [] = inl refl
with_number-new n (one ∷ rest) = new_where (n == one) (nat_lt n one) n one rest (λ e. grind (arith, nat_tests)) (with_number-new n rest)

pub with_number-old : (m n : ℕ) (list : List ℕ) → IsIn m list → IsIn m (with_number n list)
with_number-old m n [] i = absurd i
with_number-old m n (one ∷ rest) i = old_where (n == one) (nat_lt n one) m n one rest i (with_number-old m n rest)

in_where : (same less : Bool) (m n one : ℕ) (rest : List ℕ) → (IsIn m (with_number n rest) → (m ≡ n) ⊎ IsIn m rest)
    → IsIn m (if same then one ∷ rest else (if less then n ∷ one ∷ rest else one ∷ with_number n rest)) → (m ≡ n) ⊎ IsIn m (one ∷ rest)
in_where true less m n one rest f i = inr i
in_where false true m n one rest f (inl e) = inl e
in_where false true m n one rest f (inr i) = inr i
in_where false false m n one rest f (inl e) = inr (inl e)
in_where false false m n one rest f (inr i) = elim (f i) [ inl e ↦ inl e | inr old ↦ inr (inr old) ]

pub with_number-in : (m n : ℕ) (list : List ℕ) → IsIn m (with_number n list) → (m ≡ n) ⊎ IsIn m list
with_number-in m n [] i = i
with_number-in m n (one ∷ rest) i = in_where (n == one) (nat_lt n one) m n one rest (with_number-in m n rest) i

with_pcid-old : (m : ℕ) (pcid : Option ℕ) (list : List ℕ) → IsIn m list → IsIn m (with_pcid pcid list)
with_pcid-old m None list i = i
with_pcid-old m (Some n) list i = with_number-old m n list i

with_pcid-new : (known : Regs) (now : Option Regs) (list : List ℕ) → now ≡ Some known → IsIn (pcid_of known) (with_pcid (option_map pcid_of now) list)
with_pcid-new known now list is_known =
    subst (λ one. IsIn (pcid_of known) (with_pcid (option_map pcid_of one) list)) (sym is_known) (with_number-new (pcid_of known) list)

-- the current PCID is visited
pub visited-now : (history : History) (p : ℕ) (known : Regs) → regs history p ≡ Some known → IsIn (pcid_of known) (visited_pcids history p)
visited-now (begun start) p known is_known = with_pcid-new known _ [] is_known
visited-now (next before happened) p known is_known = with_pcid-new known _ (visited_pcids before p) is_known

visited-current : (history : History) (p c : ℕ) (known : Regs) → regs history p ≡ Some known → c ≡ pcid_of known → IsIn c (visited_pcids history p)
visited-current history p c known is_known current = subst (λ n. IsIn n (visited_pcids history p)) (sym current) (visited-now history p known is_known)

-- what may be held is held under a visited PCID
pub held_under_visited : {p c x : ℕ} {history : History} {level : ℕ} {held : Held} → MayHold history p c level x held → IsIn c (visited_pcids history p)
held_under_visited {p = p} {c = c} (kept {before = before} happened earlier is_known spares) = with_pcid-old c _ (visited_pcids before p) (held_under_visited earlier)
held_under_visited {p = p} {c = c} (at_root {history = history} {known = known} is_known current top is_made) = visited-current history p c known is_known current
held_under_visited {p = p} {c = c} (below {history = history} {known = known} above is_known current above_held references is_made) = visited-current history p c known is_known current

-- a global translation that may be used under one PCID may be used under each
pub global_serves_all : (history : History) (p c d page level : ℕ) (held : Held) → held.global ≡ true → MayUse history p c level page held → MayUse history p d level page held
global_serves_all history p c d page level held global may_use =
    record { leaf = may_use.leaf; under = may_use.under; reaches = inr (global, held_under_visited may_use.held_there); held_there = may_use.held_there }

-- another one may be used under its own PCID alone
pub own_serves_one : (history : History) (p c page level : ℕ) (held : Held) → held.global ≡ false → MayUse history p c level page held → MayHold history p c level page held
own_serves_one history p c page level held own may_use = held_at may_use.under may_use.reaches may_use.held_there
  where
    held_at : (under : ℕ) → (under ≡ c) ⊎ ((held.global ≡ true) × IsIn under (visited_pcids history p)) → MayHold history p under level page held → MayHold history p c level page held
    held_at under (inl e) m = subst (λ n. MayHold history p n level page held) e m
    held_at under (inr other) m = let is_global = other.0 in absurd (cc (is_global, own))
