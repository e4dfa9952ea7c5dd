-- Removals, stays and roots with one more, and what they say of times and PCIDs.
use Rattle.std.proofs.Common.{◌≡◌, ℕ, ◌<◌, ◌≤◌, ◌&&◌, Bool, true, false, List, [], ◌∷◌, ◌++◌, map, Option, Some, None, refl, sym, ap, ◌∙◌, arith}
use Rattle.std.specs.Prelude.{◌==◌, ◌||◌, not, nat_le, nat_lt, option_map, if◌then◌else◌}
use Rattle.std.proofs.lemmas.Bool.Decides.{nat_tests}
use Rattle.paging_model.specs.BitRanges.{differs}
use Rattle.paging_model.specs.Registers.{nxe, pcid_of, pge, root_of}
use Rattle.paging_model.specs.declared.registers.Machine.{Machine}
use Rattle.paging_model.specs.declared.registers.Regs.{Regs}
use Rattle.history_model.specs.History.{History, begun, next, machine, regs, last_root, last_root_under, visited_pcids, with_number, with_pcid}
use Rattle.history_model.specs.declared.caches.CacheKey.{CacheKey}
use Rattle.cache_rules.specs.declared.removals.Removal.{Removal}
use Rattle.cache_rules.specs.declared.removals.Removed.{Removed}
use Rattle.cache_rules.specs.declared.stays.Stay.{Stay}
use Rattle.cache_rules.specs.Hosts.{is_moved, root_in, with_home, with_removal, with_stay}
use Rattle.cache_rules.specs.Removals.{removal_takes, removed_in, takes_if}
use Rattle.cache_rules.specs.Standing.{IsStay, last_stay, stay_in}

-- one removal more
or_onto : (a b c d : Bool) → b ≡ (c || d) → (a || b) ≡ ((a || c) || d)
or_onto true b c d h = refl
or_onto false b c d h = h

or_nil : (a : Bool) → (a || false) ≡ a
or_nil true = refl
or_nil false = refl

removed_in-last : (list : List Removed) (one : Removed) (key : CacheKey) (t : ℕ)
    → removed_in (list ++ one ∷ []) key t ≡ (removed_in list key t || (one.time == t && removal_takes one.removal key))
removed_in-last [] one key t = or_nil (one.time == t && removal_takes one.removal key)
removed_in-last (x ∷ list) one key t = or_onto (x.time == t && removal_takes x.removal key) _ _ _ (removed_in-last list one key t)

or_none : (a b : Bool) → a ≡ (a || (b && false))
or_none true b = refl
or_none false true = refl
or_none false false = refl

pub removed_in-with : (removal : Option Removal) (list : List Removed) (key : CacheKey) (now t : ℕ)
    → removed_in (with_removal now removal list) key t ≡ (removed_in list key t || (now == t && takes_if removal key))
removed_in-with None list key now t = or_none (removed_in list key t) (now == t)
removed_in-with (Some one) list key now t = removed_in-last list (record { time = now; removal = one }) key t

-- one stay more
last_stay-assoc : (a b c : Option Stay) → last_stay a (last_stay b c) ≡ last_stay (last_stay a b) c
last_stay-assoc a b None = refl
last_stay-assoc a b (Some z) = refl

last_stay-nil : (a : Option Stay) → last_stay a None ≡ last_stay None a
last_stay-nil None = refl
last_stay-nil (Some one) = refl

stay_in-last : (list : List Stay) (one : Stay) (t : ℕ) → stay_in (list ++ one ∷ []) t ≡ last_stay (stay_in list t) (if nat_le one.from t then Some one else None)
stay_in-last [] one t = last_stay-nil (if nat_le one.from t then Some one else None)
stay_in-last (x ∷ list) one t =
    ap (last_stay (if nat_le x.from t then Some x else None)) (stay_in-last list one t)
    ∙ last_stay-assoc (if nat_le x.from t then Some x else None) (stay_in list t) (if nat_le one.from t then Some one else None)

pub stay_in-late : (list : List Stay) (one : Stay) (t : ℕ) → one.from ≤ t → stay_in (list ++ one ∷ []) t ≡ Some one
stay_in-late list one t h =
    let test : nat_le one.from t ≡ true = grind (arith, nat_tests) in
    stay_in-last list one t ∙ ap (λ (b : Bool). last_stay (stay_in list t) (if b then Some one else None)) test

-- a stay that begins later
pub stay_in-early : (moved : Bool) (one : Stay) (list : List Stay) (t : ℕ) → t < one.from
    → stay_in (with_stay (if moved then Some one else None) list) t ≡ stay_in list t
stay_in-early false one list t h = refl
stay_in-early true one list t h =
    let test : nat_le one.from t ≡ false = grind (arith, nat_tests) in
    stay_in-last list one t ∙ ap (λ (b : Bool). last_stay (stay_in list t) (if b then Some one else None)) test

or_falses : (a b c d : Bool) → (a || b || c || d) ≡ false → (a ≡ false) × (b ≡ false) × (c ≡ false) × (d ≡ false)
or_falses true b c d h = absurd (cc)
or_falses false true c d h = absurd (cc)
or_falses false false true d h = absurd (cc)
or_falses false false false true h = absurd (cc)
or_falses false false false false h = (refl, refl, refl, refl)

not_differs : (a b : Bool) → differs a b ≡ false → a ≡ b
not_differs true true h = refl
not_differs true false h = absurd (cc)
not_differs false true h = absurd (cc)
not_differs false false h = refl

not_unequal : (a b : ℕ) → not (a == b) ≡ false → a ≡ b
not_unequal a b h = grind (arith, nat_tests)

-- the same stay where nothing moved
pub same-stay : (m : Machine) (before after : Regs) (stay : Stay) → is_moved m before after ≡ false → IsStay m before stay → IsStay m after stay
same-stay m before after stay h is =
    let four = or_falses (not (pcid_of before == pcid_of after)) (not (root_of before m == root_of after m)) (differs (nxe before) (nxe after)) (differs (pge before) (pge after)) h in
    record {
      pcid = is.pcid ∙ not_unequal _ _ four.0;
      root = is.root ∙ not_unequal _ _ four.1;
      nxe_is = is.nxe_is ∙ not_differs _ _ four.2;
      pge_is = is.pge_is ∙ not_differs _ _ four.3;
    }

-- another root of one PCID
pub root_in-with : (n root : ℕ) (homes : List (ℕ × ℕ)) (c : ℕ) → root_in (with_home n root homes) c ≡ (if n == c then Some root else root_in homes c)
root_in-with n root [] c = refl
root_in-with n root (one ∷ rest) c = by_tests (n == one.0) (nat_lt n one.0) refl (root_in-with n root rest c)
  where
    later : (first here : Bool) → (first ≡ true → here ≡ false)
        → (if first then Some one.1 else (if here then Some root else root_in rest c)) ≡ (if here then Some root else (if first then Some one.1 else root_in rest c))
    later true true apart = absurd (let none : true ≡ false = apart refl in cc)
    later true false apart = refl
    later false here apart = refl

    past : (n == one.0) ≡ true → (here first : Bool) → (n == c) ≡ here → (one.0 == c) ≡ first
        → (if here then Some root else root_in rest c) ≡ (if here then Some root else (if first then Some one.1 else root_in rest c))
    past same true first is test = refl
    past same false true is test = absurd (grind (arith, nat_tests, same, is, test))
    past same false false is test = refl

    by_tests : (same less : Bool) → (n == one.0) ≡ same → root_in (with_home n root rest) c ≡ (if n == c then Some root else root_in rest c)
        → root_in (if same then (n, root) ∷ rest else (if less then (n, root) ∷ one ∷ rest else one ∷ with_home n root rest)) c
        ≡ (if n == c then Some root else (if one.0 == c then Some one.1 else root_in rest c))
    by_tests true less same is = past same (n == c) (one.0 == c) refl refl
    by_tests false true same is = refl
    by_tests false false same is =
        ap (λ (found : Option ℕ). if one.0 == c then Some one.1 else found) is
        ∙ later (one.0 == c) (n == c) (λ first. grind (arith, nat_tests, same, first))

-- the PCIDs are those before, with this one
pub with_number-pcids : (n root : ℕ) (homes : List (ℕ × ℕ)) → map (λ (one : ℕ × ℕ). one.0) (with_home n root homes) ≡ with_number n (map (λ (one : ℕ × ℕ). one.0) homes)
with_number-pcids n root [] = refl
with_number-pcids n root (one ∷ rest) = by_tests (n == one.0) (nat_lt n one.0) refl (with_number-pcids n root rest)
  where
    by_tests : (same less : Bool) → (n == one.0) ≡ same → map (λ (one : ℕ × ℕ). one.0) (with_home n root rest) ≡ with_number n (map (λ (one : ℕ × ℕ). one.0) rest)
        → map (λ (one : ℕ × ℕ). one.0) (if same then (n, root) ∷ rest else (if less then (n, root) ∷ one ∷ rest else one ∷ with_home n root rest))
        ≡ (if same then one.0 ∷ map (λ (one : ℕ × ℕ). one.0) rest
        else (if less then n ∷ one.0 ∷ map (λ (one : ℕ × ℕ). one.0) rest else one.0 ∷ with_number n (map (λ (one : ℕ × ℕ). one.0) rest)))
    by_tests true less same is =
        let here : n ≡ one.0 = grind (arith, nat_tests, same) in ap (λ c. c ∷ map (λ (one : ℕ × ℕ). one.0) rest) here
    by_tests false true same is = refl
    by_tests false false same is = ap (λ list. one.0 ∷ list) is

-- a number that is there
with_number-again : (n : ℕ) (list : List ℕ) → with_number n (with_number n list) ≡ with_number n list
with_number-again n [] = let same : (n == n) ≡ true = grind (arith, nat_tests) in rw same refl
with_number-again n (one ∷ rest) = by_tests (n == one) (nat_lt n one) refl refl (with_number-again n rest)
  where
    by_tests : (same less : Bool) → (n == one) ≡ same → nat_lt n one ≡ less → with_number n (with_number n rest) ≡ with_number n rest
        → with_number n (if same then one ∷ rest else (if less then n ∷ one ∷ rest else one ∷ with_number n rest))
        ≡ (if same then one ∷ rest else (if less then n ∷ one ∷ rest else one ∷ with_number n rest))
    by_tests true less is test again = rw is refl
    by_tests false true is test again = let same : (n == n) ≡ true = grind (arith, nat_tests) in rw same refl
    by_tests false false is test again = rw (is, test) (ap (λ list. one ∷ list) again)

-- the current PCID is among the visited ones
pub visited-known : (history : History) (p : ℕ) (known : Regs) → regs history p ≡ Some known → with_number (pcid_of known) (visited_pcids history p) ≡ visited_pcids history p
visited-known (begun start) p known is_known =
    let is : visited_pcids (begun start) p ≡ with_number (pcid_of known) [] = ap (λ one. with_pcid (option_map pcid_of one) []) is_known in
    ap (with_number (pcid_of known)) is ∙ (with_number-again (pcid_of known) [] ∙ sym is)
visited-known (next before happened) p known is_known =
    let is : visited_pcids (next before happened) p ≡ with_number (pcid_of known) (visited_pcids before p) =
    ap (λ one. with_pcid (option_map pcid_of one) (visited_pcids before p)) is_known in
    ap (with_number (pcid_of known)) is ∙ (with_number-again (pcid_of known) (visited_pcids before p) ∙ sym is)

-- the last root of the current PCID is the present one
root_under-known : (m : Machine) (known : Regs) (now : Option Regs) (earlier : Option ℕ) → now ≡ Some known → last_root_under m now (pcid_of known) earlier ≡ Some (root_of known m)
root_under-known m known now earlier is_known =
    let same : (pcid_of known == pcid_of known) ≡ true = grind (arith, nat_tests) in
    ap (λ one. last_root_under m one (pcid_of known) earlier) is_known ∙ ap (λ (b : Bool). if b then Some (root_of known m) else earlier) same

pub last_root-known : (history : History) (p : ℕ) (known : Regs) → regs history p ≡ Some known → last_root history p (pcid_of known) ≡ Some (root_of known (machine history))
last_root-known (begun start) p known is_known = root_under-known start.machine known (regs (begun start) p) None is_known
last_root-known (next before happened) p known is_known =
    root_under-known (machine before) known (regs (next before happened) p) (last_root before p (pcid_of known)) is_known
