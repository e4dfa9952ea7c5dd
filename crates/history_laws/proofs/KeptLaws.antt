-- The kept spaces are one list, of 16 spaces at most, each once and within the limits.
use Rattle.std.proofs.Common.{◌≡◌, ℕ, zero, suc, ◌≤◌, inl, inr, Bool, true, false, List, [], ◌∷◌, length, take, Option, Some, None, sym, ap, ◌∙◌, subst, arith}
use Rattle.std.proofs.lemmas.List.{length-take}
use Rattle.std.specs.Prelude.{if◌then◌else◌}
use Rattle.paging_model.specs.Counting.{AreDistinct, IsIn}
use Rattle.paging_model.specs.Memory.{Memory}
use Rattle.paging_model.specs.declared.registers.Machine.{Machine}
use Rattle.paging_model.specs.declared.registers.Regs.{Regs}
use Rattle.paging_model.specs.declared.spaces.SpaceKey.{SpaceKey}
use Rattle.paging_laws.proofs.Pigeonholes.{too_large_within_limits}
use Rattle.history_model.specs.History.{History, begun, next, memory, machine, regs}
use Rattle.history_model.specs.KeptSpaces.{AreKept, KeptAfter, KeptAfterList, StayKept, WithinIn, kept_limit, listed_first, same_key, space_of, without}
use Rattle.history_model.specs.declared.events.Event.{Event}
use Rattle.history_model.specs.declared.events.Event.TheVariants as event
use Rattle.history_laws.proofs.KeyLaws.{same_key-self}

stay_one : (memory : Memory) (earlier some other : List SpaceKey) → StayKept memory earlier some → StayKept memory earlier other → some ≡ other
stay_one memory [] some other a b = a ∙ sym b
stay_one memory (one ∷ rest) some other (inl a) (inl b) = stay_one memory rest some other a.1 b.1
stay_one memory (one ∷ rest) some other (inl a) (inr b) = absurd (too_large_within_limits memory one.settings one.root a.0 b.1)
stay_one memory (one ∷ rest) some other (inr a) (inl b) = absurd (too_large_within_limits memory one.settings one.root b.0 a.1)
stay_one memory (one ∷ rest) some other (inr a) (inr b) = a.3 ∙ (ap (λ more. one ∷ more) (stay_one memory rest a.0 b.0 a.2 b.2) ∙ sym b.3)

list_one : (memory : Memory) (machine : Machine) (now : Option Regs) (earlier some other : List SpaceKey)
    → KeptAfterList memory machine now earlier some → KeptAfterList memory machine now earlier other → some ≡ other
list_one memory machine None earlier some other a b = a ∙ sym b
list_one memory machine (Some known) earlier some other (inl a) (inl b) = a.1 ∙ sym b.1
list_one memory machine (Some known) earlier some other (inl a) (inr b) =
    let key = space_of machine known in absurd (too_large_within_limits memory key.settings key.root a.0 b.0)
list_one memory machine (Some known) earlier some other (inr a) (inl b) =
    let key = space_of machine known in absurd (too_large_within_limits memory key.settings key.root b.0 a.0)
list_one memory machine (Some known) earlier some other (inr a) (inr b) = a.1 ∙ sym b.1

after_one : (before : History) (happened : Event) (earlier some other : List SpaceKey) → KeptAfter before happened earlier some → KeptAfter before happened earlier other → some ≡ other
after_one before (event.Machine m) earlier some other a b = a ∙ sym b
after_one before (event.Cpu cpu given) earlier some other a b = a ∙ sym b
after_one before (event.Write at bytes) earlier some other a b = stay_one (memory (next before (event.Write at bytes))) earlier some other a b
after_one before (event.Set cpu change) earlier some other a b = a ∙ sym b
after_one before (event.Invlpg cpu address) earlier some other a b = a ∙ sym b
after_one before (event.Invpcid cpu kind pcid address) earlier some other a b = a ∙ sym b
after_one before (event.Ask cpu access pointer) earlier some other a b = a ∙ sym b
after_one before (event.List cpu) earlier some other a b = list_one (memory before) (machine before) (regs before cpu) earlier some other a b
after_one before (event.Point all) earlier some other a b = a ∙ sym b

pub kept_one : (history : History) (some other : List SpaceKey) → AreKept history some → AreKept history other → some ≡ other
kept_one (begun start) some other a b = a ∙ sym b
kept_one (next before happened) some other a b =
    let same : a.0 ≡ b.0 = kept_one before a.0 b.0 a.1 b.1 in
    after_one before happened b.0 some other (subst (λ earlier. KeptAfter before happened earlier some) same a.2) b.2

-- a list of kept spaces in a memory
pub record IsKeptList (memory : Memory) (keys : List SpaceKey) : Type 0 where
  pub few : length keys ≤ kept_limit
  pub distinct : AreDistinct keys
  pub within : (key : SpaceKey) → IsIn key keys → WithinIn memory key

-- fewer of them
record IsPart (part whole : List SpaceKey) : Type 0 where
  pub few : length part ≤ length whole
  pub in_whole : (key : SpaceKey) → IsIn key part → IsIn key whole

stay_part : (memory : Memory) (earlier keys : List SpaceKey) → StayKept memory earlier keys → IsPart keys earlier
stay_part memory [] keys stay = subst (λ list. IsPart list []) (sym stay) (record { few = omega arith; in_whole = λ key i. i })
stay_part memory (one ∷ rest) keys (inl stay) =
    let part = stay_part memory rest keys stay.1 in
    record { few = omega (arith, part.few); in_whole = λ key i. inr (part.in_whole key i) }
stay_part memory (one ∷ rest) keys (inr stay) =
    let part = stay_part memory rest stay.0 stay.2 in
    subst (λ list. IsPart list (one ∷ rest)) (sym stay.3) (record {
      few = omega (arith, part.few);
      in_whole = λ key i. elim i [ inl e ↦ inl e | inr there ↦ inr (part.in_whole key there) ];
    })

stay_distinct : (memory : Memory) (earlier keys : List SpaceKey) → AreDistinct earlier → StayKept memory earlier keys → AreDistinct keys
stay_distinct memory [] keys distinct stay = subst (λ list. AreDistinct list) (sym stay) tt
stay_distinct memory (one ∷ rest) keys distinct (inl stay) = stay_distinct memory rest keys distinct.1 stay.1
stay_distinct memory (one ∷ rest) keys distinct (inr stay) =
    let part = stay_part memory rest stay.0 stay.2 in
    subst (λ list. AreDistinct list) (sym stay.3) ((λ i. distinct.0 (part.in_whole one i)), stay_distinct memory rest stay.0 distinct.1 stay.2)

stay_within : (memory : Memory) (earlier keys : List SpaceKey) → StayKept memory earlier keys → (key : SpaceKey) → IsIn key keys → WithinIn memory key
stay_within memory [] keys stay key i = absurd (let none : IsIn key [] = subst (λ list. IsIn key list) stay i in none)
stay_within memory (one ∷ rest) keys (inl stay) key i = stay_within memory rest keys stay.1 key i
stay_within memory (one ∷ rest) keys (inr stay) key i = elim (subst (λ list. IsIn key list) stay.3 i) [
  | inl e ↦ subst (λ it. WithinIn memory it) (sym e) stay.1
  | inr there ↦ stay_within memory rest stay.0 stay.2 key there
]

-- the others of a list
without_where : (same : Bool) (key one other : SpaceKey) (others : List SpaceKey) → IsIn other (if same then others else one ∷ others) → IsIn other (one ∷ others)
without_where true key one other others i = inr i
without_where false key one other others i = i

without_in : (key : SpaceKey) (list : List SpaceKey) (other : SpaceKey) → IsIn other (without key list) → IsIn other list
without_in key [] other i = i
without_in key (one ∷ rest) other i = elim (without_where (same_key one key) key one other (without key rest) i) [
  | inl e ↦ inl e
  | inr there ↦ inr (without_in key rest other there)
]

none_where : (same : Bool) (key one : SpaceKey) (others : List SpaceKey) → (key ≡ one → same ≡ true) → (IsIn key others → ⊥)
    → IsIn key (if same then others else one ∷ others) → ⊥
none_where true key one others f none i = none i
none_where false key one others f none (inl e) = absurd (let same : false ≡ true = f e in cc)
none_where false key one others f none (inr i) = none i

without_none : (key : SpaceKey) (list : List SpaceKey) → IsIn key (without key list) → ⊥
without_none key [] i = i
without_none key (one ∷ rest) i =
    none_where (same_key one key) key one (without key rest) (λ is_one. subst (λ it. same_key one it ≡ true) (sym is_one) (same_key-self one)) (without_none key rest) i

distinct_where : (same : Bool) (one : SpaceKey) (others : List SpaceKey) → (IsIn one others → ⊥) → AreDistinct others
    → AreDistinct (if same then others else one ∷ others)
distinct_where true one others other distinct = distinct
distinct_where false one others other distinct = (other, distinct)

without_distinct : (key : SpaceKey) (list : List SpaceKey) → AreDistinct list → AreDistinct (without key list)
without_distinct key [] distinct = tt
without_distinct key (one ∷ rest) distinct =
    distinct_where (same_key one key) one (without key rest) (λ i. distinct.0 (without_in key rest one i)) (without_distinct key rest distinct.1)

take_in : (n : ℕ) (list : List SpaceKey) (key : SpaceKey) → IsIn key (take n list) → IsIn key list
take_in zero list key i = absurd i
take_in (suc n) [] key i = i
take_in (suc n) (one ∷ rest) key (inl e) = inl e
take_in (suc n) (one ∷ rest) key (inr i) = inr (take_in n rest key i)

take_distinct : (n : ℕ) (list : List SpaceKey) → AreDistinct list → AreDistinct (take n list)
take_distinct zero list distinct = tt
take_distinct (suc n) [] distinct = tt
take_distinct (suc n) (one ∷ rest) distinct = ((λ i. distinct.0 (take_in n rest one i)), take_distinct n rest distinct.1)

listed_kept : (memory : Memory) (key : SpaceKey) (earlier : List SpaceKey) → WithinIn memory key → IsKeptList memory earlier → IsKeptList memory (listed_first key earlier)
listed_kept memory key earlier within list = record {
  few = omega (arith, length-take kept_limit (key ∷ without key earlier));
  distinct = take_distinct kept_limit (key ∷ without key earlier) (without_none key earlier, without_distinct key earlier list.distinct);
  within = λ one i. by_place one (take_in kept_limit (key ∷ without key earlier) one i);
}
  where
    by_place : (one : SpaceKey) → IsIn one (key ∷ without key earlier) → WithinIn memory one
    by_place one (inl e) = subst (λ it. WithinIn memory it) (sym e) within
    by_place one (inr there) = list.within one (without_in key earlier one there)

same_kept : {memory : Memory} (earlier keys : List SpaceKey) → IsKeptList memory earlier → keys ≡ earlier → IsKeptList memory keys
same_kept {memory = memory} earlier keys list same = subst (λ one. IsKeptList memory one) (sym same) list

list_kept : (memory : Memory) (machine : Machine) (now : Option Regs) (earlier keys : List SpaceKey) → IsKeptList memory earlier
    → KeptAfterList memory machine now earlier keys → IsKeptList memory keys
list_kept memory machine None earlier keys list same = same_kept earlier keys list same
list_kept memory machine (Some known) earlier keys list (inl a) = same_kept earlier keys list a.1
list_kept memory machine (Some known) earlier keys list (inr a) =
    same_kept (listed_first (space_of machine known) earlier) keys (listed_kept memory (space_of machine known) earlier a.0 list) a.1

stay_kept : (before after : Memory) (earlier keys : List SpaceKey) → IsKeptList before earlier → StayKept after earlier keys → IsKeptList after keys
stay_kept before after earlier keys list stay =
    let part = stay_part after earlier keys stay in
    record {
      few = omega (arith, part.few, list.few);
      distinct = stay_distinct after earlier keys list.distinct stay;
      within = stay_within after earlier keys stay;
    }

after_kept : (before : History) (happened : Event) (earlier keys : List SpaceKey) → IsKeptList (memory before) earlier → KeptAfter before happened earlier keys
    → IsKeptList (memory (next before happened)) keys
after_kept before (event.Machine m) earlier keys list same = same_kept earlier keys list same
after_kept before (event.Cpu cpu given) earlier keys list same = same_kept earlier keys list same
after_kept before (event.Write at bytes) earlier keys list stay = stay_kept (memory before) (memory (next before (event.Write at bytes))) earlier keys list stay
after_kept before (event.Set cpu change) earlier keys list same = same_kept earlier keys list same
after_kept before (event.Invlpg cpu address) earlier keys list same = same_kept earlier keys list same
after_kept before (event.Invpcid cpu kind pcid address) earlier keys list same = same_kept earlier keys list same
after_kept before (event.Ask cpu access pointer) earlier keys list same = same_kept earlier keys list same
after_kept before (event.List cpu) earlier keys list kept = list_kept (memory before) (machine before) (regs before cpu) earlier keys list kept
after_kept before (event.Point all) earlier keys list same = same_kept earlier keys list same

pub kept_list : (history : History) (keys : List SpaceKey) → AreKept history keys → IsKeptList (memory history) keys
kept_list (begun start) keys same =
    subst (λ one. IsKeptList (memory (begun start)) one) (sym same) (record { few = omega arith; distinct = tt; within = λ key i. absurd i })
kept_list (next before happened) keys kept = after_kept before happened kept.0 keys (kept_list before kept.0 kept.1) kept.2
