-- Lists of hosts: finding one, inserting one, and noting an event at one.
use Rattle.std.proofs.Common.{◌≡◌, ◌≢◌, ℕ, zero, suc, ◌<◌, ◌≤◌, ◌+◌, Bool, true, false, cond, List, [], ◌∷◌, length, get_or, set, Option, Some, None, Result, Ok, Err, OnOk, OnErr, refl, sym, subst, ap, ◌∙◌, arith}
use Rattle.std.specs.Prelude.{◌==◌, not, nat_lt, insert, position, unwrap_or}
use Rattle.std.specs.List.{All, position_or_len}
use Rattle.std.proofs.lemmas.Bool.{eqb-true, ne_eqb}
use Rattle.std.proofs.lemmas.Bool.Decides.{nat_tests}
use Rattle.std.proofs.lemmas.List.{length-map, get_or-map}
use Rattle.std.proofs.lemmas.List.Elements.{All-set, All-weaker}
use Rattle.std.proofs.lemmas.List.Quantifiers.{position-Some}
use Rattle.paging_model.specs.declared.registers.Processor.{Processor}
use Rattle.paging_model.specs.declared.registers.Regs.{Regs}
use Rattle.elf_core.specs.ProcessorLists.{has_number}
use Rattle.history_model.specs.History.{insert_processor, regs_in}
use Rattle.history_model.specs.declared.events.Event.{Event}
use Rattle.cache_rules.specs.Hosts.{Keeping, IsBefore, IsNoted, removal_times, stay_times}
use Rattle.audit_core.specs.HostLists.{AreBefore, IsHostAt, NotesAt, insert_host, is_host_of_greater, is_host_of_number, processor_of, processors_of}
use Rattle.audit_core.specs.ProcessorNumbers.{HaveDistinctNumbers, has_greater_number}
use Rattle.audit_core.proofs.ProcessorNumbers.{distinct_insert, none_found, regs_at}

-- ---- a list of hosts, and that of their processors

-- an index is the same in both lists
position_or_len-hosts : (cpu : ℕ) (hosts : List Keeping)
    → position_or_len (is_host_of_number cpu) hosts ≡ position_or_len (has_number cpu) (processors_of hosts)
position_or_len-hosts cpu [] = refl
position_or_len-hosts cpu (one ∷ rest) =
    ap (λ (n : ℕ). cond (not (one.number == cpu)) (1 + n) 0) (position_or_len-hosts cpu rest)

position-hosts : (cpu : ℕ) (hosts : List Keeping)
    → position (is_host_of_number cpu) hosts ≡ position (has_number cpu) (processors_of hosts)
position-hosts cpu hosts =
    let same = position_or_len-hosts cpu hosts in
    let long : length (processors_of hosts) ≡ length hosts = length-map hosts processor_of in
    rw (same, long) refl

greater-hosts : (number : ℕ) (hosts : List Keeping)
    → position_or_len (is_host_of_greater number) hosts ≡ position_or_len (has_greater_number number) (processors_of hosts)
greater-hosts number [] = refl
greater-hosts number (one ∷ rest) =
    ap (λ (n : ℕ). cond (not (nat_lt number one.number)) (1 + n) 0) (greater-hosts number rest)

-- a host among others is its processor among theirs
pub processors_insert : (host : Keeping) (hosts : List Keeping)
    → processors_of (insert_host host hosts) ≡ insert_processor (processor_of host) (processors_of hosts)
processors_insert host [] = refl
processors_insert host (one ∷ rest) =
    elim (nat_lt host.number one.number)
    as (λ before. processors_of (cond before (host ∷ one ∷ rest) (one ∷ insert_host host rest))
    ≡ cond before (processor_of host ∷ processor_of one ∷ processors_of rest)
    (processor_of one ∷ insert_processor (processor_of host) (processors_of rest))) [
      | true ↦ refl
      | false ↦ ap (λ after. processor_of one ∷ after) (processors_insert host rest)
    ]

-- ---- inserting one

-- the index is in the list or at its end
pub host_index_within : (test : Keeping → Bool) (hosts : List Keeping) → position_or_len test hosts ≤ length hosts
host_index_within test [] = omega arith
host_index_within test (one ∷ rest) =
    elim (test one) as (λ there. cond (not there) (1 + position_or_len test rest) 0 ≤ length (one ∷ rest)) [
      | true ↦ omega arith
      | false ↦ omega (arith, host_index_within test rest)
    ]

-- the end stands for an index that isn't found
pub host_index_is : (test : Keeping → Bool) (hosts : List Keeping)
    → unwrap_or (position test hosts) (length hosts) ≡ position_or_len test hosts
host_index_is test hosts = ends (position_or_len test hosts) (length hosts) (host_index_within test hosts)
  where
    ends : (index n : ℕ) → index ≤ n → unwrap_or (cond (nat_lt index n) (Some index) None) n ≡ index
    ends index n within = grind (arith, nat_tests)

-- a host is inserted before the first one of a greater number
pub insert_host_is : (host : Keeping) (hosts : List Keeping)
    → insert hosts (position_or_len (is_host_of_greater host.number) hosts) host ≡ insert_host host hosts
insert_host_is host [] = refl
insert_host_is host (one ∷ rest) =
    let later = position_or_len (is_host_of_greater host.number) rest in
    elim (nat_lt host.number one.number)
    as (λ before. insert (one ∷ rest) (cond (not before) (1 + later) 0) host
    ≡ cond before (host ∷ one ∷ rest) (one ∷ insert_host host rest)) [
      | true ↦ refl
      | false ↦
          let next : 1 + later ≡ suc later = omega arith in
          rw next (ap (λ after. one ∷ after) (insert_host_is host rest))
    ]

-- numbers stay distinct where a host of a new number is inserted
pub distinct_insert_host : (host : Keeping) (hosts : List Keeping) → HaveDistinctNumbers (processors_of hosts)
    → regs_in (processors_of hosts) host.number ≡ None → HaveDistinctNumbers (processors_of (insert_host host hosts))
distinct_insert_host host hosts distinct new =
    subst HaveDistinctNumbers (sym (processors_insert host hosts))
    (distinct_insert (processor_of host) (processors_of hosts) distinct new)

-- what holds of a host and of others holds of each once it is inserted
pub all_insert_host : (P : Keeping → Type 0) (host : Keeping) (hosts : List Keeping) → P host → All P hosts
    → All P (insert_host host hosts)
all_insert_host P host [] holds all = λ k d within. elim k as (λ k. k < 1 → P (get_or (host ∷ []) k d)) [
  | zero ↦ λ w. holds
  | suc k ↦ λ w. absurd (omega arith)
] within
all_insert_host P host (one ∷ rest) holds all =
    elim (nat_lt host.number one.number) as (λ before. All P (cond before (host ∷ one ∷ rest) (one ∷ insert_host host rest))) [
      | true ↦ onto P host (one ∷ rest) holds all
      | false ↦ onto P one (insert_host host rest) (all zero host (omega arith))
          (all_insert_host P host rest holds (λ k d within. all (suc k) d (omega arith)))
    ]
  where
    onto : (P : Keeping → Type 0) (one : Keeping) (rest : List Keeping) → P one → All P rest → All P (one ∷ rest)
    onto P one rest holds all zero d within = holds
    onto P one rest holds all (suc k) d within = all k d (omega arith)

-- ---- finding one

-- an index that is found is in the list
found-within : (p n index : ℕ) → cond (nat_lt p n) (Some p) None ≡ Some index → index < n
found-within p n index h = grind (arith, nat_tests)

-- no host of the list has a number that isn't known
none-known : (hosts : List Keeping) (k : ℕ) (d : Keeping) (n : ℕ) → HaveDistinctNumbers (processors_of hosts)
    → regs_in (processors_of hosts) n ≡ None → k < length hosts → (get_or hosts k d).number ≢ n
none-known hosts k d n distinct none inside same =
    let long : length (processors_of hosts) ≡ length hosts = length-map hosts processor_of in
    let at = get_or-map processor_of hosts k d (processor_of d) inside in
    let known = regs_at (processors_of hosts) k (processor_of d) distinct (omega (arith, long)) in
    let here = subst (λ (one : Processor). regs_in (processors_of hosts) one.number ≡ Some one.regs) at known in
    let there = subst (λ m. regs_in (processors_of hosts) m ≡ Some (get_or hosts k d).regs) same here in
    let never = sym none ∙ there in
    cc

-- two hosts have two numbers
pub numbers-apart : (hosts : List Keeping) (i k : ℕ) (d : Keeping) → HaveDistinctNumbers (processors_of hosts)
    → i < length hosts → k < length hosts → k ≢ i → ((get_or hosts k d).number == (get_or hosts i d).number) ≡ false
numbers-apart [] i k d distinct within inside apart = absurd (omega arith)
numbers-apart (one ∷ rest) zero zero d distinct within inside apart = absurd (apart refl)
numbers-apart (one ∷ rest) zero (suc k) d distinct within inside apart =
    ne_eqb (get_or rest k d).number one.number
    (λ same. none-known rest k d one.number distinct.1 distinct.0 (omega arith) same)
numbers-apart (one ∷ rest) (suc i) zero d distinct within inside apart =
    ne_eqb one.number (get_or rest i d).number
    (λ same. none-known rest i d one.number distinct.1 distinct.0 (omega arith) (sym same))
numbers-apart (one ∷ rest) (suc i) (suc k) d distinct within inside apart =
    numbers-apart rest i k d distinct.1 (omega arith) (omega arith) (λ same. apart (ap suc same))

-- the host of a processor, by the index at which it is found
pub host_found : (cpu : ℕ) (hosts : List Keeping) (index : ℕ) → HaveDistinctNumbers (processors_of hosts)
    → position (is_host_of_number cpu) hosts ≡ Some index → IsHostAt hosts cpu index
host_found cpu hosts index distinct h =
    let within = found-within (position_or_len (is_host_of_number cpu) hosts) (length hosts) index h in
    record {
      within = within;
      number_is = λ d. number-at d;
      regs_are = λ d. regs-at d within;
      distinct = distinct;
    }
  where
    number-at : (d : Keeping) → (get_or hosts index d).number ≡ cpu
    number-at d = eqb-true (get_or hosts index d).number cpu (position-Some (is_host_of_number cpu) hosts index d h).1

    regs-at : (d : Keeping) → index < length hosts
        → regs_in (processors_of hosts) cpu ≡ Some (get_or hosts index d).regs
    regs-at d within =
        let long : length (processors_of hosts) ≡ length hosts = length-map hosts processor_of in
        let at = get_or-map processor_of hosts index d (processor_of d) within in
        let known = regs_at (processors_of hosts) index (processor_of d) distinct (omega (arith, long)) in
        subst (λ n. regs_in (processors_of hosts) n ≡ Some (get_or hosts index d).regs) (number-at d)
        (subst (λ (one : Processor). regs_in (processors_of hosts) one.number ≡ Some one.regs) at known)

-- a number that isn't found isn't known
pub host_not_found : (cpu : ℕ) (hosts : List Keeping) → position (is_host_of_number cpu) hosts ≡ None
    → regs_in (processors_of hosts) cpu ≡ None
host_not_found cpu hosts h = none_found cpu (processors_of hosts) (sym (position-hosts cpu hosts) ∙ h)

-- ---- what was noted is before a time

later-before : (host : Keeping) (t u : ℕ) → t ≤ u → IsBefore host t → IsBefore host u
later-before host t u order before = record {
  removals = All-weaker (λ v. v < t) (λ v. v < u) (λ v h. omega (arith, h, order)) (removal_times host) before.removals;
  past = All-weaker (λ v. v < t) (λ v. v < u) (λ v h. omega (arith, h, order)) (stay_times host) before.past;
}

pub hosts_later : (hosts : List Keeping) (t u : ℕ) → t ≤ u → AreBefore t hosts → AreBefore u hosts
hosts_later hosts t u order before =
    All-weaker (λ host. IsBefore host t) (λ host. IsBefore host u) (λ host. later-before host t u order) hosts before

-- ---- noting an event at one

-- numbers stay distinct where a host is replaced by one of its number
pub distinct_set_host : (hosts : List Keeping) (index : ℕ) (d host : Keeping) → HaveDistinctNumbers (processors_of hosts)
    → index < length hosts → host.number ≡ (get_or hosts index d).number
    → HaveDistinctNumbers (processors_of (set hosts index host))
distinct_set_host [] index d host distinct within same = absurd (omega arith)
distinct_set_host (one ∷ rest) zero d host distinct within same = (subst (λ n. regs_in (processors_of rest) n ≡ None) (sym same) distinct.0, distinct.1)
distinct_set_host (one ∷ rest) (suc index) d host distinct within same = (
  none-set rest index d host one.number (omega arith) same distinct.0,
  distinct_set_host rest index d host distinct.1 (omega arith) same,
)
  where
    chosen-none : (b : Bool) (known : Regs) (other : Option Regs) → cond b (Some known) other ≡ None
        → (b ≡ false) × (other ≡ None)
    chosen-none true known other h = absurd cc
    chosen-none false known other h = (refl, h)

    none-set : (hosts : List Keeping) (index : ℕ) (d host : Keeping) (n : ℕ) → index < length hosts
        → host.number ≡ (get_or hosts index d).number → regs_in (processors_of hosts) n ≡ None
        → regs_in (processors_of (set hosts index host)) n ≡ None
    none-set [] index d host n within same none = absurd (omega arith)
    none-set (one ∷ rest) zero d host n within same none =
        let apart = chosen-none (one.number == n) one.regs (regs_in (processors_of rest) n) none in
        rw (same, apart.0) apart.1
    none-set (one ∷ rest) (suc index) d host n within same none =
        let apart = chosen-none (one.number == n) one.regs (regs_in (processors_of rest) n) none in
        rw apart.0 (none-set rest index d host n (omega arith) same apart.1)

-- what was before a time at an index
pub before_at : (seen hosts : List Keeping) (host : Keeping) (index now : ℕ) → seen ≡ hosts → AreBefore now seen
    → index < length seen → host ≡ get_or hosts index host → IsBefore host now
before_at seen hosts host index now same before within is =
    subst (λ (one : Keeping). IsBefore one now) (sym is)
    (subst (λ list. AreBefore now list) same before index host (subst (λ list. index < length list) same within))

-- a host keeps its number, whether it notes an event or memory runs out
same-number : {E : Type 0} (result : Result (Unit {0}) E) (host new : Keeping) (now : ℕ) (happened : Event) (after : Regs)
    → OnOk result (IsNoted host now happened after new) → OnErr result (new ≡ host) → new.number ≡ host.number
same-number (Ok _) host new now happened after noted same = rw noted.is refl
same-number (Err _) host new now happened after noted same = ap (λ (one : Keeping). one.number) same

-- numbers stay distinct where a host notes an event, or where memory runs out
pub distinct_noted : {E : Type 0} (result : Result (Unit {0}) E) (seen hosts : List Keeping) (host new : Keeping)
    (index now : ℕ) (happened : Event) (after : Regs) → seen ≡ hosts → index < length seen
    → host ≡ get_or hosts index host → HaveDistinctNumbers (processors_of hosts)
    → OnOk result (IsNoted host now happened after new) → OnErr result (new ≡ host)
    → HaveDistinctNumbers (processors_of (set hosts index new))
distinct_noted result seen hosts host new index now happened after same within is distinct noted unchanged =
    distinct_set_host hosts index host new distinct (subst (λ list. index < length list) same within)
    (same-number result host new now happened after noted unchanged ∙ ap (λ (one : Keeping). one.number) is)

-- an event is noted at an index
pub notes_at : (seen hosts : List Keeping) (host new : Keeping) (index now : ℕ) (happened : Event) (after : Regs)
    → seen ≡ hosts → index < length seen → host ≡ get_or hosts index host
    → IsNoted host now happened after new → NotesAt index now happened after seen (set hosts index new)
notes_at seen hosts host new index now happened after same within is noted = record {
  host = new;
  noted = λ d.
      let inside = subst (λ list. index < length list) same within in
      subst (λ list. IsNoted (get_or list index d) now happened after new) (sym same)
      (subst (λ (one : Keeping). IsNoted one now happened after new) (is ∙ any-default hosts index host d inside) noted);
  is = ap (λ list. set list index new) (sym same);
}
  where
    any-default : (list : List Keeping) (k : ℕ) (d e : Keeping) → k < length list → get_or list k d ≡ get_or list k e
    any-default [] k d e within = absurd (omega arith)
    any-default (one ∷ rest) zero d e within = refl
    any-default (one ∷ rest) (suc k) d e within = any-default rest k d e (omega arith)

-- each has then noted nothing at a later time
pub before_noted : (seen hosts : List Keeping) (new : Keeping) (index now : ℕ) → seen ≡ hosts → AreBefore now seen
    → IsBefore new (now + 1) → AreBefore (now + 1) (set hosts index new)
before_noted seen hosts new index now same before later =
    All-set (λ host. IsBefore host (now + 1)) hosts index new later
    (hosts_later hosts now (now + 1) (omega arith) (subst (λ list. AreBefore now list) same before))
