-- Hosts stand for the beginning: those of the core, and one more.
use Rattle.std.proofs.Common.{◌≡◌, ◌≢◌, ℕ, zero, suc, ◌<◌, ◌≤◌, ◌+◌, drop, Bool, true, false, cond, List, [], ◌∷◌, length, get_or, Option, Some, None, refl, sym, subst, ap, ◌∙◌, arith}
use Rattle.std.specs.Prelude.{◌==◌, nat_lt}
use Rattle.std.proofs.lemmas.Bool.{eq-eqb, ne_eqb}
use Rattle.std.proofs.lemmas.List.{length-map, get_or-map}
use Rattle.paging_model.specs.declared.registers.Machine.{Machine}
use Rattle.paging_model.specs.declared.registers.Processor.{Processor}
use Rattle.paging_model.specs.declared.registers.Regs.{Regs}
use Rattle.history_model.specs.History.{Start, begun, insert_processor, insert_processors, regs_in, with_processor}
use Rattle.cache_rules.specs.Hosts.{Keeping, IsBefore, new_host}
use Rattle.cache_rules.specs.Standing.{IsHostOf}
use Rattle.cache_rules.proofs.StartLaws.{new-stands, other-stands}
use Rattle.audit_core.specs.HostLists.{AreBefore, AreHostsOf, AreNewHosts, insert_host, processor_of, processors_of}
use Rattle.audit_core.specs.ProcessorNumbers.{HaveDistinctNumbers, HaveNewNumbers}
use Rattle.audit_core.proofs.HostLaws.{all_insert_host, processors_insert}
use Rattle.audit_core.proofs.ProcessorNumbers.{distinct_insert, regs_at}

-- the registers of the host at an index
known-at : (hosts : List Keeping) (k : ℕ) (d : Keeping) → HaveDistinctNumbers (processors_of hosts) → k < length hosts
    → regs_in (processors_of hosts) (get_or hosts k d).number ≡ Some (get_or hosts k d).regs
known-at hosts k d distinct within =
    let long : length (processors_of hosts) ≡ length hosts = length-map hosts processor_of in
    let at = get_or-map processor_of hosts k d (processor_of d) within in
    let known = regs_at (processors_of hosts) k (processor_of d) distinct (omega (arith, long)) in
    subst (λ (one : Processor). regs_in (processors_of hosts) one.number ≡ Some one.regs) at known

-- the hosts of a core are those of its beginning
pub new_hosts_are : (start : Start) (hosts : List Keeping) → AreNewHosts start.machine hosts
    → start.processors ≡ processors_of hosts → HaveDistinctNumbers (processors_of hosts) → AreHostsOf (begun start) hosts
new_hosts_are start hosts new processors_are distinct k d within =
    let host = get_or hosts k d in
    let known = known-at hosts k d distinct within in
    subst (λ (one : Keeping). IsHostOf one (begun start)) (sym (new k d within))
    (new-stands start host.number host.regs (subst (λ list. regs_in list host.number ≡ Some host.regs) (sym processors_are) known))

-- ---- one processor more

-- a choice of a value and a rest is none where the rest is none and chosen
none-chosen : (b : Bool) (known : Regs) (rest : Option Regs) → cond b (Some known) rest ≡ None → (b ≡ false) × (rest ≡ None)
none-chosen true known rest h = absurd cc
none-chosen false known rest h = (refl, h)

-- its registers are those of its number
own-inserted : (one : Processor) (processors : List Processor) → regs_in processors one.number ≡ None
    → regs_in (insert_processor one processors) one.number ≡ Some one.regs
own-inserted one [] none = rw (eq-eqb one.number one.number refl) refl
own-inserted one (first ∷ rest) none =
    let apart = none-chosen (first.number == one.number) first.regs (regs_in rest one.number) none in
    elim (nat_lt one.number first.number)
    as (λ before. regs_in (cond before (one ∷ first ∷ rest) (first ∷ insert_processor one rest)) one.number ≡ Some one.regs) [
      | true ↦ rw (eq-eqb one.number one.number refl) refl
      | false ↦ rw apart.0 (own-inserted one rest apart.1)
    ]

-- those of the others stay
other-inserted : (one : Processor) (processors : List Processor) (n : ℕ) → (one.number == n) ≡ false
    → regs_in (insert_processor one processors) n ≡ regs_in processors n
other-inserted one [] n other = rw other refl
other-inserted one (first ∷ rest) n other =
    elim (nat_lt one.number first.number)
    as (λ before. regs_in (cond before (one ∷ first ∷ rest) (first ∷ insert_processor one rest)) n ≡ regs_in (first ∷ rest) n) [
      | true ↦ rw other refl
      | false ↦ ap (λ found. cond (first.number == n) (Some first.regs) found) (other-inserted one rest n other)
    ]

-- the hosts, with a new one, are those of the beginning with its processor
pub hosts_with_one : (start : Start) (hosts : List Keeping) (number : ℕ) (known : Regs) → AreHostsOf (begun start) hosts
    → start.processors ≡ processors_of hosts → regs_in (processors_of hosts) number ≡ None
    → AreHostsOf (begun (with_processor (record { number = number; regs = known }) start))
    (insert_host (new_host number known start.machine) hosts)
hosts_with_one start hosts number known stand processors_are none =
    let one : Processor = record { number = number; regs = known } in
    let unknown : regs_in start.processors number ≡ None = rw processors_are none in
    all_insert_host (λ host. IsHostOf host (begun (with_processor one start))) (new_host number known start.machine) hosts
    (new-stands (with_processor one start) number known (own-inserted one start.processors unknown))
    (λ k d within.
    let host = get_or hosts k d in
    let stands : IsHostOf host (begun start) = stand k d within in
    let apart : number ≢ host.number = λ same. (
    let there : regs_in start.processors number ≡ Some host.regs = subst (λ n. regs_in start.processors n ≡ Some host.regs) (sym same) stands.is_known in
    let never = sym unknown ∙ there in
    cc
    ) in
    other-stands host start (with_processor one start) stands
    (other-inserted one start.processors host.number (ne_eqb number host.number apart) ∙ stands.is_known) refl)

-- no hosts
pub no_hosts : (hosts : List Keeping) (start : Start) → length hosts ≡ 0 → AreHostsOf (begun start) hosts
no_hosts hosts start none k d within = absurd (omega (arith, within, none))

-- ---- the hosts of a core, one after another

-- what holds of the hosts so far and of the processors that are left, until all are inserted
pub record IsUnderway (machine : Machine) (hosts : List Keeping) (left all : List Processor) : Type 0 where
  pub new : HaveNewNumbers (processors_of hosts) left
  pub leads : insert_processors (processors_of hosts) left ≡ insert_processors [] all
  pub hosts_are : AreNewHosts machine hosts
  pub distinct : HaveDistinctNumbers (processors_of hosts)

pub goes_on : (machine : Machine) (hosts more : List Keeping) (one : Processor) (left all : List Processor)
    → IsUnderway machine hosts (one ∷ left) all → more ≡ insert_host (new_host one.number one.regs machine) hosts
    → IsUnderway machine more left all
goes_on machine hosts more one left all underway is =
    let host = new_host one.number one.regs machine in
    let inserted : processors_of more ≡ insert_processor one (processors_of hosts) = rw is (processors_insert host hosts) in
    record {
      new = subst (λ list. HaveNewNumbers list left) (sym inserted) underway.new.1;
      leads = ap (λ list. insert_processors list left) inserted ∙ underway.leads;
      hosts_are = subst (AreNewHosts machine) (sym is)
          (all_insert_host (λ host. host ≡ new_host host.number host.regs machine) host hosts refl underway.hosts_are);
      distinct = subst HaveDistinctNumbers (sym inserted)
          (distinct_insert one (processors_of hosts) underway.distinct underway.new.0);
    }

-- at the end nothing is left
pub all_underway : (machine : Machine) (hosts : List Keeping) (all : List Processor) (index : ℕ) → length all ≤ index
    → IsUnderway machine hosts (drop index all) all → processors_of hosts ≡ insert_processors [] all
all_underway machine hosts all index end underway =
    subst (λ list. insert_processors (processors_of hosts) list ≡ insert_processors [] all) (drop_all all index end) underway.leads
  where
    drop_all : (list : List Processor) (n : ℕ) → length list ≤ n → drop n list ≡ []
    drop_all [] zero h = refl
    drop_all [] (suc n) h = refl
    drop_all (one ∷ rest) zero h = absurd (omega arith)
    drop_all (one ∷ rest) (suc n) h = drop_all rest n (omega arith)

-- a new host has noted nothing after the beginning
new-before : (number : ℕ) (known : Regs) (machine : Machine) (time : ℕ) → IsBefore (new_host number known machine) (time + 1)
new-before number known machine time = record {
  removals = λ k d within. absurd (omega arith);
  past = one-before;
}
  where
    one-before : (k d : ℕ) → k < 1 → get_or (0 ∷ []) k d < time + 1
    one-before zero d within = omega arith
    one-before (suc k) d within = absurd (omega arith)

pub new_hosts_before : (machine : Machine) (hosts : List Keeping) → AreNewHosts machine hosts → AreBefore 1 hosts
new_hosts_before machine hosts new k d within =
    let host = get_or hosts k d in
    subst (λ (one : Keeping). IsBefore one 1) (sym (new k d within)) (new-before host.number host.regs machine 0)

pub before_with_one : (hosts new : List Keeping) (number : ℕ) (known : Regs) (machine : Machine) (time : ℕ)
    → AreBefore (time + 1) hosts → new ≡ insert_host (new_host number known machine) hosts → AreBefore (time + 1) new
before_with_one hosts new number known machine time before is =
    subst (AreBefore (time + 1)) (sym is)
    (all_insert_host (λ host. IsBefore host (time + 1)) (new_host number known machine) hosts
    (new-before number known machine time) before)
