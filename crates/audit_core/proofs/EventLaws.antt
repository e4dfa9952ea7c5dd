-- What a session has of a moment once it went on by an event that is noted, and by one that no processor executes.
use Rattle.std.proofs.Common.{◌≡◌, ◌≢◌, ℕ, ◌+◌, Bool, true, false, List, [], ◌∷◌, length, get_or, set, Some, None, Result, Ok, Err, OnOk, IfOk, IfErr, refl, sym, subst, ap, ◌∙◌, arith}
use Rattle.std.specs.Prelude.{◌==◌, if◌then◌else◌}
use Rattle.std.proofs.lemmas.Bool.{ne_eqb, eqb-true, eqb-false}
use Rattle.std.proofs.lemmas.List.{length-map, get_or-map, map-set}
use Rattle.std.proofs.Math.Seq.{map-set_same}
use Rattle.paging_model.specs.Memory.{Memory, byte_in}
use Rattle.paging_model.specs.Registers.{la57}
use Rattle.paging_model.specs.RegisterRules.{with_change}
use Rattle.paging_model.specs.declared.access.Access.{Access}
use Rattle.paging_model.specs.declared.registers.Processor.{Processor}
use Rattle.paging_model.specs.declared.registers.RegChange.{RegChange}
use Rattle.paging_model.specs.declared.registers.Regs.{Regs}
use Rattle.paging_model.specs.declared.spaces.SpaceKey.{SpaceKey}
use Rattle.history_model.specs.Asking.{answer_to_ask}
use Rattle.history_model.specs.History.{History, Start, after_event, begun, insert_processor, insert_processors, memory, next, page_of, pages, processors, regs, regs_in, set_in, with_bytes, with_number, with_processor}
use Rattle.history_model.specs.KeptSpaces.{KeptAfter, StayKept}
use Rattle.history_model.specs.Refusals.{cpu_refusal, if_unknown}
use Rattle.history_model.specs.declared.answers.Answer.{Answer}
use Rattle.history_model.specs.declared.answers.Answer.TheVariants.{Asked, Nothing}
use Rattle.history_model.specs.declared.answers.Why.{Why}
use Rattle.history_model.specs.declared.events.Event.{Event}
use Rattle.history_model.specs.declared.events.Event.TheVariants as event
use Rattle.history_model.specs.declared.faults.StepFault.{StepFault}
use Rattle.history_model.specs.declared.faults.StepFault.TheVariants as fault
use Rattle.elf_core.specs.declared.core_file.Core.{Core}
use Rattle.phys_view.specs.Seen.{Seen, memory_of, written_pages}
use Rattle.space_map.specs.declared.space.Space.{Space}
use Rattle.kept_spaces.specs.Keys.{keys_of}
use Rattle.kept_spaces.specs.Updating.{AreUpdated}
use Rattle.version_store.specs.WrittenChanges.{kept_changes}
use Rattle.cache_rules.specs.Hosts.{Keeping, new_host}
use Rattle.audit_core.specs.HostLists.{AreHostsOf, AreNewHosts, Invalidates, Notes, NotesAt, SetsRegister, insert_host, processor_of, processors_of}
use Rattle.audit_core.specs.Remembering.{KeepsWrite, Remembering}
use Rattle.audit_core.specs.ProcessorNumbers.{HaveDistinctNumbers, known_invpcid_refusal, set_refusal}
use Rattle.audit_core.specs.Standing.{Holding, HasAllOf, core_start}
use Rattle.audit_core.specs.Stepping.{AcceptsEvent}
use Rattle.audit_core.proofs.NotingLaws.{LeavesOthers, hosts-noted, hosts_after_ask, hosts_after_write, la57-kept}
use Rattle.audit_core.proofs.HostLaws.{processors_insert}
use Rattle.audit_core.proofs.StartLaws.{hosts_with_one, new_hosts_are}
use Rattle.audit_core.proofs.ProcessorNumbers.{set_at}

-- a session after an event that leaves it these hosts
abbrev pub with_hosts : Holding → List Keeping → Holding
with_hosts holding hosts = record holding { happened = holding.happened + 1; hosts = hosts }

-- a session with other memory and spaces, after an event
abbrev pub with_memory : Holding → Remembering → List Space → Holding
with_memory holding memory spaces =
    record holding { happened = holding.happened + 1; seen = memory.seen; kept = memory.kept; spaces = spaces }

-- what is known of memory at a moment
abbrev memory_in : History → Memory
memory_in moment = memory moment

sym-false : (m n : ℕ) → (m == n) ≡ false → (n == m) ≡ false
sym-false m n h = ne_eqb n m (λ is. eqb-false m n h (sym is))

-- the registers of one processor don't change those of another
other-of-first : (n cpu : ℕ) (made : RegChange) (one : Processor) (rest after : List Processor) (same : Bool)
    → (one.number == cpu) ≡ same → (n == cpu) ≡ false → regs_in after n ≡ regs_in rest n
    → regs_in ((if same then (record one { regs = with_change made one.regs }) else one) ∷ after) n ≡ regs_in (one ∷ rest) n
other-of-first n cpu made one rest after true is other later =
    let apart : (one.number == n) ≡ false =
    subst (λ m. (m == n) ≡ false) (sym (eqb-true one.number cpu is)) (sym-false n cpu other) in
    rw apart later
other-of-first n cpu made one rest after false is other later =
    ap (λ found. if one.number == n then Some one.regs else found) later

set_in-other : (n cpu : ℕ) (made : RegChange) (processors : List Processor) → (n == cpu) ≡ false
    → regs_in (set_in cpu made processors) n ≡ regs_in processors n
set_in-other n cpu made [] other = refl
set_in-other n cpu made (one ∷ rest) other =
    other-of-first n cpu made one rest (set_in cpu made rest) (one.number == cpu) refl other
    (set_in-other n cpu made rest other)

-- the new registers of a processor
own-of-first : (cpu : ℕ) (made : RegChange) (one : Processor) (rest after : List Processor) (known : Regs) (same : Bool)
    → (one.number == cpu) ≡ same → (if same then Some one.regs else regs_in rest cpu) ≡ Some known
    → (regs_in rest cpu ≡ Some known → regs_in after cpu ≡ Some (with_change made known))
    → regs_in ((if same then (record one { regs = with_change made one.regs }) else one) ∷ after) cpu
    ≡ Some (with_change made known)
own-of-first cpu made one rest after known true is found later =
    rw is (ap (λ r. Some (with_change made r)) (same-some one.regs known found))
  where
    same-some : (one other : Regs) → Some one ≡ Some other → one ≡ other
    same-some one other h = cc
own-of-first cpu made one rest after known false is found later = rw is (later found)

set_in-own : (cpu : ℕ) (made : RegChange) (processors : List Processor) (known : Regs)
    → regs_in processors cpu ≡ Some known → regs_in (set_in cpu made processors) cpu ≡ Some (with_change made known)
set_in-own cpu made [] known found = absurd cc
set_in-own cpu made (one ∷ rest) known found =
    own-of-first cpu made one rest (set_in cpu made rest) known (one.number == cpu) refl found
    (λ there. set_in-own cpu made rest known there)

others-left-by-set : (moment : History) (cpu : ℕ) (made : RegChange) → LeavesOthers moment cpu (event.Set cpu made)
others-left-by-set moment cpu made = record {
  spares = λ n other. sym-false n cpu other;
  keeps = λ n other. set_in-other n cpu made (processors moment) other;
}

-- ---- an event that is noted

-- what a session has once an event of a processor is noted that changes nothing but the processor's registers
noted-stands : (holding : Holding) (moment : History) (cpu : ℕ) (happened : Event) (changed : Regs → Regs)
    (hosts : List Keeping) → HasAllOf holding moment
    → (notes : Notes (holding.happened + 1) cpu happened changed holding.hosts hosts) → LeavesOthers moment cpu happened
    → regs (next moment happened) cpu ≡ Some (changed notes.known) → la57 (changed notes.known) ≡ la57 notes.known
    → processors (next moment happened) ≡ processors_of hosts → memory (next moment happened) ≡ memory moment
    → pages (next moment happened) ≡ pages moment → kept_changes (next moment happened) ≡ kept_changes moment
    → ((keys : List SpaceKey) → KeptAfter moment happened keys keys)
    → HasAllOf (with_hosts holding hosts) (next moment happened)
noted-stands holding moment cpu happened changed hosts has notes leaves is_known levels procs same_memory same_pages same_changes same_spaces = record {
  unpoisoned = has.unpoisoned;
  time_is = ap (λ n. n + 1) has.time_is;
  segments_are = has.segments_are;
  pages_are = same_pages ∙ has.pages_are;
  memory_is = same_memory ∙ has.memory_is;
  changes_are = has.changes_are ∙ sym same_changes;
  stated_is = has.stated_is;
  machine_is = has.machine_is;
  processors_are = procs;
  hosts_are = hosts-noted moment holding.hosts hosts cpu notes.index happened (changed notes.known) has.hosts_are notes.at
      (subst (λ t. NotesAt notes.index (t + 1) happened (changed notes.known) holding.hosts hosts) (sym has.time_is) notes.noted)
      is_known leaves (λ d. levels ∙ ap la57 (same-some notes.known (get_or holding.hosts notes.index d).regs (sym notes.is_known ∙ notes.at.regs_are d)));
  spaces_are = (keys_of holding.spaces, has.spaces_are, same_spaces (keys_of holding.spaces));
}
  where
    same-some : (one other : Regs) → Some one ≡ Some other → one ≡ other
    same-some one other h = cc

-- the processors once one has a new register
set-processors : (hosts new : List Keeping) (now cpu : ℕ) (made : RegChange) → (notes : SetsRegister now cpu made hosts new)
    → set_in cpu made (processors_of hosts) ≡ processors_of new
set-processors hosts new now cpu made notes =
    let d = notes.noted.host in
    let old = get_or hosts notes.index d in
    let within = notes.at.within in
    let long : length (processors_of hosts) ≡ length hosts = length-map hosts processor_of in
    let at = get_or-map processor_of hosts notes.index d (processor_of d) within in
    let set_is = set_at made (processors_of hosts) notes.index (processor_of d) notes.at.distinct (omega (arith, long)) in
    let moved = rw at at set_is in
    let regs_is : old.regs ≡ notes.known = same-some old.regs notes.known (sym (notes.at.regs_are d) ∙ notes.is_known) in
    let noted = notes.noted.noted d in
    let host_is : processor_of notes.noted.host ≡ record { number = old.number; regs = with_change made old.regs } =
    ap processor_of noted.is
    ∙ ap (λ r. record { number = old.number; regs = with_change made r }) (sym regs_is) in
    rw (notes.noted.is, map-set processor_of hosts notes.index notes.noted.host, host_is)
    (subst (λ n. set_in n made (processors_of hosts) ≡ set (processors_of hosts) notes.index (record { number = old.number; regs = with_change made old.regs })) (notes.at.number_is d) (sym moved))
  where
    same-some : (one other : Regs) → Some one ≡ Some other → one ≡ other
    same-some one other h = cc

-- the processors once one has invalidated something
invalidated-processors : (hosts new : List Keeping) (now cpu : ℕ) (happened : Event)
    → (notes : Invalidates now cpu happened hosts new) → processors_of hosts ≡ processors_of new
invalidated-processors hosts new now cpu happened notes =
    let d = notes.noted.host in
    let old = get_or hosts notes.index d in
    let noted = notes.noted.noted d in
    let regs_is : old.regs ≡ notes.known = same-some old.regs notes.known (sym (notes.at.regs_are d) ∙ notes.is_known) in
    let host_is : processor_of notes.noted.host ≡ processor_of old =
    ap processor_of noted.is ∙ ap (λ r. record { number = old.number; regs = r }) (sym regs_is) in
    rw notes.noted.is (sym (map-set_same processor_of hosts notes.index notes.noted.host d host_is))
  where
    same-some : (one other : Regs) → Some one ≡ Some other → one ≡ other
    same-some one other h = cc

-- a register is changed
pub set-accepted : (holding : Holding) (cpu : ℕ) (made : RegChange) (hosts : List Keeping)
    → set_refusal holding.machine (processors_of holding.hosts) cpu made ≡ None
    → SetsRegister (holding.happened + 1) cpu made holding.hosts hosts
    → AcceptsEvent HasAllOf holding (with_hosts holding hosts) (event.Set cpu made) Nothing
set-accepted holding cpu made hosts accepted notes = record {
  unrefused = λ moment has. rw (has.machine_is, has.processors_are) accepted;
  answered = λ moment has. refl;
  stands = λ moment has.
      noted-stands holding moment cpu (event.Set cpu made) (λ known. with_change made known) hosts has notes
      (others-left-by-set moment cpu made)
      (set_in-own cpu made (processors moment) notes.known (rw has.processors_are notes.is_known))
      (la57-kept holding.machine made notes.known (rw notes.is_known at accepted))
      (rw has.processors_are (set-processors holding.hosts hosts (holding.happened + 1) cpu made notes)) refl refl refl (λ keys. refl);
}

-- INVLPG is executed
pub invlpg-accepted : (holding : Holding) (cpu address : ℕ) (hosts : List Keeping)
    → if_unknown cpu (regs_in (processors_of holding.hosts) cpu) ≡ None
    → Invalidates (holding.happened + 1) cpu (event.Invlpg cpu address) holding.hosts hosts
    → AcceptsEvent HasAllOf holding (with_hosts holding hosts) (event.Invlpg cpu address) Nothing
invlpg-accepted holding cpu address hosts accepted notes = record {
  unrefused = λ moment has. rw has.processors_are accepted;
  answered = λ moment has. refl;
  stands = λ moment has.
      noted-stands holding moment cpu (event.Invlpg cpu address) (λ known. known) hosts has notes
      (record { spares = λ n other. sym-false n cpu other; keeps = λ n other. refl })
      (rw has.processors_are notes.is_known) refl
      (rw has.processors_are (invalidated-processors holding.hosts hosts (holding.happened + 1) cpu (event.Invlpg cpu address) notes)) refl refl refl (λ keys. refl);
}

-- INVPCID is executed
pub invpcid-accepted : (holding : Holding) (cpu kind pcid address : ℕ) (hosts : List Keeping)
    → known_invpcid_refusal (processors_of holding.hosts) cpu kind pcid address ≡ None
    → Invalidates (holding.happened + 1) cpu (event.Invpcid cpu kind pcid address) holding.hosts hosts
    → AcceptsEvent HasAllOf holding (with_hosts holding hosts) (event.Invpcid cpu kind pcid address) Nothing
invpcid-accepted holding cpu kind pcid address hosts accepted notes = record {
  unrefused = λ moment has. rw has.processors_are accepted;
  answered = λ moment has. refl;
  stands = λ moment has.
      noted-stands holding moment cpu (event.Invpcid cpu kind pcid address) (λ known. known) hosts has notes
      (record { spares = λ n other. sym-false n cpu other; keeps = λ n other. refl })
      (rw has.processors_are notes.is_known) refl
      (rw has.processors_are (invalidated-processors holding.hosts hosts (holding.happened + 1) cpu (event.Invpcid cpu kind pcid address) notes)) refl refl refl (λ keys. refl);
}

-- ---- an event that was carried out, or not

-- what the session says of an event that leaves it so, by what came of it
said-so : (done : Result (Unit {0}) StepFault) (said : Result Answer StepFault) (holding left : Holding)
    (later : ℕ) (poisoned : Bool) (happened : Event) → OnOk done (said ≡ Ok Nothing)
    → IfErr done (λ fault. said ≡ Err fault) → OnOk done (later ≡ holding.happened + 1)
    → (done ≢ Err fault.Memory → poisoned ≡ holding.poisoned)
    → OnOk done (AcceptsEvent HasAllOf holding
    (record left { happened = holding.happened + 1; poisoned = holding.poisoned }) happened Nothing)
    → IfOk said (AcceptsEvent HasAllOf holding (record left { happened = later; poisoned = poisoned }) happened)
said-so (Ok u) said holding left later poisoned happened answer why_not counted stays accepted =
    subst (λ one. IfOk one (AcceptsEvent HasAllOf holding (record left { happened = later; poisoned = poisoned }) happened))
    (sym answer)
    (subst (λ on. AcceptsEvent HasAllOf holding (record left { happened = later; poisoned = on }) happened Nothing)
    (sym (stays (λ is. cc)))
    (subst (λ n. AcceptsEvent HasAllOf holding (record left { happened = n; poisoned = holding.poisoned }) happened Nothing)
    (sym counted) accepted))
said-so (Err why) said holding left later poisoned happened answer why_not counted stays accepted =
    subst (λ one. IfOk one (AcceptsEvent HasAllOf holding (record left { happened = later; poisoned = poisoned }) happened))
    (sym why_not) tt

-- of one that leaves it these hosts
pub said-of : (done : Result (Unit {0}) StepFault) (said : Result Answer StepFault) (holding : Holding) (hosts : List Keeping)
    (later : ℕ) (poisoned : Bool) (happened : Event) → OnOk done (said ≡ Ok Nothing)
    → IfErr done (λ fault. said ≡ Err fault) → OnOk done (later ≡ holding.happened + 1)
    → (done ≢ Err fault.Memory → poisoned ≡ holding.poisoned)
    → OnOk done (AcceptsEvent HasAllOf holding (with_hosts holding hosts) happened Nothing)
    → IfOk said (AcceptsEvent HasAllOf holding
    (record holding { happened = later; hosts = hosts; poisoned = poisoned }) happened)
said-of done said holding hosts = said-so done said holding (record holding { hosts = hosts })

-- of one that leaves it this memory and these spaces
pub said-of-memory : (done : Result (Unit {0}) StepFault) (said : Result Answer StepFault) (holding : Holding)
    (memory : Remembering) (spaces : List Space) (later : ℕ) (poisoned : Bool) (happened : Event)
    → OnOk done (said ≡ Ok Nothing)
    → IfErr done (λ fault. said ≡ Err fault) → OnOk done (later ≡ holding.happened + 1)
    → (done ≢ Err fault.Memory → poisoned ≡ holding.poisoned)
    → OnOk done (AcceptsEvent HasAllOf holding (with_memory holding memory spaces) happened Nothing)
    → IfOk said (AcceptsEvent HasAllOf holding
    (record holding { happened = later; seen = memory.seen; kept = memory.kept; poisoned = poisoned; spaces = spaces }) happened)
said-of-memory done said holding memory spaces =
    said-so done said holding (record holding { seen = memory.seen; kept = memory.kept; spaces = spaces })

-- both of two facts hold where something was done
pub on_both : {E : Type 0} (P Q : Type 0) (done : Result (Unit {0}) E) → OnOk done P → OnOk done Q → OnOk done (P × Q)
on_both P Q (Ok _) p q = (p, q)
on_both P Q (Err _) p q = tt

-- ---- events that no processor executes

-- bytes are written
pub write-accepted : (holding : Holding) (memory : Remembering) (spaces : List Space) (at : ℕ) (bytes : List ℕ)
    → KeepsWrite (record { seen = holding.seen; kept = holding.kept }) memory (holding.happened + 1) at bytes
    → AreUpdated (memory_of memory.seen) holding.spaces spaces
    → AcceptsEvent HasAllOf holding (with_memory holding memory spaces) (event.Write at bytes) Nothing
write-accepted holding memory spaces at bytes keeps updated = record {
  unrefused = λ moment has. rw (has.memory_is, has.pages_are) keeps.writes.unrefused;
  answered = λ moment has. refl;
  stands = λ moment has. record {
    unpoisoned = has.unpoisoned;
    time_is = ap (λ n. n + 1) has.time_is;
    segments_are = has.segments_are ∙ sym keeps.writes.extents;
    pages_are = ap (with_number (page_of at)) has.pages_are ∙ sym keeps.writes.pages;
    memory_is = memory-after moment has.memory_is;
    changes_are = keeps.keeps ∙ rw (has.changes_are, has.memory_is, has.time_is) refl;
    stated_is = has.stated_is;
    machine_is = has.machine_is;
    processors_are = has.processors_are;
    hosts_are = hosts_after_write moment holding.hosts at bytes has.hosts_are;
    spaces_are = (
      keys_of holding.spaces,
      has.spaces_are,
      subst (λ one. StayKept one (keys_of holding.spaces) (keys_of spaces)) (sym (memory-after moment has.memory_is)) updated.keys,
    );
  };
}
  where
    memory-after : (moment : History) → memory_in moment ≡ memory_of holding.seen
        → with_bytes at bytes (memory_in moment) ≡ memory_of memory.seen
    memory-after moment same = ap (with_bytes at bytes) same ∙ sym (λ i a. keeps.writes.memory a i)

-- an access is asked for
pub ask-accepted : (holding : Holding) (cpu : ℕ) (access : Access) (pointer : ℕ) (known : Regs) (said : Result ℕ Why)
    → regs_in (processors_of holding.hosts) cpu ≡ Some known
    → said ≡ answer_to_ask (memory_of holding.seen) holding.machine known access pointer
    → AcceptsEvent HasAllOf holding (record holding { happened = holding.happened + 1 }) (event.Ask cpu access pointer)
    (Asked said)
ask-accepted holding cpu access pointer known said found is = record {
  unrefused = λ moment has. rw (has.processors_are, found) refl;
  answered = λ moment has. (known, rw has.processors_are found, rw (has.memory_is, has.machine_is) (ap Asked is));
  stands = λ moment has. record {
    unpoisoned = has.unpoisoned;
    time_is = ap (λ n. n + 1) has.time_is;
    segments_are = has.segments_are;
    pages_are = has.pages_are;
    memory_is = has.memory_is;
    changes_are = has.changes_are;
    stated_is = has.stated_is;
    machine_is = has.machine_is;
    processors_are = has.processors_are;
    hosts_are = hosts_after_ask moment holding.hosts cpu access pointer has.hosts_are;
    spaces_are = (keys_of holding.spaces, has.spaces_are, refl);
  };
}

-- ---- state lines

record IsBegun (moment : History) : Type 0 where
  start : Start
  is : moment ≡ begun start

-- where a processor may be stated, the moment is a beginning
cpu-begun : (moment : History) (cpu : ℕ) (known : Regs) → cpu_refusal moment cpu known ≡ None → IsBegun moment
cpu-begun (begun start) cpu known h = record { start = start; is = refl }
cpu-begun (next before happened) cpu known h = absurd cc

-- the session then stands for the beginning with it
stated-stands : (holding : Holding) (number : ℕ) (known : Regs) → regs_in (processors_of holding.hosts) number ≡ None
    → (start : Start) → HasAllOf holding (begun start)
    → HasAllOf (record holding { hosts = insert_host (new_host number known holding.machine) holding.hosts })
    (begun (with_processor (record { number = number; regs = known }) start))
stated-stands holding number known none start has = record {
  unpoisoned = has.unpoisoned;
  time_is = has.time_is;
  segments_are = has.segments_are;
  pages_are = has.pages_are;
  memory_is = has.memory_is;
  changes_are = has.changes_are;
  stated_is = has.stated_is;
  machine_is = has.machine_is;
  processors_are =
      ap (insert_processor (record { number = number; regs = known })) has.processors_are
      ∙ sym (processors_insert (new_host number known holding.machine) holding.hosts);
  hosts_are =
      subst (λ on. AreHostsOf (begun (with_processor (record { number = number; regs = known }) start)) (insert_host (new_host number known on) holding.hosts))
      has.machine_is (hosts_with_one start holding.hosts number known has.hosts_are has.processors_are none);
  spaces_are = has.spaces_are;
}

-- a processor is stated
pub cpu-accepted : (holding : Holding) (number : ℕ) (known : Regs)
    → ((moment : History) → HasAllOf holding moment → cpu_refusal moment number known ≡ None)
    → regs_in (processors_of holding.hosts) number ≡ None
    → AcceptsEvent HasAllOf holding
    (record holding { hosts = insert_host (new_host number known holding.machine) holding.hosts })
    (event.Cpu number known) Nothing
cpu-accepted holding number known accepted none = record {
  unrefused = λ moment has. accepted moment has;
  answered = λ moment has. refl;
  stands = λ moment has.
      let begins = cpu-begun moment number known (accepted moment has) in
      subst (λ one. HasAllOf (record holding { hosts = insert_host (new_host number known holding.machine) holding.hosts }) (after_event (event.Cpu number known) one))
      (sym begins.is) (stated-stands holding number known none begins.start (subst (HasAllOf holding) begins.is has));
}

-- ---- the beginning

-- a session of a core has all that its beginning has
pub core-stands : (core : Core) (memory : Remembering) (hosts : List Keeping) (spaces : List Space)
    → memory.seen ≡ record { extents = core.segments; written = [] }
    → ((a : ℕ) → memory_of memory.seen a ≡ byte_in core.segments a) → memory.kept ≡ []
    → processors_of hosts ≡ insert_processors [] core.processors → AreNewHosts core.machine hosts
    → HaveDistinctNumbers (processors_of hosts) → spaces ≡ []
    → HasAllOf (record {
      poisoned = false;
      happened = 0;
      seen = memory.seen;
      kept = memory.kept;
      stated = core.stated;
      machine = core.machine;
      hosts = hosts;
      spaces = spaces;
    }) (begun (core_start core))
core-stands core memory hosts spaces is memory_is unchanged processors_are new distinct none = record {
  unpoisoned = refl;
  time_is = refl;
  segments_are = ap (λ (one : Seen). one.extents) (sym is);
  pages_are = ap written_pages (sym is);
  memory_is = λ i a. sym (memory_is a) i;
  changes_are = unchanged;
  stated_is = refl;
  machine_is = refl;
  processors_are = sym processors_are;
  hosts_are = new_hosts_are (core_start core) hosts new (sym processors_are) distinct;
  spaces_are = ap keys_of none;
}
