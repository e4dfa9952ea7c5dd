-- Each host can be audited: those of a core, one more, one that notes an event, and all of them later.
use Rattle.std.proofs.Common.{◌≡◌, ℕ, ◌≤◌, ◌+◌, List, get_or, Result, Ok, Err, OnOk, OnErr, sym, subst, arith}
use Rattle.std.proofs.lemmas.List.Elements.{All-set, All-weaker}
use Rattle.paging_model.specs.declared.registers.Machine.{Machine}
use Rattle.paging_model.specs.declared.registers.Regs.{Regs}
use Rattle.history_model.specs.declared.events.Event.{Event}
use Rattle.cache_rules.specs.Hosts.{Keeping, new_host}
use Rattle.audit_points.specs.Audits.{IsAuditable}
use Rattle.audit_points.proofs.NotedLaws.{later-is, new-is, noted-is}
use Rattle.audit_core.specs.HostLists.{AreAuditable, AreBefore, AreNewHosts, Notes, insert_host}
use Rattle.audit_core.proofs.HostLaws.{all_insert_host}

pub auditable_later : (hosts : List Keeping) (t u : ℕ) → t ≤ u → AreAuditable t hosts → AreAuditable u hosts
auditable_later hosts t u order auditable =
    All-weaker (λ host. IsAuditable host t) (λ host. IsAuditable host u) (λ host is. later-is host t u is order) hosts auditable

-- before the first event
pub new_auditable : (machine : Machine) (hosts : List Keeping) → AreNewHosts machine hosts → AreAuditable 0 hosts
new_auditable machine hosts new k d within =
    let host = get_or hosts k d in
    subst (λ (one : Keeping). IsAuditable one 0) (sym (new k d within)) (new-is host.number host.regs machine)

pub auditable_with_one : (hosts more : List Keeping) (number : ℕ) (known : Regs) (machine : Machine) (time : ℕ)
    → AreAuditable time hosts → more ≡ insert_host (new_host number known machine) hosts → AreAuditable time more
auditable_with_one hosts more number known machine time auditable is =
    subst (AreAuditable time) (sym is)
    (all_insert_host (λ host. IsAuditable host time) (new_host number known machine) hosts
    (later-is (new_host number known machine) 0 time (new-is number known machine) (omega arith)) auditable)

-- one of them notes an event
noted-auditable : (old new : List Keeping) (time cpu : ℕ) (happened : Event) (changed : Regs → Regs)
    → AreBefore (time + 1) old → AreAuditable time old → Notes (time + 1) cpu happened changed old new
    → AreAuditable (time + 1) new
noted-auditable old new time cpu happened changed before auditable notes =
    let host = get_or old notes.index notes.noted.host in
    rw notes.noted.is
    (All-set (λ one. IsAuditable one (time + 1)) old notes.index notes.noted.host
    (noted-is host notes.noted.host time (time + 1) happened (changed notes.known)
    (auditable notes.index notes.noted.host notes.at.within) (omega arith)
    (before notes.index notes.noted.host notes.at.within) (notes.noted.noted notes.noted.host))
    (auditable_later old time (time + 1) (omega arith) auditable))

-- whether the event was carried out or not
pub auditable_next : {E : Type 0} (done : Result (Unit {0}) E) (old new : List Keeping) (time later cpu : ℕ) (happened : Event)
    (changed : Regs → Regs) → AreBefore (time + 1) old → AreAuditable time old
    → OnOk done (Notes (time + 1) cpu happened changed old new) → OnErr done (new ≡ old) → OnOk done (later ≡ time + 1)
    → OnErr done (later ≡ time) → AreAuditable later new
auditable_next (Ok _) old new time later cpu happened changed before auditable noted unchanged counted stood =
    rw counted (noted-auditable old new time cpu happened changed before auditable noted)
auditable_next (Err _) old new time later cpu happened changed before auditable noted unchanged counted stood =
    rw (unchanged, stood) auditable

pub auditable_still : {E : Type 0} (done : Result (Unit {0}) E) (hosts : List Keeping) (time later : ℕ)
    → AreAuditable time hosts → OnOk done (later ≡ time + 1) → OnErr done (later ≡ time) → AreAuditable later hosts
auditable_still (Ok _) hosts time later auditable counted stood =
    rw counted (auditable_later hosts time (time + 1) (omega arith) auditable)
auditable_still (Err _) hosts time later auditable counted stood = rw stood auditable
