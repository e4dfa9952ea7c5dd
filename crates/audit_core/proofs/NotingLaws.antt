-- Hosts go on to stand for a history: where an event of one processor is noted, and where an event is none of theirs.
use Rattle.std.proofs.Common.{◌≡◌, ◌≢◌, ℕ, ◌<◌, ◌+◌, ◌⊎◌, inl, inr, Bool, true, false, List, length, get_or, set, Some, None, Result, Ok, Err, OnOk, OnErr, refl, sym, subst, ◌∙◌, arith}
use Rattle.std.specs.Prelude.{◌==◌, not, if◌then◌else◌}
use Rattle.std.proofs.lemmas.Bool.{eqb-true, eq-eqb}
use Rattle.std.proofs.lemmas.List.{length-set, get_or-set_same, get_or-set_other}
use Rattle.paging_model.specs.BitRanges.{differs}
use Rattle.paging_model.specs.Registers.{la57, pae}
use Rattle.paging_model.specs.RegisterRules.{change_of, changes_la57, starts_with_pcid, with_change}
use Rattle.paging_model.specs.declared.access.Access.{Access}
use Rattle.paging_model.specs.declared.registers.Machine.{Machine}
use Rattle.paging_model.specs.declared.registers.RegChange.{RegChange}
use Rattle.paging_model.specs.declared.registers.RegChange.TheVariants as change
use Rattle.paging_model.specs.declared.registers.RegRule.TheVariants as rule
use Rattle.paging_model.specs.declared.registers.Regs.{Regs}
use Rattle.history_laws.specs.Executing.{is_by}
use Rattle.history_model.specs.History.{History, next, regs, time}
use Rattle.history_model.specs.Refusals.{if_illegal}
use Rattle.history_model.specs.declared.events.Event.{Event}
use Rattle.history_model.specs.declared.events.Event.TheVariants as event
use Rattle.cache_rules.specs.Hosts.{Keeping}
use Rattle.cache_rules.specs.Standing.{IsHostOf}
use Rattle.cache_rules.proofs.StandingLaws.{noted-stands}
use Rattle.cache_rules.proofs.StartLaws.{others-stand}
use Rattle.audit_core.specs.HostLists.{AreBefore, AreHostsOf, IsHostAt, NotesAt}
use Rattle.audit_core.proofs.HostLaws.{hosts_later, numbers-apart}

-- ---- a change that is accepted leaves LA57

same-bool : (a b : Bool) → differs a b ≡ false → a ≡ b
same-bool true true h = refl
same-bool true false h = absurd cc
same-bool false true h = absurd cc
same-bool false false h = refl

-- of three rules none is broken, so the second one isn't
second-rule : (first second third : Bool)
    → if_illegal (if first then Err rule.NoPae else (if second then Err rule.La57Changed else (if third then Err rule.PcidNotZero else Ok tt))) ≡ None
    → second ≡ false
second-rule true second third h = absurd cc
second-rule false true third h = absurd cc
second-rule false false third h = refl

pub la57-kept : (on : Machine) (made : RegChange) (known : Regs) → if_illegal (change_of on made known) ≡ None
    → la57 (with_change made known) ≡ la57 known
la57-kept on (change.Cr0 value) known h = refl
la57-kept on (change.Cr3 value) known h = refl
la57-kept on (change.Cr4 value) known h =
    same-bool (la57 (record known { cr4 = value })) (la57 known)
    (second-rule (not (pae (record known { cr4 = value }))) (changes_la57 value known) (starts_with_pcid value known) h)
la57-kept on (change.Efer value) known h = refl
la57-kept on (change.Ac value) known h = refl
la57-kept on (change.Pkru value) known h = refl
la57-kept on (change.Pkrs value) known h = refl

-- ---- what an event leaves of the others

pub same_or_not : (k index : ℕ) → (k ≡ index) ⊎ (k ≢ index)
same_or_not k index = by_test (k == index) refl
  where
    by_test : (b : Bool) → (k == index) ≡ b → (k ≡ index) ⊎ (k ≢ index)
    by_test true is = inl (eqb-true k index is)
    by_test false is = inr (λ same. let never = sym is ∙ eq-eqb k index same in cc)

-- a processor of another number is spared, and its registers stay
pub record LeavesOthers (history : History) (cpu : ℕ) (happened : Event) : Type 0 where
  pub spares : (n : ℕ) → (n == cpu) ≡ false → is_by n happened ≡ false
  pub keeps : (n : ℕ) → (n == cpu) ≡ false → regs (next history happened) n ≡ regs history n

-- the hosts stand for the moment after an event of one processor that is noted
pub hosts-noted : (history : History) (hosts new : List Keeping) (cpu index : ℕ) (happened : Event) (after : Regs)
    → AreHostsOf history hosts → IsHostAt hosts cpu index
    → NotesAt index (time history + 1) happened after hosts new
    → regs (next history happened) cpu ≡ Some after → LeavesOthers history cpu happened
    → ((d : Keeping) → la57 after ≡ la57 (get_or hosts index d).regs)
    → AreHostsOf (next history happened) new
hosts-noted history hosts new cpu index happened after stand at notes is_known leaves same k d within =
    rw notes.is (elim (same_or_not k index) [
      | inl here ↦ rw (here, get_or-set_same hosts index notes.host d at.within) noted-one
      | inr apart ↦ rw (get_or-set_other hosts index k notes.host d apart) (other-one apart)
    ])
  where
    long : length (set hosts index notes.host) ≡ length hosts
    long = length-set hosts index notes.host

    inside : k < length hosts
    inside =
        let w : k < length (set hosts index notes.host) = subst (λ list. k < length list) notes.is within in
        omega (arith, w, long)

    noted-one : IsHostOf notes.host (next history happened)
    noted-one =
        let old = get_or hosts index d in
        let number : old.number ≡ cpu = at.number_is d in
        noted-stands old notes.host history happened after (stand index d at.within) (notes.noted d)
        (subst (λ n. regs (next history happened) n ≡ Some after) (sym number) is_known) (same d)

    other-one : k ≢ index → IsHostOf (get_or hosts k d) (next history happened)
    other-one apart =
        let host = get_or hosts k d in
        let stands : IsHostOf host history = stand k d inside in
        let other : (host.number == cpu) ≡ false =
        subst (λ n. (host.number == n) ≡ false) (at.number_is d)
        (numbers-apart hosts index k d at.distinct at.within inside apart) in
        others-stand host history happened stands (leaves.spares host.number other)
        (leaves.keeps host.number other ∙ stands.is_known)

-- the hosts stand for the moment after an event that no processor executes, and that leaves the registers
pub hosts_stay : (history : History) (hosts : List Keeping) (happened : Event) → AreHostsOf history hosts
    → ((n : ℕ) → is_by n happened ≡ false) → ((n : ℕ) → regs (next history happened) n ≡ regs history n)
    → AreHostsOf (next history happened) hosts
hosts_stay history hosts happened stand spares keeps k d within =
    let host = get_or hosts k d in
    let stands : IsHostOf host history = stand k d within in
    others-stand host history happened stands (spares host.number) (keeps host.number ∙ stands.is_known)

-- the hosts stand for the moment after each event that no processor executes
pub hosts_after_write : (history : History) (hosts : List Keeping) (at : ℕ) (bytes : List ℕ) → AreHostsOf history hosts
    → AreHostsOf (next history (event.Write at bytes)) hosts
hosts_after_write history hosts at bytes stand =
    hosts_stay history hosts (event.Write at bytes) stand (λ n. refl) (λ n. refl)

pub hosts_after_ask : (history : History) (hosts : List Keeping) (cpu : ℕ) (access : Access) (pointer : ℕ)
    → AreHostsOf history hosts → AreHostsOf (next history (event.Ask cpu access pointer)) hosts
hosts_after_ask history hosts cpu access pointer stand =
    hosts_stay history hosts (event.Ask cpu access pointer) stand (λ n. refl) (λ n. refl)

-- ---- what was noted is before the next time, whether an event was carried out or not

pub before_the_next : {E : Type 0} (done : Result (Unit {0}) E) (old new : List Keeping) (time later : ℕ)
    → AreBefore (time + 1) old → OnOk done (AreBefore (time + 1 + 1) new) → OnErr done (new ≡ old)
    → OnOk done (later ≡ time + 1) → OnErr done (later ≡ time) → AreBefore (later + 1) new
before_the_next (Ok _) old new time later before noted unchanged counted stood = rw counted noted
before_the_next (Err _) old new time later before noted unchanged counted stood = rw (unchanged, stood) before

pub before_still : {E : Type 0} (done : Result (Unit {0}) E) (hosts : List Keeping) (time later : ℕ)
    → AreBefore (time + 1) hosts → OnOk done (later ≡ time + 1) → OnErr done (later ≡ time) → AreBefore (later + 1) hosts
before_still (Ok _) hosts time later before counted stood =
    rw counted (hosts_later hosts (time + 1) (time + 1 + 1) (omega arith) before)
before_still (Err _) hosts time later before counted stood = rw stood before
