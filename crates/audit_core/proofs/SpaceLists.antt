-- What the list of a processor's space is in a moment that a session stands for, and in how many steps it is made.
use Rattle.std.proofs.Common.{◌≡◌, ℕ, ◌+◌, ◌*◌, ◌≤◌, inl, inr, Bool, List, length, Some, None, Result, Ok, Err, OnOk, refl, sym, subst, ap, ◌∙◌, arith}
use Rattle.paging_model.specs.Listings.{AreRegions}
use Rattle.paging_model.specs.Memory.{Memory}
use Rattle.paging_model.specs.declared.access.Access.{Access}
use Rattle.paging_model.specs.Registers.{root_of, settings_of}
use Rattle.paging_model.specs.declared.registers.Machine.{Machine}
use Rattle.paging_model.specs.declared.registers.Regs.{Regs}
use Rattle.paging_model.specs.declared.registers.Settings.{Settings}
use Rattle.paging_model.specs.declared.spaces.SpaceKey.{SpaceKey}
use Rattle.history_model.specs.Answering.{Answers, AnswersList}
use Rattle.history_model.specs.Bounds.{ListMayTake}
use Rattle.history_model.specs.History.{History, after_event, machine, regs, regs_in}
use Rattle.history_model.specs.KeptSpaces.{KeptAfterList, WithinIn, listed_first, slots_written, space_of}
use Rattle.history_model.specs.Refusals.{refusal}
use Rattle.history_model.specs.declared.answers.Answer.{Answer}
use Rattle.history_model.specs.declared.events.Event.TheVariants as event
use Rattle.phys_view.specs.Seen.{memory_of}
use Rattle.space_map.specs.TrueSpaces.{IsSpaceOf}
use Rattle.space_map.specs.declared.space.Space.{Space}
use Rattle.kept_spaces.specs.Keys.{keys_of}
use Rattle.kept_spaces.specs.Listing.{ListTakes}
use Rattle.audit_core.specs.HostLists.{processors_of}
use Rattle.audit_core.specs.Remembering.{WriteTakes}
use Rattle.audit_core.specs.Standing.{Holding, HasAllOf}
use Rattle.audit_core.specs.Stepping.{AcceptsEvent, TakesSteps}
use Rattle.audit_core.proofs.NotingLaws.{hosts_stay}

abbrev key_with : ℕ → Settings → SpaceKey
key_with root settings = record { root = root; settings = settings }

-- what a space of a key is
pub regions-of : (memory : Memory) (key : SpaceKey) (space : Space) → IsSpaceOf memory key space
    → AreRegions memory key.settings key.root space.regions
regions-of memory key space is =
    subst (λ (one : SpaceKey). AreRegions memory one.settings one.root space.regions) is.key_is is.is_true.regions

pub within-of : (memory : Memory) (key : SpaceKey) (space : Space) → IsSpaceOf memory key space → WithinIn memory key
within-of memory key space is = subst (WithinIn memory) is.key_is is.is_true.within

-- a space that was listed is kept
pub kept-of : (memory : Memory) (machine : Machine) (known : Regs) (root : ℕ) (settings : Settings) (earlier keys : List SpaceKey)
    → root ≡ root_of known machine → settings ≡ settings_of known machine
    → WithinIn memory (record { root = root; settings = settings })
    → keys ≡ listed_first (record { root = root; settings = settings }) earlier
    → KeptAfterList memory machine (Some known) earlier keys
kept-of memory machine known root settings earlier keys root_is settings_are within first =
    let same : key_with root settings ≡ space_of machine known =
    ap (λ one. key_with one settings) root_is ∙ ap (key_with (root_of known machine)) settings_are in
    inr (subst (WithinIn memory) same within, first ∙ ap (λ key. listed_first key earlier) same)

regs-is : (holding : Holding) (moment : History) (cpu : ℕ) (known : Regs) → HasAllOf holding moment → regs_in (processors_of holding.hosts) cpu ≡ Some known → regs moment cpu ≡ Some known
regs-is holding moment cpu known has found = rw has.processors_are found

list-unrefused : (holding : Holding) (moment : History) (cpu : ℕ) (known : Regs) → HasAllOf holding moment → regs_in (processors_of holding.hosts) cpu ≡ Some known → refusal moment (event.List cpu) ≡ None
list-unrefused holding moment cpu known has found = rw (regs-is holding moment cpu known has found) refl

list-answered : (holding : Holding) (moment : History) (cpu : ℕ) (known : Regs) (answer : Answer) → HasAllOf holding moment → regs_in (processors_of holding.hosts) cpu ≡ Some known
    → AnswersList (memory_of holding.seen) holding.machine known answer → Answers moment (event.List cpu) answer
list-answered holding moment cpu known answer has found list =
    (known, regs-is holding moment cpu known has found, rw (has.memory_is, has.machine_is) list)

list-stands : (holding : Holding) (moment : History) (cpu : ℕ) (known : Regs) (spaces : List Space) → HasAllOf holding moment
    → regs_in (processors_of holding.hosts) cpu ≡ Some known
    → KeptAfterList (memory_of holding.seen) holding.machine (Some known) (keys_of holding.spaces) (keys_of spaces)
    → HasAllOf (record holding { happened = holding.happened + 1; spaces = spaces }) (after_event (event.List cpu) moment)
list-stands holding moment cpu known spaces has found kept = record {
  unpoisoned = has.unpoisoned;
  time_is = ap (λ n. n + 1) has.time_is;
  segments_are = has.segments_are;
  pages_are = has.pages_are;
  memory_is = has.memory_is;
  changes_are = has.changes_are;
  stated_is = has.stated_is;
  machine_is = has.machine_is;
  processors_are = has.processors_are;
  hosts_are = hosts_stay moment holding.hosts (event.List cpu) has.hosts_are (λ n. refl) (λ n. refl);
  spaces_are = (
    keys_of holding.spaces,
    has.spaces_are,
    subst (λ seen. KeptAfterList seen (machine moment) (regs moment cpu) (keys_of holding.spaces) (keys_of spaces)) (sym has.memory_is)
        (subst (λ one. KeptAfterList (memory_of holding.seen) one (regs moment cpu) (keys_of holding.spaces) (keys_of spaces)) (sym has.machine_is)
        (subst (λ now. KeptAfterList (memory_of holding.seen) holding.machine now (keys_of holding.spaces) (keys_of spaces))
        (sym (regs-is holding moment cpu known has found)) kept)),
  );
}

pub list-accepted : (holding : Holding) (cpu : ℕ) (known : Regs) (spaces : List Space) (answer : Answer)
    → regs_in (processors_of holding.hosts) cpu ≡ Some known
    → AnswersList (memory_of holding.seen) holding.machine known answer
    → KeptAfterList (memory_of holding.seen) holding.machine (Some known) (keys_of holding.spaces) (keys_of spaces)
    → AcceptsEvent HasAllOf holding (record holding { happened = holding.happened + 1; spaces = spaces }) (event.List cpu) answer
list-accepted holding cpu known spaces answer found list kept = record {
  unrefused = λ moment has. list-unrefused holding moment cpu known has found;
  answered = λ moment has. list-answered holding moment cpu known answer has found list;
  stands = λ moment has. list-stands holding moment cpu known spaces has found kept;
}

-- a list takes as many steps as it may
list-may : (holding : Holding) (moment : History) (key : SpaceKey) (old new : ℕ) → HasAllOf holding moment
    → ListTakes (memory_of holding.seen) (keys_of holding.spaces) key old new
    → (steps : ℕ) × ListMayTake moment (keys_of holding.spaces) key steps × (new ≤ old + steps)
list-may holding moment key old new has (inl kept) = (0, inl (kept.0, refl), omega (arith, kept.1))
list-may holding moment key old new has (inr other) = (
  512 * other.1.uses,
  inr (
    other.0,
    record {
      uses = other.1.uses;
      are_uses = rw has.memory_is other.1.are_uses;
      few = omega (arith, other.1.few);
      bound = omega arith;
    },
  ),
  other.1.bound,
)

pub list-steps : (holding : Holding) (cpu : ℕ) (known : Regs) (old new : ℕ) → regs_in (processors_of holding.hosts) cpu ≡ Some known
    → ListTakes (memory_of holding.seen) (keys_of holding.spaces) (space_of holding.machine known) old new
    → (moment : History) → HasAllOf holding moment → TakesSteps moment (event.List cpu) old new
list-steps holding cpu known old new found takes moment has =
    let may = list-may holding moment (space_of holding.machine known) old new has takes in
    record {
      steps = may.0;
      bound = (
        keys_of holding.spaces,
        space_of holding.machine known,
        has.spaces_are,
        rw (regs-is holding moment cpu known has found, has.machine_is) refl,
        may.1,
      );
      within = may.2;
    }

-- what holds at any answer holds at one that is no error
pub on_ok : {T E : Type 0} (result : Result T E) (X : Type 0) → X → OnOk result X
on_ok (Ok answer) X x = x
on_ok (Err fault) X x = tt

pub ask-steps : {T E : Type 0} (result : Result T E) (cpu : ℕ) (access : Access) (pointer old new : ℕ) → new ≤ old + 5
    → (moment : History) → OnOk result (TakesSteps moment (event.Ask cpu access pointer) old new)
ask-steps result cpu access pointer old new few moment =
    on_ok result _ (record { steps = 5; bound = omega arith; within = few })

pub write-steps : (holding : Holding) (at : ℕ) (bytes : List ℕ) (old new : ℕ)
    → WriteTakes (memory_of holding.seen) at bytes (keys_of holding.spaces) old new → (moment : History) → HasAllOf holding moment
    → TakesSteps moment (event.Write at bytes) old new
write-steps holding at bytes old new takes moment has = record {
  steps = takes.updates + slots_written at (length bytes);
  bound = (keys_of holding.spaces, takes.updates, has.spaces_are, rw has.memory_is takes.may, le-self (takes.updates + slots_written at (length bytes)));
  within = takes.bound;
}
  where
    le-self : (n : ℕ) → n ≤ n
    le-self n = omega arith

pub point-steps : (moment : History) (all : Bool) (old new : ℕ) → TakesSteps moment (event.Point all) old new
point-steps moment all old new = record { steps = new; bound = tt; within = omega arith }
