-- Where all is counted, the steps that at least so many account for are those up to the count's.
use Rattle.std.proofs.Common.{◌≡◌, ℕ, ◌+◌, ◌-◌, ◌≤◌, inl, inr, List, [], ◌∷◌, length, min, sym, ◌∙◌, subst, arith}
use Rattle.std.specs.Prelude.{◌↔◌}
use Rattle.paging_model.specs.Counting.{AtLeast}
use Rattle.paging_model.specs.Memory.{Memory}
use Rattle.paging_model.specs.TableUses.{use_limit}
use Rattle.paging_model.specs.declared.registers.Processor.{Processor}
use Rattle.paging_model.specs.declared.spaces.SpaceKey.{SpaceKey}
use Rattle.paging_laws.proofs.Pigeonholes.{at_least-count, count-at_least}
use Rattle.history_model.specs.Bounds.{AuditMayTake, AuditsMayTake, BuildMayTake, IsTable, ListMayTake, MayTake, UpdateMayTake, UpdatesMayTake}
use Rattle.history_model.specs.History.{History, next, memory, processors}
use Rattle.history_model.specs.declared.events.Event.{Event}
use Rattle.history_model.specs.declared.events.Event.TheVariants as event
use Rattle.history_laws.specs.Costs.{AuditCost, AuditsCost, BuildCost, Cost, ListCost, UpdateCost, UpdatesCost}
use Rattle.history_laws.proofs.KeptLaws.{kept_one}
use Rattle.history_laws.proofs.WalkLaws.{some-same}

build_within : (history : History) (key : SpaceKey) (cost steps : ℕ) → BuildCost history key cost → BuildMayTake history key steps → steps ≤ cost
build_within history key cost steps counted may =
    let uses : may.uses ≤ counted.uses = at_least-count counted.are_uses may.are_uses in
    omega (arith, may.few, may.bound, counted.exact)

build_up_to : (history : History) (key : SpaceKey) (cost steps : ℕ) → BuildCost history key cost → steps ≤ cost → BuildMayTake history key steps
build_up_to history key cost steps counted within = record {
  uses = min (use_limit + 1) counted.uses;
  are_uses = count-at_least counted.are_uses (omega arith);
  few = omega arith;
  bound = omega (arith, counted.exact);
}

list_within : (history : History) (keys : List SpaceKey) (key : SpaceKey) (cost steps : ℕ) → ListCost history keys key cost → ListMayTake history keys key steps → steps ≤ cost
list_within history keys key cost steps (inl counted) (inl may) = omega (arith, may.1)
list_within history keys key cost steps (inl counted) (inr may) = absurd (may.0 counted.0)
list_within history keys key cost steps (inr counted) (inl may) = absurd (counted.0 may.0)
list_within history keys key cost steps (inr counted) (inr may) = build_within history key cost steps counted.1 may.1

list_up_to : (history : History) (keys : List SpaceKey) (key : SpaceKey) (cost steps : ℕ) → ListCost history keys key cost → steps ≤ cost → ListMayTake history keys key steps
list_up_to history keys key cost steps (inl counted) within = inl (counted.0, omega (arith, counted.1))
list_up_to history keys key cost steps (inr counted) within = inr (counted.0, build_up_to history key cost steps counted.1 within)

update_within : (memory : Memory) (key : SpaceKey) (at n cost steps : ℕ) → UpdateCost memory key at n cost → UpdateMayTake memory key at n steps → steps ≤ cost
update_within memory key at n cost steps counted may =
    let touched : may.touched ≤ counted.touched = at_least-count counted.are_touched may.are_touched in
    let entries : may.entries ≤ counted.entries = at_least-count counted.are_entries may.are_entries in
    omega (arith, may.bound, counted.exact)

update_up_to : (memory : Memory) (key : SpaceKey) (at n cost steps : ℕ) → UpdateCost memory key at n cost → steps ≤ cost → UpdateMayTake memory key at n steps
update_up_to memory key at n cost steps counted within = record {
  touched = counted.touched;
  entries = counted.entries;
  are_touched = count-at_least counted.are_touched (omega arith);
  are_entries = count-at_least counted.are_entries (omega arith);
  bound = omega (arith, counted.exact);
}

updates_within : (memory : Memory) (at n : ℕ) (keys : List SpaceKey) (cost steps : ℕ) → UpdatesCost memory at n keys cost → UpdatesMayTake memory at n keys steps → steps ≤ cost
updates_within memory at n [] cost steps counted may = omega (arith, counted, may)
updates_within memory at n (key ∷ rest) cost steps counted may =
    let one = update_within memory key at n counted.0 may.0 counted.2 may.2 in
    let others = updates_within memory at n rest counted.1 may.1 counted.3 may.3 in
    omega (arith, counted.4, may.4)

updates_up_to : (memory : Memory) (at n : ℕ) (keys : List SpaceKey) (cost steps : ℕ) → UpdatesCost memory at n keys cost → steps ≤ cost → UpdatesMayTake memory at n keys steps
updates_up_to memory at n [] cost steps counted within = omega (arith, counted)
updates_up_to memory at n (key ∷ rest) cost steps counted within = (
  min counted.0 steps,
  steps - min counted.0 steps,
  update_up_to memory key at n counted.0 (min counted.0 steps) counted.2 (omega arith),
  updates_up_to memory at n rest counted.1 (steps - min counted.0 steps) counted.3 (omega (arith, counted.4)),
  omega arith,
)

audit_within : (history : History) (cpu cost steps : ℕ) → AuditCost history cpu cost → AuditMayTake history cpu steps → steps ≤ cost
audit_within history cpu cost steps counted may =
    let same : may.key ≡ counted.key = some-same may.key counted.key (sym may.is_space ∙ counted.is_space) in
    let are_tables : AtLeast may.tables (IsTable history counted.key) = subst (λ key. AtLeast may.tables (IsTable history key)) same may.are_tables in
    let tables : may.tables ≤ counted.tables = at_least-count counted.are_tables are_tables in
    omega (arith, may.bound, counted.exact)

audit_up_to : (history : History) (cpu cost steps : ℕ) → AuditCost history cpu cost → steps ≤ cost → AuditMayTake history cpu steps
audit_up_to history cpu cost steps counted within = record {
  key = counted.key;
  is_space = counted.is_space;
  tables = counted.tables;
  are_tables = count-at_least counted.are_tables (omega arith);
  bound = omega (arith, counted.exact);
}

audits_within : (history : History) (list : List Processor) (cost steps : ℕ) → AuditsCost history list cost → AuditsMayTake history list steps → steps ≤ cost
audits_within history [] cost steps counted may = omega (arith, counted, may)
audits_within history (processor ∷ rest) cost steps counted may =
    let one = audit_within history processor.number counted.0 may.0 counted.2 may.2 in
    let others = audits_within history rest counted.1 may.1 counted.3 may.3 in
    omega (arith, counted.4, may.4)

audits_up_to : (history : History) (list : List Processor) (cost steps : ℕ) → AuditsCost history list cost → steps ≤ cost → AuditsMayTake history list steps
audits_up_to history [] cost steps counted within = omega (arith, counted)
audits_up_to history (processor ∷ rest) cost steps counted within = (
  min counted.0 steps,
  steps - min counted.0 steps,
  audit_up_to history processor.number counted.0 (min counted.0 steps) counted.2 (omega arith),
  audits_up_to history rest counted.1 (steps - min counted.0 steps) counted.3 (omega (arith, counted.4)),
  omega arith,
)

event_within : (history : History) (happened : Event) (cost steps : ℕ) → Cost history happened cost → MayTake history happened steps → steps ≤ cost
event_within history (event.Machine m) cost steps counted may = omega (arith, counted, may)
event_within history (event.Cpu cpu given) cost steps counted may = omega (arith, counted, may)
event_within history (event.Write at bytes) cost steps counted may =
    let after : Memory = memory (next history (event.Write at bytes)) in
    let same : may.0 ≡ counted.0 = kept_one history may.0 counted.0 may.2 counted.2 in
    let may_update : UpdatesMayTake after at (length bytes) counted.0 may.1 = subst (λ keys. UpdatesMayTake after at (length bytes) keys may.1) same may.3 in
    let updates : may.1 ≤ counted.1 = updates_within after at (length bytes) counted.0 counted.1 may.1 counted.3 may_update in
    omega (arith, may.4, counted.4)
event_within history (event.Set cpu change) cost steps counted may = omega (arith, counted, may)
event_within history (event.Invlpg cpu address) cost steps counted may = omega (arith, counted, may)
event_within history (event.Invpcid cpu kind pcid address) cost steps counted may = omega (arith, counted, may)
event_within history (event.Ask cpu access pointer) cost steps counted may = omega (arith, counted, may)
event_within history (event.List cpu) cost steps counted may =
    let same_keys : may.0 ≡ counted.0 = kept_one history may.0 counted.0 may.2 counted.2 in
    let same_key : may.1 ≡ counted.1 = some-same may.1 counted.1 (sym may.3 ∙ counted.3) in
    let may_list : ListMayTake history counted.0 counted.1 steps =
    subst (λ key. ListMayTake history counted.0 key steps) same_key (subst (λ keys. ListMayTake history keys may.1 steps) same_keys may.4) in
    list_within history counted.0 counted.1 cost steps counted.4 may_list
event_within history (event.Point all) cost steps counted may = audits_within history (processors history) cost steps counted may

event_up_to : (history : History) (happened : Event) (cost steps : ℕ) → Cost history happened cost → steps ≤ cost → MayTake history happened steps
event_up_to history (event.Machine m) cost steps counted within = omega (arith, counted)
event_up_to history (event.Cpu cpu given) cost steps counted within = omega (arith, counted)
event_up_to history (event.Write at bytes) cost steps counted within = (
  counted.0,
  counted.1,
  counted.2,
  updates_up_to (memory (next history (event.Write at bytes))) at (length bytes) counted.0 counted.1 counted.1 counted.3 (omega arith),
  omega (arith, counted.4),
)
event_up_to history (event.Set cpu change) cost steps counted within = omega (arith, counted)
event_up_to history (event.Invlpg cpu address) cost steps counted within = omega (arith, counted)
event_up_to history (event.Invpcid cpu kind pcid address) cost steps counted within = omega (arith, counted)
event_up_to history (event.Ask cpu access pointer) cost steps counted within = omega (arith, counted)
event_up_to history (event.List cpu) cost steps counted within =
    (counted.0, counted.1, counted.2, counted.3, list_up_to history counted.0 counted.1 cost steps counted.4 within)
event_up_to history (event.Point all) cost steps counted within = audits_up_to history (processors history) cost steps counted within

pub build_reach : (history : History) (key : SpaceKey) (cost steps : ℕ) → BuildCost history key cost → (BuildMayTake history key steps ↔ (steps ≤ cost))
build_reach history key cost steps counted = (build_within history key cost steps counted, build_up_to history key cost steps counted)

pub list_reach : (history : History) (keys : List SpaceKey) (key : SpaceKey) (cost steps : ℕ) → ListCost history keys key cost
    → (ListMayTake history keys key steps ↔ (steps ≤ cost))
list_reach history keys key cost steps counted = (list_within history keys key cost steps counted, list_up_to history keys key cost steps counted)

pub update_reach : (memory : Memory) (key : SpaceKey) (at n cost steps : ℕ) → UpdateCost memory key at n cost → (UpdateMayTake memory key at n steps ↔ (steps ≤ cost))
update_reach memory key at n cost steps counted = (update_within memory key at n cost steps counted, update_up_to memory key at n cost steps counted)

pub audit_reach : (history : History) (cpu cost steps : ℕ) → AuditCost history cpu cost → (AuditMayTake history cpu steps ↔ (steps ≤ cost))
audit_reach history cpu cost steps counted = (audit_within history cpu cost steps counted, audit_up_to history cpu cost steps counted)

pub event_reach : (history : History) (happened : Event) (cost steps : ℕ) → Cost history happened cost → (MayTake history happened steps ↔ (steps ≤ cost))
event_reach history happened cost steps counted = (event_within history happened cost steps counted, event_up_to history happened cost steps counted)

-- the cost of an event may be taken, so no other cost is less
pub cost_is_one : (history : History) (happened : Event) (one other : ℕ) → Cost history happened one → Cost history happened other → one ≡ other
cost_is_one history happened one other is_one is_other =
    let up : one ≤ other = event_within history happened other one is_other (event_up_to history happened one one is_one (omega arith)) in
    let down : other ≤ one = event_within history happened one other is_one (event_up_to history happened other other is_other (omega arith)) in
    omega arith
