-- What is planned before a write to some slots of a frame, and what comes of it.
use Rattle.std.specs.Prelude.{◌≡◌, ℕ, ◌+◌, ◌-◌, ◌*◌, ◌≤◌}
use Rattle.history_model.specs.Bounds.{UpdateMayTake}
use Rattle.paging_model.specs.Memory.{Memory}
use Rattle.paging_model.specs.declared.spaces.SpaceKey.{SpaceKey}
use Rattle.kept_laws.specs.WrittenPlaces.{AreAlikeBut, meets_slots}
use Rattle.plan_laws.specs.Plans.{ArePlanned}
use Rattle.space_map.specs.PatchWalks.{index_tables}
use Rattle.space_map.specs.TrueSpaces.{IsTrueOf}
use Rattle.space_map.specs.declared.plans.Plan.{Plan}
use Rattle.space_map.specs.declared.space.Space.{Space}

-- the patches are those that a write to the plan's slots makes of the space
abbrev pub IsPlanned : Space → Plan → Type 0
IsPlanned space plan =
    ArePlanned space.key.settings plan.first_slot plan.last_slot plan.frame (index_tables space.index) plan.patches.items

-- it is the plan of a write to these slots of a frame
pub record IsPlanOf (space : Space) (frame first last : ℕ) (plan : Plan) : Type 0 where
  pub frame_is : plan.frame ≡ frame
  pub first_is : plan.first_slot ≡ first
  pub last_is : plan.last_slot ≡ last
  pub planned : IsPlanned space plan

-- the space was true of a memory that differs at most in the plan's slots
pub record WasTrue (space : Space) (plan : Plan) (memory : Memory) : Type 0 where
  pub old : Memory
  pub is_true : IsTrueOf old space
  pub alike : AreAlikeBut (meets_slots plan.frame plan.first_slot plan.last_slot) old memory

-- the space of a key is updated in as many steps as that may take after a write to the plan's slots
pub record UpdateTakes (memory : Memory) (key : SpaceKey) (plan : Plan) (old new : ℕ) : Type 0 where
  pub steps : ℕ
  pub may : UpdateMayTake memory key (plan.frame + 8 * plan.first_slot) (8 * (plan.last_slot + 1 - plan.first_slot)) steps
  pub bound : new ≤ old + steps
