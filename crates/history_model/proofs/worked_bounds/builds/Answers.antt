-- The four uses are reached entry by entry from the root; the laws hold by the fields of the bound.
use Rattle.std.proofs.Common.{ℕ, ◌-◌, List, [], ◌∷◌, refl, arith}
use Rattle.paging_model.specs.Entries.{entry_of, is_reserved}
use Rattle.paging_model.specs.Memory.{entry_at}
use Rattle.paging_model.specs.TableUses.{IsUse, at_root, below}
use Rattle.paging_model.specs.WorkedSpaces.{small_settings}
use Rattle.paging_model.specs.declared.spaces.TableUse.{TableUse}
use Rattle.history_model.specs.History.{begun, memory}
use Rattle.history_model.specs.WorkedHistories.{small_start}
use Rattle.history_model.specs.WorkedKeptSpaces.{use_at}
use Rattle.history_model.proofs.ListedThings.{at_least}
use Rattle.history_model.proofs.SmallUses.{top_use, lower_use}
use Rattle.history_model.proofs.worked_bounds.builds.Goals as goal

by_level : TableUse → ℕ
by_level table = 5 - table.level

uses : List TableUse
uses = use_at 4 0 0x1000 ∷ use_at 3 0 0x2000 ∷ use_at 2 0 0x3000 ∷ use_at 1 0 0x4000 ∷ []

pub returns : goal.returns
unfolding by_level uses entry_of is_reserved entry_at
returns c = record {
  four = record {
    uses = 4;
    are_uses = at_least (IsUse (memory (begun small_start)) small_settings 0x1000) by_level uses 4 (
      top_use (memory (begun small_start)) 0x1000,
      (
        lower_use (memory (begun small_start)) 0x1000 (use_at 3 0 0x2000) refl (below at_root refl),
        (
          lower_use (memory (begun small_start)) 0x1000 (use_at 2 0 0x3000) refl (below (below at_root refl) refl),
          (lower_use (memory (begun small_start)) 0x1000 (use_at 1 0 0x4000) refl (below (below (below at_root refl) refl) refl), tt),
        ),
      ),
    ) refl (omega arith);
    few = omega arith;
    bound = omega arith;
  };
  no_more = λ history key uses steps few build. let most = few build.uses build.are_uses in omega (arith, build.bound);
  one_too_many = λ history key uses. record { uses = 262145; are_uses = uses; few = omega arith; bound = omega arith };
  not_two = λ history key build. omega (arith, build.few, build.bound);
}
