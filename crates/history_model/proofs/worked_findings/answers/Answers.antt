-- The small core has small tables, as the small memory does.
use Rattle.std.proofs.Common.{refl, inl, inr}
use Rattle.paging_model.specs.AccessRights.{is_granted}
use Rattle.paging_model.specs.Entries.{entry_of, is_reserved}
use Rattle.paging_model.specs.Listings.{AreAreas}
use Rattle.paging_model.specs.Memory.{entry_at}
use Rattle.paging_model.specs.Pointers.{aim_of}
use Rattle.paging_model.specs.TableUses.{IsWithinLimits}
use Rattle.paging_model.specs.Walking.{walk, walk_from}
use Rattle.paging_model.specs.WorkedExamples.{small_regs}
use Rattle.paging_model.specs.WorkedSpaces.{small_areas, small_machine, small_settings}
use Rattle.paging_model.proofs.SmallListings.{two_areas}
use Rattle.paging_model.proofs.SmallUses.{all_uses, all_pages, within_limits}
use Rattle.history_model.specs.History.{begun, memory}
use Rattle.history_model.specs.WorkedHistories.{small_start}
use Rattle.history_model.proofs.KnownTables.{small_core}
use Rattle.history_model.proofs.worked_findings.answers.Goals as goal

within : IsWithinLimits (memory (begun small_start)) small_settings 0x1000
unfolding entry_of is_reserved walk walk_from entry_at
within = within_limits (all_uses small_core tt tt) (all_pages small_core _ _ refl refl refl refl)

areas : AreAreas (memory (begun small_start)) small_machine small_regs small_areas
unfolding entry_of is_reserved walk walk_from entry_at is_granted aim_of
areas = two_areas (memory (begun small_start)) small_core refl refl

pub returns : goal.returns
returns c = record {
  areas = (small_regs, refl, inr (within, (small_areas, areas, refl)));
  too_large = λ history cpu known is_known large. (known, is_known, inl (large, refl));
}
