-- The reference of the last table is made at the first moment and kept, and the page is made below it.
use Rattle.std.proofs.Common.{refl}
use Rattle.paging_model.specs.Entries.{entry_of, is_reserved}
use Rattle.paging_model.specs.Memory.{entry_at}
use Rattle.paging_model.specs.Walking.{walk, walk_from}
use Rattle.history_model.specs.CachedTranslations.{kept, at_root, below, fill_of}
use Rattle.history_model.specs.Invalidations.{kills}
use Rattle.history_model.proofs.worked_translations.held_tables.Goals as goal

pub returns : goal.returns
unfolding entry_of is_reserved entry_at walk walk_from fill_of kills
returns c = record {
  first = refl;
  unlinked = refl;
  filled = refl;
  held = below _ refl refl (kept _ (kept _ (below _ refl refl (below _ refl refl (at_root refl refl refl refl) refl refl) refl refl) refl refl) refl refl) refl refl;
}
