-- The page is made at the first moment, and neither event removes it.
use Rattle.std.proofs.Common.{refl}
use Rattle.paging_model.specs.Entries.{entry_of, is_reserved}
use Rattle.paging_model.specs.Memory.{entry_at}
use Rattle.history_model.specs.Invalidations.{kills}
use Rattle.history_model.specs.CachedTranslations.{kept, at_root, below, fill_of}
use Rattle.history_model.proofs.worked_translations.neighbors.Goals as goal

pub returns : goal.returns
unfolding entry_of is_reserved entry_at fill_of kills
returns c = record {
  held = kept _ (kept _ (below _ refl refl (below _ refl refl (below _ refl refl (at_root refl refl refl refl) refl refl) refl refl) refl refl) refl refl) refl refl;
}
