-- The page is made at the first moment, and no write removes it.
use Rattle.history_model.specs.WorkedTranslations.{with_first_entry}
use Rattle.std.proofs.Common.{ℕ, false, refl, inl, inr, arith}
use Rattle.paging_model.specs.AccessRights.{is_granted}
use Rattle.paging_model.specs.Entries.{entry_of, is_reserved}
use Rattle.paging_model.specs.LinearAddress.{IsPage}
use Rattle.paging_model.specs.Memory.{entry_at}
use Rattle.paging_model.specs.Pointers.{aim_of}
use Rattle.paging_model.specs.Walking.{walk, walk_from}
use Rattle.paging_model.specs.declared.access.Access.TheVariants.{Uw}
use Rattle.history_model.specs.CachedTranslations.{MayHold, MayUse, kept, at_root, below, fill_of}
use Rattle.history_model.specs.Invalidations.{kills}
use Rattle.history_model.specs.WorkedTranslations.{two_pages, page_at}
use Rattle.history_model.proofs.worked_translations.excess.Goals as goal

held_first : MayHold two_pages 0 0 1 0 (page_at 0x5000)
unfolding entry_of is_reserved entry_at fill_of
held_first = below _ refl refl (below _ refl refl (below _ refl refl (at_root refl refl refl refl) refl refl) refl refl) refl refl

may_use : (value : ℕ) → MayUse (with_first_entry value) 0 0 1 0 (page_at 0x5000)
unfolding kills
may_use value = record { leaf = refl; under = 0; reaches = inl refl; held_there = kept _ held_first refl refl }

page_0 : IsPage false 0
page_0 = record { below = omega arith; aligned = refl; canonical = refl }

pub returns : goal.returns
unfolding entry_of is_reserved entry_at walk walk_from is_granted aim_of
returns c = record {
  read_only = record {
    known = _;
    is_known = refl;
    root = _;
    is_root = refl;
    page = page_0;
    level = _;
    held = _;
    may_use = may_use 0x5005;
    exceeds = inr (Uw, refl, refl);
    frame = refl;
    excess = refl;
  };
  elsewhere = record {
    known = _;
    is_known = refl;
    root = _;
    is_root = refl;
    page = page_0;
    level = _;
    held = _;
    may_use = may_use 0x7007;
    exceeds = inl (λ e. absurd (omega (arith, e)));
    frame = refl;
    excess = refl;
  };
}
