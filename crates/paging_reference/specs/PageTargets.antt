-- What a page is mapped to, as the definitions have it.
use Rattle.std.specs.Prelude.{ℕ}
use Rattle.paging_model.specs.Translations.{Target}
use Rattle.paging_reference.specs.declared.translations.PageTarget.{PageTarget}

abbrev pub target_of : PageTarget → Target ℕ
target_of target = record { frame = target.frame; kind = target.rights }
