use Rattle.page_laws.proofs.WrittenEntries.{number-same}
use Rattle.page_laws.proofs.writes.tables_without_patches_map_as_many_pages.Goals as goal

pub returns : goal.returns
returns c written one other settings root patches table alike are is_use free none lower =
    number-same written one other settings root patches table alike are is_use free none lower
