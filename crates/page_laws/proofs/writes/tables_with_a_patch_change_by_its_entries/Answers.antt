use Rattle.page_laws.proofs.WrittenEntries.{number-patched}
use Rattle.page_laws.proofs.writes.tables_with_a_patch_change_by_its_entries.Goals as goal

pub returns : goal.returns
returns c written one other settings root patches patch alike are own is lower =
    number-patched written one other settings root patches patch alike are own is lower
