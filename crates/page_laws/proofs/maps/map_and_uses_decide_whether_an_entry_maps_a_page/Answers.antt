use Rattle.page_laws.proofs.MappedEntries.{slot-unmapped, slot-table, slot-page}
use Rattle.page_laws.proofs.maps.map_and_uses_decide_whether_an_entry_maps_a_page.Goals as goal

pub returns-clause-unmapped : goal.returns-clause-unmapped
returns-clause-unmapped c written memory settings root patch target i is map least less none =
    slot-unmapped written memory settings root patch target i is map least less none

pub returns-clause-table : goal.returns-clause-table
returns-clause-table c written memory settings root patch tables i table is all least less is_in at =
    slot-table written memory settings root patch tables i table is all least less is_in at

pub returns-clause-page : goal.returns-clause-page
returns-clause-page c written memory settings root patch target tables i to is map all least less some never =
    slot-page written memory settings root patch target tables i to is map all least less some never
