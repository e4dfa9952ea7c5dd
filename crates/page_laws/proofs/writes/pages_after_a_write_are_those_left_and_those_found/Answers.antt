use Rattle.page_laws.proofs.LeftCounts.{pages-updated-count}
use Rattle.page_laws.proofs.writes.pages_after_a_write_are_those_left_and_those_found.Goals as goal

pub returns : goal.returns
returns c written one other settings root patches all left n alike are own are_all are_left uses is =
    pages-updated-count written one other settings root patches all left n alike are own are_all are_left uses is
