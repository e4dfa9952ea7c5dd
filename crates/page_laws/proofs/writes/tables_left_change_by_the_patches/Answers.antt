use Rattle.page_laws.proofs.LeftCounts.{numbers-left}
use Rattle.page_laws.proofs.writes.tables_left_change_by_the_patches.Goals as goal

pub returns : goal.returns
returns c written one other settings root patches all left alike are own are_all are_left =
    numbers-left written one other settings root patches all left alike are own are_all are_left
