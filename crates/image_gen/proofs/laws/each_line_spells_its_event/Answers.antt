use Rattle.image_gen.proofs.EachLine.{each-line}
use Rattle.image_gen.proofs.laws.each_line_spells_its_event.Goals as goal

pub returns : goal.returns
returns c seed count = each-line seed count
