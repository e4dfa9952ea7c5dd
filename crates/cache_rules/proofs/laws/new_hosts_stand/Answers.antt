use Rattle.cache_rules.proofs.StartLaws.{new-stands}
use Rattle.cache_rules.proofs.laws.new_hosts_stand.Goals as goal

pub returns : goal.returns
returns c start number known is_known = new-stands start number known is_known
