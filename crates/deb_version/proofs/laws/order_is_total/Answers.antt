use Rattle.deb_version.specs.OrderLaws.{text_cmp_total}
use Rattle.deb_version.proofs.laws.order_is_total.Goals as goal

pub returns : goal.returns
returns c = text_cmp_total
