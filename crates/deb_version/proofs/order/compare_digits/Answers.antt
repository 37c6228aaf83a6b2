use Rattle.std.proofs.Common.{refl}
use Rattle.deb_version.proofs.RunLaws.{digits_start}
use Rattle.deb_version.proofs.order.compare_digits.Goals as goal

pub loop-x-init : goal.loop-x-init
loop-x-init c = record {
  order = digits_start c.args.a.now c.args.b.now c.requires.a_plain c.requires.b_plain;
  behind_a = refl;
  behind_b = refl;
}
