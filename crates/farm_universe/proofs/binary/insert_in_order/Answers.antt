use Rattle.std.proofs.Common.{◌≡◌, sym, ap, ◌∙◌, rules, insert}
use Rattle.std.specs.List.{position_or_len}
use Rattle.deb_text.specs.Groups.{in_order}
use Rattle.deb_text.proofs.PlaceLaws.{in_order-insert}
use Rattle.farm_universe.specs.PackagesText.{is_below}
use Rattle.farm_universe.proofs.binary.insert_in_order.Goals as goal

pub returns : goal.returns
returns c =
    let vs = c.args.given.now.items in
    let e : in_order is_below c.args.binary vs ≡ insert vs c.place_for-at.result c.args.binary =
    in_order-insert is_below c.args.binary vs
    ∙ ap (λ at. insert vs at c.args.binary)
    (ap (position_or_len (is_below c.args.binary)) (sym c.deref.ensures.value)
    ∙ sym c.place_for-at.ensures.place) in
    rw e (search rules)
