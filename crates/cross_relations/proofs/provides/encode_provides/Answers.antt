use Rattle.std.proofs.Common.{◌++◌, ap, ◌∙◌}
use Rattle.std.specs.List.{flat_map}
use Rattle.cross_laws.specs.Binary.{Standing, atoms}
use Rattle.cross_laws.specs.Encoding.{further, singles}
use Rattle.cross_relations.specs.Provides.{item_in, own_offers}
use Rattle.cross_relations.proofs.ProvidesLaws.{all-provided}
use Rattle.cross_relations.proofs.provides.encode_provides.Goals as goal

pub returns : goal.returns
returns c =
    let s = c.args.sides.now in
    let p = c.args.binary.now in
    let all = λ (own : Standing). singles (flat_map (item_in s own) (atoms p.rest.provides))
    ++ singles (own_offers s p (further own)) in
    c.from_entries.ensures ∙ c.in_ok-push_own.ensures
    ∙ rw (c.in_ok-push_items.ensures, c.new-made.ensures.items, c.further.ensures, c.provides.ensures)
    (ap all c.standing-own.ensures ∙ all-provided s p)
