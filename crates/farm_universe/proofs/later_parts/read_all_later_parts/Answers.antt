use Rattle.std.proofs.Common.{length, ap, subst, ◌∙◌}
use Rattle.std.specs.List.{AllZip}
use Rattle.rayon.specs.Numbers.{nat_range}
use Rattle.rayon.proofs.ListFacts.{IfOk-then}
use Rattle.deb_stanza.specs.Stanza.{paragraph_at}
use Rattle.farm_universe.specs.FarmView.{land_view, AreLaterParts}
use Rattle.farm_universe.proofs.PartLaws.{are_parts, inside}
use Rattle.farm_universe.proofs.later_parts.read_all_later_parts.Goals as goal

pub collect-requires-clause-ready : goal.collect-requires-clause-ready
collect-requires-clause-ready g c κs within =
    let ends = c.into_par_iter.ensures in
    let below =
    inside c.args.from c.args.to (length c.args.paragraphs.now) c.requires.within in
    rw (c.map.ensures.base, c.map.ensures.f, c.with_min_len.ensures.base, ends.0, ends.1)
    (λ k d lt. ((c.requires.land, below k d lt), λ y p. tt))

pub returns : goal.returns
returns g c =
    let ps = c.args.paragraphs.now in
    let land = land_view c.args.land.now in
    let ends = c.into_par_iter.ensures in
    let start = ap (λ it. it.base.start) c.map.ensures.base
    ∙ (ap (λ it. it.start) c.with_min_len.ensures.base ∙ ends.0) in
    let end = ap (λ it. it.base.end) c.map.ensures.base
    ∙ (ap (λ it. it.end) c.with_min_len.ensures.base ∙ ends.1) in
    IfOk-then c.collect.result _ _ c.collect.ensures (λ v h.
    let places = h.1.1 ∙ (λ i. nat_range (start i) (end i)) in
    let called =
    subst (λ f. AllZip
    (λ n parts. AreLaterParts (land_view f.1.now) (paragraph_at f.2.now n) parts)
    h.1.0 h.0)
    c.map.ensures.f h.1.2 in
    are_parts (AreLaterParts land) ps c.args.from c.args.to c.requires.ascends v.items h.1.0 places
    (rw h.2 called))
