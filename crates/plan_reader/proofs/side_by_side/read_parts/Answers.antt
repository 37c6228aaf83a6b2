use Rattle.std.proofs.Common.{◌≡◌, ◌+◌, ◌*◌, ◌-◌, drop, ap, subst, ◌∙◌, arith}
use Rattle.std.specs.List.{AllZip, range_with_len}
use Rattle.rayon.specs.Numbers.{nat_range}
use Rattle.rayon.proofs.ListFacts.{IfOk-then}
use Rattle.plan_reader.specs.declared.side_by_side.TheConstants.{PARTS}
use Rattle.plan_reader.specs.Parts.{IsPartSaid}
use Rattle.plan_reader.proofs.PartLaws.{are-parts}
use Rattle.plan_reader.proofs.side_by_side.read_parts.Goals as goal

pub returns : goal.returns
returns g c =
    let u = c.args.names.universe.now in
    let count = c.args.count in
    let ls = c.args.lines.now in
    let ends = c.into_par_iter.ensures in
    let start = ap (λ it. it.base.start) c.map.ensures.base
    ∙ (ap (λ it. it.start) c.with_min_len.ensures.base ∙ ends.0) in
    let end = ap (λ it. it.base.end) c.map.ensures.base
    ∙ (ap (λ it. it.end) c.with_min_len.ensures.base ∙ ends.1) in
    let whole : PARTS - 0 ≡ PARTS = omega arith in
    IfOk-then c.collect.result _ _ c.collect.ensures (λ v h.
    let places = h.1.1 ∙ ((λ i. nat_range (start i) (end i)) ∙ ap (range_with_len 0) whole) in
    let called =
    subst (λ f. AllZip (λ k part. IsPartSaid f.2.universe.now f.3 (drop (1 + k * f.3) f.0.now) part)
    h.1.0 h.0) c.map.ensures.f h.1.2 in
    are-parts u count PARTS ls v.items h.1.0 places (rw h.2 called))
