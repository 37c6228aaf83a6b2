use Rattle.std.proofs.Common.{◌≡◌, ◌||◌, ℕ, Bool, true, false, List, Some, sym, ap, ◌∙◌}
use Rattle.deb_relation.specs.Common.{Relations}
use Rattle.deb_relation.specs.declared.operator.Op.TheVariants.{Equal}
use Rattle.cross_laws.specs.Binary.{Standing, itself, standing}
use Rattle.cross_clear.specs.Across.{by_some, offer, taken_by}
use Rattle.cross_relations.specs.Senses.{standing_of}
use Rattle.cross_clear.proofs.AcrossLaws.{taken-by-offers}
use Rattle.cross_clear.proofs.across.is_taken_for.Goals as goal

pub returns-else-taken_by : goal.returns-else-taken_by
returns-else-taken_by c =
    let s = c.args.sides.now in
    let t = c.args.hit.now in
    let q = c.args.other.now in
    let own = standing_of c.standing-own.result in
    let none : taken_by t (itself q) ≡ false =
    ap (λ (n : List ℕ). taken_by t (offer n (Some (Equal, q.rest.version)) (standing q)))
    (sym c.name.ensures)
    ∙ ap (λ (v : List ℕ). taken_by t (offer c.name.result.now (Some (Equal, v)) (standing q)))
    (sym c.version.ensures)
    ∙ ap (λ (o : Standing). taken_by t (offer c.name.result.now (Some (Equal, c.version.result)) o))
    (sym c.standing-own.ensures)
    ∙ sym c.taken_by.ensures ∙ c.if-taken_by.false in
    let some : by_some s (taken_by t) (standing q) q.rest.provides ≡ c.taken_some.result =
    ap (λ (o : Standing). by_some s (taken_by t) o q.rest.provides) (sym c.standing-own.ensures)
    ∙ ap (λ (f : Relations). by_some s (taken_by t) own f) (sym c.provides.ensures)
    ∙ sym c.taken_some.ensures in
    sym some
    ∙ ap (λ (b : Bool). b || by_some s (taken_by t) (standing q) q.rest.provides) (sym none)
    ∙ taken-by-offers s t q

pub returns-then-taken_by : goal.returns-then-taken_by
returns-then-taken_by c =
    let s = c.args.sides.now in
    let t = c.args.hit.now in
    let q = c.args.other.now in
    let yes : taken_by t (itself q) ≡ true =
    ap (λ (n : List ℕ). taken_by t (offer n (Some (Equal, q.rest.version)) (standing q)))
    (sym c.name.ensures)
    ∙ ap (λ (v : List ℕ). taken_by t (offer c.name.result.now (Some (Equal, v)) (standing q)))
    (sym c.version.ensures)
    ∙ ap (λ (o : Standing). taken_by t (offer c.name.result.now (Some (Equal, c.version.result)) o))
    (sym c.standing-own.ensures)
    ∙ sym c.taken_by.ensures ∙ c.if-taken_by.true in
    c.if-taken_by.true
    ∙ ap (λ (b : Bool). b || by_some s (taken_by t) (standing q) q.rest.provides) (sym yes)
    ∙ taken-by-offers s t q
