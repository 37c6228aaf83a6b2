use Rattle.std.proofs.Common.{◌≡◌, ◌||◌, ℕ, Bool, false, List, Some, sym, ap, ◌∙◌}
use Rattle.deb_relation.specs.Common.{Relations}
use Rattle.deb_relation.specs.declared.operator.Op.TheVariants.{Equal}
use Rattle.cross_laws.specs.Binary.{Standing, Asked, asked, itself, standing}
use Rattle.cross_clear.specs.Across.{across_by, by_some, offer}
use Rattle.cross_relations.specs.Senses.{asked_of, standing_of}
use Rattle.cross_clear.proofs.AcrossLaws.{across-by-offers}
use Rattle.cross_clear.proofs.across.is_across.Goals as goal

pub returns-else-across_by : goal.returns-else-across_by
returns-else-across_by c =
    let s = c.args.sides.now in
    let a = c.args.atom.now in
    let q = c.args.binary.now in
    let by = asked s a.qualifier in
    let own = standing_of c.standing-own.result in
    let read = asked_of c.asked_by-asked.result in
    let asks : read ≡ by = c.asked_by-asked.ensures ∙ ap (asked s) c.qualifier.ensures in
    let none : across_by a by (itself q) ≡ false =
    ap (λ (x : Asked). across_by a x (itself q)) (sym asks)
    ∙ ap (λ (n : List ℕ). across_by a read (offer n (Some (Equal, q.rest.version)) (standing q)))
    (sym c.name.ensures)
    ∙ ap (λ (v : List ℕ). across_by a read (offer c.name.result.now (Some (Equal, v)) (standing q)))
    (sym c.version.ensures)
    ∙ ap (λ (o : Standing). across_by a read
    (offer c.name.result.now (Some (Equal, c.version.result)) o)) (sym c.standing-own.ensures)
    ∙ sym c.across_by.ensures ∙ c.if-across_by.false in
    let some : by_some s (across_by a by) (standing q) q.rest.provides ≡ c.across_some.result =
    ap (λ (x : Asked). by_some s (across_by a x) (standing q) q.rest.provides) (sym asks)
    ∙ ap (λ (o : Standing). by_some s (across_by a read) o q.rest.provides) (sym c.standing-own.ensures)
    ∙ ap (λ (f : Relations). by_some s (across_by a read) own f) (sym c.provides.ensures)
    ∙ sym c.across_some.ensures in
    sym some
    ∙ ap (λ (b : Bool). b || by_some s (across_by a by) (standing q) q.rest.provides) (sym none)
    ∙ across-by-offers s a q
