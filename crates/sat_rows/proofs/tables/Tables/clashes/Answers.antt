use Rattle.std.proofs.Common.{arith, None, sym, subst, ◌∙◌}
use Rattle.sat_rows.specs.Tables.{AreKept}
use Rattle.std.proofs.lemmas.List.{get_or_default}
use Rattle.farm_model.specs.Packages.{recipe, satisfies_any}
use Rattle.sat_rows.specs.Rows.{IsSharedRow}
use Rattle.sat_rows.proofs.tables.Tables.clashes.Goals as goal

pub index-requires : goal.index-requires
index-requires c =
    let inside = c.self.inside in
    let kept = subst
    (λ u. AreKept u inside.names.items inside.needs.items inside.rows.items inside.conflicts
    inside.breaks
    inside.clashes.items inside.providers inside.empty inside.served) c.self.view_is
    c.self.invariant in
    omega (arith, c.requires, kept.clashes.long, inside.clashes.ok)

pub returns : goal.returns
returns c =
    let inside = c.self.inside in
    let kept = subst
    (λ u. AreKept u inside.names.items inside.needs.items inside.rows.items inside.conflicts
    inside.breaks
    inside.clashes.items inside.providers inside.empty inside.served) c.self.view_is
    c.self.invariant in
    let u = c.args.self.now in
    let r = c.args.recipe in
    let p = satisfies_any u (recipe u r).clashes in
    c.shared.ensures p
    (subst (IsSharedRow u p)
    (get_or_default inside.clashes.items r None c.index.result.now
    (omega (arith, c.requires, kept.clashes.long))
    ∙ sym c.index.ensures) (kept.clashes.each r c.requires))
