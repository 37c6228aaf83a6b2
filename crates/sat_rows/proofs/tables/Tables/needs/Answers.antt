use Rattle.std.proofs.Common.{subst, arith}
use Rattle.sat_rows.specs.Tables.{AreKept}
use Rattle.farm_model.specs.Packages.{recipe}
use Rattle.sat_rows.specs.Rows.{nth_entry}
use Rattle.sat_rows.proofs.TableLaws.{needs_within, need_within, need_number, row_within, row_at}
use Rattle.sat_rows.proofs.tables.Tables.needs.Goals as goal

pub index-requires : goal.index-requires
index-requires c =
    let inside = c.self.inside in
    let kept = subst
    (λ u. AreKept u inside.names.items inside.needs.items inside.rows.items inside.conflicts
    inside.breaks
    inside.clashes.items inside.providers inside.empty inside.served) c.self.view_is
    c.self.invariant in
    let within = needs_within c.args.self.now inside.names.items inside.needs.items
    inside.rows.items kept.entries
    c.args.recipe c.requires.known in
    omega (arith, within, inside.needs.ok)

pub need-requires : goal.need-requires
need-requires c =
    let inside = c.self.inside in
    let kept = subst
    (λ u. AreKept u inside.names.items inside.needs.items inside.rows.items inside.conflicts
    inside.breaks
    inside.clashes.items inside.providers inside.empty inside.served) c.self.view_is
    c.self.invariant in
    need_within c.args.self.now inside.names.items inside.needs.items inside.rows.items kept.entries
    c.args.recipe c.requires.known c.index.result.now c.index.ensures c.args.number c.requires.there

pub index-requires-2 : goal.index-requires-2
index-requires-2 c =
    let inside = c.self.inside in
    let kept = subst
    (λ u. AreKept u inside.names.items inside.needs.items inside.rows.items inside.conflicts
    inside.breaks
    inside.clashes.items inside.providers inside.empty inside.served) c.self.view_is
    c.self.invariant in
    let e = nth_entry (recipe c.args.self.now c.args.recipe).needs c.args.number in
    let is = need_number c.args.self.now inside.names.items inside.needs.items inside.rows.items
    kept.entries
    c.args.recipe c.requires.known c.index.result.now c.index.ensures
    c.args.number c.need.result c.requires.there c.need.ensures in
    let within = row_within c.args.self.now inside.names.items inside.needs.items inside.rows.items
    kept.entries
    e c.need.result is in
    omega (arith, within, inside.rows.ok)

pub returns : goal.returns
returns c =
    let inside = c.self.inside in
    let kept = subst
    (λ u. AreKept u inside.names.items inside.needs.items inside.rows.items inside.conflicts
    inside.breaks
    inside.clashes.items inside.providers inside.empty inside.served) c.self.view_is
    c.self.invariant in
    let e = nth_entry (recipe c.args.self.now c.args.recipe).needs c.args.number in
    row_at c.args.self.now inside.names.items inside.needs.items inside.rows.items kept.entries
    e c.need.result c.index-2.result.now
    (need_number c.args.self.now inside.names.items inside.needs.items inside.rows.items
    kept.entries
    c.args.recipe c.requires.known c.index.result.now c.index.ensures
    c.args.number c.need.result c.requires.there c.need.ensures) c.index-2.ensures
