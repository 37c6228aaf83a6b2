use Rattle.std.proofs.Common.{subst, arith}
use Rattle.sat_rows.specs.Tables.{AreKept}
use Rattle.farm_model.specs.Packages.{pre_depends}
use Rattle.sat_rows.specs.Rows.{nth_entry}
use Rattle.sat_rows.proofs.TableLaws.{numbers_within, variant_within, pre_within, pre_number, row_within, row_at}
use Rattle.sat_rows.proofs.tables.Tables.pre_depends.Goals as goal

pub index-requires : goal.index-requires
index-requires c =
    let inside = c.self.inside in
    let kept = subst
    (λ u. AreKept u inside.names.items inside.needs.items inside.rows.items inside.conflicts
    inside.breaks
    inside.clashes.items inside.providers inside.empty inside.served) c.self.view_is
    c.self.invariant in
    let within = numbers_within c.args.self.now inside.names.items inside.needs.items
    inside.rows.items kept.entries
    c.args.variant c.requires.known in
    omega (arith, within, inside.names.ok)

pub variant-numbers-requires : goal.variant-numbers-requires
variant-numbers-requires c =
    let inside = c.self.inside in
    let kept = subst
    (λ u. AreKept u inside.names.items inside.needs.items inside.rows.items inside.conflicts
    inside.breaks
    inside.clashes.items inside.providers inside.empty inside.served) c.self.view_is
    c.self.invariant in
    variant_within c.args.self.now inside.names.items inside.needs.items inside.rows.items
    kept.entries
    c.args.variant c.requires.known c.index.result.now c.index.ensures

pub pre_depends-requires : goal.pre_depends-requires
pre_depends-requires c =
    let inside = c.self.inside in
    let kept = subst
    (λ u. AreKept u inside.names.items inside.needs.items inside.rows.items inside.conflicts
    inside.breaks
    inside.clashes.items inside.providers inside.empty inside.served) c.self.view_is
    c.self.invariant in
    pre_within c.args.self.now inside.names.items inside.needs.items inside.rows.items
    kept.entries
    c.args.variant c.requires.known c.index.result.now c.index.ensures
    c.variant-numbers.result.now c.variant-numbers.ensures c.args.number c.requires.there

pub index-requires-2 : goal.index-requires-2
index-requires-2 c =
    let inside = c.self.inside in
    let kept = subst
    (λ u. AreKept u inside.names.items inside.needs.items inside.rows.items inside.conflicts
    inside.breaks
    inside.clashes.items inside.providers inside.empty inside.served) c.self.view_is
    c.self.invariant in
    let e = nth_entry (pre_depends c.args.self.now c.args.variant) c.args.number in
    let is = pre_number c.args.self.now inside.names.items inside.needs.items inside.rows.items
    kept.entries
    c.args.variant c.requires.known c.index.result.now c.index.ensures
    c.variant-numbers.result.now c.variant-numbers.ensures c.args.number c.pre_depends.result
    c.requires.there c.pre_depends.ensures in
    let within = row_within c.args.self.now inside.names.items inside.needs.items inside.rows.items
    kept.entries
    e c.pre_depends.result is in
    omega (arith, within, inside.rows.ok)

pub returns : goal.returns
returns c =
    let inside = c.self.inside in
    let kept = subst
    (λ u. AreKept u inside.names.items inside.needs.items inside.rows.items inside.conflicts
    inside.breaks
    inside.clashes.items inside.providers inside.empty inside.served) c.self.view_is
    c.self.invariant in
    let e = nth_entry (pre_depends c.args.self.now c.args.variant) c.args.number in
    row_at c.args.self.now inside.names.items inside.needs.items inside.rows.items kept.entries
    e c.pre_depends.result c.index-2.result.now
    (pre_number c.args.self.now inside.names.items inside.needs.items inside.rows.items
    kept.entries
    c.args.variant c.requires.known c.index.result.now c.index.ensures
    c.variant-numbers.result.now c.variant-numbers.ensures c.args.number c.pre_depends.result
    c.requires.there c.pre_depends.ensures)
    c.index-2.ensures
