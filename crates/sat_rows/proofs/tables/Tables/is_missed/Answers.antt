use Rattle.std.proofs.Common.{sym, subst}
use Rattle.sat_rows.specs.Served.{AreServed}
use Rattle.sat_rows.specs.Tables.{AreKept}
use Rattle.sat_rows.proofs.ServedLaws.{rows_long, misses_is}
use Rattle.sat_rows.proofs.tables.Tables.is_missed.Goals as goal

pub misses-requires : goal.misses-requires
misses-requires c =
    let inside = c.self.inside in
    let kept = subst
    (λ u. AreKept u inside.names.items inside.needs.items inside.rows.items inside.conflicts
    inside.breaks
    inside.clashes.items inside.providers inside.empty inside.served) c.self.view_is
    c.self.invariant in
    rows_long c.args.self.now c.deref.result.now inside.served
    (subst (λ rows. AreServed c.args.self.now rows inside.served) (sym c.deref.ensures.value)
    kept.served_by) c.args.words.now c.requires

pub returns : goal.returns
returns c =
    let inside = c.self.inside in
    let kept = subst
    (λ u. AreKept u inside.names.items inside.needs.items inside.rows.items inside.conflicts
    inside.breaks
    inside.clashes.items inside.providers inside.empty inside.served) c.self.view_is
    c.self.invariant in
    misses_is c.args.self.now c.deref.result.now inside.served
    (subst (λ rows. AreServed c.args.self.now rows inside.served) (sym c.deref.ensures.value)
    kept.served_by) c.args.words.now c.requires c.args.name c.args.word c.misses.result
    c.misses.ensures
