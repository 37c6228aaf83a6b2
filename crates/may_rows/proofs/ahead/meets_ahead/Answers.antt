use Rattle.std.proofs.Common.{◌≡◌, ◌∙◌, [], Some, sym, ap, subst}
use Rattle.std.specs.List.{list_any, slice_get}
use Rattle.std.proofs.lemmas.Option.{get_or_from_slice_get}
use Rattle.farm_model.specs.Packages.{pre_depends, satisfies, satisfies_entry}
use Rattle.sat_rows.specs.Rows.{nth_entry}
use Rattle.may_rows.specs.Words.{some_name_inside}
use Rattle.may_rows.proofs.MetAhead.{entry_row_of, ahead_by_entry, ahead_by_alternative}
use Rattle.may_rows.proofs.ahead.meets_ahead.Goals as goal

pub returns-then-has_ready_inside : goal.returns-then-has_ready_inside
returns-then-has_ready_inside c =
    let u = c.args.universe.now in
    let e = nth_entry (pre_depends u c.args.variant) c.args.entry in
    let row =
    entry_row_of c.args.tables.now u c.args.variant c.args.entry c.pre_depends.result.now
    c.requires.same c.pre_depends.ensures in
    ahead_by_entry u c.args.state.now e c.requires.state c.has_ready_inside.result
    (c.has_ready_inside.ensures u (satisfies_entry u e) c.requires.state row)
    c.if-has_ready_inside.true

pub returns-else-has_ready_inside : goal.returns-else-has_ready_inside
returns-else-has_ready_inside c =
    let u = c.args.universe.now in
    let e = nth_entry (pre_depends u c.args.variant) c.args.entry in
    let row =
    entry_row_of c.args.tables.now u c.args.variant c.args.entry c.pre_depends.result.now
    c.requires.same c.pre_depends.ensures in
    let found = c.entry-alternatives.result.now in
    let at : slice_get (pre_depends u c.args.variant) c.args.entry ≡ Some found =
    subst (λ es. slice_get es c.args.entry ≡ Some found) c.relations.ensures.pre_depends
    c.entry-alternatives.ensures in
    let same : found ≡ e =
    sym (get_or_from_slice_get (pre_depends u c.args.variant) c.args.entry found [] at) in
    c.meets_alternative.ensures
    ∙ ap (list_any (λ a. some_name_inside u c.args.state.now.both (satisfies u a))) same
    ∙ ahead_by_alternative u c.args.state.now e c.requires.state c.has_ready_inside.result
    (c.has_ready_inside.ensures u (satisfies_entry u e) c.requires.state row)
    c.if-has_ready_inside.false
