use Rattle.std.proofs.Common.{◌≡◌, Ok, take, sym, ap, ◌∙◌}
use Rattle.std.proofs.lemmas.Result.{err_from_is_err_and}
use Rattle.deb_profile.specs.Reduction.{reduced, reduced_at}
use Rattle.farm_universe.specs.FieldView.{entries_said}
use Rattle.farm_universe.proofs.FieldTextLaws.{none-refused, reduced-said}
use Rattle.farm_universe.proofs.field_text.FieldText.reduce.Goals as goal

pub returns-in_err-reduce_text-clause-memory : goal.returns-in_err-reduce_text-clause-memory
returns-in_err-reduce_text-clause-memory c =
    let p = err_from_is_err_and c.from_residual.result c.from_residual.ensures.1 in
    let kind = c.self.inside.kind in
    let text = c.self.inside.text.items in
    let read : reduced_at c.args.most c.args.names.now c.args.profiles.now kind c.deref.result.now
    ≡ Ok (take c.args.most (reduced c.args.names.now c.args.profiles.now (entries_said kind text)))
    =
    ap (reduced_at c.args.most c.args.names.now c.args.profiles.now kind) c.deref.ensures.value
    ∙ reduced-said c.args.most c.args.names.now c.args.profiles.now kind text c.self.invariant in
    rw (p.1, p.2) (none-refused _ _ _ read c.in_err-reduce_text.ensures)

pub returns-clause-left : goal.returns-clause-left
returns-clause-left c =
    let kind = c.self.inside.kind in
    let text = c.self.inside.text.items in
    let said : Ok c.in_ok-reduce_text.field-0
    ≡ Ok (take c.args.most (reduced c.args.names.now c.args.profiles.now (entries_said kind text)))
    =
    sym c.in_ok-reduce_text.ensures
    ∙ ap (reduced_at c.args.most c.args.names.now c.args.profiles.now kind) c.deref.ensures.value
    ∙ reduced-said c.args.most c.args.names.now c.args.profiles.now kind text c.self.invariant in
    let left : c.in_ok-reduce_text.field-0
    ≡ take c.args.most (reduced c.args.names.now c.args.profiles.now (entries_said kind text)) =
    cc in
    left
    ∙ ap (λ field. take c.args.most (reduced c.args.names.now c.args.profiles.now field))
    c.self.view_is
