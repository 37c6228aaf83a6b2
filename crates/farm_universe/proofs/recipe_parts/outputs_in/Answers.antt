use Rattle.std.proofs.Common.{◌≡◌, ◌∙◌, refl, sym, ap, arith, length, ◌==◌, if◌then◌else◌, Err, Ok}
use Rattle.std.proofs.lemmas.Result.{err_from_is_err_and}
use Rattle.farm_universe.specs.declared.error.TheConstants.{NO_OUTPUT}
use Rattle.farm_universe.specs.RecipeText.{outputs_at}
use Rattle.farm_universe.specs.TableView.{table_view}
use Rattle.farm_universe.specs.View.{refusal_of}
use Rattle.farm_universe.proofs.TextListLaws.{outputs-of, outputs-fail}
use Rattle.farm_universe.proofs.recipe_parts.outputs_in.Goals as goal

pub returns-in_default-clause-read : goal.returns-in_default-clause-read
unfolding outputs_at
returns-in_default-clause-read c = rw c.in_default.is refl

pub returns-in_err-outputs-clause-read : goal.returns-in_err-outputs-clause-read
returns-in_err-outputs-clause-read c =
    let p = err_from_is_err_and c.from_residual.result c.from_residual.ensures.1 in
    rw (p.1, p.2, c.in-Some.is)
    (outputs-fail refusal_of c.in_err-outputs.field-0.0 (table_view c.args.table.now)
    c.in-Some.text.now c.in_err-outputs.ensures.read)

pub returns-then-is_empty-clause-read : goal.returns-then-is_empty-clause-read
returns-then-is_empty-clause-read c =
    let vs = c.in_ok-outputs.outputs.items in
    let size : length vs ≡ c.in_ok-outputs.outputs.len =
    omega (arith, c.in_ok-outputs.outputs.ok.0) in
    rw c.in-Some.is
    (outputs-of (table_view c.args.table.now) c.in-Some.text.now vs c.in_ok-outputs.ensures.read
    ∙ ap (λ none. if none then Err NO_OUTPUT else Ok vs)
    (ap (λ n. n == 0) size ∙ sym c.is_empty.ensures ∙ c.if-is_empty.true))

pub returns-clause-read : goal.returns-clause-read
returns-clause-read c =
    let vs = c.in_ok-outputs.outputs.items in
    let size : length vs ≡ c.in_ok-outputs.outputs.len =
    omega (arith, c.in_ok-outputs.outputs.ok.0) in
    rw c.in-Some.is
    (outputs-of (table_view c.args.table.now) c.in-Some.text.now vs c.in_ok-outputs.ensures.read
    ∙ ap (λ none. if none then Err NO_OUTPUT else Ok vs)
    (ap (λ n. n == 0) size ∙ sym c.is_empty.ensures ∙ c.if-is_empty.false))
