use Rattle.std.proofs.Common.{◌<◌}
use Rattle.std.proofs.lemmas.List.Elements.{All-push}
use Rattle.std.proofs.lemmas.Result.{err_from_is_err_and}
use Rattle.deb_text.proofs.StepLaws.{traverse-goes, traverse-stops, traverse-ends}
use Rattle.farm_model.specs.Packages.{names}
use Rattle.plan_reader.specs.Drafts.{known_name}
use Rattle.plan_reader.specs.LineErrors.{refusal_of_line}
use Rattle.plan_reader.proofs.names.known_names.Goals as goal

pub returns-in_err-known_name-clause-value : goal.returns-in_err-known_name-clause-value
returns-in_err-known_name-clause-value c =
    let p = err_from_is_err_and c.from_residual.result c.from_residual.ensures.1 in
    rw (p.1, p.2)
    (traverse-stops (known_name c.args.universe.now) refusal_of_line _ _ _ _ _ _
    c.in-Some.ensures.word c.in_err-known_name.ensures.value c.loop-word.invariant.so_far)

pub loop-word-preserved : goal.loop-word-preserved
loop-word-preserved c =
    let known = known_name c.args.universe.now in
    record {
      so_far = rw c.in_ok-push.ensures.items
          (traverse-goes known _ _ _ _ _ _
          c.in-Some.ensures.word c.in_ok-known_name.ensures.value c.loop-word.invariant.so_far);
      known = rw c.in_ok-push.ensures.items
          (All-push (λ n. n < names c.args.universe.now) _ _
          c.loop-word.invariant.known c.in_ok-known_name.ensures.known);
    }

pub returns-clause-value : goal.returns-clause-value
returns-clause-value c =
    traverse-ends (known_name c.args.universe.now) _ _ _
    c.in_default.ensures.none c.loop-word.invariant.so_far
