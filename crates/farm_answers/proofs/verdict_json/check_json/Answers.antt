use Rattle.std.proofs.Common.{◌∙◌, ap}
use Rattle.serde_json.specs.Written.{has_float, members_have_float}
use Rattle.serde_json.proofs.Views.{view-Object}
use Rattle.farm_answers.proofs.NoFloats.{no_float_in_verdict}
use Rattle.farm_answers.proofs.verdict_json.check_json.Goals as goal

pub answer_line-requires : goal.answer_line-requires
answer_line-requires c =
    ap has_float (view-Object c.in_ok-members.members)
    ∙ ap members_have_float c.in_ok-members.ensures
    ∙ no_float_in_verdict c.args.verdict.now
