use Rattle.std.proofs.Common.{◌∙◌, ap}
use Rattle.serde_json.specs.Written.{has_float, members_have_float}
use Rattle.serde_json.proofs.Views.{view-Object}
use Rattle.explain_answers.proofs.NoFloats.{no_float_in_explained}
use Rattle.explain_answers.proofs.told.explained_text.Goals as goal

pub answer_line-requires : goal.answer_line-requires
answer_line-requires c =
    ap has_float (view-Object c.in_ok-members.members)
    ∙ ap members_have_float c.in_ok-members.ensures
    ∙ no_float_in_explained c.args.explanation.now c.args.notes.now
