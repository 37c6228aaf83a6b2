use Rattle.std.proofs.Common.{◌∙◌, sym}
use Rattle.stage_builds.specs.Kinds.{keeps_contents}
use Rattle.stage_builds.proofs.ListLaws.{all_map}
use Rattle.stage_builds.proofs.kind.keep_contents.Goals as goal

pub returns : goal.returns
returns c =
    c.each_keeps.ensures
    ∙ sym (all_map c.args.profiles.now (λ profile. profile.now) keeps_contents)
