use Rattle.std.proofs.Common.{◌∙◌, sym}
use Rattle.std.specs.Str.{bytes_eq}
use Rattle.stage_builds.proofs.ListLaws.{any_map}
use Rattle.stage_builds.proofs.further.is_one_of.Goals as goal

pub returns : goal.returns
returns c =
    c.is_listed.ensures
    ∙ sym (any_map c.args.words.now (λ other. other.now) (bytes_eq c.args.word.now))
