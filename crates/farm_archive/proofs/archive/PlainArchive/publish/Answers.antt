use Rattle.std.proofs.Common.{rules, sym, subst}
use Rattle.std.specs.Prelude.{◌++◌, ◌∷◌, []}
use Rattle.plan_model.specs.Run.{publication}
use Rattle.farm_archive.specs.Kept.{IsArchive}
use Rattle.farm_archive.proofs.Published.{archive-published}
use Rattle.farm_archive.proofs.archive.PlainArchive.publish.Goals as goal

pub returns-clause-published : goal.returns-clause-published
returns-clause-published c = search rules

pub returns-clause-archive : goal.returns-clause-archive
returns-clause-archive c =
    λ u published is.
    subst (IsArchive u (published ++ publication c.args.lane c.args.variant ∷ []))
    (sym (returns-clause-published c))
    (archive-published c.args.lane c.args.variant u published c.args.self.now c.requires.named is)
