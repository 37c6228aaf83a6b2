use Rattle.std.proofs.Common.{sym, ap, ◌∙◌, length}
use Rattle.std.specs.Option.{unwrap_or}
use Rattle.deb_text.proofs.PlaceLaws.{unwrap_or-position}
use Rattle.farm_universe.specs.PackagesText.{is_below}
use Rattle.farm_universe.proofs.FitLaws.{newest-last}
use Rattle.farm_universe.proofs.binary.place_for.Goals as goal

pub returns-then-is_newest-clause-place : goal.returns-then-is_newest-clause-place
returns-then-is_newest-clause-place c =
    sym (newest-last c.args.binary.now c.args.given.now (c.is_newest.ensures c.if-is_newest.true))

pub returns-clause-place : goal.returns-clause-place
returns-clause-place c =
    c.unwrap_or.ensures
    ∙ ap (λ o. unwrap_or o (length c.args.given.now)) c.first_above.ensures
    ∙ unwrap_or-position (is_below c.args.binary.now) c.args.given.now
