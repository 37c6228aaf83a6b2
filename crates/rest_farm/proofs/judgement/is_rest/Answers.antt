use Rattle.std.proofs.Common.{◌∙◌}
use Rattle.rest_farm.proofs.RestLaws.{initial-is}
use Rattle.rest_farm.proofs.judgement.is_rest.Goals as goal

pub returns : goal.returns
returns c = λ yes.
    let of = c.args.of in
    let w = c.args.farm.now in
    let on = c.in_ok-is_behind.ensures.right c.if-not-is_behind.false in
    record {
      continues = on;
      archive = c.in_ok-archive.archive;
      archive_stays = λ item. c.in_ok-archive.ensures item
          ∙ initial-is of.run.now.universe of.run.now.state of.brought.now of.gone.now w on item;
      left = c.are_kept.ensures yes;
    }
