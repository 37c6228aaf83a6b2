use Rattle.std.proofs.Common.{ap, codes}
use Rattle.deb_text.specs.Lines.{lines_of}
use Rattle.leg_runs.specs.Legs.{head_value}
use Rattle.leg_runs.proofs.leg.follow.Goals as goal

pub returns-in-Ok : goal.returns-in-Ok
returns-in-Ok c = record {
  universe = c.args.planned.now.universe;
  plan = c.args.planned.now.plan;
  read = c.requires.read;
  counted = c.requires.counted;
  sound = c.requires.sound;
  stamp = c.args.kept.stamp.now;
  lines = lines_of c.args.kept.entries.now;
  found = c.requires.found;
  followed = c.in-Ok.ensures.followed;
  reached = c.in-Ok.ensures.reached;
  name_is = c.requires.said.name;
  sum_is = c.requires.said.sum;
  next_is = c.in-Ok.ensures.next;
  after_is = ap (λ farm. head_value farm (codes "After")) c.requires.said.farm;
  gone_is = c.requires.said.gone;
}
