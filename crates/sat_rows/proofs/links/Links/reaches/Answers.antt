use Rattle.std.proofs.Common.{◌∙◌}
use Rattle.sat_rows.specs.Links.{nth_list}
use Rattle.sat_rows.proofs.JoinLaws.{joined_hits}
use Rattle.sat_rows.proofs.links.Links.reaches.Goals as goal

pub returns-in-Some : goal.returns-in-Some
returns-in-Some c =
    let x = c.args.self.now in
    let v = c.args.variant in
    c.hits_other.ensures
    ∙ joined_hits (nth_list x.by_name v.name) x.by_entry v.bit v.name c.args.words.now
    c.in-Some.found.now c.in-Some.ensures
