use Rattle.std.proofs.Common.{◌∙◌, ◌<◌, ap, length}
use Rattle.std.proofs.lemmas.List.{length-map}
use Rattle.std.specs.Global.{Vec}
use Rattle.deb_text.proofs.ListLaws.{lists-set}
use Rattle.farm_universe.specs.declared.sources.Source.{Source}
use Rattle.farm_universe.specs.SourceSteps.{behind_others}
use Rattle.farm_universe.proofs.source_table.put_there.Goals as goal

pub returns-clause-sources : goal.returns-clause-sources
returns-clause-sources c =
    let vs = c.args.table.now.sources.items in
    let lt : c.args.at < length vs = rw length-map at c.requires in
    lists-set vs c.args.at c.push.new.self (behind_others c.args.source)
    c.index_mut.result.now lt
    (c.in_ok-push.ensures.items
    ∙ ap (λ (v : Vec Source). behind_others c.args.source v.items) c.index_mut.ensures.value)
