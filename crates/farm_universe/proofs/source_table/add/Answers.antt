use Rattle.std.proofs.Common.{◌≡◌, sym, ap, ◌∙◌, subst}
use Rattle.std.specs.Option.{option_map}
use Rattle.std.proofs.lemmas.Result.{on_ok_weaker}
use Rattle.farm_universe.specs.SourceSteps.{put_source}
use Rattle.farm_universe.specs.SourceView.{listed_source_view, source_view, IsSourceTable}
use Rattle.farm_universe.specs.View.{code_of}
use Rattle.farm_universe.proofs.SourceLaws.{source_room, IsSourceTable-put}
use Rattle.farm_universe.proofs.source_table.add.Goals as goal

pub put_at-requires-clause-room : goal.put_at-requires-clause-room
put_at-requires-clause-room c =
    source_room (source_view c.args.table.now) c.place_of-at.result
    (listed_source_view c.args.listed)
    (sym c.fault_at.ensures ∙ ap (option_map code_of) c.in_default.is)

pub returns-clause-fit : goal.returns-clause-fit
returns-clause-fit c =
    let table = source_view c.args.table.now in
    let fit : IsSourceTable (put_source table c.place_of-at.result
    (listed_source_view c.args.listed)) =
    IsSourceTable-put table c.place_of-at.result (listed_source_view c.args.listed)
    c.requires (sym c.fault_at.ensures ∙ ap (option_map code_of) c.in_default.is) in
    on_ok_weaker c.put_at.result
    (λ (put : source_view c.put_at.new.table
    ≡ put_source table c.place_of-at.result (listed_source_view c.args.listed)).
    subst IsSourceTable (sym put) fit)
    c.put_at.ensures.put
