use Rattle.std.proofs.Common.{◌≡◌, sym, ap, ◌∙◌, subst}
use Rattle.std.specs.Str.{bytes_eq}
use Rattle.std.specs.Option.{option_map}
use Rattle.std.proofs.lemmas.Result.{on_ok_weaker}
use Rattle.deb_text.specs.Groups.{place_in}
use Rattle.farm_universe.specs.TableSteps.{put_at}
use Rattle.farm_universe.specs.TableView.{listed_view, table_view, IsFit}
use Rattle.farm_universe.specs.View.{code_of}
use Rattle.farm_universe.proofs.FitLaws.{room, IsFit-put}
use Rattle.farm_universe.proofs.package_table.add.Goals as goal

pub put_at-requires-clause-fits : goal.put_at-requires-clause-fits
put_at-requires-clause-fits c =
    room (table_view c.args.table.now) c.place_of-at.result (listed_view c.args.listed)
    (sym c.fault_at.ensures ∙ ap (option_map code_of) c.in_default.is)

pub returns-clause-fit : goal.returns-clause-fit
returns-clause-fit c =
    let table = table_view c.args.table.now in
    let place : c.place_of-at.result ≡ place_in bytes_eq table.names c.args.listed.name.items =
    rw c.deref.ensures.value at c.place_of-at.ensures.place in
    let fit : IsFit (put_at table c.place_of-at.result (listed_view c.args.listed)) =
    IsFit-put table c.place_of-at.result (listed_view c.args.listed) place c.requires.fit
    (sym c.fault_at.ensures ∙ ap (option_map code_of) c.in_default.is) c.requires.small in
    on_ok_weaker c.put_at.result
    (λ (put : table_view c.put_at.new.table
    ≡ put_at table c.place_of-at.result (listed_view c.args.listed)). subst IsFit (sym put) fit)
    c.put_at.ensures.put
