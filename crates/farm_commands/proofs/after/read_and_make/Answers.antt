use Rattle.std.proofs.Common.{◌≡◌, ℕ, List, ap, map, ◌∙◌}
use Rattle.std.specs.Borrow.{Bor}
use Rattle.farm_answers.specs.Files.{named}
use Rattle.farm_commands.specs.Afters.{IsRestOfFiles, items_of, texts_in}
use Rattle.farm_commands.proofs.RestLaws.{of-after, of-same-run}
use Rattle.leg_laws.specs.Named.{Item}
use Rattle.plan_reader.specs.TextsView.{texts_view}
use Rattle.rest_texts.specs.Afters.{IsRestAfter}
use Rattle.rest_texts.specs.Said.{named_items}
use Rattle.farm_commands.proofs.after.read_and_make.Goals as goal

pub returns : goal.returns
returns g c =
    let read = named (g.F.Source.held c.args.folder.now) (g.F.Source.given c.args.folder.now) in
    let asked = c.args.asked.now in
    let run = c.in_ok-run.run' in
    let came : items_of c.deref-6.result.now ≡ items_of asked.came.items =
    ap items_of c.deref-6.ensures.value
    ∙ (ap named_items c.in_ok-came.ensures ∙ ap items_of c.deref-3.ensures.value) in
    let withdrawn : items_of c.deref-5.result.now ≡ items_of asked.withdrawn.items =
    ap items_of c.deref-5.ensures.value
    ∙ (ap named_items c.in_ok-withdrawn.ensures ∙ ap items_of c.deref-2.ensures.value) in
    of-after
    (IsRestAfter (texts_view c.lent.result.texts) c.lent.result.journal.now
    (items_of c.deref-6.result.now) (items_of c.deref-5.result.now))
    (IsRestOfFiles read asked)
    (λ made is. (
      run,
      c.in_ok-run.ensures,
      of-same-run (texts_view c.lent.result.texts) (texts_in run) c.lent.result.journal.now
          run.journal.items (items_of c.deref-6.result.now) (items_of asked.came.items)
          (items_of c.deref-5.result.now) (items_of asked.withdrawn.items) made
          c.lent.ensures.texts c.lent.ensures.journal came withdrawn is,
    ))
    c.in_ok-rest_after.field-0 c.in_ok-rest_after.ensures
