use Rattle.std.proofs.Common.{rules, ◌≡◌, inl, inr, map, refl, sym, subst, ◌∙◌}
use Rattle.std.proofs.lemmas.List.{length-map}
use Rattle.std.specs.Option.{option_map}
use Rattle.std.specs.Prelude.{IsOkAnd}
use Rattle.command_line.specs.Words.{IsAskedBy, AreAfterWords, AreImportWords}
use Rattle.command_line.specs.declared.request.Asked.TheVariants.{Answer, Drive}
use Rattle.command_line.specs.declared.request.Request.TheVariants.{CheckInput}
use Rattle.farm_commands.proofs.WordLaws.{answered_nothing}
use Rattle.farm_commands.proofs.run.do_words.Goals as goal

pub returns-in-Ok-Answer-clause-done : goal.returns-in-Ok-Answer-clause-done
returns-in-Ok-Answer-clause-done g c = inl (
  λ name. refl,
  inl record {
    outcome = inl (c.in-Ok-Answer.request, search rules, search rules, c.answer_request.ensures.answer);
    no_word = λ none.
        answered_nothing _ _ _ _ _ _ (sym c.in-Ok-Answer.field-0-is
        ∙ subst (λ read. IsOkAnd read (λ asked. asked ≡ Answer CheckInput)) c.in-Ok-Answer.is
        (c.read_words.ensures.none (sym (length-map c.args.words.now g.W.AsStr.text) ∙ none)))
        c.answer_request.ensures.answer;
  },
)

pub returns-in-Ok-Run-clause-done : goal.returns-in-Ok-Run-clause-done
returns-in-Ok-Run-clause-done g c =
    inl (
      λ name. refl,
      inr (inl (search rules, c.in-Ok-Run.paths, search rules, c.run_files.ensures.end)),
    )

pub returns-in-Ok-Drive-clause-done : goal.returns-in-Ok-Drive-clause-done
returns-in-Ok-Drive-clause-done g c =
    let asked : IsAskedBy (map g.W.AsStr.text c.args.words.now)
    (Drive c.in-Ok-Drive.paths c.in-Ok-Drive.journal c.in-Ok-Drive.progress) = search rules in
    inl (
      λ name. refl,
      inr (inr (
        search rules,
        c.in-Ok-Drive.paths,
        asked.0,
        option_map (λ name. name.now) c.in-Ok-Drive.journal,
        asked.1,
        c.drive_files.ensures.told,
      )),
    )

pub returns-in-Ok-Import-clause-done : goal.returns-in-Ok-Import-clause-done
returns-in-Ok-Import-clause-done g c =
    let are : AreImportWords (map g.W.AsStr.text c.args.words.now) c.in-Ok-Import.asked =
    search rules in
    inr (inl (search rules, c.in-Ok-Import.asked, are, c.import_files.ensures))

pub returns-in-Ok-After-clause-done : goal.returns-in-Ok-After-clause-done
returns-in-Ok-After-clause-done g c =
    let are : AreAfterWords (map g.W.AsStr.text c.args.words.now) c.in-Ok-After.asked =
    search rules in
    inr (inr (search rules, c.in-Ok-After.asked, are, c.after_files.ensures))
