use Rattle.std.proofs.Common.{◌≡◌, ℕ, List, ap, map, refl, subst, sym, ◌∙◌}
use Rattle.std.specs.Option.{option_map}
use Rattle.farm_answers.specs.Files.{named}
use Rattle.farm_commands.specs.Imports.{AreImportFiles, HasTexts}
use Rattle.farm_commands.specs.Makings.{IsTold, head_by}
use Rattle.farm_commands.specs.TextFiles.{AreApart, FileOf, file_of, files_in}
use Rattle.farm_commands.proofs.ApartLaws.{files-apart}
use Rattle.farm_commands.proofs.MakingLaws.{told-by}
use Rattle.farm_commands.proofs.answer.tell_made.Goals as goal

pub write_made-requires : goal.write_made-requires
write_made-requires g c =
    subst AreApart
    (sym (ap (map file_of) c.deref.ensures.value ∙ c.in_ok-files-in-Texts.ensures))
    (files-apart c.args.asked.now.folder.now c.in-Texts.texts
    (option_map (λ text. text.now) c.chosen_text.result))

pub returns-in_ok-files-in-Texts : goal.returns-in_ok-files-in-Texts
returns-in_ok-files-in-Texts g c =
    let held = g.F.Source.held c.args.folder.now in
    let read = named held (g.F.Source.given c.args.folder.now) in
    let asked = c.args.asked.now in
    let after = g.F.Source.held c.write_made.new.folder in
    let old = g.S.Sink.state c.args.out.now in
    let new = g.S.Sink.state c.write_made.new.out in
    let target = c.target_of.result in
    let texts = c.in-Texts.texts in
    let Comes = λ (made : List FileOf) (told : List ℕ).
    (made ≡ map file_of c.deref.result.now) × (told ≡ c.deref-in-Texts.result.now) in
    subst (λ m. IsTold (AreImportFiles read asked) (head_by m) asked.force held after old new
    c.write_made.result) c.target_of.ensures.maker
    (subst (λ b. IsTold (AreImportFiles read asked) (head_by target.maker) b held after old new
    c.write_made.result) c.target_of.ensures.force
    (told-by Comes (head_by target.maker) target.force held after (AreImportFiles read asked)
    (λ files lines of. record {
      made = c.args.made.now;
      texts = texts;
      is = c.requires;
      has = subst (λ imported. HasTexts imported texts lines) (sym c.in-Texts.is)
          (refl, sym (of.1 ∙ c.deref-in-Texts.ensures.value));
      are = of.0
          ∙ (ap (map file_of) c.deref.ensures.value ∙ c.in_ok-files-in-Texts.ensures)
          ∙ ap (files_in asked.folder.now texts) c.chosen_text.ensures;
    })
    old new c.write_made.result c.write_made.ensures))
