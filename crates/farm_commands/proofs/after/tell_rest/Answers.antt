use Rattle.std.proofs.Common.{◌≡◌, ℕ, List, ap, map, subst, sym, ◌∙◌}
use Rattle.farm_answers.specs.Files.{named}
use Rattle.farm_commands.specs.Afters.{AreRestFiles, IsRestOfFiles}
use Rattle.farm_commands.specs.Makings.{IsTold, head_by}
use Rattle.farm_commands.specs.TextFiles.{AreApart, FileOf, file_of, rest_files_in}
use Rattle.farm_commands.proofs.ApartLaws.{rest-files-apart}
use Rattle.farm_commands.proofs.MakingLaws.{told-by}
use Rattle.rest_texts.specs.Afters.{OfRest}
use Rattle.farm_commands.proofs.after.tell_rest.Goals as goal

pub write_made-requires : goal.write_made-requires
write_made-requires g c =
    subst AreApart
    (sym (ap (map file_of) c.deref-in-Texts.ensures.value ∙ c.in_ok-files-in-Texts.ensures))
    (rest-files-apart c.args.asked.now.files.folder.now c.in-Texts.made c.deref.result.now)

pub returns-in_ok-files-in-Texts : goal.returns-in_ok-files-in-Texts
returns-in_ok-files-in-Texts g c =
    let held = g.F.Source.held c.args.folder.now in
    let read = named held (g.F.Source.given c.args.folder.now) in
    let asked = c.args.asked.now in
    let after = g.F.Source.held c.write_made.new.folder in
    let old = g.S.Sink.state c.args.out.now in
    let new = g.S.Sink.state c.write_made.new.out in
    let target = c.target_of.result in
    let Comes = λ (made : List FileOf) (told : List ℕ).
    (made ≡ map file_of c.deref-in-Texts.result.now) × (told ≡ c.deref-in-Texts-2.result.now) in
    subst (λ m. IsTold (AreRestFiles read asked) (head_by m) asked.force held after old new
    c.write_made.result) c.target_of.ensures.maker
    (subst (λ b. IsTold (AreRestFiles read asked) (head_by target.maker) b held after old new
    c.write_made.result) c.target_of.ensures.force
    (told-by Comes (head_by target.maker) target.force held after (AreRestFiles read asked)
    (λ files lines of. record {
      made = c.in-Texts.made;
      sketch = c.deref.result.now;
      is = subst (OfRest (IsRestOfFiles read asked)) c.in-Texts.is c.requires;
      are = of.0
          ∙ (ap (map file_of) c.deref-in-Texts.ensures.value ∙ c.in_ok-files-in-Texts.ensures);
    })
    old new c.write_made.result c.write_made.ensures))
