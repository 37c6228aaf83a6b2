use Rattle.std.proofs.Common.{◌≡◌, ◌∙◌, sym, true, false, codes, IfOk, Result, Ok}
use Rattle.std.specs.Global.{Vec}
use Rattle.std.specs.List.{list_any}
use Rattle.farm_model.specs.Packages.{has_bit}
use Rattle.farm_model.specs.declared.types.Variant.{Variant}
use Rattle.deb_text.specs.Answers.{Gives}
use Rattle.deb_stanza.specs.Stanza.{Paragraph, value_of}
use Rattle.farm_universe.specs.declared.error.FieldFault.{FieldFault}
use Rattle.farm_universe.specs.FarmView.{land_view, AreOutputs}
use Rattle.farm_universe.specs.Land.{Land}
use Rattle.farm_universe.specs.View.{refusal_of}
use Rattle.farm_universe.specs.RecipeText.{outputs_at}
use Rattle.farm_universe.proofs.RecipeLaws.{any-taken, new_outputs-of}
use Rattle.farm_universe.proofs.recipes.new_outputs.Goals as goal

given : (l : Land) (p : Paragraph) (read : Result (Vec Variant) FieldFault) (vs : Vec Variant)
    → read ≡ Ok vs
    → Gives refusal_of (λ vs. vs.items) read (outputs_at l.table (value_of p (codes "Outputs")))
    → outputs_at l.table (value_of p (codes "Outputs")) ≡ Ok vs.items
given l p read vs is gives = rw is at gives

listed : (l : Land) (read : Result (Vec Variant) FieldFault) (vs : Vec Variant) → read ≡ Ok vs
    → IfOk read (λ vs. AreOutputs l.table vs.items) → AreOutputs l.table vs.items
listed l read vs is are = rw is at are

pub returns-then-has_some_bit-clause-read : goal.returns-then-has_some_bit-clause-read
returns-then-has_some_bit-clause-read c =
    new_outputs-of (land_view c.args.land.now) c.args.list.now.recipes.items c.args.paragraph.now
    c.in_ok-outputs.outputs.items true
    (given (land_view c.args.land.now) c.args.paragraph.now c.args.read _ c.in_ok-outputs.was
    c.requires.read.said)
    (sym (any-taken (land_view c.args.land.now) c.args.list.now.recipes.items
    c.args.list.now.taken.items c.in_ok-outputs.outputs.items c.requires.list.taken
    (listed (land_view c.args.land.now) c.args.read _ c.in_ok-outputs.was
    c.requires.read.outputs).known)
    ∙ (λ j. list_any (has_bit (sym c.deref.ensures.value j)) (sym c.deref-2.ensures.value j))
    ∙ sym c.has_some_bit.ensures ∙ c.if-has_some_bit.true)

pub returns-clause-read : goal.returns-clause-read
returns-clause-read c =
    new_outputs-of (land_view c.args.land.now) c.args.list.now.recipes.items c.args.paragraph.now
    c.in_ok-outputs.outputs.items false
    (given (land_view c.args.land.now) c.args.paragraph.now c.args.read _ c.in_ok-outputs.was
    c.requires.read.said)
    (sym (any-taken (land_view c.args.land.now) c.args.list.now.recipes.items
    c.args.list.now.taken.items c.in_ok-outputs.outputs.items c.requires.list.taken
    (listed (land_view c.args.land.now) c.args.read _ c.in_ok-outputs.was
    c.requires.read.outputs).known)
    ∙ (λ j. list_any (has_bit (sym c.deref.ensures.value j)) (sym c.deref-2.ensures.value j))
    ∙ sym c.has_some_bit.ensures ∙ c.if-has_some_bit.false)

pub returns-clause-new : goal.returns-clause-new
returns-clause-new c = record {
  outputs = listed (land_view c.args.land.now) c.args.read _ c.in_ok-outputs.was
      c.requires.read.outputs;
  free =
      sym (any-taken (land_view c.args.land.now) c.args.list.now.recipes.items
      c.args.list.now.taken.items c.in_ok-outputs.outputs.items c.requires.list.taken
      (listed (land_view c.args.land.now) c.args.read _ c.in_ok-outputs.was
      c.requires.read.outputs).known)
      ∙ (λ j. list_any (has_bit (sym c.deref.ensures.value j)) (sym c.deref-2.ensures.value j))
      ∙ sym c.has_some_bit.ensures ∙ c.if-has_some_bit.false;
}
