-- What the types of the crate stand for.
use Rattle.farm_answers.specs.declared.files.FileTexts.{FileTexts}
use Rattle.plan_reader.specs.Input.{Texts}

abbrev pub texts_in_files : FileTexts → Texts
texts_in_files files = record {
  packages = files.packages.items;
  sources = files.sources.items;
  farm = files.farm.items;
  plan = files.plan.items;
}
