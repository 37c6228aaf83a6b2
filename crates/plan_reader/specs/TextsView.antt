-- What the types of the crate stand for.
use Rattle.plan_reader.specs.declared.input.Texts.{Texts}
use Rattle.plan_reader.specs.Input as spec

abbrev pub texts_view : Texts → spec.Texts
texts_view texts = record {
  packages = texts.packages.now;
  sources = texts.sources.now;
  farm = texts.farm.now;
  plan = texts.plan.now;
}
