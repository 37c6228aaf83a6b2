-- What the types of the crate stand for.
use Rattle.std.specs.Prelude.{[]}
use Rattle.farm_commands.specs.declared.draft.FarmFiles.{FarmFiles}
use Rattle.plan_reader.specs.Input.{Texts}

abbrev pub farm_in_files : FarmFiles → Texts
farm_in_files files = record {
  packages = files.packages.items;
  sources = files.sources.items;
  farm = files.farm.items;
  plan = [];
}
