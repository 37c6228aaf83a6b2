use Rattle.std.proofs.Common.{◌≡◌, map, take}
use Rattle.farm_commands.specs.Inputs.{index_in, index_of}
use Rattle.farm_commands.proofs.inputs.named_texts.Given as goal

abbrev pub invariant-loop-file : goal.invariant-loop-file
invariant-loop-file l = map index_of l.texts.items ≡ map index_in (take l.file-index l.files)
