use Rattle.std.proofs.Common.{◌≡◌, take}
use Rattle.cross_import.specs.CrossImport.{texts_of}
use Rattle.cross_import.specs.Pushed.{encoded_texts}
use Rattle.cross_import.proofs.encoded.named.Given as goal

abbrev pub invariant-loop-one : goal.invariant-loop-one
invariant-loop-one l = texts_of l.made.items ≡ encoded_texts (take l.one-index l.texts.items)
