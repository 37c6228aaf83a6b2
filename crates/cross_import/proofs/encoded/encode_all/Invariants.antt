use Rattle.std.proofs.Common.{take}
use Rattle.cross_index.specs.EncodedIndex.{IsEncodedIndex}
use Rattle.cross_import.specs.CrossImport.{AreEach, texts_of}
use Rattle.cross_import.specs.Pushed.{encoded_texts}
use Rattle.cross_import.proofs.encoded.encode_all.Given as goal

abbrev pub invariant-loop-given : goal.invariant-loop-given
invariant-loop-given l =
    AreEach (IsEncodedIndex l.sides l.is_archive) (texts_of (take l.given-index l.givens)) (encoded_texts l.made.texts.items)
