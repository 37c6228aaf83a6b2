use Rattle.std.proofs.Common.{take}
use Rattle.cross_sources.specs.EncodedSource.{AreEncodedSources}
use Rattle.cross_sources.specs.Relations.{way_of}
use Rattle.cross_import.specs.CrossImport.{AreEach, texts_of}
use Rattle.cross_import.specs.Pushed.{encoded_texts}
use Rattle.cross_import.proofs.encoded.encode_all_sources.Given as goal

abbrev pub invariant-loop-given : goal.invariant-loop-given
invariant-loop-given l =
    AreEach (AreEncodedSources (way_of l.of)) (texts_of (take l.given-index l.givens)) (encoded_texts l.made.texts.items)
