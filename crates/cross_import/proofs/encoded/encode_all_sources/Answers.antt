use Rattle.std.proofs.Common.{ℕ, List, subst, ap, arith}
use Rattle.std.proofs.lemmas.List.{take_all}
use Rattle.cross_sources.specs.EncodedSource.{AreEncodedSources}
use Rattle.cross_sources.specs.Relations.{way_of}
use Rattle.cross_import.specs.CrossImport.{AreEach, texts_of}
use Rattle.cross_import.specs.Pushed.{encoded_texts}
use Rattle.cross_import.proofs.EachLaws.{each-more}
use Rattle.cross_import.proofs.encoded.encode_all_sources.Goals as goal

pub loop-given-init : goal.loop-given-init
loop-given-init c = ap encoded_texts c.new.ensures.items

pub loop-given-preserved : goal.loop-given-preserved
loop-given-preserved c =
    each-more (AreEncodedSources (way_of c.args.of)) c.args.givens.now c.loop-given.given-index _
    (encoded_texts c.loop-given.made.texts.items) (encoded_texts c.push_sources.new.made.texts.items)
    c.loop-given-test.true c.loop-given.invariant c.in_ok-push_sources.ensures

pub returns : goal.returns
returns c =
    subst (λ (gs : List (List ℕ)). AreEach (AreEncodedSources (way_of c.args.of)) gs (encoded_texts c.loop-given.made.texts.items))
    (ap texts_of (take_all c.loop-given.given-index c.args.givens.now (omega arith)))
    c.loop-given.invariant
