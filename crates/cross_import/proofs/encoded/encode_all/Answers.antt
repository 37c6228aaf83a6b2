use Rattle.std.proofs.Common.{ℕ, List, subst, ap, arith}
use Rattle.std.proofs.lemmas.List.{take_all}
use Rattle.cross_index.specs.EncodedIndex.{IsEncodedIndex}
use Rattle.cross_import.specs.CrossImport.{AreEach, texts_of}
use Rattle.cross_import.specs.Pushed.{encoded_texts}
use Rattle.cross_import.proofs.EachLaws.{each-more}
use Rattle.cross_import.proofs.encoded.encode_all.Goals as goal

pub loop-given-init : goal.loop-given-init
loop-given-init c = ap encoded_texts c.new.ensures.items

pub loop-given-preserved : goal.loop-given-preserved
loop-given-preserved c =
    each-more (IsEncodedIndex c.args.sides.now c.args.is_archive) c.args.givens.now c.loop-given.given-index _
    (encoded_texts c.loop-given.made.texts.items) (encoded_texts c.push_packages.new.made.texts.items)
    c.loop-given-test.true c.loop-given.invariant c.in_ok-push_packages.ensures

pub returns : goal.returns
returns c =
    subst (λ (gs : List (List ℕ)). AreEach (IsEncodedIndex c.args.sides.now c.args.is_archive) gs (encoded_texts c.loop-given.made.texts.items))
    (ap texts_of (take_all c.loop-given.given-index c.args.givens.now (omega arith)))
    c.loop-given.invariant
