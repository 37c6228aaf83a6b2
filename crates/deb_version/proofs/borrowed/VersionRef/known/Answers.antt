use Rattle.std.proofs.Common.{◌≡◌, ℕ, false, Ok, ap, arith, sym, ◌∙◌}
use Rattle.std.specs.Prelude.{nat_lt}
use Rattle.deb_version.specs.declared.grammar.TheConstants.{MAX_EPOCH}
use Rattle.deb_version.specs.Grammar.{epoch_number, parts_with, pieces_of}
use Rattle.deb_version.specs.Places.{start_of, end_of}
use Rattle.deb_version.specs.View.{pieces_view}
use Rattle.deb_version.proofs.PlaceLaws.{end-within, known-epoch, known-pieces, start-within}
use Rattle.deb_version.proofs.borrowed.VersionRef.known.Goals as goal

pub start_of-start-requires : goal.start_of-start-requires
start_of-start-requires c =
    let text = c.args.text.now in
    let at = ap start_of c.cut_into_pieces-pieces.ensures in
    omega (arith, at, start-within text, (known-pieces text c.requires).short)

pub overflow_cast-result : goal.overflow_cast-result
overflow_cast-result c =
    let text = c.args.text.now in
    let at = ap start_of c.cut_into_pieces-pieces.ensures in
    omega (
      arith,
      c.start_of-start.ensures,
      at,
      start-within text,
      (known-pieces text c.requires).short,
    )

pub overflow_cast-result-2 : goal.overflow_cast-result-2
overflow_cast-result-2 c =
    let text = c.args.text.now in
    let at = ap end_of c.cut_into_pieces-pieces.ensures in
    omega (
      arith,
      c.start_of-start.ensures,
      at,
      end-within text,
      (known-pieces text c.requires).short,
    )

pub invariant_of-result : goal.invariant_of-result
invariant_of-result c =
    let text = c.args.text.now in
    let at = c.cut_into_pieces-pieces.ensures in
    let known = known-pieces text c.requires in
    let pieces = pieces_view c.cut_into_pieces-pieces.result in
    let small : nat_lt MAX_EPOCH (epoch_number pieces) ≡ false =
    ap (λ p. nat_lt MAX_EPOCH (epoch_number p)) at ∙ known.small in
    let epoch : c.unwrap_or.result ≡ epoch_number pieces =
    c.unwrap_or.ensures ∙ known-epoch c.epoch_of.result (epoch_number pieces) c.epoch_of.ensures small in
    record {
      parts = known.parts
          ∙ ap (λ (epoch : ℕ). Ok (parts_with epoch (pieces_of text)))
          (sym (epoch ∙ ap epoch_number at));
      begins = c.start_of-start.ensures ∙ ap start_of at;
      ends = omega (arith, c.start_of-start.ensures, ap start_of at, ap end_of at);
    }
