-- What a paragraph of an index comes to does not depend on its line.
use Rattle.std.proofs.Common.{◌≡◌, ℕ, ◌+◌, List, refl, ◌∙◌, inl, inr}
use Rattle.deb_stanza.specs.Stanza.{Paragraph}
use Rattle.import_closure.specs.SourceParagraph.{source_at}
use Rattle.cross_laws.specs.declared.types.Side.{Side}
use Rattle.cross_laws.specs.declared.types.Side.TheVariants.{Build, Host}
use Rattle.cross_sources.specs.EncodedSource.{IsMadeFor, IsMadeOf, IsSourceFor}
use Rattle.cross_sources.specs.GivenSource.{GivenSource, build_relations_at, given_source_at}
use Rattle.cross_sources.specs.Relations.{Way}

module _ (w : Way) where
  given-moves : (p : Paragraph) (k : ℕ)
      → given_source_at w.sides (record { line = p.line + k; fields = p.fields })
      ≡ given_source_at w.sides p
  unfolding given_source_at source_at build_relations_at
  given-moves p k = refl

  source-moves : (side : Side) (given : GivenSource) (p new : Paragraph) (k : ℕ)
      → IsSourceFor w side given p new
      → IsSourceFor w side given (record { line = p.line + k; fields = p.fields }) new
  source-moves side given p new k is = record {
    own = record {
      name = is.own.name;
      version = is.own.version;
      files = is.own.files;
      sums = is.own.sums;
      list = is.own.list;
    };
    relations = is.relations;
  }

  for-moves : (side : Side) (p : Paragraph) (k : ℕ) (piece : List ℕ) → IsMadeFor w side p piece
      → IsMadeFor w side (record { line = p.line + k; fields = p.fields }) piece
  for-moves side p k piece (inl left) = inl left
  for-moves side p k piece (inr kept) =
      let is = kept.1.2 in
      inr (
        kept.0,
        (
          kept.1.0,
          given-moves p k ∙ kept.1.1,
          record {
            paragraph = is.paragraph;
            read = is.read;
            closed = is.closed;
            such = source-moves side kept.1.0 p is.paragraph k is.such;
          },
        ),
      )

  pub made-moves : (p : Paragraph) (k : ℕ) (piece : List ℕ) → IsMadeOf w p piece
      → IsMadeOf w (record { line = p.line + k; fields = p.fields }) piece
  made-moves p k piece made = (
    made.0,
    made.1,
    made.2,
    made.3,
    for-moves Build p k made.1 made.4,
    for-moves Host p k made.2 made.5,
  )
