-- What a paragraph of an index comes to does not depend on its line.
use Rattle.std.proofs.Common.{◌≡◌, ℕ, ◌+◌, Bool, List, refl, ◌∙◌, inl, inr}
use Rattle.deb_stanza.specs.Stanza.{Paragraph}
use Rattle.cross_laws.specs.Binary.{Sides, Binary}
use Rattle.cross_index.specs.EncodedIndex.{IsEncodedBy}
use Rattle.cross_index.specs.EncodedPackage.{IsEncodedAs}
use Rattle.cross_index.specs.Reading.{binary_at, five_at, kept_at, multi_arch_at, rest_judged}

module _ (s : Sides) (is_archive : Bool) where
  kept-moves : (p : Paragraph) (k : ℕ)
      → kept_at s (record { line = p.line + k; fields = p.fields }) ≡ kept_at s p
  unfolding kept_at binary_at multi_arch_at five_at rest_judged
  kept-moves p k = refl

  as-moves : (b : Binary) (p new : Paragraph) (k : ℕ) → IsEncodedAs s is_archive b p new
      → IsEncodedAs s is_archive b (record { line = p.line + k; fields = p.fields }) new
  as-moves b p new k is = record {
    own = record {
      name = is.own.name;
      version = is.own.version;
      architecture = is.own.architecture;
      source = is.own.source;
      size = is.own.size;
      priority = is.own.priority;
      essential = is.own.essential;
    };
    given = record {
      multi_arch = is.given.multi_arch;
      pre_depends = is.given.pre_depends;
      depends = is.given.depends;
      conflicts = is.given.conflicts;
      breaks = is.given.breaks;
      provides = is.given.provides;
    };
    pre_depends = is.pre_depends;
    depends = is.depends;
    provides = is.provides;
  }

  pub encoded-moves : (p : Paragraph) (k : ℕ) (piece : List ℕ)
      → IsEncodedBy s is_archive p piece
      → IsEncodedBy s is_archive (record { line = p.line + k; fields = p.fields }) piece
  encoded-moves p k piece (inl left) = inl (kept-moves p k ∙ left.0, left.1)
  encoded-moves p k piece (inr kept) =
      let is = kept.2 in
      inr (
        kept.0,
        kept-moves p k ∙ kept.1,
        record {
          paragraph = is.paragraph;
          read = is.read;
          closed = is.closed;
          such = as-moves kept.0 p is.paragraph k is.such;
        },
      )
