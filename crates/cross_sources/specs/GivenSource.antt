-- A source, as its paragraph in an index says (dsc(5)).
--
--   build_relations_at p    the build relations
--   given_source_at s p     the source of a paragraph, or its first fault
--   name_taken s p          its name has the form of an encoded one
use Rattle.std.specs.Prelude.{ℕ, Bool, ◌||◌, List, [], codes, Result, Ok}
use Rattle.deb_text.specs.Common.{◌>>=◌, or_else}
use Rattle.deb_relation.specs.Common.{Relations}
use Rattle.deb_relation.specs.declared.kind.Kind.TheVariants.{BuildNeed, BuildClash}
use Rattle.deb_stanza.specs.Stanza.{Paragraph, value_of}
use Rattle.deb_fields.specs.Fields.{or_text, refused_if}
use Rattle.import_closure.specs.SourceParagraph.{Source, source_at, source_view}
use Rattle.cross_laws.specs.Binary.{Sides}
use Rattle.cross_laws.specs.Names.{is_taken}
use Rattle.cross_index.specs.Reading.{field_at, has_taken}
use Rattle.cross_index.specs.declared.error.TheConstants.{TAKEN_NAME}
use Rattle.cross_sources.specs.declared.given.BuildRelations as declared
use Rattle.cross_sources.specs.declared.given.GivenSource as sources

pub record BuildRelations : Type 0 where
  pub depends : Relations
  pub depends_arch : Relations
  pub depends_indep : Relations
  pub conflicts : Relations
  pub conflicts_arch : Relations
  pub conflicts_indep : Relations

abbrev pub relations_view : declared.BuildRelations → BuildRelations
relations_view relations = record {
  depends = relations.depends;
  depends_arch = relations.depends_arch;
  depends_indep = relations.depends_indep;
  conflicts = relations.conflicts;
  conflicts_arch = relations.conflicts_arch;
  conflicts_indep = relations.conflicts_indep;
}

-- an absent field has no entry
unfoldable pub build_relations_at : Paragraph → Result BuildRelations ℕ
build_relations_at p = do
  depends ← field_at BuildNeed p (codes "Build-Depends")
  depends_arch ← field_at BuildNeed p (codes "Build-Depends-Arch")
  depends_indep ← field_at BuildNeed p (codes "Build-Depends-Indep")
  conflicts ← field_at BuildClash p (codes "Build-Conflicts")
  conflicts_arch ← field_at BuildClash p (codes "Build-Conflicts-Arch")
  conflicts_indep ← field_at BuildClash p (codes "Build-Conflicts-Indep")
  Ok (record {
    depends = depends;
    depends_arch = depends_arch;
    depends_indep = depends_indep;
    conflicts = conflicts;
    conflicts_arch = conflicts_arch;
    conflicts_indep = conflicts_indep;
  })

abbrev pub relations_taken : Sides → BuildRelations → Bool
relations_taken s relations =
    has_taken s relations.depends || has_taken s relations.depends_arch
    || has_taken s relations.depends_indep || has_taken s relations.conflicts
    || has_taken s relations.conflicts_arch || has_taken s relations.conflicts_indep

pub record GivenSource : Type 0 where
  pub source : Source
  pub relations : BuildRelations

abbrev pub given_view : sources.GivenSource → GivenSource
given_view given = record {
  source = source_view given.source;
  relations = relations_view given.relations;
}

unfoldable pub given_source_at : Sides → Paragraph → Result GivenSource ℕ
given_source_at s p = do
  source ← source_at p
  relations ← build_relations_at p
  free ← refused_if (relations_taken s relations) TAKEN_NAME
  Ok (record { source = source; relations = relations })

-- Package, or else Source; nothing where neither stands
abbrev pub name_of : Paragraph → List ℕ
name_of p = or_text (or_else (value_of p (codes "Package")) (value_of p (codes "Source"))) []

abbrev pub name_taken : Sides → Paragraph → Bool
name_taken s p = is_taken s (name_of p)
