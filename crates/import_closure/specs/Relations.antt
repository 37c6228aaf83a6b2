-- The relation fields of a package, as an architecture leaves them (Policy 7.1).
--
--   relations_in names p    the five fields, each reduced
use Rattle.std.specs.Prelude.{ℕ, List, [], codes, Option, Result, Ok}
use Rattle.deb_text.specs.Steps.{◌>>=◌}
use Rattle.deb_profile.specs.Reduction.{reduced_at}
use Rattle.deb_relation.specs.declared.kind.Kind.{Kind}
use Rattle.deb_relation.specs.declared.kind.Kind.TheVariants.{Need, Clash, Provide}
use Rattle.deb_relation.specs.Relations as relations
use Rattle.deb_stanza.specs.Stanza.{Paragraph, value_of}
use Rattle.deb_fields.specs.Fields.{or_text}
use Rattle.import_closure.specs.declared.relations.GivenRelations as declared
use Rattle.import_closure.specs.declared.relations.TheConstants.{MOST_ENTRIES}

pub record Five : Type 0 where
  pub pre_depends : relations.Relations
  pub depends : relations.Relations
  pub conflicts : relations.Relations
  pub breaks : relations.Relations
  pub provides : relations.Relations

abbrev pub relations_view : declared.GivenRelations → Five
relations_view five = record {
  pre_depends = five.pre_depends;
  depends = five.depends;
  conflicts = five.conflicts;
  breaks = five.breaks;
  provides = five.provides;
}

abbrev pub field_in : List (List ℕ) → Kind → Option (List ℕ) → Result relations.Relations ℕ
field_in names kind value = reduced_at MOST_ENTRIES names [] kind (or_text value [])

unfoldable pub relations_in : List (List ℕ) → Paragraph → Result Five ℕ
relations_in names p = do
  pre_depends ← field_in names Need (value_of p (codes "Pre-Depends"))
  depends ← field_in names Need (value_of p (codes "Depends"))
  conflicts ← field_in names Clash (value_of p (codes "Conflicts"))
  breaks ← field_in names Clash (value_of p (codes "Breaks"))
  provides ← field_in names Provide (value_of p (codes "Provides"))
  Ok (record {
    pre_depends = pre_depends;
    depends = depends;
    conflicts = conflicts;
    breaks = breaks;
    provides = provides;
  })
