-- The build relations of a source (Policy 7.7).
--
--   relations_judged p            whether all six fields can be read
--   needs_in names active value   what an architecture and profiles leave of a field of needs
--   needs_at names active mode p  what a build in a mode needs
use Rattle.std.specs.Prelude.{ℕ, Bool, true, false, List, [], codes, if◌then◌else◌, Option, None, Result, Ok}
use Rattle.deb_text.specs.Steps.{◌>>=◌}
use Rattle.deb_profile.specs.Reduction.{reduced_at}
use Rattle.deb_relation.specs.Common.{relations_at, only_judged, Relations}
use Rattle.deb_relation.specs.declared.kind.Kind.{Kind}
use Rattle.deb_relation.specs.declared.kind.Kind.TheVariants.{BuildNeed, BuildClash}
use Rattle.deb_stanza.specs.Stanza.{Paragraph, value_of}
use Rattle.deb_fields.specs.Fields.{or_text}
use Rattle.farm_model.specs.declared.types.Mode.{Mode}
use Rattle.farm_model.specs.declared.types.Mode.TheVariants.{Full, Arch, Indep}
use Rattle.import_closure.specs.declared.needs.Needs as declared
use Rattle.import_closure.specs.declared.relations.TheConstants.{MOST_ENTRIES}

abbrev pub field_judged : Kind → Option (List ℕ) → Result (Unit {0}) ℕ
field_judged kind value = only_judged (relations_at kind (or_text value []))

unfoldable pub depends_judged : Paragraph → Result (Unit {0}) ℕ
depends_judged p =
    field_judged BuildNeed (value_of p (codes "Build-Depends"))
    >>= λ _. field_judged BuildNeed (value_of p (codes "Build-Depends-Arch"))
    >>= λ _. field_judged BuildNeed (value_of p (codes "Build-Depends-Indep"))

unfoldable pub conflicts_judged : Paragraph → Result (Unit {0}) ℕ
conflicts_judged p =
    field_judged BuildClash (value_of p (codes "Build-Conflicts"))
    >>= λ _. field_judged BuildClash (value_of p (codes "Build-Conflicts-Arch"))
    >>= λ _. field_judged BuildClash (value_of p (codes "Build-Conflicts-Indep"))

abbrev pub relations_judged : Paragraph → Result (Unit {0}) ℕ
relations_judged p = depends_judged p >>= λ _. conflicts_judged p

abbrev pub needs_in : List (List ℕ) → List (List ℕ) → Option (List ℕ) → Result Relations ℕ
needs_in names active value = reduced_at MOST_ENTRIES names active BuildNeed (or_text value [])

-- what is needed, by the field
pub record Needs : Type 0 where
  pub always : Relations
  pub arch : Relations
  pub indep : Relations

abbrev pub needs_view : declared.Needs → Needs
needs_view needs =
    record { always = needs.always; arch = needs.arch; indep = needs.indep }

abbrev pub has_arch : Mode → Bool
has_arch Full = true
has_arch Arch = true
has_arch Indep = false

abbrev pub has_indep : Mode → Bool
has_indep Full = true
has_indep Arch = false
has_indep Indep = true

abbrev pub if_counts : Bool → Option (List ℕ) → Option (List ℕ)
if_counts counts value = if counts then value else None

unfoldable pub needs_at : List (List ℕ) → List (List ℕ) → Mode → Paragraph → Result Needs ℕ
needs_at names active mode p = do
  always ← needs_in names active (value_of p (codes "Build-Depends"))
  arch ← needs_in names active (if_counts (has_arch mode) (value_of p (codes "Build-Depends-Arch")))
  indep ←
      needs_in names active (if_counts (has_indep mode) (value_of p (codes "Build-Depends-Indep")))
  Ok (record { always = always; arch = arch; indep = indep })
