-- Entries as a build on the build architecture sees them.
--
--   IsSeenAs text made       the text is read as these entries
--   IsSeen s text made       the text `made` is read as the encoded entries of the text
use Rattle.std.specs.Prelude.{◌≡◌, ℕ, true, false, List, Ok}
use Rattle.deb_relation.specs.Common.{Relations, relations_at}
use Rattle.deb_relation.specs.declared.kind.Kind.TheVariants.{Need}
use Rattle.cross_laws.specs.declared.types.Side.TheVariants.{Build}
use Rattle.cross_laws.specs.Binary.{Sides}
use Rattle.cross_laws.specs.Meets.{Asker}
use Rattle.cross_laws.specs.Encoding.{encoded_needs}
use Rattle.cross_laws.specs.Laws.{HaveSame}
use Rattle.cross_index.specs.Reading.{has_taken}

-- in whatever order and however often
abbrev pub IsSeenAs : List ℕ → Relations → Type 0
IsSeenAs text made =
    (given : Relations) × (relations_at Need text ≡ Ok given) × HaveSame given made

abbrev pub by_build : Asker
by_build = record { side = Build; is_build = true }

pub record IsSeen (s : Sides) (text made : List ℕ) : Type 0 where
  pub entries : Relations
  pub read : relations_at Need text ≡ Ok entries
  pub free : has_taken s entries ≡ false
  pub seen : IsSeenAs made (encoded_needs s by_build entries)
