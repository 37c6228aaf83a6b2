-- The first paragraph of a wish.
--
--   head_at p    what it says of all recipes
use Rattle.std.specs.Prelude.{ℕ, List, [], codes, Option, Some, None, Result, Ok}
use Rattle.deb_text.specs.Common.{is_nil, ◌>>=◌, words}
use Rattle.deb_profile.specs.WordList.{words_at}
use Rattle.deb_relation.specs.Common.{relations_at, Relations}
use Rattle.deb_relation.specs.declared.kind.Kind.TheVariants.{Need}
use Rattle.deb_stanza.specs.Stanza.{Paragraph, value_of}
use Rattle.farm_model.specs.declared.types.Mode.{Mode}
use Rattle.farm_model.specs.declared.types.Mode.TheVariants.{Full}
use Rattle.deb_fields.specs.declared.error.TheConstants.{ABSENT}
use Rattle.deb_fields.specs.Fields.{needed_at, or_text, refused_if}
use Rattle.import_wish.specs.declared.head.Head as declared
use Rattle.import_wish.specs.Fields.{mode_at}
use Rattle.import_wish.specs.Targets.{Wanted, wanted_at, wanted_view}

-- the names of the architecture, the entries of the archive, what stands for the profiles and the
-- mode of a recipe that has none of its own, and what is asked for by targets
pub record Head : Type 0 where
  pub architectures : List (List ℕ)
  pub archive : Option Relations
  pub profiles : List ℕ
  pub mode : Mode
  pub wanted : Wanted

abbrev pub head_view : declared.Head → Head
head_view head = record {
  architectures = words head.architectures.items;
  archive = head.archive;
  profiles = head.profiles.now;
  mode = head.mode;
  wanted = wanted_view head.wanted;
}

-- one name at least
unfoldable pub architectures_at : Paragraph → Result (List (List ℕ)) ℕ
architectures_at p = do
  text ← needed_at p (codes "Architecture-Names")
  names ← words_at text
  some ← refused_if (is_nil names) ABSENT
  Ok names

unfoldable pub archive_in : Option (List ℕ) → Result (Option Relations) ℕ
archive_in None = Ok None
archive_in (Some text) = relations_at Need text >>= λ entries. Ok (Some entries)

-- the text, whose words are judged
unfoldable pub profiles_at : Paragraph → Result (List ℕ) ℕ
profiles_at p =
    let text = or_text (value_of p (codes "Profiles")) [] in words_at text >>= λ _. Ok text

-- where all recipes have the profiles of this text
unfoldable pub wanted_under : List ℕ → Paragraph → Result Wanted ℕ
wanted_under text p = words_at text >>= λ profiles. wanted_at profiles p

unfoldable pub head_at : Paragraph → Result Head ℕ
head_at p = do
  architectures ← architectures_at p
  archive ← archive_in (value_of p (codes "Archive"))
  profiles ← profiles_at p
  mode ← mode_at Full (value_of p (codes "Mode"))
  wanted ← wanted_under profiles p
  Ok (record {
    architectures = architectures;
    archive = archive;
    profiles = profiles;
    mode = mode;
    wanted = wanted;
  })
