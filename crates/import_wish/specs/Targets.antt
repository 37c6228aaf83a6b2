-- What a wish asks for by its targets, and the paragraph of a recipe `*`, which stands for each build
-- that is chosen.
--
--   wanted_at profiles p         targets, stages, and when a choice has all; profiles are those of all
--                                recipes
--   every_at head before p       the mode and the profiles of each build that is chosen; before: there
--                                is such a paragraph before it
--   leaves_choice ps             its first paragraph has `Targets`, or a recipe is `*`
--   leaves_choice_in text        the same of a text
use Rattle.std.specs.Prelude.{ℕ, Bool, false, ◌||◌, List, [], ◌∷◌, codes, drop, Option, Some, None, is_some, Result, Ok, Err, if◌then◌else◌}
use Rattle.std.specs.List.{list_any}
use Rattle.std.specs.Str.{bytes_eq}
use Rattle.deb_text.specs.Common.{is_nil, ◌>>=◌, words}
use Rattle.deb_profile.specs.WordList.{words_at}
use Rattle.deb_profile.specs.Restriction.{is_among}
use Rattle.deb_relation.specs.Common.{relations_at, Relations}
use Rattle.deb_relation.specs.declared.kind.Kind.TheVariants.{Need}
use Rattle.deb_stanza.specs.Stanza.{Paragraph, paragraphs_at, value_of}
use Rattle.deb_text.specs.declared.fault.Fault.{Fault}
use Rattle.farm_model.specs.declared.types.Mode.{Mode}
use Rattle.deb_fields.specs.declared.error.TheConstants.{BAD_VALUE}
use Rattle.deb_fields.specs.Fields.{or_text, refused_if}
use Rattle.import_wish.specs.declared.error.TheConstants.{NO_TARGET, TWICE}
use Rattle.import_wish.specs.declared.targets.EveryBuild as builds
use Rattle.import_wish.specs.declared.targets.Finish.{Finish}
use Rattle.import_wish.specs.declared.targets.Finish.TheVariants.{Targets, All}
use Rattle.import_wish.specs.declared.targets.Wanted as declared
use Rattle.import_wish.specs.Fields.{mode_at}

-- ---- targets

pub record Wanted : Type 0 where
  pub targets : Option Relations
  pub stages : List ℕ
  pub finish : Finish

abbrev pub wanted_view : declared.Wanted → Wanted
wanted_view wanted = record {
  targets = wanted.targets;
  stages = wanted.stages.now;
  finish = wanted.finish;
}

-- one entry at least, where there is the field
unfoldable pub targets_in : Option (List ℕ) → Result (Option Relations) ℕ
targets_in None = Ok None
targets_in (Some text) = do
  entries ← relations_at Need text
  some ← refused_if (is_nil entries) NO_TARGET
  Ok (Some entries)

abbrev pub have_common : List (List ℕ) → List (List ℕ) → Bool
have_common names others = list_any (is_among names) others

-- a text of words, of which none is a profile of all recipes
unfoldable pub stages_in : List (List ℕ) → List ℕ → Result (List ℕ) ℕ
stages_in profiles text = do
  stages ← words_at text
  apart ← refused_if (have_common profiles stages) TWICE
  Ok text

abbrev pub stages_at : List (List ℕ) → Paragraph → Result (List ℕ) ℕ
stages_at profiles p = stages_in profiles (or_text (value_of p (codes "Stages")) [])

abbrev pub finish_of : List ℕ → Result Finish ℕ
finish_of text =
    if bytes_eq text (codes "targets") then Ok Targets
    else if bytes_eq text (codes "all") then Ok All
    else Err BAD_VALUE

abbrev pub finish_in : Option (List ℕ) → Result Finish ℕ
finish_in None = Ok Targets
finish_in (Some text) = finish_of text

unfoldable pub wanted_at : List (List ℕ) → Paragraph → Result Wanted ℕ
wanted_at profiles p = do
  targets ← targets_in (value_of p (codes "Targets"))
  stages ← stages_at profiles p
  finish ← finish_in (value_of p (codes "Finish"))
  Ok (record { targets = targets; stages = stages; finish = finish })

-- ---- the paragraph of a recipe `*`

pub record EveryBuild : Type 0 where
  pub line : ℕ
  pub mode : Mode
  pub profiles : List ℕ

abbrev pub every_view : builds.EveryBuild → EveryBuild
every_view every = record {
  line = every.line;
  mode = every.mode;
  profiles = every.profiles.items;
}

-- what one build alone can have
abbrev pub is_of_one_build : Paragraph → Bool
is_of_one_build p =
    is_some (value_of p (codes "Source")) || is_some (value_of p (codes "Steps"))
    || is_some (value_of p (codes "Scratch")) || is_some (value_of p (codes "Outputs"))
    || is_some (value_of p (codes "Drops"))

abbrev pub is_star : Option (List ℕ) → Bool
is_star None = false
is_star (Some name) = bytes_eq name (codes "*")

-- a recipe of the name `*`
abbrev pub is_every : Paragraph → Bool
is_every p = is_star (value_of p (codes "Recipe"))

-- a text of words, of which none is among the stages
unfoldable pub apart_at : List ℕ → List ℕ → Result (List ℕ) ℕ
apart_at stages text = do
  names ← words_at text
  apart ← refused_if (have_common names (words stages)) TWICE
  Ok text

-- mode and profiles are those of all recipes where it has none of its own
unfoldable pub every_at : Mode → List ℕ → List ℕ → Bool → Paragraph → Result EveryBuild ℕ
every_at mode profiles stages before p = do
  first ← refused_if before TWICE
  plain ← refused_if (is_of_one_build p) BAD_VALUE
  own ← mode_at mode (value_of p (codes "Mode"))
  text ← apart_at stages (or_text (value_of p (codes "Profiles")) profiles)
  Ok (record { line = p.line; mode = own; profiles = text })

-- ---- wishes that leave a choice

abbrev pub has_targets : List Paragraph → Bool
has_targets [] = false
has_targets (p ∷ ps) = is_some (value_of p (codes "Targets"))

abbrev pub leaves_choice : List Paragraph → Bool
leaves_choice ps = has_targets ps || list_any is_every (drop 1 ps)

abbrev pub is_left : Result (List Paragraph) Fault → Bool
is_left (Ok ps) = leaves_choice ps
is_left (Err fault) = false

-- a text that cannot be read leaves none
abbrev pub leaves_choice_in : List ℕ → Bool
leaves_choice_in text = is_left (paragraphs_at text)
