-- What words say of recipes, and why one is refused (722). The project's own rules.
--
--   says_two          two words say two things of a recipe
--   word_fault        why a word is refused: the farm has no such recipe; its name is published, and
--                     the word does not want it anew; two words say two things of it; nothing says how
--                     it is built, and it is wanted anew
--   IsFirstFault      a word is the first of some that is refused, and why
--   AreFine           none is
use Rattle.std.specs.Prelude.{◌≡◌, ℕ, ◌<◌, Bool, true, false, not, ◌&&◌, ◌||◌, List, Option, Some, None, slice_get, if◌then◌else◌}
use Rattle.leg_laws.specs.Left.{has_name}
use Rattle.rest_farm.specs.declared.words.RecipeWord.{RecipeWord}
use Rattle.rest_farm.specs.declared.words.RecipeWord.TheVariants.{Without, Again, Built}
use Rattle.rest_farm.specs.declared.words.RefusedWord.{RefusedWord}
use Rattle.rest_farm.specs.declared.words.SaidWord.{SaidWord}
use Rattle.rest_farm.specs.declared.words.WordFault.{WordFault}
use Rattle.rest_farm.specs.declared.words.WordFault.TheVariants.{NoRecipe, Published, Two, Bare}
use Rattle.rest_farm.specs.declared.words.WordRules.{WordRules}

abbrev pub wants_anew : RecipeWord → Bool
wants_anew Again = true
wants_anew Without = false
wants_anew Built = false

-- two of three are true
abbrev pub are_two : (a b c : Bool) → Bool
are_two a b c = (a && b) || (a && c) || (b && c)

abbrev pub says_two : WordRules → List ℕ → Bool
says_two rules name =
    are_two (has_name rules.given_up.now name) (has_name rules.wanted_anew.now name)
    (has_name rules.said_built.now name)

-- why it is refused where the farm has the recipe
abbrev pub known_fault : WordRules → RecipeWord → List ℕ → Option WordFault
known_fault rules word name =
    if not (wants_anew word) && has_name rules.published.now name then Some Published
    else (if says_two rules name then Some Two
    else (if wants_anew word && has_name rules.bare.now name then Some Bare else None))

abbrev pub word_fault : WordRules → RecipeWord → List ℕ → Option WordFault
word_fault rules word name =
    if not (has_name rules.recipes.now name) then Some NoRecipe else known_fault rules word name

abbrev pub fault_of : WordRules → SaidWord → Option WordFault
fault_of rules said = word_fault rules said.word said.name

abbrev pub AreFineBefore : WordRules → List SaidWord → ℕ → Type 0
AreFineBefore rules words n =
    (k : ℕ) (said : SaidWord) → k < n → slice_get words k ≡ Some said → fault_of rules said ≡ None

abbrev pub AreFine : WordRules → List SaidWord → Type 0
AreFine rules words =
    (k : ℕ) (said : SaidWord) → slice_get words k ≡ Some said → fault_of rules said ≡ None

pub record IsFirstFault (rules : WordRules) (words : List SaidWord) (refused : RefusedWord) : Type 0
  where
    pub said : SaidWord
    pub at : slice_get words refused.place ≡ Some said
    pub fault : fault_of rules said ≡ Some refused.fault
    pub first : AreFineBefore rules words refused.place
