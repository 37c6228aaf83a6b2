-- Which build profiles are tried for a source (BuildProfileSpec).
--
--   named_by fields list      the profiles that its build relations and its Package-List name
--   is_further .. profile     a build of it may have the profile beyond those of every build
--   sets_of_size size words   the sets of so many words, in the order of the words
--   tried_sets words          the sets that are tried, the smaller ones first
use Rattle.std.specs.Prelude.{ℕ, zero, suc, ◌+◌, Bool, not, ◌&&◌, ◌||◌, List, [], ◌∷◌, ◌++◌, length, map, nat_eq, nat_le, codes, if◌then◌else◌, Option, Some, None}
use Rattle.std.specs.List.{flat_map, slice_split, starts_with}
use Rattle.deb_text.specs.Common.{is_byte, after, words}
use Rattle.deb_relation.specs.Common.{Item, Atom, Entry, Relations}
use Rattle.deb_profile.specs.Restriction.{is_among}
use Rattle.debian_index.specs.Given.{item_of, is_mark}
use Rattle.stage_builds.specs.declared.further.Allowed.{Allowed}
use Rattle.stage_builds.specs.declared.profile_sets.TheConstants.{MOST_PROFILES}

-- ---- the profiles that a source names

-- `<!stage1 nodoc>` names stage1 and nodoc
abbrev pub named_in_list : List Item → List (List ℕ)
named_in_list items = map (λ item. item.word) items

abbrev pub named_in_atom : Atom → List (List ℕ)
named_in_atom atom = flat_map named_in_list atom.profiles

abbrev pub named_in_entry : Entry → List (List ℕ)
named_in_entry entry = flat_map named_in_atom entry

abbrev pub named_in_field : Relations → List (List ℕ)
named_in_field field = flat_map named_in_entry field

-- a term is a profile, perhaps with `!` before it
abbrev pub profile_of : List ℕ → List ℕ
profile_of term = (item_of term).word

abbrev pub named_in_terms : List ℕ → List (List ℕ)
named_in_terms terms = map profile_of (slice_split (is_byte 43) terms)

-- `!stage1+nodoc,cross` names stage1, nodoc and cross
abbrev pub named_in_formula : List ℕ → List (List ℕ)
named_in_formula formula = flat_map named_in_terms (slice_split (is_byte 44) formula)

-- a word `profile=FORMULA` of a row of a Package-List (dsc(5))
abbrev pub formula_in : List ℕ → Option (List ℕ)
formula_in word =
    if is_mark (codes "profile") word then Some (after (is_byte 61) word) else None

abbrev pub named_in : Option (List ℕ) → List (List ℕ)
named_in None = []
named_in (Some formula) = named_in_formula formula

abbrev pub named_in_mark : List ℕ → List (List ℕ)
named_in_mark word = named_in (formula_in word)

abbrev pub named_in_marks : List ℕ → List (List ℕ)
named_in_marks list = flat_map named_in_mark (words list)

abbrev pub named_by : List Relations → List ℕ → List (List ℕ)
named_by fields list = flat_map named_in_field fields ++ named_in_marks list

-- ---- those that its builds may have

-- what the profiles of a source's own begin with: `pkg.SOURCE.`
abbrev pub own_prefix : List ℕ → List ℕ
own_prefix source = codes "pkg." ++ source ++ codes "."

-- the source names it, not every build has it, and the words of `Stages` have it; for `pkg` among
-- these they have each profile of the source's own
abbrev pub is_further : List (List ℕ) → List (List ℕ) → List ℕ → List (List ℕ) → List ℕ → Bool
is_further stages base own named profile =
    is_among named profile && not (is_among base profile)
    && (is_among stages profile || is_among stages (codes "pkg") && starts_with nat_eq profile own)

abbrev pub allows : Allowed → List ℕ → Bool
allows allowed profile =
    is_further allowed.stages.now allowed.base.now allowed.own.now
    (map (λ word. word.now) allowed.named.now) profile

-- ---- sets of them

abbrev pub sets_of_size : {X : Type 0} → ℕ → List X → List (List X)
sets_of_size zero words = [] ∷ []
sets_of_size (suc size) [] = []
sets_of_size (suc size) (word ∷ words) =
    map (λ set. word ∷ set) (sets_of_size size words) ++ sets_of_size (suc size) words

-- those of less than so many words
abbrev pub sets_below : {X : Type 0} → ℕ → List X → List (List X)
sets_below zero words = []
sets_below (suc size) words = sets_below size words ++ sets_of_size size words

-- of many words: none, each alone, and all
abbrev pub few_sets : {X : Type 0} → List X → List (List X)
few_sets words = ([] ∷ map (λ word. word ∷ []) words) ++ words ∷ []

abbrev pub tried_sets : {X : Type 0} → List X → List (List X)
tried_sets words =
    if nat_le (length words) MOST_PROFILES then sets_below (length words + 1) words
    else few_sets words
