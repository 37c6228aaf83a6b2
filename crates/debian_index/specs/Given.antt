-- Which packages a build makes of its source, by the rows of the source's Package-List (dsc(5)):
-- "package package-type section priority key=value-list".
--
--   mark_in key marks          the value of the first mark with the key
--   formula_holds active text  the profiles of a mark: `a+!b,c` holds as `<a !b> <c>` does
--   given_row .. words         the name in a row, where the build makes that package
--   names_given .. lines       the names in these rows, in their order
use Rattle.std.specs.Prelude.{ℕ, Bool, true, false, not, ◌&&◌, ◌||◌, ◌==◌, List, [], ◌∷◌, codes, if◌then◌else◌, Option, Some, None}
use Rattle.std.specs.List.{list_all, list_any, slice_split}
use Rattle.std.specs.Str.{bytes_eq}
use Rattle.deb_text.specs.Common.{is_byte, before, after, words}
use Rattle.deb_relation.specs.Common.{Item, item_holds}
use Rattle.farm_model.specs.declared.types.Mode.{Mode}
use Rattle.farm_model.specs.declared.types.Mode.TheVariants.{Full, Arch, Indep}

-- ---- profiles

-- `!` before a profile negates it
abbrev pub item_of : List ℕ → Item
item_of [] = record { word = []; negated = false }
item_of (b ∷ bs) =
    if b == 33 then record { word = bs; negated = true }
    else record { word = b ∷ bs; negated = false }

-- terms are joined by AND with `+`, and these by OR with `,`
abbrev pub formula_holds : (List ℕ → Bool) → List ℕ → Bool
formula_holds is_active formula =
    list_any (λ terms. list_all (λ term. item_holds is_active (item_of term))
    (slice_split (is_byte 43) terms)) (slice_split (is_byte 44) formula)

-- ---- marks

abbrev pub is_mark : List ℕ → List ℕ → Bool
is_mark key word = list_any (is_byte 61) word && bytes_eq key (before (is_byte 61) word)

abbrev pub mark_in : List ℕ → List (List ℕ) → Option (List ℕ)
mark_in key [] = None
mark_in key (word ∷ ws) =
    if is_mark key word then Some (after (is_byte 61) word) else mark_in key ws

abbrev pub or_text : Option (List ℕ) → List ℕ → List ℕ
or_text None text = text
or_text (Some value) text = value

abbrev pub places_of : List (List ℕ) → List ℕ
places_of marks = or_text (mark_in (codes "arch") marks) (codes "any")

abbrev pub is_all : List ℕ → Bool
is_all places = bytes_eq places (codes "all")

-- it is of all architectures, or one of its places is the architecture's
abbrev pub fits_place : (List ℕ → Bool) → List ℕ → Bool
fits_place is_arch places = is_all places || list_any is_arch (slice_split (is_byte 44) places)

-- packages of all architectures are made by builds of all packages, and of those alone (Policy 7.7)
abbrev pub is_made : Mode → List ℕ → Bool
is_made Full places = true
is_made Arch places = not (is_all places)
is_made Indep places = is_all places

abbrev pub formula_fits : (List ℕ → Bool) → Option (List ℕ) → Bool
formula_fits is_active None = true
formula_fits is_active (Some formula) = formula_holds is_active formula

abbrev pub profiles_fit : (List ℕ → Bool) → List (List ℕ) → Bool
profiles_fit is_active marks = formula_fits is_active (mark_in (codes "profile") marks)

abbrev pub marks_met : (List ℕ → Bool) → (List ℕ → Bool) → Mode → List (List ℕ) → Bool
marks_met is_arch is_active mode marks =
    is_made mode (places_of marks) && fits_place is_arch (places_of marks)
    && profiles_fit is_active marks

-- ---- rows

abbrev pub given_row : (List ℕ → Bool) → (List ℕ → Bool) → Mode → List (List ℕ) → Option (List ℕ)
given_row is_arch is_active mode (name ∷ kind ∷ section ∷ priority ∷ marks) =
    if bytes_eq kind (codes "deb") && marks_met is_arch is_active mode marks then Some name
    else None
given_row is_arch is_active mode _ = None

abbrev pub and_more : Option (List ℕ) → List (List ℕ) → List (List ℕ)
and_more None names = names
and_more (Some name) names = name ∷ names

unfoldable pub names_given : (List (List ℕ) → Option (List ℕ)) → List (List ℕ) → List (List ℕ)
names_given row [] = []
names_given row (line ∷ lines) = and_more (row (words line)) (names_given row lines)
