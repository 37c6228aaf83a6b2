-- What a refusal of the farm text is about, as data; of the packages and the sources the limit alone.
-- Parameters: u the packages and the initial archive, p the refused paragraph, place its place in the
-- farm text, qs the recipes and base chroots above it.
--
--   above, up_to          the paragraphs above one, less the first; those up to it
--   outputs_of            what the recipes among paragraphs give
--   found_by              by the code: an item, why a base chroot is not settled, or a limit
--   item_in               the item that is found, or the member of a base chroot
--   farm_found            the same by the farm text and the line of the refusal
--   farm_item_line        the line at which that item begins
--   index_limit           the limit that the packages or the sources go over, if they do
use Rattle.std.specs.Prelude.{ℕ, ◌+◌, Bool, true, false, not, ◌&&◌, ◌||◌, ◌==◌, nat_le, nat_lt, List, [], ◌∷◌, ◌++◌, length, position, drop, take, filter, filter_map, flat_map, codes, Option, Some, None, option_and_then, option_map, unwrap_or, bytes_eq, if◌then◌else◌}
use Rattle.std.specs.List.{list_any}
use Rattle.std.specs.Option.{is_none, option_or}
use Rattle.deb_text.specs.Common.{distinct, control_lines, number_at}
use Rattle.deb_text.specs.declared.files.TheConstants.{PACKAGES, SOURCES}
use Rattle.deb_stanza.specs.Stanza.{Paragraph, value_of, paragraph_at}
use Rattle.deb_stanza.specs.OwnLines.{item_line}
use Rattle.deb_relation.specs.Relations.{Entry, Relations}
use Rattle.deb_relation.specs.declared.kind.Kind.TheVariants.{Provide}
use Rattle.farm_model.specs.Common.{contains, initial, same, Universe}
use Rattle.farm_model.specs.declared.types.Variant.{Variant}
use Rattle.farm_universe.specs.declared.error.TheConstants.{TWICE, UNKNOWN_VARIANT, UNKNOWN_SOURCE, TAKEN, UNSETTLED_BASE, OVER_LIMIT}
use Rattle.farm_universe.specs.declared.limits.TheConstants.{MOST_NAMES, MOST_RECIPES}
use Rattle.farm_universe.specs.Items.{item_variant}
use Rattle.explain_faults.specs.declared.found.FaultFacts.{FaultFacts}
use Rattle.explain_faults.specs.declared.found.Found.{Found}
use Rattle.explain_faults.specs.declared.found.Found.TheVariants.{Item, Again, Member, TooLarge, Over}
use Rattle.explain_faults.specs.declared.found.Limit.{Limit}
use Rattle.explain_faults.specs.declared.found.Limit.TheVariants.{Names, Entries, Sources, Bases, Recipes, RecipeEntries}
use Rattle.explain_faults.specs.Bases.{cause_of}
use Rattle.explain_faults.specs.Paragraphs.{is_recipe, paragraph_place, paragraphs_read, place_from, relations_in}

-- ---- what stands above

-- of a farm text the recipes and base chroots above, since the first paragraph is neither
abbrev pub above : List Paragraph → ℕ → List Paragraph
above ps place = drop 1 (take place ps)

abbrev pub up_to : List Paragraph → ℕ → List Paragraph
up_to ps place = take (place + 1) ps

abbrev pub outputs_of : Universe → List Paragraph → List Variant
outputs_of u ps =
    flat_map (λ p. filter_map (item_variant u) (relations_in Provide (value_of p (codes "Outputs"))))
    (filter is_recipe ps)

abbrev pub is_taken : Universe → List Variant → Entry → Bool
is_taken u given e =
    unwrap_or (option_map (λ v. initial u v || contains given v) (item_variant u e)) false

-- ---- items

-- the field that has the items: of a refusal for its source, of the first paragraph, of a recipe,
-- of a base chroot
abbrev pub list_name : ℕ → ℕ → Paragraph → List ℕ
list_name code place p =
    if code == UNKNOWN_SOURCE then codes "Source"
    else if place == 0 then codes "Archive"
    else if is_recipe p then codes "Outputs"
    else codes "Packages"

abbrev pub items_of : ℕ → ℕ → Paragraph → Relations
items_of code place p = relations_in Provide (value_of p (list_name code place p))

-- the variants that they name
abbrev pub variants_of : Universe → ℕ → ℕ → Paragraph → List Variant
variants_of u code place p = filter_map (item_variant u) (items_of code place p)

-- an item is what a refusal with this code is about: it names no variant, or one that is in the
-- initial archive or given above; of a source the first one is
abbrev pub is_about : Universe → ℕ → List Variant → Entry → Bool
is_about u code given e =
    if code == UNKNOWN_SOURCE then true
    else if code == UNKNOWN_VARIANT then is_none (item_variant u e)
    else code == TAKEN && is_taken u given e

-- the field that names a recipe or a base chroot, and the name
abbrev pub name_field : Paragraph → List ℕ
name_field p = if is_recipe p then codes "Recipe" else codes "Chroot"

abbrev pub name_of : Paragraph → List ℕ
name_of p = unwrap_or (value_of p (name_field p)) []

-- the second, which is of the same kind, has the name of the first
abbrev pub is_namesake : Paragraph → Paragraph → Bool
is_namesake p q = bytes_eq (name_field q) (name_field p) && bytes_eq (name_of q) (name_of p)

abbrev pub place_of : List Variant → Variant → Option ℕ
place_of vs v = position (λ w. same w v) vs

-- the first variant that is an earlier one too, and that one
abbrev pub first_again : List Variant → List Variant → Option Found
first_again before [] = None
first_again before (v ∷ vs) =
    option_or (option_map (Again (length before)) (place_of before v))
    (first_again (before ++ v ∷ []) vs)

-- unless the name of the paragraph is taken
abbrev pub again_found : List Paragraph → Paragraph → List Variant → Option Found
again_found qs p vs = if list_any (is_namesake p) qs then None else first_again [] vs

-- the capacity of a base chroot, in KiB
abbrev pub capacity_of : Paragraph → ℕ
capacity_of p = unwrap_or (option_and_then number_at (value_of p (codes "Capacity"))) 0

-- the different names in a field of these paragraphs
abbrev pub names_in : List ℕ → List Paragraph → List (List ℕ)
names_in field ps = distinct bytes_eq (filter_map (λ p. value_of p field) ps)

-- the limit that a recipe or a base chroot goes over
abbrev pub farm_limit : List Paragraph → Paragraph → Limit
farm_limit qs p =
    if not (is_recipe p) then Bases
    else if nat_le MOST_RECIPES (length (names_in (codes "Recipe") qs)) then Recipes
    else RecipeEntries

unfoldable pub found_by : Universe → List Paragraph → ℕ → ℕ → Paragraph → Option Found
found_by u qs code place p =
    if code == OVER_LIMIT then Some (Over (farm_limit qs p))
    else if code == TWICE then again_found qs p (variants_of u code place p)
    else if code == UNSETTLED_BASE then cause_of u (capacity_of p) (variants_of u code place p)
    else option_map Item
    (place_from (is_about u code (outputs_of u qs)) 0 (items_of code place p))

-- of the paragraph of a text that has this first line, by the paragraphs and its place
abbrev pub on_paragraph : {X : Type 0} → List ℕ → ℕ → (List Paragraph → ℕ → Option X) → Option X
on_paragraph text line of =
    option_and_then (of (paragraphs_read text)) (paragraph_place (paragraphs_read text) line)

-- of a refusal of the farm text with this code, told at this line
unfoldable pub farm_found : Universe → List ℕ → ℕ → ℕ → Option Found
farm_found u farm code line =
    on_paragraph farm line
    (λ ps place. found_by u (above ps place) code place (paragraph_at ps place))

abbrev pub item_of : Found → Option ℕ
item_of (Item place) = Some place
item_of (Again place first) = Some place
item_of (Member place wrong) = Some place
item_of TooLarge = None
item_of (Over limit) = None

abbrev pub item_in : Option Found → Option ℕ
item_in found = option_and_then item_of found

-- of a refusal that is told at this line, the line at which an item begins
unfoldable pub farm_item_line : List ℕ → ℕ → ℕ → Option ℕ → Option ℕ
farm_item_line farm code line item =
    on_paragraph farm line (λ ps place. let p = paragraph_at ps place in option_and_then
    (item_line (control_lines 1 farm) p.line (list_name code place p)) item)

-- nothing of a text is told
abbrev pub no_facts : FaultFacts
no_facts = record { field = None; item = None; item_line = None; word = None; plan_line = None }

-- ---- the packages and the sources

-- there are more names than there may be, or else too many entries
abbrev pub package_limit : List Paragraph → Limit
package_limit ps =
    if nat_lt MOST_NAMES (length (names_in (codes "Package") ps)) then Names else Entries

-- the limit that the paragraph with this first line goes over
unfoldable pub packages_limit : List ℕ → ℕ → Option Limit
packages_limit packages line =
    on_paragraph packages line (λ ps place. Some (package_limit (up_to ps place)))

unfoldable pub index_limit : ℕ → List ℕ → ℕ → ℕ → Option Limit
index_limit file text code line =
    if not (code == OVER_LIMIT) then None
    else if file == PACKAGES then packages_limit text line
    else if file == SOURCES then Some Sources
    else None
