-- What is at odds between a run that has stopped and a farm that is to go on, as tests that compute.
-- The project's own words. Parameters: left, brought and gone the items that the run has left, that
-- came by hand, and that are withdrawn; there the items of the farm's archive; w the farm's universe.
--
--   stays_in          an item was left or brought, and is not withdrawn
--   is_wrong          a variant is in the farm's archive and does not stay, or it stays and is not there
--   is_lost           an item of a list stays, and the farm's archive does not have it
--   some_comes_back   a recipe of the farm gives what is withdrawn
--   is_at_odds        any of these
--   is_initial_item   the farm's archive has an item
use Rattle.std.specs.Prelude.{Bool, not, ◌&&◌, ◌||◌, nat_lt, List, length, if◌then◌else◌}
use Rattle.std.specs.List.{list_any}
use Rattle.farm_model.specs.declared.types.Variant.{Variant}
use Rattle.farm_model.specs.Common.{Universe, initial, outputs, variants, some_below, some_variant}
use Rattle.leg_laws.specs.Named.{Item, item_of, is_equal_item, is_listed}

abbrev pub stays_in : (left brought gone : List Item) → Item → Bool
stays_in left brought gone item =
    (is_listed left item || is_listed brought item) && not (is_listed gone item)

-- one of two is true, and the other is not
abbrev pub differ : Bool → Bool → Bool
differ a b = if a then not b else b

abbrev pub is_wrong : (left brought gone : List Item) → Universe → Variant → Bool
is_wrong left brought gone w x = differ (initial w x) (stays_in left brought gone (item_of w x))

abbrev pub is_lost : (gone there : List Item) → Item → Bool
is_lost gone there item = not (is_listed gone item) && not (is_listed there item)

-- a variant of the farm is withdrawn
abbrev pub is_gone : List Item → Universe → Variant → Bool
is_gone gone w x = nat_lt x.bit (variants w x.name) && is_listed gone (item_of w x)

abbrev pub some_comes_back : List Item → Universe → Bool
some_comes_back gone w =
    some_below (length w.recipes) (λ r. list_any (is_gone gone w) (outputs w r))

abbrev pub is_at_odds : (left brought gone there : List Item) → Universe → Bool
is_at_odds left brought gone there w =
    some_variant w (is_wrong left brought gone w) || list_any (is_lost gone there) left
    || list_any (is_lost gone there) brought || some_comes_back gone w

abbrev pub is_initial_item : Universe → Item → Bool
is_initial_item w item = some_variant w (λ x. initial w x && is_equal_item (item_of w x) item)
