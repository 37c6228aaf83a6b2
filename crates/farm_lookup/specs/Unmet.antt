-- What nothing in a farm meets (Debian Policy 7.1). The project's own words.
--
--   is_met u e                  some variant of the universe satisfies the entry
--   of_entry, of_field          an entry, or those of a field, if nothing meets it, and who asks
--   joined_below n f            the lists of the numbers below n, one behind another
--   of_recipes u                what recipes need, in the order of their numbers
--   of_package u v              what a package needs: its Pre-Depends, then its Depends
--   of_initial, of_name, of_names
--                               the same if it is in the initial archive; of each variant of a
--                               name, of each name
--   unmet_needs u archive more  all of these: what the archive was to hold, recipes, the initial
--                               archive, and further packages
use Rattle.std.specs.Prelude.{ℕ, zero, suc, Bool, List, [], ◌∷◌, ◌++◌, length, if◌then◌else◌}
use Rattle.std.specs.List.{flat_map}
use Rattle.deb_relation.specs.Relations.{Entry, Relations}
use Rattle.farm_model.specs.Common.{Universe, names, variant, variants, recipe, initial, pre_depends, depends, satisfies_entry, some_variant}
use Rattle.farm_model.specs.declared.types.Variant.{Variant}
use Rattle.farm_lookup.specs.declared.needs.Asker.{Asker}
use Rattle.farm_lookup.specs.declared.needs.Asker.TheVariants.{Archive, Recipe, Package}
use Rattle.farm_lookup.specs.declared.needs.Unmet.{Unmet}

abbrev pub is_met : Universe → Entry → Bool
is_met u e = some_variant u (satisfies_entry u e)

abbrev pub of_entry : Universe → Asker → Entry → List Unmet
of_entry u asker e = if is_met u e then [] else record { asker = asker; entry = e } ∷ []

abbrev pub of_field : Universe → Asker → Relations → List Unmet
of_field u asker field = flat_map (of_entry u asker) field

abbrev pub joined_below : {A : Type 0} → ℕ → (ℕ → List A) → List A
joined_below zero f = []
joined_below (suc n) f = joined_below n f ++ f n

abbrev pub of_recipes : Universe → List Unmet
of_recipes u = joined_below (length u.recipes) (λ r. of_field u (Recipe r) (recipe u r).needs)

abbrev pub of_package : Universe → Variant → List Unmet
of_package u v = of_field u (Package v) (pre_depends u v) ++ of_field u (Package v) (depends u v)

-- if it is in the initial archive
abbrev pub of_initial : Universe → Variant → List Unmet
of_initial u v = if initial u v then of_package u v else []

abbrev pub of_name : Universe → ℕ → List Unmet
of_name u n = joined_below (variants u n) (λ b. of_initial u (variant n b))

abbrev pub of_names : Universe → List Unmet
of_names u = joined_below (names u) (of_name u)

abbrev pub of_packages : Universe → List Variant → List Unmet
of_packages u vs = flat_map (of_package u) vs

abbrev pub unmet_needs : Universe → Relations → List Variant → List Unmet
unmet_needs u archive more =
    of_field u Archive archive ++ of_recipes u ++ of_names u ++ of_packages u more
