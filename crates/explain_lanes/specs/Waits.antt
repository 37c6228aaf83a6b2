-- What the waits of an accepted plan wait for. The project's own format. Parameters: u a universe,
-- p a plan, ls the lines of its text, l a lane, i a place, e the entry of the wait there.
--
--   satisfying             the variants that satisfy an entry (Debian Policy 7.1 and 7.5)
--   may_be_there           a variant may be in the archive at a place
--   entry_told             what is told of a wait
--   waits_notes            lane by lane, and in each wait by wait
use Rattle.std.specs.Prelude.{ℕ, Bool, List, [], ◌∷◌, length, Option, Some, None, filter, find, option_and_then, option_map}
use Rattle.std.specs.Option.{option_or}
use Rattle.bit_rows.specs.Sets.{variants_of}
use Rattle.deb_relation.specs.Relations.{Entry}
use Rattle.explain_lanes.specs.declared.note.Told.{Told}
use Rattle.explain_lanes.specs.Notes.{NoteFacts, note_of, nothing_further}
use Rattle.farm_model.specs.Common.{initial, names, satisfies_entry, Universe}
use Rattle.farm_model.specs.declared.types.Variant.{Variant}
use Rattle.plan_reader.specs.PlanLines.{LaneLines}
use Rattle.plan_model.specs.Common.{possible, Plan, lane}
use Rattle.explain_reasons.specs.Listed.{all_below, variants_in}
use Rattle.sat_rows.specs.Rows.{variant_passes}
use Rattle.explain_lanes.specs.Stuck.{wait_at}

-- those of a name that a row has
abbrev pub in_row : Universe → List ℕ → ℕ → List Variant
in_row u row n = variants_in u n (variants_of row n)

-- names by number, and of each the versions from the lowest up
abbrev pub variants_that : Universe → (Variant → Bool) → List Variant
variants_that u test = all_below (names u) (λ n. variants_in u n (variant_passes u test n))

unfoldable pub satisfying : Universe → Entry → List Variant
satisfying u e = variants_that u (satisfies_entry u e)

-- it may be in the archive at a place: another lane publishes it, or this one ahead of the place
abbrev pub may_be_there : Universe → Plan → (l i : ℕ) → Variant → Bool
may_be_there u p l i v = variant_passes u (possible u p l i) v.name v.bit

-- the first of these variants, and how many more there are
abbrev pub coming : List Variant → Option Told
coming [] = None
coming (v ∷ more) = Some (Told.Coming v (length more))

-- of the variants that satisfy the entry, one that is there from the start; or else those that come
abbrev pub entry_told : Universe → Plan → (l i : ℕ) → Entry → Option Told
entry_told u p l i e =
    option_or (option_map Told.FromStart (find (initial u) (satisfying u e)))
    (coming (filter (may_be_there u p l i) (satisfying u e)))

-- the wait at a place, if there is one
abbrev pub place_notes : Universe → Plan → List LaneLines → (l i : ℕ) → List NoteFacts
place_notes u p ls l i =
    note_of p ls l i None (λ told. nothing_further)
    (option_and_then (entry_told u p l i) (wait_at p l i))

abbrev pub lane_waits : Universe → Plan → List LaneLines → ℕ → List NoteFacts
lane_waits u p ls l = all_below (length (lane p l).instructions) (place_notes u p ls l)

unfoldable pub waits_notes : Universe → Plan → List LaneLines → List NoteFacts
waits_notes u p ls = all_below (length p) (lane_waits u p ls)
