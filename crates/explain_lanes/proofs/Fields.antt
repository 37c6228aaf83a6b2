-- What is no variant asks for nothing and provides nothing; what a slot may hold, by its word; and the
-- variants that a row has, which are those that pass its test.
use Rattle.std.proofs.Common.{◌≡◌, ℕ, ◌≤◌, Bool, false, List, [], None, slice_get, slice_index_or, sym, ap}
use Rattle.std.specs.List.{list_any}
use Rattle.std.proofs.lemmas.List.{get_or_past}
use Rattle.bit_rows.specs.Sets.{variants_of, HasNoneFrom}
use Rattle.farm_model.specs.Common.{names, variant, variants, package_of, no_package, pre_depends, depends, word_has, Universe, Package}
use Rattle.farm_model.specs.declared.types.Variant.{Variant}
use Rattle.may_rows.specs.Words.{slot_of}
use Rattle.plan_model.specs.May.{Bits}
use Rattle.explain_reasons.proofs.HeldLists.{held_is}
use Rattle.explain_reasons.specs.Listed.{all_below, held, one_if, variants_in}
use Rattle.explain_reasons.specs.Reasons.{asked_in_field}
use Rattle.explain_reasons.specs.declared.types.Field.{Field}
use Rattle.sat_rows.specs.Rows.{IsRowOf}
use Rattle.explain_lanes.proofs.Below.{all_below-skip, nothing_below}
use Rattle.explain_lanes.specs.LaneNotes.{is_named, provides}
use Rattle.explain_lanes.specs.Waits.{in_row, variants_that}

module _ (u : Universe) (v : Variant) (past : variants u v.name ≤ v.bit) where
  is_none : package_of u v ≡ no_package
  unfolding variants package_of
  is_none = get_or_past (slice_index_or u.packages v.name []) v.bit no_package past

  -- it has no entry of any number
  pub none_asked : (field : Field) (i : ℕ) → None ≡ slice_get (asked_in_field u v field) i
  unfolding pre_depends depends
  none_asked Field.PreDepends i = sym (ap (λ (q : Package). slice_get q.pre_depends i) is_none)
  none_asked Field.Depends i = sym (ap (λ (q : Package). slice_get q.depends i) is_none)

  pub none_provided : (name : List ℕ) → false ≡ provides u name v
  none_provided name = sym (ap (λ (q : Package). list_any (is_named name) q.provides) is_none)

-- a variant that may be held, by the word of its name
pub held_at : (here ready last b : ℕ) → word_has here b ≡ held (slot_of here ready last) b
held_at here ready last b = sym (ap (λ (set : Bits). set b) (held_is here ready last))

module _ (u : Universe) (row : List ℕ) where
  -- names of which it has none are passed over
  pub skipped : (from to : ℕ) → from ≤ to → HasNoneFrom (variants_of row) from to
      → all_below from (in_row u row) ≡ all_below to (in_row u row)
  unfolding variants_in
  skipped from to le none =
      all_below-skip from to (in_row u row) le
      (λ n above below.
      nothing_below (variants u n) (λ b. one_if (variants_of row n b) (variant n b))
      (λ b lt. ap (λ has. one_if has (variant n b)) (none n b above below)))

  pub by_row : (test : Variant → Bool) → IsRowOf u test row
      → all_below (names u) (in_row u row) ≡ variants_that u test
  by_row test is = λ i. all_below (names u) (λ n. variants_in u n (λ b. is.set n b i))
