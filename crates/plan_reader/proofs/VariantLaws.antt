-- What is no variant.
use Rattle.std.proofs.Common.{◌≡◌, ◌≤◌, [], slice_index_or, ap, arith}
use Rattle.std.proofs.lemmas.List.{get_or_past}
use Rattle.farm_model.specs.Common.{names, variants, package_of, no_package, Universe, Package}
use Rattle.farm_model.specs.declared.types.Variant.{Variant}

-- a number past the last name has no variants
pub not_named : (u : Universe) (v : Variant) → names u ≤ v.name → variants u v.name ≤ v.bit
unfolding names variants
not_named u v past = rw (get_or_past u.packages v.name [] past) (omega arith)

-- what is no variant has no version
pub not_known : (u : Universe) (v : Variant) → variants u v.name ≤ v.bit
    → (package_of u v).version ≡ []
unfolding variants package_of
not_known u v past =
    ap (λ (q : Package). q.version)
    (get_or_past (slice_index_or u.packages v.name []) v.bit no_package past)
