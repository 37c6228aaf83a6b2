-- A wait passes where the rows of its entry and of the archive have a common variant.
use Rattle.std.proofs.Common.{◌≡◌, ℕ, Bool, true, ◌&&◌, nat_lt, List, sym, ◌∙◌}
use Rattle.std.specs.Cmp.{both_ways as same_tests}
use Rattle.std.specs.Prelude.{◌↔◌, IsTrue}
use Rattle.std.proofs.lemmas.Bool.{and_parts, and_from, lt-ltb, ltb-true}
use Rattle.bit_rows.specs.Sets.{variants_of, HaveCommon}
use Rattle.deb_relation.specs.Relations.{Entry}
use Rattle.farm_model.specs.Common.{some_below, Universe, variant, names, variants, satisfies_entry}
use Rattle.farm_model.specs.declared.types.Variant.{Variant}
use Rattle.farm_model.proofs.BelowLaws.{some_below-at, some_below-found}
use Rattle.farm_universe.proofs.PlaceLaws.{named}
use Rattle.plan_model.specs.Turn as turn
use Rattle.sat_rows.specs.Rows.{IsRowOf}

pub hit_passes : (u : Universe) (e : Entry) (test : Variant → Bool) (a b : List ℕ) (hit : Bool)
    → (IsTrue hit ↔ HaveCommon (variants_of a) (variants_of b)) → IsRowOf u test a
    → IsRowOf u (satisfies_entry u e) b → hit ≡ turn.passes u test e
hit_passes u e test a b hit common is_a is_b = same_tests hit (turn.passes u test e) found back
  where
    both : ℕ → ℕ → Bool
    both n k = test (variant n k) && satisfies_entry u e (variant n k)

    found : hit ≡ true → turn.passes u test e ≡ true
    found h =
        let c = common.0 h in
        let left = and_parts (nat_lt c.1 (variants u c.0)) (test (variant c.0 c.1)) (sym
        (is_a.set c.0 c.1) ∙ c.2) in
        let right = and_parts (nat_lt c.1 (variants u c.0)) (satisfies_entry u e
        (variant c.0 c.1)) (sym (is_b.set c.0 c.1) ∙ c.3) in
        let lt = ltb-true c.1 (variants u c.0) left.0 in
        some_below-at (names u) (λ n. some_below (variants u n) (both n)) c.0 (named u c.0 c.1 lt)
        (some_below-at (variants u c.0) (both c.0) c.1 lt (and_from _ _ left.1 right.1))

    back : turn.passes u test e ≡ true → hit ≡ true
    back h =
        let n = some_below-found (names u) (λ n. some_below (variants u n) (both n)) h in
        let k = some_below-found (variants u n.0) (both n.0) n.2 in
        let parts = and_parts (test (variant n.0 k.0)) (satisfies_entry u e
        (variant n.0 k.0)) k.2 in
        let lt = lt-ltb k.0 (variants u n.0) k.1 in
        common.1 (
          n.0,
          k.0,
          is_a.set n.0 k.0 ∙ and_from _ _ lt parts.0,
          is_b.set n.0 k.0 ∙ and_from _ _ lt parts.1,
        )
