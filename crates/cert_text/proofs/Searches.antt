-- The first place in a list that passes a test, of a version among the packages of a name; and the
-- name of a lane.
use Rattle.std.proofs.Common.{◌≡◌, ℕ, ◌<◌, true, false, List, [], length, get_or, Bool, refl, ap, Some, position, arith}
use Rattle.std.proofs.lemmas.Bool.{lt-ltb}
use Rattle.std.proofs.lemmas.List.Sums.{position_or_len_is}
use Rattle.std.proofs.Math.ListN.{get_or-map}
use Rattle.std.specs.Option.{option_map}
use Rattle.std.specs.Ordering.{is_eq}
use Rattle.deb_version.specs.Grammar.{text_cmp}
use Rattle.farm_model.specs.Common.{variant, variants, package_of, no_package, Universe}
use Rattle.farm_universe.specs.Items.{variant_of}
use Rattle.farm_universe.specs.ListText.{has_version}
use Rattle.plan_model.specs.Plan.{Lane, Plan, lane, no_lane}
use Rattle.cert_text.specs.CertLines.{lane_names}

module _ {X : Type 0} (p : X → Bool) (xs : List X) (d : X) where
  position-first : (i : ℕ) → i < length xs → ((j : ℕ) → j < i → p (get_or xs j d) ≡ false)
      → p (get_or xs i d) ≡ true → position p xs ≡ Some i
  position-first i lt before is =
      rw (
        position_or_len_is p xs i d (omega arith) before (λ _. is),
        lt-ltb i (length xs) lt,
      ) refl

-- the variant of this bit has the version
abbrev pub has_at : Universe → List ℕ → ℕ → ℕ → Bool
has_at u version n b = is_eq (text_cmp version (package_of u (variant n b)).version)

module _ (u : Universe) (version : List ℕ) (n : ℕ) where
  pub variant-first : (b : ℕ) → b < variants u n
      → ((j : ℕ) → j < b → has_at u version n j ≡ false) → has_at u version n b ≡ true
      → variant_of u version n ≡ Some (variant n b)
  unfolding variants package_of
  variant-first b lt before is =
      ap (option_map (variant n))
      (position-first (has_version version) (get_or u.packages n []) no_package b lt before is)

-- the name of the lane of a number
pub lane-name : (p : Plan) (l : ℕ) → get_or (lane_names p) l [] ≡ (lane p l).name
lane-name p l = get_or-map (λ (of : Lane). of.name) p l no_lane
