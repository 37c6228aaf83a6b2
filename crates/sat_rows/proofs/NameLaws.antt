-- The variants of the name of an alternative.
use Rattle.std.proofs.Common.{◌≡◌, ℕ, zero, suc, ◌<◌, Bool, true, false, nat_lt, ◌&&◌, ◌==◌, List, [], ◌∷◌, length, get_or, None, Some, if◌then◌else◌, refl, sym, ap, ◌∙◌, true≢false, arith}
use Rattle.std.specs.Cmp.{both_ways}
use Rattle.std.specs.List.{list_any, position_or_len}
use Rattle.std.specs.Str.{bytes_eq}
use Rattle.std.proofs.lemmas.Bool.{and_parts, and_from, ltb-true, lt-ltb, eqb-true, eq-eqb}
use Rattle.std.proofs.lemmas.List.Folds.{list_any_at}
use Rattle.std.proofs.lemmas.List.Quantifiers.{position-Some}
use Rattle.std.proofs.lemmas.Slice.Eq.{bytes_eq-Decides}
use Rattle.deb_text.specs.Groups.{AllDistinct, place_in}
use Rattle.deb_text.proofs.ListLaws.{bytes-same}
use Rattle.deb_text.proofs.PlaceLaws.{place_in-position}
use Rattle.deb_relation.specs.Common.{Atom, is_its_own}
use Rattle.farm_model.specs.Common.{variant, names, variants, facts, is_wanted, Universe}
use Rattle.farm_universe.proofs.PlaceLaws.{named}
use Rattle.farm_universe.specs.Kept.{IsKept}
use Rattle.sat_rows.specs.Rows.{variant_passes}

-- no text stands at two places
same-place : (ks : List (List ℕ)) → AllDistinct bytes_eq ks → (i j : ℕ) → i < length ks
    → j < length ks → get_or ks i [] ≡ get_or ks j [] → i ≡ j
same-place [] distinct i j li lj same = absurd (omega arith)
same-place (k ∷ ks) distinct zero zero li lj same = refl
same-place (k ∷ ks) distinct zero (suc j) li lj same =
    absurd (true≢false (sym (list_any_at (bytes_eq k) ks j [] (omega arith)
    ((bytes_eq-Decides k (get_or ks j [])).1 same))
    ∙ distinct.0))
same-place (k ∷ ks) distinct (suc i) zero li lj same =
    absurd (true≢false (sym (list_any_at (bytes_eq k) ks i [] (omega arith)
    ((bytes_eq-Decides k (get_or ks i [])).1 (sym same)))
    ∙ distinct.0))
same-place (k ∷ ks) distinct (suc i) (suc j) li lj same =
    ap suc (same-place ks distinct.1 i j (omega arith) (omega arith) same)

module _ (u : Universe) (kept : IsKept u) (a : Atom) where
  -- the variant has the name of the alternative, and a version in its relation
  abbrev own : ℕ → ℕ → Bool
  own n b = variant_passes u (λ v. is_its_own (facts u v) a) n b

  parts : (n b : ℕ) → own n b ≡ true
      → (b < variants u n) × (n < length u.names) × (get_or u.names n [] ≡ a.name)
      × (is_wanted u a.relation (variant n b) ≡ true)
  unfolding facts is_wanted names
  parts n b is =
      let both = and_parts (nat_lt b (variants u n)) _ is in
      let own = and_parts (bytes_eq (get_or u.names n []) a.name) _ both.1 in
      let known = ltb-true b (variants u n) both.0 in
      let there = named u n b known in (
        known,
        omega (arith, there, kept.sound.listed),
        bytes-same (get_or u.names n []) a.name own.0,
        own.1,
      )

  -- where the name has this number, they are its variants
  pub own-found : (k : ℕ) (has : ℕ → Bool)
      → ((b : ℕ) → has b ≡ variant_passes u (is_wanted u a.relation) k b)
      → place_in bytes_eq u.names a.name ≡ Some k
      → (n b : ℕ) → ((n == k) && has b) ≡ own n b
  unfolding facts is_wanted
  own-found k has is at n b = both_ways _ _ on back where
    place : (k < length u.names) × (get_or u.names k [] ≡ a.name)
    place =
        let some =
        position-Some (bytes_eq a.name) u.names k []
        (sym (place_in-position bytes_eq u.names a.name) ∙ at) in
        (some.0, sym (bytes-same a.name (get_or u.names k []) some.1))

    on : ((n == k) && has b) ≡ true → own n b ≡ true
    on both =
        let two = and_parts (n == k) _ both in
        let same = eqb-true n k two.0 in
        let wanted = and_parts (nat_lt b (variants u k)) _ (sym (is b) ∙ two.1) in
        ap (λ n. own n b) same
        ∙ and_from _ _ wanted.0
        (and_from _ _ ((bytes_eq-Decides (get_or u.names k []) a.name).1 place.1) wanted.1)

    back : own n b ≡ true → ((n == k) && has b) ≡ true
    back passing =
        let told = parts n b passing in
        let same = same-place u.names kept.distinct n k told.1 place.0 (told.2 ∙ sym place.1) in
        and_from _ _ (eq-eqb n k same)
        (is b ∙ ap (λ n. variant_passes u (is_wanted u a.relation) n b) (sym same)
        ∙ and_from _ _ (lt-ltb b (variants u n) told.0) told.3)

  -- where no name is that, there are none
  pub own-none : place_in bytes_eq u.names a.name ≡ None → (n b : ℕ) → own n b ≡ false
  own-none none n b = by (own n b) refl where
    missing : (t : Bool) → list_any (bytes_eq a.name) u.names ≡ t
        → (if t then Some (position_or_len (bytes_eq a.name) u.names) else None) ≡ None
        → list_any (bytes_eq a.name) u.names ≡ false
    missing true e is = absurd cc
    missing false e is = e

    by : (t : Bool) → own n b ≡ t → own n b ≡ false
    by false e = e
    by true e =
        let told = parts n b e in
        absurd (true≢false (sym (list_any_at (bytes_eq a.name) u.names n [] told.1
        ((bytes_eq-Decides a.name (get_or u.names n [])).1 (sym told.2)))
        ∙ missing (list_any (bytes_eq a.name) u.names) refl none))
