-- A base chroot whose packages pass the test of the farm text is settled.
use Rattle.std.proofs.Common.{◌≡◌, ℕ, zero, suc, ◌+◌, ◌<◌, ◌≤◌, Bool, true, false, not, ◌&&◌, ◌||◌, List, [], ◌∷◌, map, length, refl, sym, ap, subst, ◌∙◌, arith, All, Option, Some, None, eqb, eq-eqb, if◌then◌else◌, nat_le, inl, inr, ◌⊎◌}
use Rattle.std.specs.Prelude.{slice_get}
use Rattle.std.specs.List.{list_any, find}
use Rattle.std.proofs.lemmas.Bool.{and_parts, and_from, eqb-true, leb-true, or_cases, or_left, or_right, false≢true, cases_Bool}
use Rattle.std.proofs.lemmas.List.Folds.{list_any-append}
use Rattle.std.proofs.lemmas.List.FromFn.{length-map-range_with_len, get_or-map-range_with_len}
use Rattle.deb_relation.specs.Relations.{Entry, Relations}
use Rattle.farm_model.specs.Common.{sum_below, slot, some_slot, holds, holds_configured, is_unpacked, size_in, used, base_slot, base_chroot, unsettled, meets_entry, unmet, entries, variant, names, package_of, size, facts, satisfies, satisfies_entry, depends, pre_depends, base, conflict, breaks, some_two, IsSettledBase, Universe}
use Rattle.farm_model.specs.declared.types.Variant.{Variant}
use Rattle.farm_model.specs.declared.types.Slot.{Slot}
use Rattle.farm_model.specs.declared.types.Slot.TheVariants.{Absent, Configured}
use Rattle.farm_model.proofs.BelowLaws.{some_below-at, some_below-found, sum_below-mono, sum_below-same}
use Rattle.farm_universe.specs.BaseText.{Member, member_of, member_meets, meets_any, one_of_each, are_met, all_met, excludes, some_excluded, size_of_all, is_settled_base}
use Rattle.farm_universe.specs.PackagesText.{PackageTable}
use Rattle.farm_universe.proofs.ListFacts.{All-slice_get, any-map-at, any-map-found, all-map-at, find-found}

-- ---- sums over names

nothing_below : (n : ℕ) (f : ℕ → ℕ) → ((k : ℕ) → f k ≡ 0) → sum_below n f ≡ 0
nothing_below zero f none = refl
nothing_below (suc n) f none = rw (none n, nothing_below n f none) refl

sum_below-plus : (n : ℕ) (f g : ℕ → ℕ) → sum_below n (λ k. f k + g k)
    ≡ sum_below n f + sum_below n g
sum_below-plus zero f g = refl
sum_below-plus (suc n) f g = omega (arith, sum_below-plus n f g)

-- a number at one name alone
at_one : (k s n : ℕ) → (sum_below n (λ i. if eqb k i then s else 0) ≤ s)
    × (n ≤ k → sum_below n (λ i. if eqb k i then s else 0) ≡ 0)
at_one k s zero = (omega arith, λ le. refl)
at_one k s (suc n) = by (eqb k n) refl (at_one k s n) where
  by : (b : Bool) → eqb k n ≡ b → (sum_below n (λ i. if eqb k i then s else 0) ≤ s)
      × (n ≤ k → sum_below n (λ i. if eqb k i then s else 0) ≡ 0)
      → ((if b then s else 0) + sum_below n (λ i. if eqb k i then s else 0) ≤ s)
      × (suc n ≤ k → (if b then s else 0) + sum_below n (λ i. if eqb k i then s else 0) ≡ 0)
  by true e later =
      let is : k ≡ n = eqb-true k n e in
      let none = later.1 (omega arith) in
      (omega (arith, none), λ le. absurd (omega arith))
  by false e later =
      (omega (arith, later.0), λ le. let none = later.1 (omega arith) in omega (arith, none))

-- ---- one variant of a name

module _ (m : Variant → Member) (number : (v : Variant) → (m v).number ≡ v.name) where
  -- the head has another name than those behind it
  other_name : (v : Variant) (vs : List Variant) (j : ℕ) (w : Variant)
      → one_of_each (map m (v ∷ vs)) ≡ true → slice_get vs j ≡ Some w → w.name ≡ v.name → ⊥
  other_name v vs j w once at same =
      let none =
      (and_parts (not (list_any (λ other. eqb other.number (m v).number) (map m vs)))
      (one_of_each (map m vs)) once).0 in
      let some : list_any (λ other. eqb other.number (m v).number) (map m vs) ≡ true =
      any-map-at m (λ other. eqb other.number (m v).number) vs j w at
      (eq-eqb (m w).number (m v).number (number w ∙ same ∙ sym (number v))) in
      let wrong : not true ≡ true = subst (λ b. not b ≡ true) some none in
      absurd (false≢true wrong)

  behind : (v : Variant) (vs : List Variant) → one_of_each (map m (v ∷ vs)) ≡ true
      → one_of_each (map m vs) ≡ true
  behind v vs once =
      (and_parts (not (list_any (λ other. eqb other.number (m v).number) (map m vs)))
      (one_of_each (map m vs)) once).1

  pub one_index : (vs : List Variant) (i j : ℕ) (v w : Variant)
      → one_of_each (map m vs) ≡ true → slice_get vs i ≡ Some v → slice_get vs j ≡ Some w
      → v.name ≡ w.name → i ≡ j
  one_index [] zero j v w once vi wj same = absurd cc
  one_index [] (suc i) j v w once vi wj same = absurd cc
  one_index (x ∷ xs) zero zero v w once vi wj same = refl
  one_index (x ∷ xs) zero (suc j) v w once vi wj same =
      let is : x ≡ v = cc in
      absurd (other_name x xs j w once wj (sym same ∙ ap (λ (v : Variant). v.name) (sym is)))
  one_index (x ∷ xs) (suc i) zero v w once vi wj same =
      let is : x ≡ w = cc in
      absurd (other_name x xs i v once vi (same ∙ ap (λ (v : Variant). v.name) (sym is)))
  one_index (x ∷ xs) (suc i) (suc j) v w once vi wj same =
      ap suc (one_index xs i j v w (behind x xs once) vi wj same)

  -- a variant of the list is the one that is found by its name
  pub found_there : (vs : List Variant) (i : ℕ) (v : Variant) → one_of_each (map m vs) ≡ true
      → slice_get vs i ≡ Some v → find (λ w. eqb w.name v.name) vs ≡ Some v
  found_there [] zero v once at = absurd cc
  found_there [] (suc i) v once at = absurd cc
  found_there (x ∷ xs) zero v once at =
      let is : x ≡ v = cc in
      rw (eq-eqb x.name v.name (ap (λ (v : Variant). v.name) is)) at
  found_there (x ∷ xs) (suc i) v once at =
      by (eqb x.name v.name) refl (found_there xs i v (behind x xs once) at)
    where
      by : (b : Bool) → eqb x.name v.name ≡ b → find (λ w. eqb w.name v.name) xs ≡ Some v
          → (if b then Some x else find (λ w. eqb w.name v.name) xs) ≡ Some v
      by true e later = absurd (other_name x xs i v once at (sym (eqb-true x.name v.name e)))
      by false e later = later

-- ---- the chroot of a base

module _ (u : Universe) (n : ℕ) (b : ℕ) (sound : All (λ v. v.name < names u) (base u b).packages)
  where
    abbrev table : PackageTable
    table = record { names = u.names; packages = u.packages; entries = n }

    abbrev m : Variant → Member
    m = member_of table

    abbrev vs : List Variant
    vs = (base u b).packages

    abbrev found : ℕ → Option Variant
    found k = find (λ v. eqb v.name k) vs

    long : length (base_chroot u b) ≡ names u
    unfolding base_chroot
    long = length-map-range_with_len (λ k. base_slot (found k)) 0 (names u)

    slot-is : (k : ℕ) → k < names u → slot (base_chroot u b) k ≡ base_slot (found k)
    unfolding base_chroot
    slot-is k lt =
        get_or-map-range_with_len (λ k. base_slot (found k)) 0 (names u) k k Absent lt (omega arith)

    module _ (once : one_of_each (map m vs) ≡ true) where
      -- a member is configured
      slot-member : (i : ℕ) (v : Variant) → slice_get vs i ≡ Some v
          → slot (base_chroot u b) v.name ≡ Configured v.bit
      slot-member i v at =
          slot-is v.name (All-slice_get (λ w. w.name < names u) vs i v sound at)
          ∙ ap base_slot (found_there m (λ v. refl) vs i v once at)

      meets-is : (v : Variant) (e : Entry) → member_meets (m v) e ≡ satisfies_entry u e v
      unfolding satisfies facts package_of
      meets-is v e = refl

      -- an entry that a member satisfies is met
      met-member : (e : Entry) → list_any (λ o. member_meets o e) (map m vs) ≡ true
          → meets_entry u (base_chroot u b) e ≡ true
      unfolding meets_entry
      met-member e some =
          let r = any-map-found m (λ o. member_meets o e) vs some in
          let lt = All-slice_get (λ w. w.name < names u) vs r.0 r.1 sound r.2 in
          some_below-at (length (base_chroot u b))
          (λ k. holds_configured (λ d. satisfies_entry u e (variant k d))
          (slot (base_chroot u b) k))
          r.1.name (omega (arith, long, lt))
          (rw (slot-member r.0 r.1 r.2) (sym (meets-is r.1 e) ∙ r.3))

      none_unmet : (es : Relations) → are_met (map m vs) es ≡ true
          → unmet (meets_entry u (base_chroot u b)) es ≡ false
      none_unmet [] all = refl
      none_unmet (e ∷ es) all =
          let parts =
          and_parts (list_any (λ o. member_meets o e) (map m vs)) (are_met (map m vs) es) all in
          rw (met-member e parts.0, none_unmet es parts.1) refl

      member_settled : (v : Variant) → are_met (map m vs) (m v).binary.depends ≡ true
          → are_met (map m vs) (m v).binary.pre_depends ≡ true
          → unmet (meets_entry u (base_chroot u b)) (entries u v) ≡ false
      unfolding depends pre_depends package_of
      member_settled v needs pre =
          list_any-append (λ e. not (meets_entry u (base_chroot u b) e)) (m v).binary.depends
          (m v).binary.pre_depends
          ∙ rw (none_unmet (m v).binary.depends needs, none_unmet (m v).binary.pre_depends pre) refl

    -- what holds of a present variant holds of a member of the list
    of_slot : (p : ℕ → Slot → Bool) (k : ℕ) → p k Absent ≡ false → k < names u
        → p k (slot (base_chroot u b) k) ≡ true
        → (i : ℕ) × (v : Variant) × (slice_get vs i ≡ Some v) × (v.name ≡ k)
        × (p v.name (Configured v.bit) ≡ true)
    of_slot p k absent lt is = by (found k) refl (rw (slot-is k lt) at is) where
      by : (o : Option Variant) → found k ≡ o → p k (base_slot o) ≡ true
          → (i : ℕ) × (v : Variant) × (slice_get vs i ≡ Some v) × (v.name ≡ k)
          × (p v.name (Configured v.bit) ≡ true)
      by None e passes = absurd (false≢true (sym absent ∙ passes))
      by (Some v) e passes =
          let there = find-found (λ w. eqb w.name k) vs v e in
          let same = eqb-true v.name k there.2 in (
            there.0,
            v,
            there.1,
            same,
            subst (λ j. p j (Configured v.bit) ≡ true) (sym same) passes,
          )

    settled : one_of_each (map m vs) ≡ true → all_met (map m vs) ≡ true
        → unsettled u (base_chroot u b) ≡ false
    unfolding unsettled all_met
    settled once all = by (cases_Bool (unsettled u (base_chroot u b))) where
      test : ℕ → Slot → Bool
      test k s = is_unpacked s
          || holds (λ d. unmet (meets_entry u (base_chroot u b)) (entries u (variant k d))) s

      by : (unsettled u (base_chroot u b) ≡ true) ⊎ (unsettled u (base_chroot u b) ≡ false)
          → unsettled u (base_chroot u b) ≡ false
      by (inr none) = none
      by (inl some) =
          let r =
          some_below-found (length (base_chroot u b)) (λ k. test k (slot (base_chroot u b) k))
          some in
          let v = of_slot test r.0 refl (omega (arith, long, r.1)) r.2 in
          let parts =
          and_parts (are_met (map m vs) (m v.1).binary.depends)
          (are_met (map m vs) (m v.1).binary.pre_depends)
          (all-map-at m
          (λ o. are_met (map m vs) o.binary.depends && are_met (map m vs) o.binary.pre_depends)
          vs v.0 v.1 all v.2) in
          absurd (false≢true (sym (member_settled once v.1 parts.0 parts.1) ∙ v.4))

    -- no two members of different names stand in a relation that excludes one of them
    none_two : (p : Variant → Variant → Bool)
        → ((v w : Variant) → p v w ≡ true → (w.name ≡ v.name → ⊥)
        → (excludes (m v) (m w) || excludes (m w) (m v)) ≡ true)
        → some_excluded (map m vs) ≡ false → some_two (base_chroot u b) p ≡ false
    unfolding some_two some_excluded
    none_two p excluded none = by (cases_Bool (some_two (base_chroot u b) p)) where
      c : List Slot
      c = base_chroot u b

      inner : ℕ → ℕ → ℕ → Slot → Bool
      inner k d l t = not (eqb l k) && holds (λ e. p (variant k d) (variant l e)) t

      outer : ℕ → Slot → Bool
      outer k s = holds (λ d. some_slot (base_chroot u b) (inner k d)) s

      pair : (i j : ℕ) (v w : Variant) → slice_get vs i ≡ Some v → slice_get vs j ≡ Some w
          → excludes (m v) (m w) ≡ true → ⊥
      pair i j v w vi wj is =
          absurd (false≢true (sym none
          ∙ any-map-at m (λ o. list_any (excludes o) (map m vs)) vs i v vi
          (any-map-at m (excludes (m v)) vs j w wj is)))

      by : (some_two (base_chroot u b) p ≡ true) ⊎ (some_two (base_chroot u b) p ≡ false)
          → some_two (base_chroot u b) p ≡ false
      by (inr nothing) = nothing
      by (inl some) =
          let r =
          some_below-found (length (base_chroot u b))
          (λ k. outer k (slot (base_chroot u b) k)) some in
          let v = of_slot outer r.0 refl (omega (arith, long, r.1)) r.2 in
          let q =
          some_below-found (length (base_chroot u b))
          (λ l. inner v.1.name v.1.bit l (slot (base_chroot u b) l)) v.4 in
          let parts =
          and_parts (not (eqb q.0 v.1.name))
          (holds (λ e. p (variant v.1.name v.1.bit) (variant q.0 e)) (slot (base_chroot u b) q.0))
          q.2 in
          let w =
          of_slot (λ l t. holds (λ e. p (variant v.1.name v.1.bit) (variant l e)) t) q.0 refl
          (omega (arith, long, q.1)) parts.1 in
          let other : w.1.name ≡ v.1.name → ⊥ =
          λ same. absurd (false≢true
          (subst (λ b. not b ≡ true) (eq-eqb q.0 v.1.name (sym w.3 ∙ same)) parts.0)) in
          elim (or_cases (excludes (m v.1) (m w.1)) (excludes (m w.1) (m v.1))
          (excluded v.1 w.1 w.4 other)) [
            | inl first ↦ absurd (pair v.0 w.0 v.1 w.1 v.2 w.2 first)
            | inr second ↦ absurd (pair w.0 v.0 w.1 v.1 w.2 v.2 second)
          ]

    not_named : (v w : Variant) → (w.name ≡ v.name → ⊥) → not (eqb w.name v.name) ≡ true
    not_named v w other = by (eqb w.name v.name) refl where
      by : (t : Bool) → eqb w.name v.name ≡ t → not t ≡ true
      by true e = absurd (other (eqb-true w.name v.name e))
      by false e = refl

    in_conflict : (v w : Variant) → conflict u v w ≡ true → (w.name ≡ v.name → ⊥)
        → (excludes (m v) (m w) || excludes (m w) (m v)) ≡ true
    unfolding conflict satisfies facts package_of
    in_conflict v w is other =
        elim (or_cases (meets_any (m w) (m v).binary.conflicts)
        (meets_any (m v) (m w).binary.conflicts) is) [
          | inl first ↦ or_left (excludes (m v) (m w)) _
              (and_from _ _ (not_named v w other)
              (or_left (meets_any (m w) (m v).binary.conflicts) _ first))
          | inr second ↦ or_right (excludes (m v) (m w)) _
              (and_from _ _ (not_named w v (λ same. other (sym same)))
              (or_left (meets_any (m v) (m w).binary.conflicts) _ second))
        ]

    in_break : (v w : Variant) → breaks u v w ≡ true → (w.name ≡ v.name → ⊥)
        → (excludes (m v) (m w) || excludes (m w) (m v)) ≡ true
    unfolding breaks satisfies facts package_of
    in_break v w is other =
        or_left (excludes (m v) (m w)) _
        (and_from _ _ (not_named v w other)
        (or_right (meets_any (m w) (m v).binary.conflicts) _ is))

    sum-found : (ws : List Variant) (k : ℕ)
        → sum_below k (λ i. size_in u i (base_slot (find (λ v. eqb v.name i) ws)))
        ≤ size_of_all (map m ws)
    unfolding size package_of
    sum-found [] k =
        let none = nothing_below k (λ i. 0) (λ i. refl) in omega (arith, none)
    sum-found (w ∷ ws) k =
        let more =
        sum_below-mono k (λ i. size_in u i (base_slot (find (λ v. eqb v.name i) (w ∷ ws))))
        (λ i. (if eqb w.name i then (m w).binary.size else 0)
        + size_in u i (base_slot (find (λ v. eqb v.name i) ws)))
        (λ i lt. each i (eqb w.name i) refl) in
        let parts =
        sum_below-plus k (λ i. if eqb w.name i then (m w).binary.size else 0)
        (λ i. size_in u i (base_slot (find (λ v. eqb v.name i) ws))) in
        let first = (at_one w.name (m w).binary.size k).0 in
        omega (arith, more, parts, first, sum-found ws k)
      where
        each : (i : ℕ) (t : Bool) → eqb w.name i ≡ t
            → size_in u i (base_slot (if t then Some w else find (λ v. eqb v.name i) ws))
            ≤ (if t then (m w).binary.size else 0)
            + size_in u i (base_slot (find (λ v. eqb v.name i) ws))
        each i true e =
            let same : size u (variant i w.bit) ≡ (m w).binary.size =
            ap (λ j. size u (variant j w.bit)) (sym (eqb-true w.name i e)) in
            omega (arith, same)
        each i false e = omega arith

    within : used u (base_chroot u b) ≤ size_of_all (map m vs)
    unfolding used
    within =
        let same =
        sum_below-same (length (base_chroot u b)) (λ k. size_in u k (slot (base_chroot u b) k))
        (λ k. size_in u k (base_slot (found k)))
        (λ k lt. ap (size_in u k) (slot-is k (omega (arith, long)))) in
        omega (arith, same, sum-found vs (length (base_chroot u b)))

    -- where the test of the farm text passes, the base chroot is settled
    pub IsSettledBase-test : is_settled_base table (base u b).capacity (base u b).packages ≡ true
        → IsSettledBase u b
    unfolding is_settled_base
    IsSettledBase-test is =
        let sized =
        and_parts (one_of_each (map m vs) && all_met (map m vs) && not (some_excluded (map m vs)))
        (nat_le (size_of_all (map m vs)) (base u b).capacity) is in
        let apart =
        and_parts (one_of_each (map m vs) && all_met (map m vs)) (not (some_excluded (map m vs)))
        sized.0 in
        let parts = and_parts (one_of_each (map m vs)) (all_met (map m vs)) apart.0 in
        let none = not_true (some_excluded (map m vs)) apart.1 in
        record {
          one_each = λ i j v w vi wj same.
              one_index m (λ v. refl) vs i j v w parts.0 vi wj same;
          settled = settled parts.0 parts.1;
          no_conflict = none_two (conflict u) in_conflict none;
          not_broken = none_two (breaks u) in_break none;
          within =
              let fits = leb-true (size_of_all (map m vs)) (base u b).capacity sized.1 in
              omega (arith, within, fits);
        }
      where
        not_true : (t : Bool) → not t ≡ true → t ≡ false
        not_true true e = absurd cc
        not_true false e = refl
