-- Orders of builds.
use Rattle.std.proofs.Common.{◌≡◌, ℕ, zero, suc, ◌<◌, ◌≤◌, Bool, true, false, not, ◌&&◌, List, [], ◌∷◌, ◌++◌, length, get_or, take, eqb, nat_lt, refl, ap, ap₂, sym, subst, ◌∙◌, inl, inr, arith, add-one, append-nil, Option, Some, None, Result, Ok, Err, IfOk, IfSome, MatchOption}
use Rattle.std.proofs.lemmas.Bool.{cases_Bool, cases_lt, eq-eqb, eqb-true, ltb-true, lt-ltb, both_ways, false≢true, or_left, or_right, or_cases, and_parts, and_from, not-true, not_from_false}
use Rattle.std.proofs.lemmas.List.{get_or_append_left, get_or_at, take_at, take-append-le, take-take, get_or-take, take_all, length-take, length_push, get_or_default}
use Rattle.std.proofs.lemmas.List.Concat.{flat_map-append}
use Rattle.std.proofs.lemmas.List.Folds.{list_any-append, list_any_more, list_any_at}
use Rattle.std.proofs.lemmas.Map.Keys.{IsDistinct-from_apart}
use Rattle.std.proofs.lemmas.Map.Steps.{length-le_from_distinct_below}
use Rattle.std.specs.List.{list_all}
use Rattle.stage_choice.specs.declared.build.StagedBuild.{StagedBuild}
use Rattle.std.specs.Prelude.{IfNone}
use Rattle.stage_choice.specs.Orders.{has, needs, gives, given, can_follow, AreReached, LeadsTo, IsWhole, IsAheadOf}

-- ---- what a list has

-- where it has it
has_at : (list : List ℕ) (q : ℕ) → has list q ≡ true
    → (k : ℕ) × (k < length list) × (get_or list k 0 ≡ q)
has_at [] q is = absurd (false≢true is)
has_at (p ∷ list) q is =
    elim (or_cases (eqb q p) (has list q) is) [
      | inl e ↦ (0, omega arith, sym (eqb-true q p e))
      | inr there ↦
          let at = has_at list q there in
          (suc at.0, omega (arith, at.1), at.2)
    ]

has_item : (list : List ℕ) (k q : ℕ) → k < length list → get_or list k 0 ≡ q → has list q ≡ true
has_item list k q lt e =
    list_any_at (λ other. eqb q other) list k 0 lt (eq-eqb q (get_or list k 0) (sym e))

-- a weaker test
all_weaker : (p r : ℕ → Bool) → ((x : ℕ) → p x ≡ true → r x ≡ true) → (xs : List ℕ)
    → list_all p xs ≡ true → list_all r xs ≡ true
all_weaker p r weaker [] all = refl
all_weaker p r weaker (x ∷ xs) all =
    let parts = and_parts (p x) (list_all p xs) all in
    and_from (r x) (list_all r xs) (weaker x parts.0) (all_weaker p r weaker xs parts.1)

module _ (builds : List StagedBuild) where
  -- ---- what is given

  -- some build of the places gives it
  giver_of : (places : List ℕ) (thing : ℕ) → has (given builds places) thing ≡ true
      → (q : ℕ) × (has places q ≡ true) × (has (gives builds q) thing ≡ true)
  giver_of [] thing is = absurd (false≢true is)
  giver_of (p ∷ places) thing is =
      elim (or_cases (has (gives builds p) thing) (has (given builds places) thing)
      (sym (list_any-append (λ other. eqb thing other) (gives builds p) (given builds places)) ∙ is)) [
        | inl here ↦ (p, or_left (eqb p p) (has places p) (eq-eqb p p refl), here)
        | inr there ↦
            let found = giver_of places thing there in
            (found.0, or_right (eqb found.0 p) (has places found.0) found.1, found.2)
      ]

  given_by : (places : List ℕ) (q thing : ℕ) → has places q ≡ true
      → has (gives builds q) thing ≡ true → has (given builds places) thing ≡ true
  given_by [] q thing is here = absurd (false≢true is)
  given_by (p ∷ places) q thing is here =
      list_any-append (λ other. eqb thing other) (gives builds p) (given builds places)
      ∙ elim (or_cases (eqb q p) (has places q) is) [
        | inl e ↦
            or_left (has (gives builds p) thing) (has (given builds places) thing)
            (subst (λ k. has (gives builds k) thing ≡ true) (eqb-true q p e) here)
        | inr there ↦
            or_right (has (gives builds p) thing) (has (given builds places) thing)
            (given_by places q thing there here)
      ]

  pub given-more : (places : List ℕ) (place : ℕ)
      → given builds (places ++ place ∷ []) ≡ given builds places ++ gives builds place
  given-more places place =
      flat_map-append (gives builds) places (place ∷ [])
      ∙ ap (λ rest. given builds places ++ rest) (append-nil (gives builds place))

  -- ---- orders

  pub AreReached-more : (order : List ℕ) (place : ℕ) → AreReached builds order
      → can_follow builds order place ≡ true → AreReached builds (order ++ place ∷ [])
  AreReached-more order place reached next k lt =
      elim (cases_lt k (length order)) [
        | inl below ↦
            ap₂ (can_follow builds) (take-append-le k order (place ∷ []) (omega arith))
            (get_or_append_left order (place ∷ []) 0 k below)
            ∙ reached k below
        | inr past ↦
            let last : k ≡ length order = omega (arith, length_push order place) in
            ap₂ (can_follow builds)
            (ap (λ n. take n (order ++ place ∷ [])) last ∙ take_at order (place ∷ []) (length order) refl)
            (ap (λ n. get_or (order ++ place ∷ []) n 0) last
            ∙ get_or_at order place [] 0 (length order) refl)
            ∙ next
      ]

  -- the front of an order leads to what stands behind it
  pub LeadsTo-front : (order : List ℕ) (k : ℕ) → AreReached builds order → k < length order
      → LeadsTo builds (take k order) (get_or order k 0)
  LeadsTo-front order k reached lt = (
    λ j below.
        let short = length-take k order in
        let ahead : j < k = omega (arith, short) in
        ap₂ (can_follow builds) (take-take j k order (omega arith)) (get_or-take k order j 0 ahead)
        ∙ reached j (omega arith),
    reached k lt,
  )

  -- what a build that can follow is, and what lets it follow
  parts_of : (others : List ℕ) (place : ℕ) → can_follow builds others place ≡ true
      → (place < length builds) × (has others place ≡ false)
      × (list_all (has (given builds others)) (needs builds place) ≡ true)
  parts_of others place next =
      let is_build = nat_lt place (length builds) in
      let is_other = not (has others place) in
      let is_given = list_all (has (given builds others)) (needs builds place) in
      let all = and_parts (is_build && is_other) is_given next in
      let both = and_parts is_build is_other all.0 in
      (ltb-true place (length builds) both.0, not-true (has others place) both.1, all.1)

  from_parts : (others : List ℕ) (place : ℕ) → place < length builds → has others place ≡ false
      → list_all (has (given builds others)) (needs builds place) ≡ true
      → can_follow builds others place ≡ true
  from_parts others place lt new all =
      let is_build = nat_lt place (length builds) in
      let is_other = not (has others place) in
      let is_given = list_all (has (given builds others)) (needs builds place) in
      and_from (is_build && is_other) is_given
      (and_from is_build is_other (lt-ltb place (length builds) lt)
      (not_from_false (has others place) new)) all

  apart : (order : List ℕ) → AreReached builds order → (i j : ℕ) (d : ℕ) → i < j
      → j < length order → eqb (get_or order i d) (get_or order j d) ≡ false
  apart order reached i j d ahead lt =
      let p = get_or order i d in
      let q = get_or order j d in
      let zero_q = get_or_default order j d 0 lt in
      let zero_p = get_or_default order i d 0 (omega arith) in
      elim (cases_Bool (eqb p q)) [
        | inl e ↦
            let short = length-take j order in
            absurd (both_ways (has (take j order) (get_or order j 0))
            (parts_of (take j order) (get_or order j 0) (reached j lt)).1
            (has_item (take j order) i (get_or order j 0) (omega (arith, short))
            (get_or-take j order i 0 ahead ∙ sym zero_p ∙ eqb-true p q e ∙ zero_q)))
        | inr other ↦ other
      ]

  -- each build once
  pub length-AreReached : (order : List ℕ) → AreReached builds order → length order ≤ length builds
  length-AreReached order reached =
      length-le_from_distinct_below order (length builds)
      (IsDistinct-from_apart eqb order (apart order reached))
      (λ q is.
      let at = has_at order q is in
      subst (λ p. p < length builds) at.2
      (parts_of (take at.0 order) (get_or order at.0 0) (reached at.0 at.1)).0)

  -- ---- orders that no build can follow

  module _ (most : List ℕ) (whole : IsWhole builds most) where
    -- what can follow some of them is one of them
    next_is_there : (others : List ℕ) → ((q : ℕ) → has others q ≡ true → has most q ≡ true)
        → (place : ℕ) → can_follow builds others place ≡ true → has most place ≡ true
    next_is_there others covers place next =
        elim (cases_Bool (has most place)) [
          | inl there ↦ there
          | inr new ↦
              let parts = parts_of others place next in
              let all = all_weaker (has (given builds others)) (has (given builds most))
              (λ thing is.
              let found = giver_of others thing is in
              given_by most found.0 thing (covers found.0 found.1) found.2)
              (needs builds place) parts.2 in
              absurd (both_ways (can_follow builds most place) (whole place)
              (from_parts most place parts.0 new all))
        ]

    -- so is each build of an order
    front_is_there : (order : List ℕ) → AreReached builds order → (k : ℕ) → k ≤ length order
        → (q : ℕ) → has (take k order) q ≡ true → has most q ≡ true
    front_is_there order reached zero le q is = absurd (false≢true is)
    front_is_there order reached (suc k) le q is =
        let lt : k < length order = omega arith in
        let before = front_is_there order reached k (omega arith) in
        elim (or_cases (has (take k order) q) (eqb q (get_or order k 0))
        (sym (list_any_more (λ other. eqb q other) order k 0 lt)
        ∙ ap (λ n. has (take n order) q) (add-one k) ∙ is)) [
          | inl there ↦ before q there
          | inr last ↦
              subst (λ p. has most p ≡ true) (sym (eqb-true q (get_or order k 0) last))
              (next_is_there (take k order) before (get_or order k 0) (reached k lt))
        ]

    pub all_is_there : (order : List ℕ) → AreReached builds order → (q : ℕ) → has order q ≡ true
        → has most q ≡ true
    all_is_there order reached q is =
        front_is_there order reached (length order) (omega arith) q
        (ap (λ it. has it q) (take_all (length order) order (omega arith)) ∙ is)

    -- no order leads to what they lack
    pub no_way : (end : ℕ) → has most end ≡ false → (order : List ℕ) → LeadsTo builds order end → ⊥
    no_way end lacks order leads =
        both_ways (has most end) lacks
        (next_is_there order (all_is_there order leads.0) end leads.1)

  -- ---- an order that is cut at the end

  abbrev Cut : {V : Type 0} → (V → List ℕ) → List ℕ → ℕ → Option V → Type 0
  Cut items order end found =
      MatchOption found (has order end ≡ false) (λ ahead. IsAheadOf order end (items ahead))

  pub way_found : {V E : Type 0} (order : List ℕ) (end : ℕ) → AreReached builds order
      → (r : Result (Option V) E) (items : V → List ℕ) → IfOk r (Cut items order end)
      → IfOk r (λ found. IfSome found (λ ahead. LeadsTo builds (items ahead) end))
  way_found order end reached (Err e) items cut = tt
  way_found order end reached (Ok None) items cut = tt
  way_found order end reached (Ok (Some ahead)) items cut =
      subst (λ it. LeadsTo builds (items ahead) it) cut.2
      (subst (λ it. LeadsTo builds it (get_or order cut.0 0)) (sym cut.3)
      (LeadsTo-front order cut.0 reached cut.1))

  pub way_lacks : {V E : Type 0} (order : List ℕ) (end : ℕ) → IsWhole builds order
      → (r : Result (Option V) E) (items : V → List ℕ) → IfOk r (Cut items order end)
      → IfOk r (λ found. IfNone found ((other : List ℕ) → ¬ LeadsTo builds other end))
  way_lacks order end whole (Err e) items cut = tt
  way_lacks order end whole (Ok (Some ahead)) items cut = tt
  way_lacks order end whole (Ok None) items cut = no_way order whole end cut
