-- Keys that differ, and a write at the place of one.
use Rattle.std.proofs.Common.{◌≡◌, Bool, true, false, ◌||◌, List, [], ◌∷◌, ◌++◌, map, filter, fold, set, get_or, refl, sym, ap, subst, ◌∙◌, true≢false, one-add, if◌then◌else◌}
use Rattle.std.specs.List.{list_any, position_or_len}
use Rattle.std.proofs.lemmas.List.Folds.{list_any-append}
use Rattle.std.proofs.lemmas.Bool.{or_parts}
use Rattle.std.proofs.Math.Bool.{or_assoc, or-false, or-true}
use Rattle.deb_text.specs.Groups.{with_key, distinct, AllDistinct}

module _ {K : Type 0} (eq : K → K → Bool) (same : (x y : K) → eq x y ≡ true → x ≡ y)
    (self : (x : K) → eq x x ≡ true) where
  flip : (x y : K) → eq x y ≡ false → eq y x ≡ false
  flip x y none = by (eq y x) refl where
    by : (b : Bool) → eq y x ≡ b → eq y x ≡ false
    by false e = e
    by true e =
        absurd (true≢false (sym (subst (λ z. eq x z ≡ true) (sym (same y x e)) (self x)) ∙ none))

  AllDistinct-push : (ks : List K) (k : K) → list_any (eq k) ks ≡ false → AllDistinct eq ks
      → AllDistinct eq (ks ++ k ∷ [])
  AllDistinct-push [] k none d = (refl, tt)
  AllDistinct-push (x ∷ xs) k none d =
      let p = or_parts (eq k x) (list_any (eq k) xs) none in (
        rw (list_any-append (eq x) xs (k ∷ []), d.0, flip k x p.0) refl,
        AllDistinct-push xs k p.1 d.1,
      )

  AllDistinct-with_key : (ks : List K) (k : K) → AllDistinct eq ks
      → AllDistinct eq (with_key eq ks k)
  AllDistinct-with_key ks k d = by (list_any (eq k) ks) refl where
    by : (b : Bool) → list_any (eq k) ks ≡ b → AllDistinct eq (if b then ks else ks ++ k ∷ [])
    by true e = d
    by false e = AllDistinct-push ks k e d

  AllDistinct-fold : (ks done : List K) → AllDistinct eq done
      → AllDistinct eq (fold (with_key eq) done ks)
  AllDistinct-fold [] done d = d
  AllDistinct-fold (k ∷ ks) done d =
      AllDistinct-fold ks (with_key eq done k) (AllDistinct-with_key done k d)

  pub AllDistinct-distinct : (ks : List K) → AllDistinct eq (distinct eq ks)
  AllDistinct-distinct ks = AllDistinct-fold ks [] tt

  any-with_key : (ks : List K) (k q : K)
      → list_any (eq q) (with_key eq ks k) ≡ (list_any (eq q) ks || eq q k)
  any-with_key ks k q = by (list_any (eq k) ks) refl where
    there : (b : Bool) → eq q k ≡ b → list_any (eq k) ks ≡ true
        → list_any (eq q) ks ≡ (list_any (eq q) ks || b)
    there false e is = sym (or-false (list_any (eq q) ks))
    there true e is =
        subst (λ z. list_any (eq z) ks ≡ true) (sym (same q k e)) is
        ∙ sym (or-true (list_any (eq q) ks))

    by : (b : Bool) → list_any (eq k) ks ≡ b
        → list_any (eq q) (if b then ks else ks ++ k ∷ []) ≡ (list_any (eq q) ks || eq q k)
    by true e = there (eq q k) refl e
    by false e = rw (list_any-append (eq q) ks (k ∷ []), or-false (eq q k)) refl

  any-fold : (ks done : List K) (q : K)
      → list_any (eq q) (fold (with_key eq) done ks) ≡ (list_any (eq q) done || list_any (eq q) ks)
  any-fold [] done q = sym (or-false (list_any (eq q) done))
  any-fold (k ∷ ks) done q =
      any-fold ks (with_key eq done k) q ∙ ap (λ b. b || list_any (eq q) ks) (any-with_key done k q)
      ∙ or_assoc (list_any (eq q) done) (eq q k) (list_any (eq q) ks)

  -- a key is among the different ones where it is among all
  pub any-distinct : (ks : List K) (q : K) → list_any (eq q) (distinct eq ks) ≡ list_any (eq q) ks
  any-distinct ks q = any-fold ks [] q

  -- no item has a key that is not among the keys
  pub none-of : {P : Type 0} (key : P → K) (ps : List P) (k : K)
      → list_any (eq k) (map key ps) ≡ false → filter (λ p. eq k (key p)) ps ≡ []
  none-of key [] k none = refl
  none-of key (p ∷ ps) k none =
      let parts = or_parts (eq k (key p)) (list_any (eq k) (map key ps)) none in
      rw parts.0 (none-of key ps k parts.1)

  module _ {V : Type 0} (f g : K → V) (k : K) where
    -- a change at a key that is not there
    pub map-outside : (ks : List K) → list_any (eq k) ks ≡ false
        → map (λ n. if eq n k then f n else g n) ks ≡ map g ks
    map-outside [] none = refl
    map-outside (x ∷ xs) none =
        let p = or_parts (eq k x) (list_any (eq k) xs) none in
        rw (flip k x p.0) (ap (λ ys. g x ∷ ys) (map-outside xs p.1))

    -- a change at a key that is there, once
    pub map-at_place : (ks : List K) → AllDistinct eq ks → list_any (eq k) ks ≡ true
        → map (λ n. if eq n k then f n else g n) ks
        ≡ set (map g ks) (position_or_len (eq k) ks) (f k)
    map-at_place [] d there = absurd (true≢false (sym there))
    map-at_place (x ∷ xs) d there = by (eq k x) refl (map-at_place xs d.1) where
      by : (b : Bool) → eq k x ≡ b
          → (list_any (eq k) xs ≡ true → map (λ n. if eq n k then f n else g n) xs
          ≡ set (map g xs) (position_or_len (eq k) xs) (f k))
          → map (λ n. if eq n k then f n else g n) (x ∷ xs)
          ≡ set (map g (x ∷ xs)) (position_or_len (eq k) (x ∷ xs)) (f k)
      by true e later =
          let is = same k x e in
          rw e
          (rw (subst (λ z. eq x z ≡ true) (sym is) (self x), ap f is) (ap (λ ys. f x ∷ ys)
          (map-outside xs (subst (λ z. list_any (eq z) xs ≡ false) (sym is) d.0))))
      by false e later = rw (e, flip k x e, one-add) (ap (λ ys. g x ∷ ys) (later (rw e at there)))

  module _ {V : Type 0} (g : K → V) (k : K) (d : V) where
    -- a look-up by key
    pub get-at_place : (ks : List K) → list_any (eq k) ks ≡ true
        → get_or (map g ks) (position_or_len (eq k) ks) d ≡ g k
    get-at_place [] there = absurd (true≢false (sym there))
    get-at_place (x ∷ xs) there = by (eq k x) refl (get-at_place xs) where
      by : (b : Bool) → eq k x ≡ b
          → (list_any (eq k) xs ≡ true → get_or (map g xs) (position_or_len (eq k) xs) d ≡ g k)
          → get_or (map g (x ∷ xs)) (position_or_len (eq k) (x ∷ xs)) d ≡ g k
      by true e later = rw e (ap g (sym (same k x e)))
      by false e later = rw (e, one-add) (later (rw e at there))
