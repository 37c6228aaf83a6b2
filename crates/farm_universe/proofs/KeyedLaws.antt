-- Items by the number of their key: one item more.
use Rattle.std.proofs.Common.{◌≡◌, ℕ, Bool, true, false, List, [], ◌∷◌, ◌++◌, map, filter, refl, sym, ap, ◌∙◌, if◌then◌else◌, Some, None}
use Rattle.std.specs.List.{list_any, position_or_len}
use Rattle.std.specs.Str.{bytes_eq}
use Rattle.std.proofs.lemmas.List.{map_push}
use Rattle.std.proofs.lemmas.List.Sums.{fold-append}
use Rattle.deb_text.specs.Groups.{with_key, distinct, place_in}
use Rattle.deb_text.proofs.GroupLaws.{AllDistinct-distinct, any-distinct, none-of, map-outside, map-at_place, get-at_place}
use Rattle.deb_text.proofs.ListLaws.{bytes-same, bytes-self}
use Rattle.farm_universe.specs.Keyed.{keys_with, group_at, groups_with}

-- `named ps n` are the items of the key n among ps, and `put p` adds one more
module _ {P V : Type 0} (key : P → List ℕ) (put : P → List V → List V)
    (named : List P → List ℕ → List V)
    (push : (ps : List P) (p : P) (n : List ℕ)
    → named (ps ++ p ∷ []) n ≡ (if bytes_eq n (key p) then put p (named ps n) else named ps n))
    (none : (ps : List P) (n : List ℕ) → filter (λ p. bytes_eq n (key p)) ps ≡ []
    → named ps n ≡ []) where
  abbrev keys : List P → List (List ℕ)
  keys ps = distinct bytes_eq (map key ps)

  keys-push : (ps : List P) (p : P) → keys (ps ++ p ∷ []) ≡ with_key bytes_eq (keys ps) (key p)
  keys-push ps p =
      rw (map_push key ps p) (fold-append (with_key bytes_eq) [] (map key ps) (key p ∷ []))

  absent : (ps : List P) (n : List ℕ) → list_any (bytes_eq n) (keys ps) ≡ false → named ps n ≡ []
  absent ps n outside =
      none ps n (none-of bytes_eq bytes-same bytes-self key ps n
      (sym (any-distinct bytes_eq bytes-same bytes-self (map key ps) n) ∙ outside))

  pub keys_with-push : (ps : List P) (p : P)
      → keys_with (keys ps) (place_in bytes_eq (keys ps) (key p)) (key p) ≡ keys (ps ++ p ∷ [])
  keys_with-push ps p = by (list_any (bytes_eq (key p)) (keys ps)) ∙ sym (keys-push ps p) where
    by : (b : Bool)
        → keys_with (keys ps)
        (if b then Some (position_or_len (bytes_eq (key p)) (keys ps)) else None) (key p)
        ≡ (if b then keys ps else keys ps ++ key p ∷ [])
    by true = refl
    by false = refl

  pub group_at-keys : (ps : List P) (n : List ℕ)
      → group_at (map (named ps) (keys ps)) (place_in bytes_eq (keys ps) n) ≡ named ps n
  group_at-keys ps n = by (list_any (bytes_eq n) (keys ps)) refl where
    by : (b : Bool) → list_any (bytes_eq n) (keys ps) ≡ b
        → group_at (map (named ps) (keys ps)) (place_in bytes_eq (keys ps) n) ≡ named ps n
    by true e = rw e (get-at_place bytes_eq bytes-same bytes-self (named ps) n [] (keys ps) e)
    by false e = rw e (sym (absent ps n e))

  pub groups_with-push : (ps : List P) (p : P)
      → groups_with (put p) (map (named ps) (keys ps)) (place_in bytes_eq (keys ps) (key p))
      ≡ map (named (ps ++ p ∷ [])) (keys (ps ++ p ∷ []))
  groups_with-push ps p = by (list_any (bytes_eq (key p)) (keys ps)) refl where
    each : (ks : List (List ℕ))
        → map (named (ps ++ p ∷ [])) ks
        ≡ map (λ n. if bytes_eq n (key p) then put p (named ps n) else named ps n) ks
    each ks = λ j. map (λ n. push ps p n j) ks

    new : (if bytes_eq (key p) (key p) then put p (named ps (key p)) else named ps (key p))
        ≡ put p (named ps (key p))
    new = rw (bytes-self (key p)) refl

    by : (b : Bool) → list_any (bytes_eq (key p)) (keys ps) ≡ b
        → groups_with (put p) (map (named ps) (keys ps)) (place_in bytes_eq (keys ps) (key p))
        ≡ map (named (ps ++ p ∷ [])) (keys (ps ++ p ∷ []))
    by true e =
        let same : keys (ps ++ p ∷ []) ≡ keys ps =
        keys-push ps p ∙ ap (λ b. if b then keys ps else keys ps ++ key p ∷ []) e in
        rw (
          e,
          get-at_place bytes_eq bytes-same bytes-self (named ps) (key p) [] (keys ps) e,
        )
        (sym (ap (map (named (ps ++ p ∷ []))) same ∙ each (keys ps)
        ∙ map-at_place bytes_eq bytes-same bytes-self
        (λ n. put p (named ps n)) (named ps) (key p) (keys ps)
        (AllDistinct-distinct bytes_eq bytes-same bytes-self (map key ps)) e))
    by false e =
        let same : keys (ps ++ p ∷ []) ≡ keys ps ++ key p ∷ [] =
        keys-push ps p ∙ ap (λ b. if b then keys ps else keys ps ++ key p ∷ []) e in
        let nothing : named ps (key p) ≡ [] = absent ps (key p) e in
        rw e
        (sym (ap (map (named (ps ++ p ∷ []))) same ∙ each (keys ps ++ key p ∷ [])
        ∙ map_push (λ n. if bytes_eq n (key p) then put p (named ps n) else named ps n) (keys ps)
        (key p)
        ∙ (λ j. map-outside bytes_eq bytes-same bytes-self
        (λ n. put p (named ps n)) (named ps) (key p) (keys ps) e j
        ++ (new ∙ ap (put p) nothing) j ∷ [])))
