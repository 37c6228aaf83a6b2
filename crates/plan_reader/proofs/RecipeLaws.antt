-- Recipes by their names: a name leads to the place where it first stands.
use Rattle.std.proofs.Common.{◌≡◌, ℕ, Bool, true, false, suc, cond, List, [], ◌∷◌, ◌++◌, length, refl, sym, ap, subst, ◌∙◌, one-add, if◌then◌else◌, Option, Some, None}
use Rattle.std.specs.Global.{Vec}
use Rattle.std.specs.List.{list_any, position_or_len}
use Rattle.std.specs.Map.{lookup}
use Rattle.std.specs.Option.{is_some, option_map}
use Rattle.std.proofs.lemmas.Bool.{false≢true}
use Rattle.std.specs.Str.{bytes_eq}
use Rattle.deb_text.proofs.ListLaws.{bytes-same}
use Rattle.deb_text.specs.Common.{place_in, or_else}
use Rattle.plan_reader.specs.RecipeNumbers.{AreFirstPlaces}

-- a value, where a test holds
abbrev pub where_so : {X : Type 0} → Bool → X → Option X
where_so b x = cond b (Some x) None

module _ {K X : Type 0} (test : K → Bool) where
  pub lookup-push : (es : List (K × X)) (e : K × X)
      → lookup test (es ++ e ∷ []) ≡ or_else (lookup test es) (where_so (test e.0) e.1)
  lookup-push [] e = refl
  lookup-push (d ∷ es) e = by (test d.0) (lookup-push es e) where
    by : (b : Bool)
        → lookup test (es ++ e ∷ []) ≡ or_else (lookup test es) (where_so (test e.0) e.1)
        → cond b (Some d.1) (lookup test (es ++ e ∷ []))
        ≡ or_else (cond b (Some d.1) (lookup test es)) (where_so (test e.0) e.1)
    by true later = refl
    by false later = later

module _ (w : List ℕ) where
  -- a key that is another one is passed over
  place-behind : (k : List ℕ) (ks : List (List ℕ)) → bytes_eq w k ≡ false
      → place_in bytes_eq (k ∷ ks) w ≡ option_map suc (place_in bytes_eq ks w)
  place-behind k ks e = rw (e, one-add) (by (list_any (bytes_eq w) ks)) where
    by : (b : Bool)
        → (if b then Some (suc (position_or_len (bytes_eq w) ks)) else None)
        ≡ option_map suc (if b then Some (position_or_len (bytes_eq w) ks) else None)
    by true = refl
    by false = refl

  place-there : (k : List ℕ) (ks : List (List ℕ)) → bytes_eq w k ≡ true
      → place_in bytes_eq (k ∷ ks) w ≡ Some 0
  place-there k ks e = rw e refl

  behind-one : (o : Option ℕ) (b : Bool) (n : ℕ)
      → option_map suc (or_else o (where_so b n)) ≡ or_else (option_map suc o) (where_so b (suc n))
  behind-one None true n = refl
  behind-one None false n = refl
  behind-one (Some i) b n = refl

  place-push : (ks : List (List ℕ)) (k : List ℕ)
      → place_in bytes_eq (ks ++ k ∷ []) w
      ≡ or_else (place_in bytes_eq ks w) (where_so (bytes_eq w k) (length ks))
  place-push [] k = by (bytes_eq w k) refl where
    by : (b : Bool) → bytes_eq w k ≡ b
        → place_in bytes_eq (k ∷ []) w ≡ or_else None (where_so (bytes_eq w k) 0)
    by true e = place-there k [] e ∙ rw e refl
    by false e = place-behind k [] e ∙ rw e refl
  place-push (j ∷ ks) k = by (bytes_eq w j) refl (place-push ks k) where
    by : (b : Bool) → bytes_eq w j ≡ b
        → place_in bytes_eq (ks ++ k ∷ []) w
        ≡ or_else (place_in bytes_eq ks w) (where_so (bytes_eq w k) (length ks))
        → place_in bytes_eq (j ∷ ks ++ k ∷ []) w
        ≡ or_else (place_in bytes_eq (j ∷ ks) w) (where_so (bytes_eq w k) (suc (length ks)))
    by true e later = rw (place-there j (ks ++ k ∷ []) e, place-there j ks e) refl
    by false e later =
        rw (place-behind j (ks ++ k ∷ []) e, place-behind j ks e, later)
        (behind-one (place_in bytes_eq ks w) (bytes_eq w k) (length ks))

module _ (names : List (List ℕ)) (es : List (Vec ℕ × ℕ)) (are : AreFirstPlaces names es) where
  -- a name comes behind, with its place
  firsts-new : (key : Vec ℕ)
      → AreFirstPlaces (names ++ key.items ∷ []) (es ++ (key, length names) ∷ [])
  firsts-new key w =
      lookup-push (λ k. bytes_eq w k.items) es (key, length names)
      ∙ ap (λ o. or_else o (where_so (bytes_eq w key.items) (length names))) (are w)
      ∙ sym (place-push w names key.items)

  pub firsts-put : (fs : List (Vec ℕ × ℕ)) (key : Vec ℕ) (name : List ℕ) (n : ℕ)
      → key.items ≡ name → n ≡ length names → fs ≡ es ++ (key, n) ∷ []
      → AreFirstPlaces (names ++ name ∷ []) fs
  firsts-put fs key name n same number put =
      subst (λ zs. AreFirstPlaces (names ++ name ∷ []) zs) (sym put)
      (subst (λ m. AreFirstPlaces (names ++ name ∷ []) (es ++ (key, m) ∷ [])) (sym number)
      (subst (λ z. AreFirstPlaces (names ++ z ∷ []) (es ++ (key, length names) ∷ [])) same
      (firsts-new key)))

  some-there : (o : Option ℕ) → is_some o ≡ true → (i : ℕ) × (o ≡ Some i)
  some-there None e = absurd (false≢true e)
  some-there (Some i) e = (i, refl)

  -- a name that stands there already changes nothing
  pub firsts-old : (name : List ℕ) → is_some (lookup (λ k. bytes_eq name k.items) es) ≡ true
      → AreFirstPlaces (names ++ name ∷ []) es
  firsts-old name there w = are w ∙ by (bytes_eq w name) refl ∙ sym (place-push w names name) where
    by : (b : Bool) → bytes_eq w name ≡ b
        → place_in bytes_eq names w
        ≡ or_else (place_in bytes_eq names w) (where_so (bytes_eq w name) (length names))
    by true e =
        let found = some-there (lookup (λ k. bytes_eq name k.items) es) there in
        let at : place_in bytes_eq names w ≡ Some found.0 =
        subst (λ z. place_in bytes_eq names z ≡ Some found.0) (sym (bytes-same w name e))
        (sym (are name) ∙ found.1) in
        rw at refl
    by false e = rw e (none (place_in bytes_eq names w)) where
      none : (o : Option ℕ) → o ≡ or_else o None
      none None = refl
      none (Some j) = refl
