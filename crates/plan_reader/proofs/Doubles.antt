-- Numbers that stand twice, found by a table.
use Rattle.std.proofs.Common.{◌⊎◌, inl, inr, ◌≡◌, ◌<◌, ℕ, ◌+◌, ◌==◌, ◌||◌, Bool, true, false, List, [], ◌∷◌, ◌++◌, length, get_or, take, drop, set, refl, sym, ap, ◌∙◌, Ok, Err}
use Rattle.std.specs.List.{list_any}
use Rattle.std.proofs.Math.Bool.{or-false, or-true}
use Rattle.std.proofs.lemmas.Bool.{or_parts, eq-eqb, ne_eqb, cases_eq}
use Rattle.std.proofs.lemmas.List.{take_more, get_or-set_same, get_or-set_other, take-append-drop, append-nil}
use Rattle.std.proofs.lemmas.List.Folds.{list_any-append}
use Rattle.farm_model.specs.Chroot.{member}
use Rattle.farm_model.proofs.TestLaws.{eqb-turned, or-four}
use Rattle.plan_reader.specs.declared.error.TheConstants.{PUBLISHED_TWICE}
use Rattle.plan_reader.specs.Drafts.{published_once}
use Rattle.plan_reader.specs.Seen.{Marks}
use Rattle.plan_model.specs.Sound.{has_double}

pub double-push : (ns : List ℕ) (n : ℕ) → has_double (ns ++ n ∷ []) ≡ (has_double ns || member ns n)
double-push [] n = refl
double-push (x ∷ ns) n =
    rw (
      list_any-append (λ y. y == x) ns (n ∷ []),
      double-push ns n,
      eqb-turned n x,
      or-false (x == n),
    )
    (or-four (member ns x) (x == n) (has_double ns) (member ns n))

-- a test of equality turned round
any-turn : (ns : List ℕ) (n : ℕ) → list_any (λ m. n == m) ns ≡ member ns n
any-turn [] n = refl
any-turn (x ∷ ns) n = rw (eqb-turned n x, any-turn ns n) refl

-- a recipe that is new, and one that is not
pub new-once : (ns : List ℕ) (n : ℕ) → has_double ns ≡ false → list_any (λ m. n == m) ns ≡ false
    → published_once (ns ++ n ∷ []) ≡ Ok (ns ++ n ∷ [])
new-once ns n once new = rw (double-push ns n, once, sym (any-turn ns n), new) refl

pub old-twice : (ns : List ℕ) (n : ℕ) → list_any (λ m. n == m) ns ≡ true
    → published_once (ns ++ n ∷ []) ≡ Err PUBLISHED_TWICE
old-twice ns n old =
    rw (double-push ns n, sym (any-turn ns n), old, or-true (has_double ns)) refl

pub same-once : (ns : List ℕ) → has_double ns ≡ false → published_once (ns ++ []) ≡ Ok ns
same-once ns once = rw (append-nil ns, once) refl

any-front : (p : ℕ → Bool) (xs ys : List ℕ) → list_any p (xs ++ ys) ≡ false
    → list_any p xs ≡ false
any-front p [] ys e = refl
any-front p (x ∷ xs) ys e =
    let q = or_parts (p x) (list_any p (xs ++ ys)) e in
    rw (q.0, any-front p xs ys q.1) refl

-- a part in front of numbers that differ has numbers that differ
pub double-front : (xs ys : List ℕ) → has_double (xs ++ ys) ≡ false → has_double xs ≡ false
double-front [] ys e = refl
double-front (x ∷ xs) ys e =
    let q = or_parts (member (xs ++ ys) x) (has_double (xs ++ ys)) e in
    rw (any-front (λ y. y == x) xs ys q.0, double-front xs ys q.1) refl

module _ (ns : List ℕ) (seen : List Bool) (i d : ℕ) (lt : i < length ns)
    (shown : Marks seen (take i ns)) where
  -- a number that was seen stands twice
  pub found : get_or ns i d < length seen → get_or seen (get_or ns i d) false ≡ true
      → true ≡ has_double ns
  found small is = go (has_double ns) refl where
    now : has_double (take (i + 1) ns) ≡ true
    now =
        rw (
          take_more ns i d lt,
          double-push (take i ns) (get_or ns i d),
          sym (shown (get_or ns i d) small),
          is,
        )
        (or-true (has_double (take i ns)))

    go : (b : Bool) → has_double ns ≡ b → true ≡ has_double ns
    go true e = sym e
    go false e =
        sym now
        ∙ double-front (take (i + 1) ns) (drop (i + 1) ns)
        (ap has_double (take-append-drop (i + 1) ns) ∙ e)
        ∙ sym e

  -- one that was not seen stands once so far
  pub once-more : get_or ns i d < length seen → has_double (take i ns) ≡ false
      → get_or seen (get_or ns i d) false ≡ false → has_double (take (i + 1) ns) ≡ false
  once-more small once is =
      rw (
        take_more ns i d lt,
        double-push (take i ns) (get_or ns i d),
        once,
        sym (shown (get_or ns i d) small),
        is,
      ) refl

  -- and is seen from then on
  pub shows-more : (n : ℕ) → n < length seen
      → get_or (set seen (get_or ns i d) true) n false ≡ member (take (i + 1) ns) n
  shows-more n small =
      rw (
        take_more ns i d lt,
        list_any-append (λ y. y == n) (take i ns) (get_or ns i d ∷ []),
        or-false (get_or ns i d == n),
        sym (shown n small),
      )
      (go (cases_eq n (get_or ns i d))) where
        go : (n ≡ get_or ns i d) ⊎ (n ≡ get_or ns i d → ⊥)
            → get_or (set seen (get_or ns i d) true) n false
            ≡ (get_or seen n false || (get_or ns i d == n))
        go (inl e) =
            rw (sym e, get_or-set_same seen n true false small, eq-eqb n n refl)
            (sym (or-true (get_or seen n false)))
        go (inr ne) =
            rw (
              get_or-set_other seen (get_or ns i d) n true false ne,
              ne_eqb (get_or ns i d) n (λ e. ne (sym e)),
            )
            (sym (or-false (get_or seen n false)))
