-- The law of clashes, over the variants of a farm's universe.
use Rattle.std.proofs.Common.{◌≡◌, ℕ, Bool, true, false, not, ◌&&◌, ◌||◌, List, [], ◌∷◌, map, filter, Option, Some, None, if◌then◌else◌, refl, sym, ap, ◌∙◌, subst, inl, inr}
use Rattle.std.proofs.Math.Bool.{or-false, or-true}
use Rattle.std.proofs.lemmas.Bool.{cases_Bool, and_parts, and_from, and_right, or_parts, or_left, not-true, not_from_false}
use Rattle.std.proofs.lemmas.Cmp.{tied_itself}
use Rattle.std.proofs.lemmas.List.Folds.{list_any-append}
use Rattle.std.proofs.lemmas.List.Elements.{All-weaker, All-contains_itself}
use Rattle.std.proofs.lemmas.List.Sums.{list_all-from_AllPass}
use Rattle.std.specs.List.{list_any, list_all, Contains}
use Rattle.std.specs.Str.{bytes_eq}
use Rattle.std.specs.Ordering.{is_eq, is_lt, is_gt}
use Rattle.std.specs.declared.cmp.Ordering.{Ordering}
use Rattle.std.specs.declared.cmp.Ordering.TheVariants as order
use Rattle.deb_version.specs.Grammar.{text_cmp}
use Rattle.deb_version.specs.OrderLaws.{text_cmp_total}
use Rattle.deb_relation.specs.declared.operator.Op.{Op}
use Rattle.deb_relation.specs.declared.operator.Op.TheVariants.{Earlier, Equal, Later}
use Rattle.deb_relation.specs.Common.{Atom, Relations, package_satisfies}
use Rattle.deb_relation.specs.Satisfaction.{provides_in}
use Rattle.farm_model.specs.declared.types.Variant.{Variant}
use Rattle.farm_model.specs.Common.{Universe}
use Rattle.cross_laws.specs.Binary.{Sides, Binary, side_of, is_side, is_same, is_foreign, standing, Unsaid, asked, Offer, itself, provided, offers, atoms}
use Rattle.cross_laws.specs.Meets.{fits, serves, counts, meets}
use Rattle.cross_laws.specs.Excludes.{hits, have_one_name, are_sisters, hits_other, some_hits, breaks}
use Rattle.cross_laws.specs.Names.{One, is_taken}
use Rattle.cross_laws.specs.Encoding.{plain, encoded_clash, exactly, hits_own, is_replaced, alone, clash_of, clashes_of, one_of, encoded_conflicts, encoded_breaks, asker}
use Rattle.cross_laws.specs.Clear.{is_across, is_clear_atom, is_mistaken, is_clear_clash, IsClearUniverse}
use Rattle.cross_laws.specs.Laws.{IsEncoded}
use Rattle.cross_laws.proofs.Lists.{both-ways, any-same, any-alike, any-filter, any-none, any-contains, each-passes, any-flat, any-map}
use Rattle.cross_laws.proofs.NameLaws.{bytes-self, bytes-turned, side-self}
use Rattle.cross_laws.proofs.Tables.{known, never-one}
use Rattle.cross_laws.proofs.Satisfied.{encoded_facts, satisfies-sense}
use Rattle.cross_laws.proofs.NeedLaws.{none-all, need-one}
use Rattle.cross_laws.proofs.Encoded.{clash-hit}

none-at : {X : Type 0} (f : X → Bool) (xs : List X) (x : X) → list_any f xs ≡ false
    → Contains xs x → f x ≡ false
none-at f xs x none here =
    not-true (f x) (each-passes (λ y. not (f y)) xs x (none-all f xs none) here)

all-from-each : {X : Type 0} (p : X → Bool) (xs : List X)
    → ((x : X) → Contains xs x → p x ≡ true) → list_all p xs ≡ true
all-from-each p xs each =
    list_all-from_AllPass p xs
    (All-weaker (Contains xs) (λ x. p x ≡ true) each xs (All-contains_itself xs))

-- who is not mistaken for one that is hit is hit where one is met
settled : (h m r : Bool) → not (r && (not h && m)) ≡ true → r ≡ true → m ≡ true → h ≡ true
settled true m r stays is met = refl
settled false true true stays is met = absurd cc
settled false true false stays is met = absurd cc
settled false false r stays is met = absurd cc

-- a package meets what asks for its own name and version, on its own side
fits-itself : (q : Binary) → fits (exactly q) (itself q) ≡ true
fits-itself q =
    and_from (bytes_eq q.name q.name) (is_eq (text_cmp q.rest.version q.rest.version))
    (bytes-self q.name) (ap is_eq (tied_itself text_cmp_total q.rest.version))

counts-itself : (q : Binary) → counts (asker q) (standing q) Unsaid ≡ true
counts-itself q =
    let x = side_of q.architecture in
    or_left (is_side x x) (is_foreign q.multi_arch && serves x x) (side-self x)

self-met : (s : Sides) (q : Binary) → meets s (asker q) (exactly q) q ≡ true
unfolding asked
self-met s q =
    or_left (fits (exactly q) (itself q) && counts (asker q) (standing q) Unsaid)
    (list_any (λ o. fits (exactly q) o && counts (asker q) o.standing Unsaid) (provided s q))
    (and_from (fits (exactly q) (itself q)) (counts (asker q) (standing q) Unsaid) (fits-itself q)
    (counts-itself q))

module _ (s : Sides) (all : List Binary) (clear : IsClearUniverse s all)
    (u : Universe) (w : Variant) (q : Binary) (is : IsEncoded s all u w q) where
  abbrev sat : Atom → Bool
  sat a = package_satisfies (encoded_facts s q) a

  plain-stays : (t : Binary) → is_across s (exactly t) q ≡ false
  unfolding asked
  plain-stays t =
      any-same (λ o. fits (exactly t) o && false) (λ (o : Offer). false)
      (λ o. and_right (fits (exactly t) o) false refl) (offers s q)
      ∙ any-none (offers s q)

  alone-met : (t : Binary) → is_taken s t.name ≡ false
      → sat (alone s t) ≡ meets s (asker t) (exactly t) q
  unfolding asked
  alone-met t free =
      let own = clear.each q is.member in
      sym (or-false (sat (alone s t)))
      ∙ need-one s clear.host q own.name own.provides (exactly t) free (plain-stays t) (asker t)

  all-named : list_all (λ (t : Binary). not (is_taken s t.name)) all ≡ true
  all-named =
      all-from-each (λ (t : Binary). not (is_taken s t.name)) all
      (λ t here. not_from_false (is_taken s t.name) (clear.each t here).name)

  -- the package that each of these clashes hits is there
  module _ (p : Binary) (a : Atom) (a_clear : is_clear_clash s all p a ≡ true) where
    abbrev some_met : Bool
    some_met =
        list_any (λ t. meets s (asker t) (exactly t) q) (filter (hits_other s p a) all)

    some-alone : list_any sat (map (alone s) (filter (hits_other s p a) all)) ≡ some_met
    some-alone =
        any-map sat (alone s) (filter (hits_other s p a) all)
        ∙ any-filter (λ t. sat (alone s t)) (hits_other s p a) all
        ∙ any-alike (λ t. not (is_taken s t.name)) (λ t. hits_other s p a t && sat (alone s t))
        (λ t. hits_other s p a t && meets s (asker t) (exactly t) q)
        (λ t free. ap (λ b. hits_other s p a t && b)
        (alone-met t (not-true (is_taken s t.name) free))) all all-named
        ∙ sym (any-filter (λ t. meets s (asker t) (exactly t) q) (hits_other s p a) all)

    met-when-hit : hits_other s p a q ≡ true → some_met ≡ true
    met-when-hit hit =
        any-filter (λ t. meets s (asker t) (exactly t) q) (hits_other s p a) all
        ∙ any-contains (λ t. hits_other s p a t && meets s (asker t) (exactly t) q) all q is.member
        (and_from (hits_other s p a q) (meets s (asker q) (exactly q) q) hit (self-met s q))

    replaced-hits : is_replaced s all p a ≡ true
        → list_any sat (map (alone s) (filter (hits_other s p a) all)) ≡ hits_other s p a q
    replaced-hits r =
        let both = and_parts (is_clear_atom s all a)
        (list_all (λ q. not (is_replaced s all p a && is_mistaken s all p a q)) all) a_clear in
        let stays =
        each-passes (λ q. not (is_replaced s all p a && is_mistaken s all p a q)) all q both.1
        is.member in
        some-alone
        ∙ both-ways some_met (hits_other s p a q)
        (settled (hits_other s p a q) some_met (is_replaced s all p a) stays r) met-when-hit

    whole-hits : list_any sat (encoded_clash s false a) ≡ hits s false a q
    whole-hits =
        clash-hit s all clear u w q is false a
        (and_parts (is_clear_atom s all a)
        (list_all (λ q. not (is_replaced s all p a && is_mistaken s all p a q)) all) a_clear).0

    -- of two names
    clash-apart : have_one_name p q ≡ false → list_any sat (clash_of s all p a) ≡ hits_other s p a q
    clash-apart apart =
        elim (cases_Bool (is_replaced s all p a)) [
          | inl r ↦ rw r (replaced-hits r)
          | inr r ↦ rw r (whole-hits ∙ sym (ap (λ b. not b && hits s false a q) apart))
        ]

    -- of one name on two sides
    clash-sisters : have_one_name p q ≡ true → are_sisters p q ≡ true → is_same p.multi_arch ≡ true
        → list_any sat (clash_of s all p a) ≡ false
    clash-sisters one sisters same =
        elim (cases_Bool (is_replaced s all p a)) [
          | inl r ↦ rw r (replaced-hits r ∙ ap (λ b. not b && hits s false a q) one)
          | inr r ↦ rw r (whole-hits ∙ not-hit r)
        ] where
          not-hit : is_replaced s all p a ≡ false → hits s false a q ≡ false
          not-hit r =
              let none = or_parts (hits s false a p)
              (list_any (λ q. are_sisters p q && hits s false a q) all)
              (subst (λ b. (b && hits_own s all p a) ≡ false) same r) in
              subst (λ b. (b && hits s false a q) ≡ false) sisters
              (none-at (λ q. are_sisters p q && hits s false a q) all q none.1 is.member)

  -- ---- all clashes of a package

  clashes-apart : (p : Binary) (relations : Relations)
      → list_all (is_clear_clash s all p) (atoms relations) ≡ true → have_one_name p q ≡ false
      → list_any sat (clashes_of s all p relations) ≡ some_hits s p relations q
  clashes-apart p relations r_clear apart =
      any-flat sat (clash_of s all p) (atoms relations)
      ∙ any-alike (is_clear_clash s all p) (λ a. list_any sat (clash_of s all p a))
      (λ a. hits_other s p a q) (λ a a_clear. clash-apart p a a_clear apart) (atoms relations)
      r_clear

  clashes-sisters : (p : Binary) (relations : Relations)
      → list_all (is_clear_clash s all p) (atoms relations) ≡ true → have_one_name p q ≡ true
      → are_sisters p q ≡ true → is_same p.multi_arch ≡ true
      → list_any sat (clashes_of s all p relations) ≡ false
  clashes-sisters p relations r_clear one sisters same =
      any-flat sat (clash_of s all p) (atoms relations)
      ∙ any-alike (is_clear_clash s all p) (λ a. list_any sat (clash_of s all p a))
      (λ (a : Atom). false) (λ a a_clear. clash-sisters p a a_clear one sisters same)
      (atoms relations) r_clear
      ∙ any-none (atoms relations)

  -- the name n.one
  one-met : (p : Binary) → is_taken s p.name ≡ false → (relation : Option (Op × List ℕ))
      → sat (one_of s p relation)
      ≡ (have_one_name p q && provides_in relation (Some (Equal, q.rest.version)))
  one-met p free relation =
      let own = clear.each q is.member in
      satisfies-sense s clear.host q own.name own.provides (plain p.name relation) free One
      ∙ ap (λ b. b || fits (plain p.name relation) (itself q))
      (any-same (λ o. known o.standing One && fits (plain p.name relation) o)
      (λ (o : Offer). false)
      (λ o. ap (λ b. b && fits (plain p.name relation) o) (never-one o.standing)) (offers s q)
      ∙ any-none (offers s q))
      ∙ ap (λ b. b && provides_in relation (Some (Equal, q.rest.version)))
      (bytes-turned q.name p.name)

  abbrev one_conflict : Binary → List Atom
  one_conflict p = if is_same p.multi_arch then [] else one_of s p None ∷ []

  one-conflict : (p : Binary) → is_taken s p.name ≡ false
      → list_any sat (one_conflict p) ≡ (have_one_name p q && not (is_same p.multi_arch))
  one-conflict p free =
      elim (cases_Bool (is_same p.multi_arch)) [
        | inl same ↦ rw same (sym (and_right (have_one_name p q) false refl))
        | inr other ↦ rw other (or-false (sat (one_of s p None)) ∙ one-met p free None)
      ]

  conflict-parts : (p : Binary) → list_any sat (encoded_conflicts s all p)
      ≡ (list_any sat (clashes_of s all p p.rest.conflicts) || list_any sat (one_conflict p))
  conflict-parts p = list_any-append sat (clashes_of s all p p.rest.conflicts) (one_conflict p)

  -- what p declares, as far as q is concerned
  module _ (p : Binary) (here : Contains all p) where
    pub declared-apart : have_one_name p q ≡ false
        → list_any sat (encoded_conflicts s all p) ≡ some_hits s p p.rest.conflicts q
    declared-apart apart =
        let own = clear.each p here in
        conflict-parts p
        ∙ ap (λ b. list_any sat (clashes_of s all p p.rest.conflicts) || b)
        (one-conflict p own.name ∙ ap (λ b. b && not (is_same p.multi_arch)) apart)
        ∙ or-false (list_any sat (clashes_of s all p p.rest.conflicts))
        ∙ clashes-apart p p.rest.conflicts own.conflicts apart

    pub declared-sisters : have_one_name p q ≡ true → are_sisters p q ≡ true
        → list_any sat (encoded_conflicts s all p) ≡ not (is_same p.multi_arch)
    declared-sisters one sisters =
        let own = clear.each p here in
        conflict-parts p
        ∙ ap (λ b. list_any sat (clashes_of s all p p.rest.conflicts) || b)
        (one-conflict p own.name ∙ ap (λ b. b && not (is_same p.multi_arch)) one)
        ∙ elim (cases_Bool (is_same p.multi_arch)) [
          | inl same ↦ rw same
              (or-false (list_any sat (clashes_of s all p p.rest.conflicts))
              ∙ clashes-sisters p p.rest.conflicts own.conflicts one sisters same)
          | inr other ↦ rw other (or-true (list_any sat (clashes_of s all p p.rest.conflicts)))
        ]

    abbrev bounds : List Atom
    bounds =
        if is_same p.multi_arch
        then one_of s p (Some (Earlier, p.rest.version))
        ∷ one_of s p (Some (Later, p.rest.version)) ∷ []
        else []

    break-parts : list_any sat (encoded_breaks s all p)
        ≡ (list_any sat (clashes_of s all p p.rest.breaks) || list_any sat bounds)
    break-parts = list_any-append sat (clashes_of s all p p.rest.breaks) bounds

    bounds-same : is_same p.multi_arch ≡ true → list_any sat bounds
        ≡ ((have_one_name p q && is_lt (text_cmp q.rest.version p.rest.version))
        || (have_one_name p q && is_gt (text_cmp q.rest.version p.rest.version)))
    bounds-same same =
        let own = clear.each p here in
        rw same
        (ap (λ b. b || (sat (one_of s p (Some (Later, p.rest.version))) || false))
        (one-met p own.name (Some (Earlier, p.rest.version)))
        ∙ ap (λ b. (have_one_name p q && is_lt (text_cmp q.rest.version p.rest.version)) || b)
        (or-false (sat (one_of s p (Some (Later, p.rest.version))))
        ∙ one-met p own.name (Some (Later, p.rest.version))))

    bounds-apart : have_one_name p q ≡ false → list_any sat bounds ≡ false
    bounds-apart apart =
        elim (cases_Bool (is_same p.multi_arch)) [
          | inl same ↦ bounds-same same
              ∙ ap (λ b. (b && is_lt (text_cmp q.rest.version p.rest.version))
              || (b && is_gt (text_cmp q.rest.version p.rest.version))) apart
          | inr other ↦ rw other refl
        ]

    pub breaks-apart : have_one_name p q ≡ false
        → list_any sat (encoded_breaks s all p) ≡ breaks s p q
    breaks-apart apart =
        let own = clear.each p here in
        break-parts
        ∙ ap (λ b. list_any sat (clashes_of s all p p.rest.breaks) || b) (bounds-apart apart)
        ∙ or-false (list_any sat (clashes_of s all p p.rest.breaks))
        ∙ clashes-apart p p.rest.breaks own.breaks apart
        ∙ sym (ap (λ b. some_hits s p p.rest.breaks q
        || ((b && is_same p.multi_arch)
        && not (is_eq (text_cmp q.rest.version p.rest.version)))) apart
        ∙ or-false (some_hits s p p.rest.breaks q))

    pub none-hit : have_one_name p q ≡ true → (relations : Relations)
        → some_hits s p relations q ≡ false
    none-hit one relations =
        any-same (λ a. hits_other s p a q) (λ (a : Atom). false)
        (λ a. ap (λ b. not b && hits s false a q) one) (atoms relations)
        ∙ any-none (atoms relations)

    pub breaks-sisters : have_one_name p q ≡ true → are_sisters p q ≡ true
        → is_same p.multi_arch ≡ true → list_any sat (encoded_breaks s all p) ≡ breaks s p q
    breaks-sisters one sisters same =
        let own = clear.each p here in
        break-parts
        ∙ ap (λ b. b || list_any sat bounds)
        (clashes-sisters p p.rest.breaks own.breaks one sisters same)
        ∙ bounds-same same
        ∙ ap (λ b. (b && is_lt (text_cmp q.rest.version p.rest.version))
        || (b && is_gt (text_cmp q.rest.version p.rest.version))) one
        ∙ other-order (text_cmp q.rest.version p.rest.version)
        ∙ sym (ap (λ b. b || ((have_one_name p q && is_same p.multi_arch)
        && not (is_eq (text_cmp q.rest.version p.rest.version)))) (none-hit one p.rest.breaks)
        ∙ ap (λ b. (b && is_same p.multi_arch)
        && not (is_eq (text_cmp q.rest.version p.rest.version))) one
        ∙ ap (λ b. b && not (is_eq (text_cmp q.rest.version p.rest.version))) same) where
          other-order : (o : Ordering) → (is_lt o || is_gt o) ≡ not (is_eq o)
          other-order order.Less = refl
          other-order order.Equal = refl
          other-order order.Greater = refl
