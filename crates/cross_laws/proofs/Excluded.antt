-- Two variants exclude each other exactly if their packages do.
use Rattle.std.proofs.Common.{◌≡◌, Bool, true, false, not, ◌&&◌, ◌||◌, List, refl, sym, ap, ◌∙◌, subst, inl, inr}
use Rattle.std.proofs.Math.Bool.{or-false}
use Rattle.std.proofs.lemmas.Bool.{cases_Bool, and_parts, and_from, not-false, not_from_false}
use Rattle.std.specs.List.{list_any}
use Rattle.deb_relation.specs.Common.{package_satisfies}
use Rattle.farm_model.specs.declared.types.Variant.{Variant}
use Rattle.farm_model.specs.Common.{Universe, package_of, satisfies_entry, satisfies_any}
use Rattle.farm_model.specs.Packages as farm
use Rattle.cross_laws.specs.declared.types.Side.{Side}
use Rattle.cross_laws.specs.declared.types.Side.TheVariants.{Build, Host}
use Rattle.cross_laws.specs.Binary.{Sides, Binary, side_of, is_side, is_same}
use Rattle.cross_laws.specs.Excludes.{have_one_name, are_sisters, some_hits, conflicts, breaks}
use Rattle.cross_laws.specs.Encoding.{encoded_conflicts, encoded_breaks}
use Rattle.cross_laws.specs.Clear.{IsClearUniverse}
use Rattle.cross_laws.specs.Laws.{IsEncoded, ExcludeAlike, is_one}
use Rattle.cross_laws.proofs.NameLaws.{bytes-turned}
use Rattle.cross_laws.proofs.Satisfied.{encoded_facts}
use Rattle.cross_laws.proofs.Encoded.{any-single}
use Rattle.cross_laws.proofs.ClashLaws.{declared-apart, declared-sisters, breaks-apart, breaks-sisters, none-hit}

not-both : (a b : Bool) → (not a || not b) ≡ not (a && b)
not-both true b = refl
not-both false b = refl

side-turned : (x y : Side) → is_side x y ≡ is_side y x
side-turned Build Build = refl
side-turned Build Host = refl
side-turned Host Build = refl
side-turned Host Host = refl

module _ (s : Sides) (all : List Binary) (clear : IsClearUniverse s all) (u : Universe)
    (v w : Variant) (p q : Binary) (of : IsEncoded s all u v p) (is : IsEncoded s all u w q)
    (two : is_one p q ≡ false) where
  names-turned : (b : Bool) → have_one_name p q ≡ b → have_one_name q p ≡ b
  names-turned b e = bytes-turned q.name p.name ∙ e

  abbrev on_one_side : Bool
  on_one_side = is_side (side_of p.architecture) (side_of q.architecture)

  sisters-are : have_one_name p q ≡ true → are_sisters p q ≡ true
  sisters-are one =
      and_from (have_one_name p q) (not on_one_side) one
      (not_from_false on_one_side (subst (λ b. (b && on_one_side) ≡ false) one two))

  sisters-turned : have_one_name p q ≡ true → are_sisters q p ≡ true
  sisters-turned one =
      ap (λ b. b && not (is_side (side_of q.architecture) (side_of p.architecture)))
      (bytes-turned q.name p.name)
      ∙ ap (λ b. have_one_name p q && not b)
      (side-turned (side_of q.architecture) (side_of p.architecture))
      ∙ sisters-are one

  conflicts-declared : farm.conflict u v w
      ≡ (list_any (λ a. package_satisfies (encoded_facts s q) a) (encoded_conflicts s all p)
      || list_any (λ a. package_satisfies (encoded_facts s p) a) (encoded_conflicts s all q))
  unfolding farm.conflict
  conflicts-declared =
      ap (λ b. b || satisfies_any u (package_of u w).conflicts v)
      (of.conflicts (λ entry. satisfies_entry u entry w)
      ∙ any-single s all clear u w q is (encoded_conflicts s all p))
      ∙ ap (λ b. list_any (λ a. package_satisfies (encoded_facts s q) a)
      (encoded_conflicts s all p) || b)
      (is.conflicts (λ entry. satisfies_entry u entry v)
      ∙ any-single s all clear u v p of (encoded_conflicts s all q))

  breaks-declared : farm.breaks u v w
      ≡ list_any (λ a. package_satisfies (encoded_facts s q) a) (encoded_breaks s all p)
  unfolding farm.breaks
  breaks-declared =
      of.breaks (λ entry. satisfies_entry u entry w)
      ∙ any-single s all clear u w q is (encoded_breaks s all p)

  abbrev hits_either : Bool
  hits_either = some_hits s p p.rest.conflicts q || some_hits s q q.rest.conflicts p

  abbrev not_same : Bool
  not_same = not (is_same p.multi_arch && is_same q.multi_arch)

  conflict-apart : have_one_name p q ≡ false → farm.conflict u v w ≡ conflicts s p q
  conflict-apart apart =
      conflicts-declared
      ∙ ap (λ b. b || list_any (λ a. package_satisfies (encoded_facts s p) a)
      (encoded_conflicts s all q))
      (declared-apart s all clear u w q is p of.member apart)
      ∙ ap (λ b. some_hits s p p.rest.conflicts q || b)
      (declared-apart s all clear u v p of q is.member (names-turned false apart))
      ∙ sym (ap (λ b. hits_either || (b && not_same)) apart ∙ or-false hits_either)

  neither-hits : have_one_name p q ≡ true → hits_either ≡ false
  neither-hits one =
      ap (λ b. b || some_hits s q q.rest.conflicts p)
      (none-hit s all clear u w q is p of.member one p.rest.conflicts)
      ∙ none-hit s all clear u v p of q is.member (names-turned true one) q.rest.conflicts

  conflicts-sisters : have_one_name p q ≡ true → conflicts s p q ≡ not_same
  conflicts-sisters one =
      ap (λ b. b || (have_one_name p q && not_same)) (neither-hits one)
      ∙ ap (λ b. b && not_same) one

  conflict-sisters : have_one_name p q ≡ true → farm.conflict u v w ≡ conflicts s p q
  conflict-sisters one =
      conflicts-declared
      ∙ ap (λ b. b || list_any (λ a. package_satisfies (encoded_facts s p) a)
      (encoded_conflicts s all q))
      (declared-sisters s all clear u w q is p of.member one (sisters-are one))
      ∙ ap (λ b. not (is_same p.multi_arch) || b)
      (declared-sisters s all clear u v p of q is.member (names-turned true one)
      (sisters-turned one))
      ∙ not-both (is_same p.multi_arch) (is_same q.multi_arch)
      ∙ sym (conflicts-sisters one)

  breaks-alike : conflicts s p q ≡ false → farm.breaks u v w ≡ breaks s p q
  breaks-alike none =
      breaks-declared
      ∙ elim (cases_Bool (have_one_name p q)) [
        | inl one ↦ (
            let both : (is_same p.multi_arch && is_same q.multi_arch) ≡ true =
            not-false (is_same p.multi_arch && is_same q.multi_arch)
            (sym (conflicts-sisters one) ∙ none) in
            breaks-sisters s all clear u w q is p of.member one (sisters-are one)
            (and_parts (is_same p.multi_arch) (is_same q.multi_arch) both).0
            )
        | inr apart ↦ breaks-apart s all clear u w q is p of.member apart
      ]

  pub exclude-alike : ExcludeAlike s u v w p q
  exclude-alike = record {
    conflict =
        elim (cases_Bool (have_one_name p q)) [
          | inl one ↦ conflict-sisters one
          | inr apart ↦ conflict-apart apart
        ];
    breaks = breaks-alike;
  }
