-- The laws of needs and of the clashes of builds, over the variants of a farm's universe.
use Rattle.std.proofs.Common.{◌≡◌, Bool, true, false, not, ◌||◌, List, [], ◌∷◌, All, refl, ap, ◌∙◌}
use Rattle.std.proofs.lemmas.Bool.{and_parts, not-true}
use Rattle.std.specs.List.{list_any, list_all, flat_map, Contains}
use Rattle.deb_relation.specs.Common.{Atom, Entry, Relations, package_satisfies, provides_it}
use Rattle.farm_model.specs.declared.types.Variant.{Variant}
use Rattle.farm_model.specs.Common.{Universe, facts, satisfies, satisfies_entry, satisfies_any, unmet}
use Rattle.farm_model.specs.Packages as farm
use Rattle.cross_laws.specs.Binary.{Sides, Binary, atoms}
use Rattle.cross_laws.specs.Meets.{Asker, meets, meets_entry}
use Rattle.cross_laws.specs.Excludes.{hits}
use Rattle.cross_laws.specs.Names.{is_taken}
use Rattle.cross_laws.specs.Encoding.{singles, encoded_need, encoded_entry, encoded_needs, encoded_clash, encoded_clashes, asker}
use Rattle.cross_laws.specs.Clear.{is_across, is_free, is_clear_atom, is_clear_entry, IsClearUniverse}
use Rattle.cross_laws.specs.Laws.{IsEncoded, Held, NeedsAlike}
use Rattle.std.proofs.lemmas.List.Elements.{All-head, All-tail}
use Rattle.cross_laws.proofs.Lists.{any-same, any-alike, any-map, any-flat, any-singles, each-passes}
use Rattle.cross_laws.proofs.Satisfied.{encoded_facts}
use Rattle.cross_laws.proofs.NeedLaws.{need-one, clash-one}

-- what is clear of an alternative, as far as one package is concerned
pub record StaysOff (s : Sides) (a : Atom) (q : Binary) : Type 0 where
  pub free : is_taken s a.name ≡ false
  pub stays : is_across s a q ≡ false

pub stays-off : (s : Sides) (all : List Binary) (q : Binary) → Contains all q → (a : Atom)
    → is_clear_atom s all a ≡ true → StaysOff s a q
stays-off s all q here a clear =
    let both = and_parts (is_free s a) (list_all (λ q. not (is_across s a q)) all) clear in
    record {
      free = not-true (is_taken s a.name) both.0;
      stays =
          not-true (is_across s a q)
          (each-passes (λ q. not (is_across s a q)) all q both.1 here);
    }

module _ (s : Sides) (all : List Binary) (clear : IsClearUniverse s all)
    (u : Universe) (w : Variant) (q : Binary) (is : IsEncoded s all u w q) where
  pub satisfies-encoded : (a : Atom) → satisfies u a w ≡ package_satisfies (encoded_facts s q) a
  unfolding satisfies facts
  satisfies-encoded a =
      rw (is.name, is.version, is.provides (λ entry. list_any (λ i. provides_it a i) entry)) refl

  pub any-satisfies : (xs : List Atom) → list_any (λ a. satisfies u a w) xs
      ≡ list_any (λ a. package_satisfies (encoded_facts s q) a) xs
  any-satisfies xs =
      any-same (λ a. satisfies u a w) (λ a. package_satisfies (encoded_facts s q) a)
      satisfies-encoded xs

  -- each entry of one alternative
  pub any-single : (xs : List Atom) → satisfies_any u (singles xs) w
      ≡ list_any (λ a. package_satisfies (encoded_facts s q) a) xs
  any-single xs = any-singles (λ a. satisfies u a w) xs ∙ any-satisfies xs

  pub need-met : (at : Asker) (a : Atom) → is_clear_atom s all a ≡ true
      → list_any (λ b. package_satisfies (encoded_facts s q) b) (encoded_need s at a)
      ≡ meets s at a q
  need-met at a a_clear =
      let own = clear.each q is.member in
      let off = stays-off s all q is.member a a_clear in
      need-one s clear.host q own.name own.provides a off.free off.stays at

  pub clash-hit : (is_build : Bool) (a : Atom) → is_clear_atom s all a ≡ true
      → list_any (λ b. package_satisfies (encoded_facts s q) b) (encoded_clash s is_build a)
      ≡ hits s is_build a q
  clash-hit is_build a a_clear =
      let own = clear.each q is.member in
      let off = stays-off s all q is.member a a_clear in
      clash-one s clear.host q own.name own.provides a off.free off.stays is_build

  pub entry-met : (at : Asker) (entry : Entry) → is_clear_entry s all entry ≡ true
      → satisfies_entry u (encoded_entry s at entry) w ≡ meets_entry s at entry q
  entry-met at entry e_clear =
      any-satisfies (encoded_entry s at entry)
      ∙ any-flat (λ a. package_satisfies (encoded_facts s q) a) (encoded_need s at) entry
      ∙ any-alike (is_clear_atom s all)
      (λ a. list_any (λ b. package_satisfies (encoded_facts s q) b) (encoded_need s at a))
      (λ a. meets s at a q) (need-met at) entry e_clear

  pub build-clashes : (relations : Relations)
      → list_all (is_clear_atom s all) (atoms relations) ≡ true
      → satisfies_any u (encoded_clashes s relations) w
      ≡ list_any (λ a. hits s true a q) (atoms relations)
  build-clashes relations r_clear =
      any-single (flat_map (encoded_clash s true) (atoms relations))
      ∙ any-flat (λ a. package_satisfies (encoded_facts s q) a) (encoded_clash s true)
      (atoms relations)
      ∙ any-alike (is_clear_atom s all)
      (λ a. list_any (λ b. package_satisfies (encoded_facts s q) b) (encoded_clash s true a))
      (λ a. hits s true a q) (clash-hit true) (atoms relations) r_clear

-- ---- what is held together

module _ (s : Sides) (all : List Binary) (clear : IsClearUniverse s all) (u : Universe)
    (at : Asker) where
  held-met : (held : Held) → All (λ h. IsEncoded s all u h.0 h.1) held → (entry : Entry)
      → is_clear_entry s all entry ≡ true
      → list_any (λ h. satisfies_entry u (encoded_entry s at entry) h.0) held
      ≡ list_any (λ h. meets_entry s at entry h.1) held
  held-met [] are entry e_clear = refl
  held-met (h ∷ hs) are entry e_clear =
      ap (λ b. b || list_any (λ h. satisfies_entry u (encoded_entry s at entry) h.0) hs)
      (entry-met s all clear u h.0 h.1 (All-head (λ h. IsEncoded s all u h.0 h.1) h hs are) at entry
      e_clear)
      ∙ ap (λ b. meets_entry s at entry h.1 || b)
      (held-met hs (All-tail (λ h. IsEncoded s all u h.0 h.1) h hs are) entry e_clear)

  needs-met : (held : Held) → All (λ h. IsEncoded s all u h.0 h.1) held → (relations : Relations)
      → list_all (is_clear_entry s all) relations ≡ true
      → unmet (λ entry. list_any (λ h. satisfies_entry u entry h.0) held)
      (encoded_needs s at relations)
      ≡ unmet (λ entry. list_any (λ h. meets_entry s at entry h.1) held) relations
  needs-met held are relations r_clear =
      any-map (λ entry. not (list_any (λ h. satisfies_entry u entry h.0) held)) (encoded_entry s at)
      relations
      ∙ any-alike (is_clear_entry s all)
      (λ entry. not (list_any (λ h. satisfies_entry u (encoded_entry s at entry) h.0) held))
      (λ entry. not (list_any (λ h. meets_entry s at entry h.1) held))
      (λ entry e_clear. ap not (held-met held are entry e_clear)) relations r_clear

pub own-needs : (s : Sides) (all : List Binary) → IsClearUniverse s all → (u : Universe)
    (v : Variant) (p : Binary) → IsEncoded s all u v p → (held : Held)
    → All (λ h. IsEncoded s all u h.0 h.1) held → NeedsAlike s u v p held
unfolding farm.pre_depends farm.depends
own-needs s all clear u v p of held are =
    let own = clear.each p of.member in
    record {
      pre_depends =
          of.pre_depends (λ entry. not (list_any (λ h. satisfies_entry u entry h.0) held))
          ∙ needs-met s all clear u (asker p) held are p.rest.pre_depends own.pre_depends;
      depends =
          of.depends (λ entry. not (list_any (λ h. satisfies_entry u entry h.0) held))
          ∙ needs-met s all clear u (asker p) held are p.rest.depends own.depends;
    }
