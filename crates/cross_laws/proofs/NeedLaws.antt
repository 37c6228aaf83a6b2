-- An encoded package satisfies an encoded need exactly if it meets the need, and an encoded clash
-- exactly if the clash hits it.
use Rattle.std.proofs.Common.{◌≡◌, Bool, true, false, not, ◌&&◌, List, [], ◌∷◌, map, refl, ◌∙◌}
use Rattle.std.proofs.lemmas.Bool.{and_from, and_right, or_parts, not-true, not_from_false}
use Rattle.std.specs.List.{list_any, list_all}
use Rattle.deb_relation.specs.Common.{Atom, package_satisfies}
use Rattle.cross_laws.specs.Binary.{Sides, Binary, asked, Offer, offers, atoms}
use Rattle.cross_laws.specs.Meets.{Asker, fits, counts, meets}
use Rattle.cross_laws.specs.Excludes.{clashes, hits}
use Rattle.cross_laws.specs.Names.{Sense, is_taken, is_mark}
use Rattle.cross_laws.specs.Encoding.{renamed, need_senses, clash_senses, named_or_unmet, encoded_need, encoded_clash}
use Rattle.cross_laws.specs.Clear.{takes_across, is_across, is_free}
use Rattle.cross_laws.proofs.Lists.{any-alike}
use Rattle.cross_laws.proofs.Tables.{known_as, need-table, clash-table, need-senses, clash-senses}
use Rattle.cross_laws.proofs.Satisfied.{encoded_facts, satisfies-senses}

pub none-all : {X : Type 0} (f : X → Bool) (xs : List X) → list_any f xs ≡ false
    → list_all (λ x. not (f x)) xs ≡ true
none-all f [] none = refl
none-all f (x ∷ xs) none =
    let both = or_parts (f x) (list_any f xs) none in
    and_from (not (f x)) (list_all (λ x. not (f x)) xs) (not_from_false (f x) both.0)
    (none-all f xs both.1)

pub and-true : (b : Bool) → (b && true) ≡ b
and-true true = refl
and-true false = refl

-- an offer that fits, where a table has what its standing says
turned : (f t k c : Bool) → not (f && t) ≡ true → (t ≡ false → k ≡ c) → (k && f) ≡ (f && c)
turned true t k c stays table = and-true k ∙ table (not-true t stays)
turned false t k c stays table = and_right k false refl

unmet-none : (s : Sides) (p : Binary) (a : Atom) (ks : List Sense)
    → list_any (λ b. package_satisfies (encoded_facts s p) b) (named_or_unmet s a ks)
    ≡ list_any (λ b. package_satisfies (encoded_facts s p) b) (map (renamed s a) ks)
unmet-none s p a [] = refl
unmet-none s p a (k ∷ ks) = refl

module _ (s : Sides) (host : is_mark s.host ≡ true) (p : Binary) (named : is_taken s p.name ≡ false)
    (providing : list_all (is_free s) (atoms p.rest.provides) ≡ true)
    (a : Atom) (free : is_taken s a.name ≡ false) (stays : is_across s a p ≡ false) where
  abbrev taken : Offer → Bool
  taken o = fits a o && takes_across (asked s a.qualifier) o.standing

  pub need-one : (at : Asker)
      → list_any (λ b. package_satisfies (encoded_facts s p) b) (encoded_need s at a)
      ≡ meets s at a p
  need-one at =
      unmet-none s p a (need_senses at (asked s a.qualifier))
      ∙ satisfies-senses s host p named providing a free (need_senses at (asked s a.qualifier))
      (need-senses at (asked s a.qualifier))
      ∙ any-alike (λ o. not (taken o))
      (λ o. known_as o.standing (need_senses at (asked s a.qualifier)) && fits a o)
      (λ o. fits a o && counts at o.standing (asked s a.qualifier))
      (λ o e. turned (fits a o) (takes_across (asked s a.qualifier) o.standing)
      (known_as o.standing (need_senses at (asked s a.qualifier)))
      (counts at o.standing (asked s a.qualifier)) e
      (need-table at (asked s a.qualifier) o.standing))
      (offers s p) (none-all taken (offers s p) stays)

  pub clash-one : (is_build : Bool)
      → list_any (λ b. package_satisfies (encoded_facts s p) b) (encoded_clash s is_build a)
      ≡ hits s is_build a p
  clash-one is_build =
      satisfies-senses s host p named providing a free
      (clash_senses is_build (asked s a.qualifier)) (clash-senses is_build (asked s a.qualifier))
      ∙ any-alike (λ o. not (taken o))
      (λ o. known_as o.standing (clash_senses is_build (asked s a.qualifier)) && fits a o)
      (λ o. fits a o && clashes is_build o.standing (asked s a.qualifier))
      (λ o e. turned (fits a o) (takes_across (asked s a.qualifier) o.standing)
      (known_as o.standing (clash_senses is_build (asked s a.qualifier)))
      (clashes is_build o.standing (asked s a.qualifier)) e
      (clash-table is_build (asked s a.qualifier) o.standing))
      (offers s p) (none-all taken (offers s p) stays)
