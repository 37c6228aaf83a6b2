-- How packages of two architectures become packages of one, as a farm has them: with relations over
-- encoded names, and without qualifiers that mean something.
--
--   senses, need_senses, clash_senses      the senses of an offer, a need, a clash
--   encoded_needs, encoded_clashes         the needs of a package or a build; a build's clashes
--   encoded_name, encoded_package          a package
use Rattle.std.specs.Prelude.{ℕ, Bool, true, false, ◌&&◌, ◌||◌, List, [], ◌∷◌, ◌++◌, map, filter, Option, Some, None, if◌then◌else◌, codes, unwrap_or}
use Rattle.std.specs.List.{list_any, flat_map}
use Rattle.deb_relation.specs.Common.{Atom, Entry, Relations}
use Rattle.deb_relation.specs.declared.operator.Op.{Op}
use Rattle.deb_relation.specs.declared.operator.Op.TheVariants.{Earlier, Equal, Later}
use Rattle.farm_model.specs.Common.{Package}
use Rattle.cross_laws.specs.declared.types.Side.{Side}
use Rattle.cross_laws.specs.declared.types.Side.TheVariants.{Build, Host}
use Rattle.cross_laws.specs.declared.types.MultiArch.{MultiArch}
use Rattle.cross_laws.specs.declared.types.MultiArch.TheVariants.{No, Same, Foreign, Allowed}
use Rattle.cross_laws.specs.Binary.{Sides, Binary, Standing, side_of, standing, is_same, Asked, Unsaid, Any, Native, Named, Elsewhere, asked, Offer, itself, provided, atoms}
use Rattle.cross_laws.specs.Meets.{Asker}
use Rattle.cross_laws.specs.Excludes.{hits, hits_other, are_sisters}
use Rattle.cross_laws.specs.Names.{Sense, Of, ForAny, One, encoded}

-- an alternative of this name and relation alone
abbrev pub plain : List ℕ → Option (Op × List ℕ) → Atom
plain name relation =
    record { name = name; qualifier = None; relation = relation; archs = None; profiles = [] }

-- entries of one alternative
abbrev pub singles : List Atom → Relations
singles items = map (λ item. item ∷ []) items

-- ---- offers

-- the further senses in which an offer counts
abbrev pub further_of : Side → MultiArch → List Sense
further_of side No = []
further_of side Same = []
further_of Build Foreign = Of Host ∷ []
further_of Host Foreign = []
further_of side Allowed = ForAny side ∷ []

abbrev pub further : Standing → List Sense
further o = further_of o.side o.multi_arch

abbrev pub senses : Standing → List Sense
senses o = Of o.side ∷ further o

abbrev pub offered : Sides → Offer → Sense → Atom
offered s o sense = plain (encoded s sense o.name) o.version

abbrev pub encoded_provides : Sides → Binary → List Atom
encoded_provides s p =
    flat_map (λ o. map (offered s o) (senses o.standing)) (provided s p)
    ++ (map (offered s (itself p)) (further (standing p)) ++ offered s (itself p) One ∷ [])

-- ---- needs

-- whoever serves the side that asks for `:any`
abbrev pub any_senses : Side → List Sense
any_senses Build = ForAny Build ∷ []
any_senses Host = ForAny Build ∷ ForAny Host ∷ []

abbrev pub need_senses : Asker → Asked → List Sense
need_senses at Unsaid = Of at.side ∷ []
need_senses at Any = any_senses at.side
need_senses at (Named side) = Of side ∷ []
need_senses at Native = if at.is_build then Of Build ∷ [] else []
need_senses at Elsewhere = []

-- no package satisfies an alternative with a qualifier
abbrev pub unmet : Atom → Atom
unmet a = record a { qualifier = Some (codes "no-" ++ unwrap_or a.qualifier []) }

abbrev pub renamed : Sides → Atom → Sense → Atom
renamed s a sense = record a { name = encoded s sense a.name; qualifier = None }

abbrev pub named_or_unmet : Sides → Atom → List Sense → List Atom
named_or_unmet s a [] = unmet a ∷ []
named_or_unmet s a (sense ∷ more) = map (renamed s a) (sense ∷ more)

abbrev pub encoded_need : Sides → Asker → Atom → List Atom
encoded_need s at a = named_or_unmet s a (need_senses at (asked s a.qualifier))

abbrev pub encoded_entry : Sides → Asker → Entry → Entry
encoded_entry s at entry = flat_map (encoded_need s at) entry

abbrev pub encoded_needs : Sides → Asker → Relations → Relations
encoded_needs s at relations = map (encoded_entry s at) relations

-- ---- clashes

abbrev pub clash_senses : Bool → Asked → List Sense
clash_senses is_build Unsaid = Of Build ∷ Of Host ∷ []
clash_senses is_build Any = Of Build ∷ Of Host ∷ []
clash_senses is_build (Named side) = Of side ∷ []
clash_senses is_build Native = if is_build then Of Build ∷ [] else []
clash_senses is_build Elsewhere = []

abbrev pub encoded_clash : Sides → Bool → Atom → List Atom
encoded_clash s is_build a = map (renamed s a) (clash_senses is_build (asked s a.qualifier))

-- the clashes of a build
abbrev pub encoded_clashes : Sides → Relations → Relations
encoded_clashes s relations = singles (flat_map (encoded_clash s true) (atoms relations))

-- the package by its name and version
abbrev pub exactly : Binary → Atom
exactly q = plain q.name (Some (Equal, q.rest.version))

-- a clash of p hits p itself, or its sister among the packages of the universe
abbrev pub hits_own : Sides → List Binary → Binary → Atom → Bool
hits_own s all p a = hits s false a p || list_any (λ q. are_sisters p q && hits s false a q) all

-- such a clash of what is `same` is replaced, since its sister may be there with it (rule 13) ..
abbrev pub is_replaced : Sides → List Binary → Binary → Atom → Bool
is_replaced s all p a = is_same p.multi_arch && hits_own s all p a

-- the same of its side alone
abbrev pub alone : Sides → Binary → Atom
alone s q = renamed s (exactly q) (Of (side_of q.architecture))

-- .. by a clash with each other package that it hits
abbrev pub clash_of : Sides → List Binary → Binary → Atom → List Atom
clash_of s all p a =
    if is_replaced s all p a then map (alone s) (filter (hits_other s p a) all)
    else encoded_clash s false a

abbrev pub clashes_of : Sides → List Binary → Binary → Relations → List Atom
clashes_of s all p relations = flat_map (clash_of s all p) (atoms relations)

-- either package of the name of p, in a relation
abbrev pub one_of : Sides → Binary → Option (Op × List ℕ) → Atom
one_of s p relation = plain (encoded s One p.name) relation

abbrev pub encoded_conflicts : Sides → List Binary → Binary → List Atom
encoded_conflicts s all p =
    clashes_of s all p p.rest.conflicts
    ++ (if is_same p.multi_arch then [] else one_of s p None ∷ [])

abbrev pub encoded_breaks : Sides → List Binary → Binary → List Atom
encoded_breaks s all p =
    clashes_of s all p p.rest.breaks
    ++ (if is_same p.multi_arch
    then one_of s p (Some (Earlier, p.rest.version))
    ∷ one_of s p (Some (Later, p.rest.version))
    ∷ []
    else [])

-- ---- packages

abbrev pub encoded_name : Sides → Binary → List ℕ
encoded_name s p = encoded s (Of (side_of p.architecture)) p.name

-- a package asks as one of its side
abbrev pub asker : Binary → Asker
asker p = record { side = side_of p.architecture; is_build = false }

-- the relations of the paragraph, encoded; the rest as it is
abbrev pub encoded_package : Sides → List Binary → Binary → Package
encoded_package s all p = record p.rest {
  pre_depends = encoded_needs s (asker p) p.rest.pre_depends;
  depends = encoded_needs s (asker p) p.rest.depends;
  conflicts = singles (encoded_conflicts s all p);
  breaks = singles (encoded_breaks s all p);
  provides = singles (encoded_provides s p);
}
