-- Which packages exclude each other, by the Multi-Arch rules.
--
--   hits           rules 9, 10: a clash of a package, or of a build, hits a package
--   conflicts      rules 11, 13: two packages are not there together
--   breaks         rules 12, 13: the first is not there while the second is configured
use Rattle.std.specs.Prelude.{Bool, true, false, not, ◌&&◌, ◌||◌}
use Rattle.std.specs.List.{list_any}
use Rattle.std.specs.Str.{bytes_eq}
use Rattle.std.specs.Ordering.{is_eq}
use Rattle.deb_version.specs.Grammar.{text_cmp}
use Rattle.deb_relation.specs.Common.{Atom, Relations}
use Rattle.cross_laws.specs.declared.types.Side.TheVariants.{Build}
use Rattle.cross_laws.specs.Binary.{Sides, Binary, Standing, side_of, is_side, is_same, Asked, Unsaid, Any, Native, Named, Elsewhere, asked, offers, atoms}
use Rattle.cross_laws.specs.Meets.{fits}

-- whether a clash, of a build or else of a package, is one with an offer of this standing
abbrev pub clashes : Bool → Standing → Asked → Bool
-- rule 9: it is of all architectures (dpkg: f_dependency; apt: ParseDepends)
clashes is_build o Unsaid = true
clashes is_build o Any = true
-- rule 10: it is of the named one alone (dpkg: deparchsatisfied; apt: ArchSpecific)
clashes is_build o (Named side) = is_side o.side side
clashes is_build o Native = is_build && is_side o.side Build
clashes is_build o Elsewhere = false

abbrev pub hits : Sides → Bool → Atom → Binary → Bool
hits s is_build a q =
    list_any (λ o. fits a o && clashes is_build o.standing (asked s a.qualifier)) (offers s q)

abbrev pub have_one_name : Binary → Binary → Bool
have_one_name p q = bytes_eq p.name q.name

-- q is the package p of the other side
abbrev pub are_sisters : Binary → Binary → Bool
are_sisters p q =
    have_one_name p q && not (is_side (side_of p.architecture) (side_of q.architecture))

-- rule 13: a clash of a package hits none of its own name (dpkg: one set; apt: IsIgnorable)
abbrev pub hits_other : Sides → Binary → Atom → Binary → Bool
hits_other s p a q = not (have_one_name p q) && hits s false a q

abbrev pub some_hits : Sides → Binary → Relations → Binary → Bool
some_hits s p relations q = list_any (λ a. hits_other s p a q) (atoms relations)

-- rule 11: two of one name, of which one is not `same` (dpkg: parse.c; apt: AddImplicitDepends, a
-- Conflicts)
abbrev pub are_not_same : Binary → Binary → Bool
are_not_same p q = have_one_name p q && not (is_same p.multi_arch && is_same q.multi_arch)

-- rule 12: what is `same` breaks its own name in any other version (dpkg: configure.c; apt:
-- AddImplicitDepends, a Breaks)
abbrev pub is_other_version : Binary → Binary → Bool
is_other_version p q =
    have_one_name p q && is_same p.multi_arch
    && not (is_eq (text_cmp q.rest.version p.rest.version))

abbrev pub conflicts : Sides → Binary → Binary → Bool
conflicts s p q =
    some_hits s p p.rest.conflicts q || some_hits s q q.rest.conflicts p || are_not_same p q

abbrev pub breaks : Sides → Binary → Binary → Bool
breaks s p q = some_hits s p p.rest.breaks q || is_other_version p q
