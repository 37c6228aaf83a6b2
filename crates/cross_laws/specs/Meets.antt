-- Which package meets a need, by the Multi-Arch rules.
--
--   Asker                    a package of a side, or a build for one
--   counts                   rules 2 to 7: whether what has the wanted name counts
--   meets, meets_entry       a package meets an alternative, an entry
use Rattle.std.specs.Prelude.{Bool, true, false, not, ◌&&◌, ◌||◌}
use Rattle.std.specs.List.{list_any}
use Rattle.std.specs.Str.{bytes_eq}
use Rattle.deb_relation.specs.Common.{Atom, Entry}
use Rattle.deb_relation.specs.Satisfaction.{provides_in}
use Rattle.cross_laws.specs.declared.types.Side.{Side}
use Rattle.cross_laws.specs.declared.types.Side.TheVariants.{Build, Host}
use Rattle.cross_laws.specs.Binary.{Sides, Binary, Standing, is_side, is_foreign, is_allowed, Asked, Unsaid, Any, Native, Named, Elsewhere, asked, Offer, offers}

-- who has the need
pub record Asker : Type 0 where
  pub side : Side
  pub is_build : Bool

-- the offer has the name, and a version in the relation (Debian Policy 7.1, 7.5)
abbrev pub fits : Atom → Offer → Bool
fits a o = bytes_eq o.name a.name && provides_in a.relation o.version

-- rule 4: programs of the host do not run on the build architecture, so its packages serve those of
-- the host alone (apt: APT::BarbarianArchitectures, which sbuild sets under the profile cross)
abbrev pub serves : Side → Side → Bool
serves Build asking = true
serves Host asking = is_side asking Host

-- whether an offer of this standing counts, by the qualifier of the need
abbrev pub counts : Asker → Standing → Asked → Bool
-- rule 2: it is of the asker's side (dpkg: deparchsatisfied); rule 3: or `foreign` (dpkg:
-- deparchsatisfied; apt: ParseProvides, for all architectures)
counts at o Unsaid =
    is_side o.side at.side || is_foreign o.multi_arch && serves o.side at.side
-- rule 5: it is `allowed` (dpkg: deparchsatisfied; apt: ParseProvides, under the name `n:any`)
counts at o Any = is_allowed o.multi_arch && serves o.side at.side
-- rule 6: it is of the named side, `foreign` or not (dpkg: deparchsatisfied; apt: ArchSpecific)
counts at o (Named side) = is_side o.side side
-- rule 7: a build asks, and it is of the build architecture and not `foreign` (KnownFacts)
counts at o Native = at.is_build && is_side o.side Build && not (is_foreign o.multi_arch)
counts at o Elsewhere = false

abbrev pub meets : Sides → Asker → Atom → Binary → Bool
meets s at a p =
    list_any (λ o. fits a o && counts at o.standing (asked s a.qualifier)) (offers s p)

abbrev pub meets_entry : Sides → Asker → Entry → Binary → Bool
meets_entry s at entry p = list_any (λ a. meets s at a p) entry
