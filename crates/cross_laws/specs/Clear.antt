-- What has to hold of a universe for its encoding to be exact. An import that has all packages can
-- test it.
--
--   is_across        a `foreign` package would be taken for one of a named architecture
--   is_mistaken      a package would be taken for another, which a clash hits
--   is_clear_entry   an entry, of which neither holds and no name is taken
--   IsClearUniverse  a universe, of which neither holds and no name is taken
use Rattle.std.specs.Prelude.{◌≡◌, Bool, true, false, not, ◌&&◌, List, filter}
use Rattle.std.specs.List.{list_any, list_all, Contains}
use Rattle.deb_relation.specs.Common.{Atom, Entry}
use Rattle.cross_laws.specs.declared.types.Side.TheVariants.{Build, Host}
use Rattle.cross_laws.specs.Binary.{Sides, Binary, Standing, is_side, is_foreign, Asked, Unsaid, Any, Native, Named, Elsewhere, asked, offers, atoms}
use Rattle.cross_laws.specs.Meets.{fits, meets}
use Rattle.cross_laws.specs.Excludes.{hits_other}
use Rattle.cross_laws.specs.Names.{is_taken, is_mark}
use Rattle.cross_laws.specs.Encoding.{exactly, asker, is_replaced}

-- encoded, a `foreign` package of the build architecture satisfies both `n` and `n.HOST`: more than
-- rule 6 lets `n:HOST` be met by, and rule 7 `n:native`
abbrev pub takes_across : Asked → Standing → Bool
takes_across Unsaid o = false
takes_across Any o = false
takes_across (Named Build) o = false
takes_across (Named Host) o = is_foreign o.multi_arch && is_side o.side Build
takes_across Native o = is_foreign o.multi_arch && is_side o.side Build
takes_across Elsewhere o = false

abbrev pub is_across : Sides → Atom → Binary → Bool
is_across s a q =
    list_any (λ o. fits a o && takes_across (asked s a.qualifier) o.standing) (offers s q)

abbrev pub is_free : Sides → Atom → Bool
is_free s a = not (is_taken s a.name)

abbrev pub is_clear_atom : Sides → List Binary → Atom → Bool
is_clear_atom s all a = is_free s a && list_all (λ q. not (is_across s a q)) all

abbrev pub is_clear_entry : Sides → List Binary → Entry → Bool
is_clear_entry s all entry = list_all (is_clear_atom s all) entry

-- the clash of p hits another package, whose name q provides in that very version, and not q
abbrev pub is_mistaken : Sides → List Binary → Binary → Atom → Binary → Bool
is_mistaken s all p a q =
    not (hits_other s p a q)
    && list_any (λ t. meets s (asker t) (exactly t) q) (filter (hits_other s p a) all)

abbrev pub is_clear_clash : Sides → List Binary → Binary → Atom → Bool
is_clear_clash s all p a =
    is_clear_atom s all a
    && list_all (λ q. not (is_replaced s all p a && is_mistaken s all p a q)) all

-- of one package:
pub record IsClear (s : Sides) (all : List Binary) (p : Binary) : Type 0 where
  -- the names that it has and provides have not the form of encoded ones;
  pub name : is_taken s p.name ≡ false
  pub provides : list_all (is_free s) (atoms p.rest.provides) ≡ true
  -- its relations are clear.
  pub pre_depends : list_all (is_clear_entry s all) p.rest.pre_depends ≡ true
  pub depends : list_all (is_clear_entry s all) p.rest.depends ≡ true
  pub conflicts : list_all (is_clear_clash s all p) (atoms p.rest.conflicts) ≡ true
  pub breaks : list_all (is_clear_clash s all p) (atoms p.rest.breaks) ≡ true

-- of all of them, and of the host's name:
pub record IsClearUniverse (s : Sides) (all : List Binary) : Type 0 where
  pub host : is_mark s.host ≡ true
  pub each : (p : Binary) → Contains all p → IsClear s all p
