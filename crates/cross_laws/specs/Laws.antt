-- The laws of the encoding, over the definitions by which a farm's core goes.
--
--   IsEncoded             a variant of a farm's universe is the encoding of a package
--   NamesAreInjective     an encoded name is decoded
--   NeedLaw, OwnNeedLaw   a variant satisfies an encoded need exactly if its package meets it
--   PreNeedLaw            the same of the two variants of a name that Pre-Depends ask for
--   ClashLaw              two variants exclude each other exactly if their packages do
--   BuildClashLaw         the same of the clashes of a build
use Rattle.std.specs.Prelude.{◌≡◌, ℕ, Bool, true, false, ◌&&◌, List, [], Some, slice_index_or, All}
use Rattle.std.specs.List.{list_any, list_all, Contains}
use Rattle.deb_relation.specs.Common.{Entry, Relations}
use Rattle.farm_model.specs.declared.types.Variant.{Variant}
use Rattle.farm_model.specs.Common.{Universe, variant, package_of, satisfies_entry, satisfies_any, both_satisfy, unmet}
use Rattle.farm_model.specs.Packages as farm
use Rattle.cross_laws.specs.Binary.{Sides, Binary, side_of, is_side, atoms}
use Rattle.cross_laws.specs.Meets.{Asker, meets, meets_entry}
use Rattle.cross_laws.specs.Excludes.{hits, have_one_name, conflicts, breaks}
use Rattle.cross_laws.specs.Names.{Sense, encoded, decoded, is_taken, is_mark}
use Rattle.cross_laws.specs.Encoding.{encoded_name, encoded_entry, encoded_package, encoded_clashes, asker}
use Rattle.cross_laws.specs.Clear.{is_clear_atom, is_clear_entry, IsClearUniverse}

-- the same entries, in whatever order and however often
abbrev pub HaveSame : Relations → Relations → Type 0
HaveSame given made = (test : Entry → Bool) → list_any test given ≡ list_any test made

-- what the core knows of the variant is what the encoding makes of p, one of all these packages:
pub record IsEncoded (s : Sides) (all : List Binary) (u : Universe) (v : Variant) (p : Binary)
    : Type 0 where
  pub member : Contains all p
  pub name : slice_index_or u.names v.name [] ≡ encoded_name s p
  pub version : (package_of u v).version ≡ p.rest.version
  pub pre_depends : HaveSame (package_of u v).pre_depends (encoded_package s all p).pre_depends
  pub depends : HaveSame (package_of u v).depends (encoded_package s all p).depends
  pub conflicts : HaveSame (package_of u v).conflicts (encoded_package s all p).conflicts
  pub breaks : HaveSame (package_of u v).breaks (encoded_package s all p).breaks
  pub provides : HaveSame (package_of u v).provides (encoded_package s all p).provides

-- a name that is not taken is decoded, in whatever sense it was encoded: no two names become one
abbrev pub NamesAreInjective : Type 0
NamesAreInjective = (s : Sides) (sense : Sense) (name : List ℕ) → is_mark s.host ≡ true
    → is_taken s name ≡ false → decoded s (encoded s sense name) ≡ (sense, name)

abbrev pub NeedLaw : Type 0
NeedLaw = (s : Sides) (all : List Binary) (u : Universe) (v : Variant) (p : Binary) (at : Asker)
    (entry : Entry) → IsClearUniverse s all → IsEncoded s all u v p
    → is_clear_entry s all entry ≡ true
    → satisfies_entry u (encoded_entry s at entry) v ≡ meets_entry s at entry p

-- variants with the packages whose encoding they are
abbrev pub Held : Type 0
Held = List (Variant × Binary)

-- an entry of v is satisfied by none of the variants exactly if an entry of p is met by none of the
-- packages
pub record NeedsAlike (s : Sides) (u : Universe) (v : Variant) (p : Binary) (held : Held)
    : Type 0 where
  pub pre_depends : unmet (λ entry. list_any (λ h. satisfies_entry u entry h.0) held)
      (farm.pre_depends u v)
      ≡ unmet (λ entry. list_any (λ h. meets_entry s (asker p) entry h.1) held) p.rest.pre_depends
  pub depends : unmet (λ entry. list_any (λ h. satisfies_entry u entry h.0) held)
      (farm.depends u v)
      ≡ unmet (λ entry. list_any (λ h. meets_entry s (asker p) entry h.1) held) p.rest.depends

abbrev pub OwnNeedLaw : Type 0
OwnNeedLaw = (s : Sides) (all : List Binary) (u : Universe) (v : Variant) (p : Binary)
    (held : Held) → IsClearUniverse s all → IsEncoded s all u v p
    → All (λ h. IsEncoded s all u h.0 h.1) held → NeedsAlike s u v p held

-- one alternative of the entry is met by both packages
abbrev pub both_meet : Sides → Asker → Entry → Binary → Binary → Bool
both_meet s at entry p q = list_any (λ a. meets s at a p && meets s at a q) entry

-- so it is ahead of an unpack, where the variant b of a name and the one configured last have to
-- satisfy one alternative
abbrev pub PreNeedLaw : Type 0
PreNeedLaw = (s : Sides) (all : List Binary) (u : Universe) (n b last : ℕ) (p q : Binary)
    (at : Asker) (entry : Entry) → IsClearUniverse s all → IsEncoded s all u (variant n b) p
    → IsEncoded s all u (variant n last) q → is_clear_entry s all entry ≡ true
    → both_satisfy u (encoded_entry s at entry) n b (Some last) ≡ both_meet s at entry p q

-- the two are in conflict exactly if their packages are; else v breaks w exactly if p breaks q
pub record ExcludeAlike (s : Sides) (u : Universe) (v w : Variant) (p q : Binary) : Type 0 where
  pub conflict : farm.conflict u v w ≡ conflicts s p q
  pub breaks : conflicts s p q ≡ false → farm.breaks u v w ≡ breaks s p q

-- the same name on the same side: two versions of one package, which the core never compares
abbrev pub is_one : Binary → Binary → Bool
is_one p q = have_one_name p q && is_side (side_of p.architecture) (side_of q.architecture)

abbrev pub ClashLaw : Type 0
ClashLaw = (s : Sides) (all : List Binary) (u : Universe) (v w : Variant) (p q : Binary)
    → IsClearUniverse s all → IsEncoded s all u v p → IsEncoded s all u w q → is_one p q ≡ false
    → ExcludeAlike s u v w p q

abbrev pub BuildClashLaw : Type 0
BuildClashLaw = (s : Sides) (all : List Binary) (u : Universe) (v : Variant) (p : Binary)
    (relations : Relations) → IsClearUniverse s all → IsEncoded s all u v p
    → list_all (is_clear_atom s all) (atoms relations) ≡ true
    → satisfies_any u (encoded_clashes s relations) v
    ≡ list_any (λ a. hits s true a p) (atoms relations)
