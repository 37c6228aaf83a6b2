-- The universe of a farm: what its three texts say once they are read. The project's own rules,
-- unless said.
--
--   Package      what is known of one variant of a name
--   Recipe       a build, with what it needs and gives
--   Base         a base chroot
--   Universe     all of them, with the initial archive
--
-- A name is known by its number, in the order of the packages text. A variant is one version of a
-- name (`Variant`: the name's number and the place among the name's versions, lowest first).
use Rattle.std.specs.Prelude.{ℕ, Bool, List}
use Rattle.deb_relation.specs.Relations.{Relations}
use Rattle.farm_model.specs.declared.types.Variant.{Variant}

-- a binary package of an index (Debian Policy 5.3 and 7); relations are reduced to the farm's
-- architecture. The version is its text, the size is Installed-Size in KiB (Policy 5.6.20);
-- essential is whether it must not be removed (Policy 3.8)
pub record Package : Type 0 where
  pub version : List ℕ
  pub size : ℕ
  pub essential : Bool
  pub pre_depends : Relations
  pub depends : Relations
  pub conflicts : Relations
  pub breaks : Relations
  pub provides : Relations

-- a build of a source package: what it costs, the KiB of scratch space, the Build-Depends and
-- Build-Conflicts of its mode under its profiles (Policy 7.7, BuildProfileSpec), and the variants
-- that it gives, in order
pub record Recipe : Type 0 where
  pub name : List ℕ
  pub steps : ℕ
  pub scratch : ℕ
  pub needs : Relations
  pub clashes : Relations
  pub outputs : List Variant

-- a base chroot: the KiB that it can hold, and the variants that are configured in it (the
-- project's own rule)
pub record Base : Type 0 where
  pub name : List ℕ
  pub capacity : ℕ
  pub packages : List Variant

-- the universe. For each name its variants from the lowest version up (Policy 5.6.12), and a word
-- of the initial archive, whose bit b is set where variant b is in it
pub record Universe : Type 0 where
  pub names : List (List ℕ)
  pub packages : List (List Package)
  pub recipes : List Recipe
  pub bases : List Base
  pub initial : List ℕ
  pub architectures : List (List ℕ)
