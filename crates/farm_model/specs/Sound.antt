-- What the readers make sure of in every universe (the project's own rules).
--
--   IsKnown                     a variant of the universe
--   IsSettledBase               what a base chroot keeps
--   IsUniverse, IsInOrder       what every universe keeps
use Rattle.std.specs.Prelude.{◌≡◌, ℕ, suc, ◌<◌, ◌≤◌, Bool, true, false, length, Some, slice_get, All}
use Rattle.std.specs.declared.cmp.Ordering.TheVariants.{Less}
use Rattle.deb_version.specs.Grammar.{text_cmp}
use Rattle.farm_model.specs.declared.types.Variant.{Variant}
use Rattle.farm_model.specs.Universe.{Universe}
use Rattle.farm_model.specs.Packages.{variant, variants, package_of, base, outputs, initial, conflict, breaks}
use Rattle.farm_model.specs.Chroot.{Chroot, some_slot, has_present, some_other, used, unsettled, base_chroot}

-- a variant of the universe
abbrev pub IsKnown : Universe → Variant → Type 0
IsKnown u v = v.bit < variants u v.name

-- two present variants of different names stand in the relation
unfoldable pub some_two : Chroot → (Variant → Variant → Bool) → Bool
some_two c p = some_slot c (has_present (λ v. some_other c v.name (has_present (p v))))

-- a base chroot: one variant of a name, each entry met, no conflict, nothing broken, within the
-- capacity
pub record IsSettledBase (u : Universe) (b : ℕ) : Type 0 where
  pub one_each : (i j : ℕ) (v w : Variant) → slice_get (base u b).packages i ≡ Some v
      → slice_get (base u b).packages j ≡ Some w → v.name ≡ w.name → i ≡ j
  pub settled : unsettled u (base_chroot u b) ≡ false
  pub no_conflict : some_two (base_chroot u b) (conflict u) ≡ false
  pub not_broken : some_two (base_chroot u b) (breaks u) ≡ false
  pub within : used u (base_chroot u b) ≤ (base u b).capacity

-- what every universe keeps, as the laws of farms use it
pub record IsUniverse (u : Universe) : Type 0 where
  -- each name has a list of variants, at most as many as a word has bits;
  pub listed : length u.names ≡ length u.packages
  pub few : (n : ℕ) → variants u n ≤ 64
  -- the initial archive has a word for each name, and known variants alone;
  pub words : length u.initial ≡ length u.packages
  pub initial_known : (v : Variant) → initial u v ≡ true → IsKnown u v
  -- a recipe gives something: known variants that no other output gives and the initial archive
  -- does not have;
  pub outputs_there : (r : ℕ) → r < length u.recipes → 0 < length (outputs u r)
  pub outputs_known : (r : ℕ) → All (IsKnown u) (outputs u r)
  pub outputs_once : (q r i j : ℕ) (v : Variant) → slice_get (outputs u q) i ≡ Some v
      → slice_get (outputs u r) j ≡ Some v → (q ≡ r) × (i ≡ j)
  pub outputs_new : (r i : ℕ) (v : Variant) → slice_get (outputs u r) i ≡ Some v
      → initial u v ≡ false
  -- a base chroot holds known variants.
  pub bases_known : (b : ℕ) → All (IsKnown u) (base u b).packages

-- what every universe keeps besides: the variants of a name stand in version order (Debian Policy
-- 5.6.12), and base chroots are settled
pub record IsInOrder (u : Universe) : Type 0 where
  pub rising : (n b : ℕ) → suc b < variants u n
      → text_cmp (package_of u (variant n b)).version (package_of u (variant n (suc b))).version
      ≡ Less
  pub settled : (b : ℕ) → b < length u.bases → IsSettledBase u b
