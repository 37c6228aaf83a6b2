-- What the packages of a universe say of each other. The project's own rules, unless said. Laws
-- never open the words of this file, so they hold however versions and relations are written.
--
--   names, variants, package_of, size, essential,
--   recipe, base                                      look-ups by number
--   satisfies, satisfies_entry, satisfies_any         a variant satisfies an alternative, an
--                                                     entry, some entry of a list
--   is_wanted                                         a variant is in the relation of an unpack
--   conflict, breaks                                  how two variants exclude each other
--   word_has, has_bit, initial                        bits that are set; the initial archive
use Rattle.std.specs.Prelude.{ℕ, Bool, false, ◌&&◌, ◌||◌, ◌==◌, List, [], length, Option, slice_index, slice_index_or}
use Rattle.std.specs.List.{list_any}
use Rattle.std.specs.Int.{bit_at}
use Rattle.deb_relation.specs.Relations.{Atom, Entry, Relations}
use Rattle.deb_relation.specs.declared.operator.Op.{Op}
use Rattle.deb_relation.specs.Satisfaction.{Facts, in_relation, package_satisfies}
use Rattle.farm_model.specs.declared.types.Variant.{Variant}
use Rattle.farm_model.specs.Below.{some_below}
use Rattle.farm_model.specs.Universe.{Package, Recipe, Base, Universe}

-- the variant of this name and bit
abbrev pub variant : ℕ → ℕ → Variant
variant n b = record { name = n; bit = b }

-- the same variant
unfoldable pub same : Variant → Variant → Bool
same v w = (v.name == w.name) && (v.bit == w.bit)

-- the variant is in the list
abbrev pub contains : List Variant → Variant → Bool
contains vs v = list_any (λ w. same w v) vs

-- the number of names
unfoldable pub names : Universe → ℕ
names u = length u.packages

-- the number of variants of a name
unfoldable pub variants : Universe → ℕ → ℕ
variants u n = length (slice_index_or u.packages n [])

-- what is read past the last variant
abbrev pub no_package : Package
no_package = record {
  version = [];
  size = 0;
  essential = false;
  pre_depends = [];
  depends = [];
  conflicts =
      [];
  breaks = [];
  provides = [];
}

-- what is known of a variant
unfoldable pub package_of : Universe → Variant → Package
package_of u v = slice_index_or (slice_index_or u.packages v.name []) v.bit no_package

-- its Installed-Size in KiB (Debian Policy 5.6.20)
unfoldable pub size : Universe → Variant → ℕ
size u v = (package_of u v).size

-- whether it must not be removed (Policy 3.8)
unfoldable pub essential : Universe → Variant → Bool
essential u v = (package_of u v).essential

-- its Pre-Depends (Policy 7.2)
unfoldable pub pre_depends : Universe → Variant → Relations
pre_depends u v = (package_of u v).pre_depends

-- its Depends (Policy 7.2)
unfoldable pub depends : Universe → Variant → Relations
depends u v = (package_of u v).depends

-- what is read past the last recipe
abbrev pub no_recipe : Recipe
no_recipe = record { name = []; steps = 0; scratch = 0; needs = []; clashes = []; outputs = [] }

-- the recipe of this number
unfoldable pub recipe : Universe → ℕ → Recipe
recipe u r = slice_index_or u.recipes r no_recipe

-- what a recipe gives, in the order of publishing
abbrev pub outputs : Universe → ℕ → List Variant
outputs u r = (recipe u r).outputs

-- what is read past the last base chroot
abbrev pub no_base : Base
no_base = record { name = []; capacity = 0; packages = [] }

-- the base chroot of this number
unfoldable pub base : Universe → ℕ → Base
base u b = slice_index_or u.bases b no_base

-- what relations see of a variant: its name, version and Provides
unfoldable pub facts : Universe → Variant → Facts
facts u v = record {
  name = slice_index_or u.names v.name [];
  version =
      (package_of u v).version;
  provides = (package_of u v).provides;
}

-- the variant satisfies the alternative (Debian Policy 7.1, 7.5)
unfoldable pub satisfies : Universe → Atom → Variant → Bool
satisfies u a v = package_satisfies (facts u v) a

-- the variant satisfies some alternative of the entry (Policy 7.1)
abbrev pub satisfies_entry : Universe → Entry → Variant → Bool
satisfies_entry u e v = list_any (λ a. satisfies u a v) e

-- the variant satisfies an alternative of some entry (Policy 7.1)
abbrev pub satisfies_any : Universe → Relations → Variant → Bool
satisfies_any u es v = list_any (λ e. satisfies_entry u e v) es

-- the version of the variant is in the relation, or there is none (Policy 7.1)
unfoldable pub is_wanted : Universe → Option (Op × List ℕ) → Variant → Bool
is_wanted u wanted v = in_relation wanted (package_of u v).version

-- one of the two declares a conflict with the other (Policy 7.4)
unfoldable pub conflict : Universe → Variant → Variant → Bool
conflict u v w = satisfies_any u (package_of u v).conflicts w
    || satisfies_any u (package_of u w).conflicts v

-- the first breaks the second (Policy 7.3)
unfoldable pub breaks : Universe → Variant → Variant → Bool
breaks u v w = satisfies_any u (package_of u v).breaks w

-- the bit of the word is set
abbrev pub word_has : ℕ → ℕ → Bool
word_has word bit = bit_at word bit == 1

-- the bit of the variant is set in the word of its name
unfoldable pub has_bit : List ℕ → Variant → Bool
has_bit words v = word_has (slice_index words v.name) v.bit

-- the variant is in the archive from the start (the project's own rule)
unfoldable pub initial : Universe → Variant → Bool
initial u v = has_bit u.initial v

-- some variant of the universe passes
abbrev pub some_variant : Universe → (Variant → Bool) → Bool
some_variant u p = some_below (names u) (λ n. some_below (variants u n) (λ b. p (variant n b)))
