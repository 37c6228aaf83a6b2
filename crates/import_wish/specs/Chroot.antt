-- The paragraphs of a wish that are base chroots.
--
--   chroot_at others p    what a paragraph says, behind chroots of these names
use Rattle.std.specs.Prelude.{ℕ, List, codes, Option, Some, None, Result, Ok}
use Rattle.deb_text.specs.Steps.{◌>>=◌}
use Rattle.deb_relation.specs.Common.{relations_at, Relations}
use Rattle.deb_relation.specs.declared.kind.Kind.TheVariants.{Need}
use Rattle.deb_stanza.specs.Stanza.{Paragraph, value_of}
use Rattle.deb_fields.specs.Fields.{needed_at, number_in, or_text}
use Rattle.import_wish.specs.declared.chroot.TheConstants.{MOST_CAPACITY}
use Rattle.import_wish.specs.declared.chroot.WishedChroot as declared
use Rattle.import_wish.specs.Recipe.{new_name_at}

pub record Chroot : Type 0 where
  pub name : List ℕ
  pub capacity : ℕ
  pub packages : Relations

abbrev pub chroot_view : declared.WishedChroot → Chroot
chroot_view chroot = record {
  name = chroot.name.items;
  capacity = chroot.capacity;
  packages = chroot.packages;
}

abbrev pub or_most : Option ℕ → ℕ
or_most None = MOST_CAPACITY
or_most (Some n) = n

-- absent: no limit
abbrev pub capacity_in : Option (List ℕ) → Result ℕ ℕ
capacity_in value = number_in MOST_CAPACITY value >>= λ n. Ok (or_most n)

-- absent: build-essential
unfoldable pub chroot_at : List (List ℕ) → Paragraph → Result Chroot ℕ
chroot_at others p = do
  given ← needed_at p (codes "Chroot")
  name ← new_name_at others given
  capacity ← capacity_in (value_of p (codes "Capacity"))
  packages ← relations_at Need (or_text (value_of p (codes "Packages")) (codes "build-essential"))
  Ok (record { name = name; capacity = capacity; packages = packages })
