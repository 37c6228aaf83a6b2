-- A package, as its paragraph in an index says (deb-control(5), Debian Policy 5.3).
--
--   architecture_of s text     `all`, a side, or neither
--   multi_arch_at a p          the value of Multi-Arch
--   five_at p                  the relation fields
--   binary_at s a p            the package of a paragraph of this architecture, or its first fault
--   kept_at s p                the same of any paragraph; none where it is of neither side
use Rattle.std.specs.Prelude.{ℕ, Bool, true, false, ◌&&◌, ◌||◌, List, [], codes, if◌then◌else◌, Option, Some, None, Result, Ok, Err, ok_or}
use Rattle.std.specs.List.{list_any, slice_split}
use Rattle.std.specs.Str.{bytes_eq}
use Rattle.deb_text.specs.Common.{is_byte, is_blank, is_name_byte, is_nil, before, after, before_last, after_last, behind, front, trimmed, ◌>>=◌}
use Rattle.deb_relation.specs.Common.{Relations, comma, relations_at}
use Rattle.deb_relation.specs.declared.error.TheConstants.{BAD_NAME}
use Rattle.deb_relation.specs.declared.kind.Kind.{Kind}
use Rattle.deb_relation.specs.declared.kind.Kind.TheVariants.{Need, Clash, Provide}
use Rattle.deb_stanza.specs.Stanza.{Paragraph, value_of}
use Rattle.deb_fields.specs.declared.error.TheConstants.{BAD_VALUE}
use Rattle.deb_fields.specs.Fields.{name_at, needed_at, or_text, refused_if}
use Rattle.import_closure.specs.Given.{flag_in, size_in}
use Rattle.import_closure.specs.Version.{version_text_at}
use Rattle.cross_laws.specs.declared.types.Side.TheVariants.{Build, Host}
use Rattle.cross_laws.specs.declared.types.Architecture.{Architecture}
use Rattle.cross_laws.specs.declared.types.Architecture.TheVariants.{All, Of}
use Rattle.cross_laws.specs.declared.types.MultiArch.{MultiArch}
use Rattle.cross_laws.specs.declared.types.MultiArch.TheVariants.{No, Same, Foreign, Allowed}
use Rattle.cross_laws.specs.Binary.{Sides, Binary, is_same}
use Rattle.cross_laws.specs.Names.{is_taken}
use Rattle.cross_relations.specs.declared.binary.Five as declared
use Rattle.cross_index.specs.declared.error.TheConstants.{TAKEN_NAME}

-- ---- Architecture and Multi-Arch

abbrev pub architecture_of : Sides → List ℕ → Option Architecture
architecture_of s text =
    if bytes_eq text (codes "all") then Some All
    else (if bytes_eq text s.build then Some (Of Build)
    else (if bytes_eq text s.host then Some (Of Host) else None))

abbrev pub multi_arch_of : List ℕ → Result MultiArch ℕ
multi_arch_of text =
    if bytes_eq text (codes "no") then Ok No
    else (if bytes_eq text (codes "same") then Ok Same
    else (if bytes_eq text (codes "foreign") then Ok Foreign
    else (if bytes_eq text (codes "allowed") then Ok Allowed else Err BAD_VALUE)))

-- absent, it is `no`
abbrev pub multi_arch_in : Option (List ℕ) → Result MultiArch ℕ
multi_arch_in None = Ok No
multi_arch_in (Some text) = multi_arch_of text

abbrev pub is_all : Architecture → Bool
is_all All = true
is_all (Of side) = false

-- "This value must not be used for packages of architecture all" (deb-control(5), of `same`)
unfoldable pub multi_arch_at : Architecture → Paragraph → Result MultiArch ℕ
multi_arch_at a p =
    multi_arch_in (value_of p (codes "Multi-Arch"))
    >>= λ multi_arch. refused_if (is_all a && is_same multi_arch) BAD_VALUE
    >>= λ _. Ok multi_arch

-- ---- relations

pub record Five : Type 0 where
  pub pre_depends : Relations
  pub depends : Relations
  pub conflicts : Relations
  pub breaks : Relations
  pub provides : Relations

abbrev pub five_view : declared.Five → Five
five_view five = record {
  pre_depends = five.pre_depends;
  depends = five.depends;
  conflicts = five.conflicts;
  breaks = five.breaks;
  provides = five.provides;
}

-- an absent field has no entry
abbrev pub field_at : Kind → Paragraph → List ℕ → Result Relations ℕ
field_at kind p name = relations_at kind (or_text (value_of p name) [])

unfoldable pub five_at : Paragraph → Result Five ℕ
five_at p = do
  pre_depends ← field_at Need p (codes "Pre-Depends")
  depends ← field_at Need p (codes "Depends")
  conflicts ← field_at Clash p (codes "Conflicts")
  breaks ← field_at Clash p (codes "Breaks")
  provides ← field_at Provide p (codes "Provides")
  Ok (record {
    pre_depends = pre_depends;
    depends = depends;
    conflicts = conflicts;
    breaks = breaks;
    provides = provides;
  })

-- ---- names that have the form of encoded ones

abbrev pub has_taken : Sides → Relations → Bool
has_taken s relations = list_any (λ entry. list_any (λ a. is_taken s a.name) entry) relations

abbrev pub five_taken : Sides → Five → Bool
five_taken s five =
    has_taken s five.pre_depends || has_taken s five.depends || has_taken s five.conflicts
    || has_taken s five.breaks || has_taken s five.provides

-- what a text begins with, as far as it may be a name
abbrev pub leading : List ℕ → List ℕ
leading text = front is_name_byte text

abbrev pub item_taken : Sides → List ℕ → Bool
item_taken s item = is_taken s (leading (behind is_blank item))

abbrev pub items_taken : Sides → List ℕ → Bool
items_taken s value = list_any (item_taken s) (slice_split (is_byte comma) value)

-- of the package, of its source, of what it provides: whatever its architecture, and whether or not
-- it can be read
abbrev pub front_taken : Sides → Paragraph → List ℕ → Bool
front_taken s p name =
    is_taken s name
    || is_taken s (leading (or_text (value_of p (codes "Source")) []))
    || items_taken s (or_text (value_of p (codes "Provides")) [])

-- ---- Source: NAME, or NAME (VERSION) (Policy 5.6.1)

abbrev pub is_open : ℕ → Bool
is_open b = is_byte 40 b

abbrev pub is_end : ℕ → Bool
is_end b = is_byte 41 b

-- what stands before the bracket that ends a text
abbrev pub inside : List ℕ → Option (List ℕ)
inside text =
    if list_any is_end text
    then (if is_nil (after_last is_end text) then Some (before_last is_end text) else None)
    else None

abbrev pub named_judged : List ℕ → Result (Unit {0}) ℕ
named_judged text = name_at (trimmed text) >>= λ _. Ok tt

abbrev pub version_judged : List ℕ → Result (Unit {0}) ℕ
version_judged text = version_text_at text >>= λ _. Ok tt

unfoldable pub versioned_judged : List ℕ → List ℕ → Result (Unit {0}) ℕ
versioned_judged given more =
    named_judged given
    >>= λ _. ok_or (inside more) BAD_NAME
    >>= λ text. version_judged (trimmed text)

unfoldable pub source_of : List ℕ → Result (Unit {0}) ℕ
source_of text =
    if list_any is_open text then versioned_judged (before is_open text) (after is_open text)
    else named_judged text

abbrev pub source_judged : Option (List ℕ) → Result (Unit {0}) ℕ
source_judged None = Ok tt
source_judged (Some text) = source_of text

-- ---- packages

-- the source can be read, and no name in a relation is taken
unfoldable pub rest_judged : Sides → Paragraph → Five → Result (Unit {0}) ℕ
rest_judged s p five =
    source_judged (value_of p (codes "Source"))
    >>= λ _. refused_if (five_taken s five) TAKEN_NAME

-- Installed-Size and Essential are read, and stand as text alone
unfoldable pub binary_at : Sides → Architecture → Paragraph → Result Binary ℕ
binary_at s a p = do
  multi_arch ← multi_arch_at a p
  given ← needed_at p (codes "Package")
  name ← name_at given
  written ← needed_at p (codes "Version")
  version ← version_text_at written
  size ← size_in (value_of p (codes "Installed-Size"))
  essential ← flag_in (value_of p (codes "Essential"))
  five ← five_at p
  judged ← rest_judged s p five
  Ok (record {
    name = name;
    architecture = a;
    multi_arch = multi_arch;
    rest = record {
      version = version;
      size = 0;
      essential = false;
      pre_depends = five.pre_depends;
      depends = five.depends;
      conflicts = five.conflicts;
      breaks = five.breaks;
      provides = five.provides;
    };
  })

abbrev pub kept_of : Sides → Paragraph → Option Architecture → Result (Option Binary) ℕ
kept_of s p None = Ok None
kept_of s p (Some a) = binary_at s a p >>= λ b. Ok (Some b)

abbrev pub kept_named : Sides → Paragraph → Option (List ℕ) → Result (Option Binary) ℕ
kept_named s p None = Ok None
kept_named s p (Some name) =
    refused_if (front_taken s p name) TAKEN_NAME
    >>= λ _. needed_at p (codes "Architecture")
    >>= λ text. kept_of s p (architecture_of s text)

-- a paragraph without Package counts as none; one without Architecture is refused
unfoldable pub kept_at : Sides → Paragraph → Result (Option Binary) ℕ
kept_at s p = kept_named s p (value_of p (codes "Package"))
