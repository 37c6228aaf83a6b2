-- What dpkg takes an architecture for: an ABI, a C library, a system and a processor
-- (dpkg-architecture(1), Dpkg::Arch). Its tables stand in src/tables.rt, as far as names do not
-- tell.
--
--   tuple_at architecture    the four parts, if the system is known
use Rattle.std.specs.Prelude.{ℕ, Bool, List, codes, if◌then◌else◌, Option, Some, None}
use Rattle.std.specs.List.{list_any, find}
use Rattle.std.specs.Option.{option_map}
use Rattle.std.specs.Str.{bytes_eq}
use Rattle.deb_text.specs.Common.{is_byte, before_last, after_last, or_else}
use Rattle.debian_index.specs.declared.tables.TheConstants.{SYSTEMS, WHOLE}
use Rattle.debian_index.specs.declared.tuple.Tuple.{Tuple}

pub record Parts : Type 0 where
  pub abi : List ℕ
  pub library : List ℕ
  pub system : List ℕ
  pub processor : List ℕ

abbrev pub parts_of : Tuple → Parts
parts_of tuple = record {
  abi = tuple.abi.now;
  library = tuple.library.now;
  system = tuple.system.now;
  processor = tuple.processor.now;
}

-- the parts of an architecture that is named otherwise
abbrev pub whole_at : List ℕ → Option Parts
whole_at name =
    option_map
    (λ row. record { abi = row.1.now; library = row.2.now; system = row.3.now; processor = row.4.now })
    (find (λ row. bytes_eq name row.0.now) WHOLE)

-- a processor with the row of a system
abbrev pub system_at : List ℕ → List ℕ → Option Parts
system_at system processor =
    option_map
    (λ row. record { abi = row.1.now; library = row.2.now; system = row.3.now; processor = processor })
    (find (λ row. bytes_eq system row.0.now) SYSTEMS)

abbrev pub is_hyphen : ℕ → Bool
is_hyphen b = is_byte 45 b

-- a name without a hyphen is a processor with GNU's library on Linux
abbrev pub named_at : List ℕ → Option Parts
named_at name =
    if list_any is_hyphen name then system_at (before_last is_hyphen name) (after_last is_hyphen name)
    else Some record {
      abi = codes "base";
      library = codes "gnu";
      system = codes "linux";
      processor = name;
    }

abbrev pub tuple_at : List ℕ → Option Parts
tuple_at name = or_else (whole_at name) (named_at name)
