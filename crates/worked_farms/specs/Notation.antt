-- The shorthand in which the examples are written.
--
--   any, in_version, entry     alternatives, and an entry of one alternative
--   binary, plain              a package without relations; the same of version 1 and no size
--   frame, lane_in, lone       a farm of one empty chroot whose archive has each package; a lane; a
--                              plan of one lane
--   table_rows                 known rows: the initial archive, and more by a table
use Rattle.std.specs.Prelude.{ℕ, false, ◌-◌, ◌^◌, ◌||◌, List, [], ◌∷◌, length, map, Some, None, slice_index_or, codes}
use Rattle.deb_relation.specs.Relations.{Atom, Entry}
use Rattle.deb_relation.specs.declared.operator.Op.{Op}
use Rattle.farm_model.specs.Common.{Package, Universe, contains, initial}
use Rattle.farm_model.specs.declared.types.Variant.{Variant}
use Rattle.plan_model.specs.Common.{Lane, Plan, Rows}
use Rattle.plan_model.specs.declared.instructions.Instruction.{Instruction}

-- an alternative that takes any version of the name, and one that takes those in the relation
abbrev pub any : List ℕ → Atom
any name = record { name = name; qualifier = None; relation = None; archs = None; profiles = [] }

abbrev pub in_version : List ℕ → Op → List ℕ → Atom
in_version name op version = record {
  name = name;
  qualifier = None;
  relation = Some (op, version);
  archs = None;
  profiles = [];
}

-- an entry of one alternative
abbrev pub entry : Atom → Entry
entry atom = atom ∷ []

-- a package of this version and size in KiB, without relations
abbrev pub binary : List ℕ → ℕ → Package
binary version size = record {
  version = version;
  size = size;
  essential = false;
  pre_depends = [];
  depends = [];
  conflicts = [];
  breaks = [];
  provides = [];
}

-- the same of version 1 and no size
abbrev pub plain : Package
plain = binary (codes "1") 0

-- the word with a bit for each variant
abbrev pub all_bits : List Package → ℕ
all_bits variants = 2 ^ length variants - 1

-- a farm of these packages, all in the initial archive, and of one empty chroot that holds 100 KiB
abbrev pub frame : List (List ℕ) → List (List Package) → Universe
frame names packages = record {
  names = names;
  packages = packages;
  recipes = [];
  bases = record { name = codes "main"; capacity = 100; packages = [] } ∷ [];
  initial = map all_bits packages;
  architectures = codes "riscv64" ∷ [];
}

-- a lane of this name in the chroot of this number, with this budget
abbrev pub lane_in : List ℕ → ℕ → ℕ → List Instruction → Lane
lane_in name base budget instructions = record {
  name = name;
  base = base;
  budget = budget;
  instructions = instructions;
}

-- a plan of one lane in the first chroot, with a budget of 100
abbrev pub lone : List Instruction → Plan
lone instructions = lane_in (codes "a") 0 100 instructions ∷ []

-- known rows by lane and place: the initial archive and what the table lists
abbrev pub table_rows : Universe → List (List (List Variant)) → Rows
table_rows u table l i v =
    initial u v || contains (slice_index_or (slice_index_or table l []) i []) v
