-- A chain of two legs, worked out. In the first one libgmp and its manual are built with a gcc that
-- is there from the start; then the run stops. The manual is withdrawn, make comes in by hand, and
-- the second farm, with numbers of its own, builds gcc anew.
--
--   first, first_plan, stopped            the first farm, its plan, and the state it stops at
--   brought, withdrawn, wishes            what is said ahead of the second leg
--   wanted, second, second_plan, ended    the farm that is wanted, what is left of it, its end
--   built_wishes, built_second             the same if gcc is built, and not published yet
--   lacking, repeating                    farms that do not go on: libgmp is lost; the manual is given
--                                         again
use Rattle.std.specs.Prelude.{◌≡◌, ℕ, true, false, List, [], ◌∷◌, None, codes}
use Rattle.deb_relation.specs.Common.{Entry}
use Rattle.farm_model.specs.declared.types.Variant.{Variant}
use Rattle.farm_model.specs.Common.{Package, Recipe, Base, Universe, variant}
use Rattle.plan_model.specs.declared.instructions.Instruction.{Instruction}
use Rattle.plan_model.specs.declared.instructions.Instruction.TheVariants.{Unpack, Configure, Build, Publish, Wait}
use Rattle.plan_model.specs.Common.{Lane, Plan, State, archive, is_finished, result_of}
use Rattle.leg_laws.specs.Named.{Item}
use Rattle.leg_laws.specs.Continuation.{IsContinuation}
use Rattle.leg_laws.specs.Left.{Wishes, IsLeft}

-- a package without relations or size
abbrev pub plain : List ℕ → Package
plain version = record {
  version = version;
  size = 0;
  essential = false;
  pre_depends = [];
  depends = [];
  conflicts = [];
  breaks = [];
  provides = [];
}

-- any version of the name
abbrev pub any : List ℕ → Entry
any name =
    record { name = name; qualifier = None; relation = None; archs = None; profiles = [] } ∷ []

abbrev pub gcc : Entry
gcc = any (codes "gcc")

abbrev pub libgmp : Entry
libgmp = any (codes "libgmp")

-- one empty chroot
abbrev pub empty : List Base
empty = record { name = codes "main"; capacity = 100; packages = [] } ∷ []

abbrev pub recipe_of : List ℕ → List Entry → List Variant → Recipe
recipe_of name needs outputs = record {
  name = name;
  steps = 10;
  scratch = 0;
  needs = needs;
  clashes = [];
  outputs = outputs;
}

-- gcc 1 is there; libgmp 1 and its manual, and gcc 2, are to be built
abbrev pub first : Universe
first = record {
  names = codes "gcc" ∷ codes "libgmp" ∷ codes "manual" ∷ [];
  packages =
      (plain (codes "1") ∷ plain (codes "2") ∷ []) ∷ (plain (codes "1") ∷ [])
      ∷ (plain (codes "1") ∷ []) ∷ [];
  recipes =
      recipe_of (codes "gmp") (gcc ∷ []) (variant 1 0 ∷ variant 2 0 ∷ [])
      ∷ recipe_of (codes "full") (gcc ∷ libgmp ∷ []) (variant 0 1 ∷ []) ∷ [];
  bases = empty;
  initial = 1 ∷ 0 ∷ 0 ∷ [];
  architectures = codes "riscv64" ∷ [];
}

abbrev pub lane_of : List Instruction → Lane
lane_of instructions =
    record { name = codes "a"; base = 0; budget = 100; instructions = instructions }

abbrev pub first_plan : Plan
first_plan =
    lane_of (Wait libgmp ∷ Unpack 0 None ∷ Configure (0 ∷ []) ∷ Unpack 1 None
    ∷ Configure (1 ∷ []) ∷ Build 1 ∷ Publish 1 ∷ [])
    ∷ lane_of (Unpack 0 None ∷ Configure (0 ∷ []) ∷ Build 0 ∷ Publish 0 ∷ []) ∷ []

-- the second lane has ended, and the first one has unpacked gcc
abbrev pub stopped : State
stopped = (result_of first first_plan (1 ∷ 1 ∷ 1 ∷ 1 ∷ 1 ∷ 0 ∷ 0 ∷ [])).state

abbrev pub brought : List Item
brought = record { name = codes "make"; version = codes "1" } ∷ []

abbrev pub withdrawn : List Item
withdrawn = record { name = codes "manual"; version = codes "1" } ∷ []

abbrev pub wishes : Wishes
wishes = record { without = []; again = []; done = []; built = [] }

-- a farm that counts names in another order and writes the version of libgmp otherwise
abbrev pub with_recipes : List Recipe → List ℕ → Universe
with_recipes recipes initial = record {
  names = codes "make" ∷ codes "libgmp" ∷ codes "gcc" ∷ codes "manual" ∷ [];
  packages =
      (plain (codes "1") ∷ []) ∷ (plain (codes "0:1") ∷ [])
      ∷ (plain (codes "1") ∷ plain (codes "2") ∷ []) ∷ (plain (codes "1") ∷ []) ∷ [];
  recipes = recipes;
  bases = empty;
  initial = initial;
  architectures = codes "riscv64" ∷ [];
}

abbrev pub full : Recipe
full = recipe_of (codes "full") (gcc ∷ libgmp ∷ []) (variant 2 1 ∷ [])

abbrev pub wanted : Universe
wanted =
    with_recipes (recipe_of (codes "gmp") (gcc ∷ []) (variant 1 0 ∷ []) ∷ full ∷ [])
    (0 ∷ 0 ∷ 0 ∷ 0 ∷ [])

abbrev pub second : Universe
second = with_recipes (full ∷ []) (1 ∷ 1 ∷ 1 ∷ 0 ∷ [])

-- the build of gcc has ended: it costs and wants nothing more
abbrev pub built_wishes : Wishes
built_wishes = record wishes { built = codes "full" ∷ [] }

abbrev pub built_second : Universe
built_second = with_recipes (record full { steps = 0; needs = [] } ∷ []) (1 ∷ 1 ∷ 1 ∷ 0 ∷ [])

abbrev pub second_plan : Plan
second_plan =
    lane_of (Unpack 2 None ∷ Configure (2 ∷ []) ∷ Unpack 1 None ∷ Configure (1 ∷ []) ∷ Build 0
    ∷ Publish 0 ∷ []) ∷ []

abbrev pub ended : State
ended = (result_of second second_plan (0 ∷ 0 ∷ 0 ∷ 0 ∷ 0 ∷ 0 ∷ [])).state

abbrev pub lacking : Universe
lacking = with_recipes (full ∷ []) (1 ∷ 0 ∷ 1 ∷ 0 ∷ [])

abbrev pub repeating : Universe
repeating =
    with_recipes (recipe_of (codes "full") (gcc ∷ libgmp ∷ []) (variant 2 1 ∷ variant 3 0 ∷ []) ∷ [])
    (1 ∷ 1 ∷ 1 ∷ 0 ∷ [])

-- Of the two legs:
pub record IsWorkedOut : Type 0 where
  -- the first stops without a trap, and not at its end;
  pub no_trap : (result_of first first_plan (1 ∷ 1 ∷ 1 ∷ 1 ∷ 1 ∷ 0 ∷ 0 ∷ [])).stop ≡ None
  pub stops : is_finished first_plan stopped ≡ false
  -- the second goes on from there, with the recipe that is left;
  pub continues : IsContinuation first stopped brought withdrawn second
  pub left : IsLeft first stopped brought withdrawn wishes wanted second
  pub left_built : IsLeft first stopped brought withdrawn built_wishes wanted built_second
  -- it comes to its end, and then gcc 2 is there, and libgmp of the first leg.
  pub ends : is_finished second_plan ended ≡ true
  pub gcc_there : archive second ended.published (variant 2 1) ≡ true
  pub libgmp_there : archive second ended.published (variant 1 0) ≡ true
