-- The listing of a plan (the project's own format): `plan 1`, and for each lane its line, its
-- instructions and `end`. Versions stand as they were written.
--
--   instruction_text u x            an instruction
--   instruction_lines u inside xs   the lines of instructions, the first of them in a branch or not
--   listing_of u p                  the listing of a plan
use Rattle.std.specs.Prelude.{ℕ, Bool, true, false, List, [], ◌∷◌, ◌++◌, codes, slice_index_or, if◌then◌else◌}
use Rattle.std.specs.List.{flat_map}
use Rattle.std.specs.Fmt.{decimal}
use Rattle.deb_relation.specs.Spelling.{relation_text, entry_text}
use Rattle.farm_model.specs.Common.{recipe, base, Universe}
use Rattle.plan_model.specs.Plan.{Lane, Plan}
use Rattle.plan_model.specs.declared.instructions.Instruction.{Instruction}
use Rattle.plan_model.specs.declared.instructions.Instruction.TheVariants.{Unpack, Configure, Deconfigure, Remove, Build, Publish, Wait, When, Otherwise, EndWhen}

-- the name of this number
abbrev pub name_of_number : Universe → ℕ → List ℕ
name_of_number u n = slice_index_or u.names n []

-- these names, a space before each
abbrev pub names_text : Universe → List ℕ → List ℕ
names_text u members = flat_map (λ n. codes " " ++ name_of_number u n) members

-- an instruction
unfoldable pub instruction_text : Universe → Instruction → List ℕ
instruction_text u (Unpack n wanted) = codes "unpack " ++ name_of_number u n ++ relation_text wanted
instruction_text u (Configure members) = codes "configure" ++ names_text u members
instruction_text u (Deconfigure members) = codes "deconfigure" ++ names_text u members
instruction_text u (Remove members) = codes "remove" ++ names_text u members
instruction_text u (Build r) = codes "build " ++ (recipe u r).name
instruction_text u (Publish r) = codes "publish " ++ (recipe u r).name
instruction_text u (Wait e) = codes "wait " ++ entry_text e
instruction_text u (When n wanted) = codes "when " ++ name_of_number u n ++ relation_text wanted
instruction_text u Otherwise = codes "else"
instruction_text u EndWhen = codes "end"

-- the spaces in front of an instruction: two, and four inside a branch
abbrev pub margin : Bool → Instruction → List ℕ
margin inside Otherwise = codes "  "
margin inside EndWhen = codes "  "
margin inside x = if inside then codes "    " else codes "  "

-- its line
abbrev pub instruction_line : Universe → Bool → Instruction → List ℕ
instruction_line u inside x = margin inside x ++ instruction_text u x ++ codes "\n"

-- whether the next instruction stands inside a branch
abbrev pub inside_behind : Bool → Instruction → Bool
inside_behind inside (When n wanted) = true
inside_behind inside EndWhen = false
inside_behind inside x = inside

-- the lines of instructions
abbrev pub instruction_lines : Universe → Bool → List Instruction → List ℕ
instruction_lines u inside [] = []
instruction_lines u inside (x ∷ xs) =
    instruction_line u inside x ++ instruction_lines u (inside_behind inside x) xs

-- the line that opens a lane
abbrev pub lane_line : Universe → Lane → List ℕ
lane_line u l =
    codes "lane " ++ l.name ++ codes " chroot " ++ (base u l.base).name ++ codes " budget "
    ++ decimal l.budget ++ codes "\n"

-- the lines of a lane
unfoldable pub lane_text : Universe → Lane → List ℕ
lane_text u l = lane_line u l ++ instruction_lines u false l.instructions ++ codes "end\n"

-- the listing of a plan
unfoldable pub listing_of : Universe → Plan → List ℕ
listing_of u p = codes "plan 1\n" ++ flat_map (lane_text u) p
