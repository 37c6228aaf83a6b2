-- Refusals as members of an object, in the order of their names. The project's own format.
--
--   name_data name            an object with a name
--   refused code              the members that every refusal has
--   refusal_members           the members of a refusal
use Rattle.std.specs.Prelude.{ℕ, List, codes, map}
use Rattle.shown_text.specs.Texts.{text_data}
use Rattle.deb_text.specs.Lists.{lists}
use Rattle.deb_text.specs.declared.fault.Fault.{Fault}
use Rattle.farm_model.specs.TrapText.{trap_text}
use Rattle.farm_model.specs.declared.types.Trap.{Trap}
use Rattle.plan_reader.specs.Files.{file_name}
use Rattle.plan_verifier.specs.declared.refusal.TheConstants.{UNSAFE, UNEVEN, STUCK}
use Rattle.plan_verifier.specs.declared.refusal.Refusal.{Refusal}
use Rattle.plan_verifier.specs.declared.refusal.Refusal.TheVariants.{Text, Unsafe, Uneven, Stuck, Memory}
use Rattle.serde_json.specs.Data.{Data, Members, array, member, no_members, number, object, string, unsigned}
use Rattle.serde_json.specs.View.{items_of}
use Rattle.farm_answers.specs.declared.refusal_json.TheConstants.{WANTS_MEMORY}

abbrev pub number_data : ℕ → Data
number_data n = number (unsigned n)

abbrev pub name_member : List ℕ → Members
name_member name = member (codes "name") (text_data name) no_members

abbrev pub name_data : List ℕ → Data
name_data name = object (name_member name)

abbrev pub names_data : List (List ℕ) → Data
names_data names = array (items_of (map name_data names))

abbrev pub code_member : ℕ → Members → Members
code_member code rest = member (codes "code") (number_data code) rest

abbrev pub verdict_member : List ℕ → Members
verdict_member word = member (codes "verdict") (string word) no_members

abbrev pub refused_member : Members
refused_member = verdict_member (codes "refused")

abbrev pub refused : ℕ → Members
refused code = code_member code refused_member

abbrev pub fault_members : Fault → Members
fault_members fault =
    code_member fault.code
    (member (codes "file") (text_data (file_name fault.file))
    (member (codes "line") (number_data fault.line) refused_member))

-- with the members behind those of the place
abbrev pub at_place : ℕ → List ℕ → ℕ → Members → Members
at_place code lane instruction behind =
    code_member code
    (member (codes "instruction") (number_data instruction)
    (member (codes "lane") (text_data lane) behind))

abbrev pub place_members : ℕ → List ℕ → ℕ → Members
place_members code lane instruction = at_place code lane instruction refused_member

abbrev pub trap_members : List ℕ → ℕ → Trap → Members
trap_members lane instruction trap =
    at_place UNSAFE lane instruction
    (member (codes "trap") (string (trap_text trap)) refused_member)

abbrev pub stuck_members : List (List ℕ) → Members
stuck_members names =
    code_member STUCK (member (codes "lanes") (names_data names) refused_member)

abbrev pub refusal_members : Refusal → Members
refusal_members (Text fault) = fault_members fault
refusal_members (Unsafe name instruction trap) = trap_members name.items instruction trap
refusal_members (Uneven name instruction) = place_members UNEVEN name.items instruction
refusal_members (Stuck names) = stuck_members (lists names.items)
refusal_members Memory = refused WANTS_MEMORY
