-- The lines of a text by their numbers; of a line of a plan that is refused, the one that it repeats,
-- and the word that is told where it is refused for a name.
--
--   line_at text number      the line of this number, the first being 1
--   first_of words           the first of some words; no byte where there is none
--   repeated plan number     the line that the one of this number repeats
--   line_told plan fault     the same by the refusal
--   names_of u kind          the names of packages, recipes or base chroots
--   unknown_in u line        the first word that is not known, among those that a line names
--   word_told u line         the same, where there is such a line
use Rattle.std.specs.Prelude.{ℕ, ◌-◌, ◌==◌, List, [], ◌∷◌, slice_get, Option, None, if◌then◌else◌, Bool, true, false, not, ◌&&◌, ◌||◌, nat_le, drop, Some, codes, bytes_eq, find, map, option_and_then}
use Rattle.std.specs.Option.{option_and_then, option_or}
use Rattle.deb_text.specs.Common.{lines_of, Line, control_lines, words, is_name_byte, front}
use Rattle.deb_text.specs.declared.fault.Fault.{Fault}
use Rattle.deb_profile.specs.Restriction.{is_among}
use Rattle.plan_reader.specs.declared.error.TheConstants.{NAME_TAKEN, PUBLISHED_TWICE}
use Rattle.farm_model.specs.Universe.{Base, Recipe, Universe}
use Rattle.explain_faults.specs.declared.plan_lines.Kind.{Kind}

abbrev pub line_at : List ℕ → ℕ → Option (List ℕ)
line_at text number = if number == 0 then None else slice_get (lines_of text) (number - 1)

abbrev pub first_of : List (List ℕ) → List ℕ
first_of [] = []
first_of (word ∷ more) = word

-- ---- a line that repeats one

-- the first two words of a line
abbrev pub beginning : List ℕ → List ℕ × List ℕ
beginning line = (first_of (words line), first_of (drop 1 (words line)))

abbrev pub begins_so : List ℕ × List ℕ → List ℕ → Bool
begins_so begun line = bytes_eq (beginning line).0 begun.0 && bytes_eq (beginning line).1 begun.1

-- a line stands in a lane, or begins one, where the lines above were in one, or not
abbrev pub is_in_lane : Bool → List ℕ → Bool
is_in_lane above line =
    bytes_eq (beginning line).0 (codes "lane")
    || above && not (bytes_eq (beginning line).0 (codes "block"))

-- a line stands where it is looked for, in lanes or in blocks
abbrev pub is_there : Bool → Bool → Bool
is_there in_lanes in_lane = in_lane && in_lanes || not (in_lane || in_lanes)

-- the first line in lanes, or in blocks, above the one of this number that begins so
abbrev pub first_in : Bool → List ℕ × List ℕ → ℕ → Bool → List Line → Option ℕ
first_in in_lanes begun number above [] = None
first_in in_lanes begun number above (l ∷ ls) =
    if nat_le number l.0 then None
    else if is_there in_lanes (is_in_lane above l.1) && begins_so begun l.1 then Some l.0
    else first_in in_lanes begun number (is_in_lane above l.1) ls

-- the first in a lane, or else in a block, but that a `use` repeats no line of a block
abbrev pub repeated_in : List ℕ × List ℕ → ℕ → List Line → Option ℕ
repeated_in begun number ls =
    option_or (first_in true begun number false ls)
    (if bytes_eq begun.0 (codes "use") then None else first_in false begun number false ls)

unfoldable pub repeated : List ℕ → ℕ → Option ℕ
repeated plan number =
    option_and_then (λ line. repeated_in (beginning line) number (control_lines 1 plan))
    (line_at plan number)

-- of a refusal of the plan
abbrev pub line_told : List ℕ → Fault → Option ℕ
line_told plan fault =
    if fault.code == NAME_TAKEN || fault.code == PUBLISHED_TWICE then repeated plan fault.line
    else None

-- ---- a word that is not known

abbrev pub recipe_names : List Recipe → List (List ℕ)
recipe_names rs = map (λ (r : Recipe). r.name) rs

abbrev pub base_names : List Base → List (List ℕ)
base_names bs = map (λ (b : Base). b.name) bs

abbrev pub names_of : Universe → Kind → List (List ℕ)
names_of u Kind.Package = u.names
names_of u Kind.Recipe = recipe_names u.recipes
names_of u Kind.Chroot = base_names u.bases

abbrev pub first_unknown : Universe → Kind → List (List ℕ) → Option (List ℕ)
first_unknown u kind ws = find (λ word. not (is_among (names_of u kind) word)) ws

-- by the first word of the line and those behind it: a name, as at the front of `gcc(=14-1)`; of a
-- `lane` line the word behind its name and `chroot` comes first
abbrev pub unknown_by : Universe → List ℕ → List (List ℕ) → Option (List ℕ)
unknown_by u head ws =
    if bytes_eq head (codes "unpack") || bytes_eq head (codes "when")
    then first_unknown u Kind.Package (words (front is_name_byte (first_of ws)))
    else if bytes_eq head (codes "lane") then first_unknown u Kind.Chroot (drop 2 ws)
    else if bytes_eq head (codes "build") || bytes_eq head (codes "publish")
    then first_unknown u Kind.Recipe ws
    else first_unknown u Kind.Package ws

abbrev pub unknown_in : Universe → List ℕ → Option (List ℕ)
unknown_in u line = unknown_by u (first_of (words line)) (drop 1 (words line))

abbrev pub word_told : Universe → Option (List ℕ) → Option (List ℕ)
word_told u line = option_and_then (unknown_in u) line
