-- A line of a plan by itself (the project's own format): blanks at its ends mean nothing, words
-- stand between blanks.
--
--   Wording, Form   what the line of an instruction says; what a line says
--   form_at line    the form of a line, or BAD_LINE
use Rattle.std.specs.Prelude.{ℕ, not, ◌&&◌, List, [], ◌∷◌, Option, Some, None, Result, Ok, Err, codes, if◌then◌else◌}
use Rattle.std.specs.List.{list_all}
use Rattle.std.specs.Option.{is_none}
use Rattle.std.specs.Str.{bytes_eq}
use Rattle.deb_text.specs.Common.{is_blank, is_solid, is_nil, front, behind, number_at, ◌>>=◌, words, is_word}
use Rattle.deb_relation.specs.Common.{alternative_at, entry_at, Atom, Entry}
use Rattle.deb_relation.specs.declared.kind.Kind.TheVariants.{Need}
use Rattle.deb_relation.specs.declared.operator.Op.{Op}
use Rattle.plan_reader.specs.declared.error.TheConstants.{BAD_LINE}

-- what the line of an instruction says, its names as they stand there
pub data Wording : Type 0 where
  -- unpack NAME, perhaps with (OP VERSION)
  UnpackForm : (name : List ℕ) (relation : Option (Op × List ℕ)) → Wording
  -- configure NAME ..
  ConfigureForm : (names : List (List ℕ)) → Wording
  -- deconfigure NAME ..
  DeconfigureForm : (names : List (List ℕ)) → Wording
  -- remove NAME ..
  RemoveForm : (names : List (List ℕ)) → Wording
  -- build RECIPE
  BuildForm : (recipe : List ℕ) → Wording
  -- publish RECIPE
  PublishForm : (recipe : List ℕ) → Wording
  -- wait ENTRY
  WaitForm : (entry : Entry) → Wording
  -- when NAME, perhaps with (OP VERSION)
  WhenForm : (name : List ℕ) (relation : Option (Op × List ℕ)) → Wording
  -- else
  ElseForm : Wording

-- what a line says
pub data Form : Type 0 where
  -- block NAME
  BlockForm : (name : List ℕ) → Form
  -- lane NAME chroot CHROOT budget NUMBER
  LaneForm : (name chroot : List ℕ) (budget : ℕ) → Form
  -- end
  EndForm : Form
  -- use BLOCK
  UseForm : (block : List ℕ) → Form
  -- an instruction
  InstructionForm : (wording : Wording) → Form

-- the first word
abbrev pub first_word : List ℕ → List ℕ
first_word line = front is_solid (behind is_blank line)

-- what stands behind the first word
abbrev pub behind_word : List ℕ → List ℕ
behind_word line = behind is_solid (behind is_blank line)

-- a lane, where its budget is a number of 1 to 15 digits
abbrev pub lane_with : List ℕ → List ℕ → Option ℕ → Result Form ℕ
lane_with name chroot (Some budget) = Ok (LaneForm name chroot budget)
lane_with name chroot None = Err BAD_LINE

-- behind `lane`: NAME chroot CHROOT budget NUMBER
abbrev pub lane_form : List (List ℕ) → Result Form ℕ
lane_form (name ∷ first ∷ chroot ∷ second ∷ budget ∷ []) =
    if is_word name && bytes_eq first (codes "chroot")
    && is_word chroot && bytes_eq second (codes "budget")
    then lane_with name chroot (number_at budget) else Err BAD_LINE
lane_form _ = Err BAD_LINE

-- behind `end`: nothing
abbrev pub end_form : List (List ℕ) → Result Form ℕ
end_form ws = if is_nil ws then Ok EndForm else Err BAD_LINE

-- behind `block`, `use`, `build` and `publish`: one word
abbrev pub one_word : List (List ℕ) → Result (List ℕ) ℕ
one_word (word ∷ []) = if is_word word then Ok word else Err BAD_LINE
one_word _ = Err BAD_LINE

-- behind `configure`, `deconfigure` and `remove`: one word at least
abbrev pub some_words : List (List ℕ) → Result (List (List ℕ)) ℕ
some_words ws = if not (is_nil ws) && list_all is_word ws then Ok ws else Err BAD_LINE

-- any fault of a relation is the line's
abbrev pub in_line : {X : Type 0} → Result X ℕ → Result X ℕ
in_line (Ok x) = Ok x
in_line (Err code) = Err BAD_LINE

-- no qualifier
abbrev pub unqualified : Atom → Result Atom ℕ
unqualified atom = if is_none atom.qualifier then Ok atom else Err BAD_LINE

-- behind `unpack` and `when`: an alternative as in a Depends field (Debian Policy 7.1)
abbrev pub piece_at : List ℕ → Result Atom ℕ
piece_at rest = in_line (alternative_at Need rest) >>= unqualified

-- behind `unpack`
abbrev pub unpack_form : List ℕ → Result Wording ℕ
unpack_form rest = piece_at rest >>= λ piece. Ok (UnpackForm piece.name piece.relation)

-- behind `when`
abbrev pub when_form : List ℕ → Result Wording ℕ
when_form rest = piece_at rest >>= λ piece. Ok (WhenForm piece.name piece.relation)

-- behind `else`: nothing
abbrev pub else_form : List (List ℕ) → Result Wording ℕ
else_form ws = if is_nil ws then Ok ElseForm else Err BAD_LINE

-- an instruction by its first word, and what stands behind it: behind `wait` an entry as in a
-- Depends field
abbrev pub wording_by : List ℕ → List ℕ → Result Wording ℕ
wording_by word rest =
    if bytes_eq word (codes "unpack") then unpack_form rest
    else (if bytes_eq word (codes "configure")
    then (some_words (words rest) >>= λ ws. Ok (ConfigureForm ws))
    else (if bytes_eq word (codes "deconfigure")
    then (some_words (words rest) >>= λ ws. Ok (DeconfigureForm ws))
    else (if bytes_eq word (codes "remove")
    then (some_words (words rest) >>= λ ws. Ok (RemoveForm ws))
    else (if bytes_eq word (codes "build")
    then (one_word (words rest) >>= λ recipe. Ok (BuildForm recipe))
    else (if bytes_eq word (codes "publish")
    then (one_word (words rest) >>= λ recipe. Ok (PublishForm recipe))
    else (if bytes_eq word (codes "wait")
    then (in_line (entry_at Need rest) >>= λ entry. Ok (WaitForm entry))
    else (if bytes_eq word (codes "when") then when_form rest
    else (if bytes_eq word (codes "else") then else_form (words rest)
    else Err BAD_LINE))))))))

-- by the first word, and what stands behind it
abbrev pub form_by : List ℕ → List ℕ → Result Form ℕ
form_by word rest =
    if bytes_eq word (codes "lane") then lane_form (words rest)
    else (if bytes_eq word (codes "end") then end_form (words rest)
    else (if bytes_eq word (codes "block")
    then (one_word (words rest) >>= λ name. Ok (BlockForm name))
    else (if bytes_eq word (codes "use")
    then (one_word (words rest) >>= λ block. Ok (UseForm block))
    else (wording_by word rest >>= λ wording. Ok (InstructionForm wording)))))

-- the form of a line, or BAD_LINE
unfoldable pub form_at : List ℕ → Result Form ℕ
form_at line = form_by (first_word line) (behind_word line)
