-- The name, the qualifier and the version relation of an alternative (Debian Policy 5.6.7 and 7.1).
-- A part is read as its value and the text behind it, or refused with a code.
--
--   name_at text            the name
--   qualifier_at text       perhaps `:` and a qualifier
--   relation_at kind text   perhaps `(operator version)`
use Rattle.std.specs.Prelude.{ℕ, Bool, true, false, not, ◌==◌, ◌&&◌, List, [], ◌∷◌, Option, Some, None, Result, Ok, Err, if◌then◌else◌}
use Rattle.std.specs.Result.{is_ok}
use Rattle.deb_text.specs.Common.{is_blank, is_name_byte, is_qualifier_byte, is_operator_byte, is_version_byte, is_nil, front, behind, ◌>>=◌, is_name}
use Rattle.deb_version.specs.Grammar.{version_at}
use Rattle.deb_relation.specs.declared.error.TheConstants.{BAD_NAME, BAD_OPERATOR, BAD_VERSION, NOT_CLOSED, NOT_EQUAL}
use Rattle.deb_relation.specs.declared.kind.Kind.{Kind}
use Rattle.deb_relation.specs.declared.operator.Op.{Op}
use Rattle.deb_relation.specs.declared.operator.Op.TheVariants.{Earlier, EarlierOrEqual, Equal, LaterOrEqual, Later}
use Rattle.deb_relation.specs.Kinds.{is_provide}
use Rattle.deb_relation.specs.Marks.{colon, less, equals, greater, open_round, close_round}

-- a value and the text behind it, or a code
abbrev pub Part : Type 0 → Type 0
Part A = Result (A × List ℕ) ℕ

-- the longest run of the bytes that a name may have
unfoldable pub name_at : List ℕ → Part (List ℕ)
name_at text =
    if is_name (front is_name_byte text) then Ok (front is_name_byte text, behind is_name_byte text)
    else Err BAD_NAME

-- `:` at once behind the name, and a qualifier that is not empty
unfoldable pub qualifier_at : List ℕ → Part (Option (List ℕ))
qualifier_at [] = Ok (None, [])
qualifier_at (b ∷ bs) =
    if b == colon then
    (if is_nil (front is_qualifier_byte bs) then Err BAD_NAME
    else Ok (Some (front is_qualifier_byte bs), behind is_qualifier_byte bs))
    else Ok (None, b ∷ bs)

-- "<<, <=, =, >= and >>"
abbrev pub operator_of : List ℕ → Option Op
operator_of [] = None
operator_of (a ∷ []) = if a == equals then Some Equal else None
operator_of (a ∷ b ∷ []) =
    if a == less && b == less then Some Earlier
    else (if a == less && b == equals then Some EarlierOrEqual
    else (if a == greater && b == equals then Some LaterOrEqual
    else (if a == greater && b == greater then Some Later else None)))
operator_of (a ∷ b ∷ c ∷ cs) = None

abbrev pub is_equal : Op → Bool
is_equal Earlier = false
is_equal EarlierOrEqual = false
is_equal Equal = true
is_equal LaterOrEqual = false
is_equal Later = false

-- Policy 7.5: a Provides has `=` alone
abbrev pub allowed : Kind → Option Op → Result Op ℕ
allowed kind None = Err BAD_OPERATOR
allowed kind (Some op) = if is_provide kind && not (is_equal op) then Err NOT_EQUAL else Ok op

-- the longest run of < = >
unfoldable pub operator_at : Kind → List ℕ → Part Op
operator_at kind text = do
  op ← allowed kind (operator_of (front is_operator_byte text))
  Ok (op, behind is_operator_byte text)

-- a version goes up to a blank or `)`, and stands as its text
unfoldable pub version_in : List ℕ → Part (List ℕ)
version_in text =
    if is_ok (version_at (front is_version_byte text))
    then Ok (front is_version_byte text, behind is_version_byte text)
    else Err BAD_VERSION

-- the closing bracket
abbrev pub closed_at : List ℕ → Result (List ℕ) ℕ
closed_at [] = Err NOT_CLOSED
closed_at (b ∷ bs) = if b == close_round then Ok bs else Err NOT_CLOSED

-- behind the `(`, blanks allowed between the parts
abbrev pub relation_in : Kind → List ℕ → Part (Option (Op × List ℕ))
relation_in kind text = do
  op ← operator_at kind (behind is_blank text)
  version ← version_in (behind is_blank op.1)
  rest ← closed_at (behind is_blank version.1)
  Ok (Some (op.0, version.0), rest)

-- "a relation from the list below followed by a version number" in brackets, or nothing
unfoldable pub relation_at : Kind → List ℕ → Part (Option (Op × List ℕ))
relation_at kind [] = Ok (None, [])
relation_at kind (b ∷ bs) = if b == open_round then relation_in kind bs else Ok (None, b ∷ bs)
