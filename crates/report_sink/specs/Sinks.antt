-- What a sink has taken of the bytes that it was given, and what becomes of a text that is written
-- to it. The project's own rules.
--
--   SinkState      the bytes that a sink has taken, and whether it has failed
--   IsTaken        a write takes the first of the bytes, or fails
--   IsWritten      a text is written whole, or a first part of it
use Rattle.std.specs.Prelude.{◌≡◌, ◌≤◌, ℕ, Bool, true, false, ◌&&◌, ◌||◌, ◌==◌, nat_lt, List, [], ◌++◌, length, take, Option, Result, Ok, Err}
use Rattle.std.specs.Io.KnownBytes.{Appends}

-- the bytes that were taken, where they are known
pub record SinkState : Type 0 where
  pub contents : Option (List ℕ)
  pub failed : Bool

-- how many bytes a write takes: none with an error
abbrev pub taken_count : {E : Type 0} → Result ℕ E → ℕ
taken_count (Ok count) = count
taken_count (Err error) = 0

-- an error, or a count of 0 for bytes that are not empty
abbrev pub is_refused : {E : Type 0} → List ℕ → Result ℕ E → Bool
is_refused bytes (Ok count) = (count == 0) && nat_lt 0 (length bytes)
is_refused bytes (Err error) = true

-- A write of these bytes
pub record IsTaken {E : Type 0} (old new : SinkState) (bytes : List ℕ) (answer : Result ℕ E)
    : Type 0 where
  -- takes the first of them, and no others;
  pub within : taken_count answer ≤ length bytes
  pub appended : Appends old.contents new.contents (take (taken_count answer) bytes)
  -- and the sink has failed from the first write on that is refused.
  pub failed : new.failed ≡ (old.failed || is_refused bytes answer)

-- Of a text that is written
pub record IsWritten (old new : SinkState) (text : List ℕ) : Type 0 where
  -- a first part is taken,
  pub taken : List ℕ
  pub left : List ℕ
  pub is_part : text ≡ taken ++ left
  pub appended : Appends old.contents new.contents taken
  -- which is all of it, unless the sink has failed;
  pub whole : new.failed ≡ false → left ≡ []
  -- and a sink that had failed before is as it was.
  pub not_again : old.failed ≡ true → new ≡ old
