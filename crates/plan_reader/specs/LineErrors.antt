-- The codes of a line's faults.
--
--   code_of_line error       the code
--   refusal_of_line error    the code, unless memory ran out
use Rattle.std.specs.Prelude.{ℕ, Option}
use Rattle.deb_text.specs.Answers.{refusal_code}
use Rattle.plan_reader.specs.declared.error.LineError.{LineError}
use Rattle.plan_reader.specs.declared.error.LineError.TheVariants.{BadLine, UnknownName, NameTwice, UnknownBlock, PublishedTwice, NameTaken, OverLimit, Memory}
use Rattle.plan_reader.specs.declared.error.TheConstants.{BAD_LINE, UNKNOWN_NAME, NAME_TWICE, UNKNOWN_BLOCK, PUBLISHED_TWICE, NAME_TAKEN, OVER_LIMIT}

abbrev pub code_of_line : LineError → ℕ
code_of_line BadLine = BAD_LINE
code_of_line UnknownName = UNKNOWN_NAME
code_of_line NameTwice = NAME_TWICE
code_of_line UnknownBlock = UNKNOWN_BLOCK
code_of_line PublishedTwice = PUBLISHED_TWICE
code_of_line NameTaken = NAME_TAKEN
code_of_line OverLimit = OVER_LIMIT
code_of_line Memory = 900

-- the code, unless memory ran out
abbrev pub refusal_of_line : LineError → Option ℕ
refusal_of_line error = refusal_code (code_of_line error)
