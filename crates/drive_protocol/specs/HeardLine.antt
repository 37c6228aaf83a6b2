-- What is heard of a driver, by the next of its bytes up to a line end.
--
--   heard p bytes     what they say: a line without its end may be the first part of another
use Rattle.std.specs.Prelude.{ℕ, ◌-◌, List, length, take, if◌then◌else◌}
use Rattle.std.specs.Io.BufRead.{ends_with_byte}
use Rattle.drive_protocol.specs.declared.input.Heard.{Heard}
use Rattle.drive_protocol.specs.declared.input.Heard.TheVariants.{Line, End}
use Rattle.drive_protocol.specs.AnswerText.{answer_of}
use Rattle.plan_model.specs.Plan.{Plan}

-- a whole line is an answer; else nothing more comes
abbrev pub heard : Plan → List ℕ → Heard
heard p bytes =
    if ends_with_byte 10 bytes then Line (answer_of p (take (length bytes - 1) bytes)) else End
