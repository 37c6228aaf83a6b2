-- What the types of the crate stand for, and what they answer.
use Rattle.std.specs.Prelude.{ℕ, Option}
use Rattle.std.specs.Option.{option_map}
use Rattle.deb_text.specs.Answers.{refusal_code}
use Rattle.deb_version.specs.declared.error.VersionError.{VersionError}
use Rattle.deb_version.specs.declared.grammar.Pieces.{Pieces}
use Rattle.deb_version.specs.Grammar as grammar

-- the code of a refusal, unless memory ran out
abbrev pub refusal_of : VersionError → Option ℕ
refusal_of error = refusal_code error.code

abbrev pub pieces_view : Pieces → grammar.Pieces
pieces_view pieces = record {
  epoch = option_map (λ epoch. epoch.now) pieces.epoch;
  upstream = pieces.upstream.now;
  revision = option_map (λ revision. revision.now) pieces.revision;
}
