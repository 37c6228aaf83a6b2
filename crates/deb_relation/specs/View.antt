-- What the types of the crate stand for.
use Rattle.std.specs.Prelude.{ℕ, Option}
use Rattle.deb_text.specs.Answers.{refusal_code}
use Rattle.deb_relation.specs.declared.error.RelationError.{RelationError}
use Rattle.deb_relation.specs.declared.satisfaction.Facts.{Facts}
use Rattle.deb_relation.specs.Satisfaction as spec

abbrev pub facts_of : Facts → spec.Facts
facts_of facts =
    record { name = facts.name.now; version = facts.version.now; provides = facts.provides.now }

-- the code, unless memory ran out
abbrev pub refusal_of : RelationError → Option ℕ
refusal_of error = refusal_code error.code
