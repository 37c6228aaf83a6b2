use Rattle.std.proofs.Common.{◌≡◌, ◌++◌, drop, map}
use Rattle.stage_answers.specs.Answers.{gifts_of, needs_of}
use Rattle.stage_answers.proofs.task.plain_builds.Given as goal

abbrev pub invariant-loop-way : goal.invariant-loop-way
invariant-loop-way l = record {
  needs : needs_of l.builds.items ++ map (λ way. way.needs.items) (drop l.way-index l.ways)
      ≡ map (λ way. way.needs.items) l.ways;
  gives : gifts_of l.builds.items ++ map (λ way. way.outputs.items) (drop l.way-index l.ways)
      ≡ map (λ way. way.outputs.items) l.ways;
}
