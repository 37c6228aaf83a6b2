use Rattle.std.proofs.Common.{◌||◌, take, sym, ap, ◌∙◌, arith}
use Rattle.std.specs.List.{list_any}
use Rattle.std.proofs.Math.Bool.{or-false}
use Rattle.std.proofs.lemmas.List.{take_all}
use Rattle.plan_model.specs.Known.{gives}
use Rattle.known_rows.proofs.ArchiveRows.{row_same, row_more}
use Rattle.plan_verifier.proofs.possible.add_lane.Goals as goal

pub loop-instruction-init : goal.loop-instruction-init
loop-instruction-init c = (
  c.requires.row,
  λ test is. row_same c.args.universe.now test _ c.args.row.now (λ v. sym (or-false (test v))) is,
)

pub loop-instruction-preserved : goal.loop-instruction-preserved
loop-instruction-preserved c =
    let u = c.args.universe.now in
    let xs = c.instructions-instructions.result.now in
    let i = c.loop-instruction.instruction-index in (
      c.in_ok-add_outputs.ensures.long,
      λ test is. row_more u test (λ x w. gives u w x) xs i c.instruction-item.result
          c.add_outputs.new.row c.loop-instruction-test.true c.instruction-item.is
          (c.in_ok-add_outputs.ensures.added (λ w. test w || list_any (gives u w) (take i xs))
          (c.loop-instruction.invariant.1 test is)),
    )

pub returns-clause-added : goal.returns-clause-added
returns-clause-added c =
    let u = c.args.universe.now in
    let xs = c.instructions-instructions.result.now in
    λ test is. row_same u _ _ c.loop-instruction.row
    (λ v. ap (λ ys. test v || list_any (gives u v) ys)
    (take_all c.loop-instruction.instruction-index xs (omega arith)
    ∙ c.instructions-instructions.ensures))
    (c.loop-instruction.invariant.1 test is)
