use Rattle.std.proofs.Common.{rules, sym, ◌∙◌}
use Rattle.deb_text.proofs.ListLaws.{bytes-same}
use Rattle.plan_reader.proofs.PartLaws.{says-again}
use Rattle.plan_reader.proofs.again.known_at.Goals as goal

pub returns-in-Ok-Instruction-default-Ok : goal.returns-in-Ok-Instruction-default-Ok
returns-in-Ok-Instruction-default-Ok c u all =
    let known = c.in-Ok-Instruction-default-Ok in
    says-again u c.args.lines.now c.args.first c.args.read.now c.args.place
    c.index-read-place.result c.args.line.now known.standing known.instruction
    c.if-place-read.false c.index-read-place.is (search rules)
    (sym c.line.ensures ∙ bytes-same _ _ (sym c.is_same.ensures ∙ c.if-not-is_same.false)) all
