use Rattle.std.proofs.Common.{◌∙◌, arith}
use Rattle.std.specs.List.{range_with_len}
use Rattle.farm_model.specs.Packages.{variants}
use Rattle.known_rows.proofs.PastLaws.{each_next}
use Rattle.cert_writer.specs.declared.carried.Spelled.{Spelled}
use Rattle.cert_writer.specs.Carried.{IsSpelled}
use Rattle.cert_writer.proofs.Spellings.{none-spelled}
use Rattle.cert_writer.proofs.carried.Carried.new.Goals as goal

pub loop-preserved : goal.loop-preserved
loop-preserved c =
    let u = c.args.universe.now in
    let so_far = c.loop.invariant in
    let n = c.loop.counter in
    let none : Spelled = record { word = 0; text = c.new.result } in (
      omega (arith, c.in_ok-push.ensures.len, so_far.0),
      each_next (IsSpelled u) c.loop.spelled.items c.push.new.self.items n none
          c.in_ok-push.ensures.items so_far.0 so_far.1
          (c.new.ensures.items ∙ none-spelled u (range_with_len 0 (variants u n)) n),
    )
