use Rattle.std.proofs.Common.{◌∷◌, sym, ap, ◌∙◌, subst, ℕ}
use Rattle.std.specs.Global.{Vec}
use Rattle.std.proofs.lemmas.List.{append-nil, take_all}
use Rattle.std.specs.List.{flat_map}
use Rattle.report_sink.specs.Sinks.{IsWritten}
use Rattle.report_sink.proofs.ItemLaws.{next_written, last_written}
use Rattle.farm_report.proofs.NameLaws.{behind_space, spaced_is}
use Rattle.farm_report.proofs.lines.write_names.Goals as goal

pub loop-name-preserved : goal.loop-name-preserved
loop-name-preserved g c =
    next_written behind_space c.args.names.now c.loop-name.name-index c.name-item.result
    c.loop-name-test.true _ _ _ c.loop-name.invariant
    (subst (IsWritten (g.S.Sink.state c.loop-name.out) (g.S.Sink.state c.write_pieces.new.out))
    (ap (λ t. 32 ∷ t) (append-nil c.as_slice.result.now
    ∙ (c.as_slice.ensures.value ∙ ap (λ (v : Vec ℕ). v.items) c.name-item.is)))
    c.write_pieces.ensures.written)

pub returns-in_err-write_pieces-clause-written : goal.returns-in_err-write_pieces-clause-written
returns-in_err-write_pieces-clause-written g c =
    subst (IsWritten (g.S.Sink.state c.args.out.now) (g.S.Sink.state c.write_pieces.new.out))
    (spaced_is c.args.names.now)
    (last_written behind_space c.args.names.now c.loop-name.name-index c.name-item.result
    c.loop-name-test.true _ _ _ c.loop-name.invariant
    (subst (IsWritten (g.S.Sink.state c.loop-name.out) (g.S.Sink.state c.write_pieces.new.out))
    (ap (λ t. 32 ∷ t) (append-nil c.as_slice.result.now
    ∙ (c.as_slice.ensures.value ∙ ap (λ (v : Vec ℕ). v.items) c.name-item.is)))
    c.write_pieces.ensures.written)
    (sym c.in_err-write_pieces.ensures.told))

pub returns-clause-written : goal.returns-clause-written
returns-clause-written g c =
    subst (IsWritten (g.S.Sink.state c.args.out.now) (g.S.Sink.state c.loop-name.out))
    (ap (flat_map behind_space)
    (take_all c.loop-name.name-index c.args.names.now c.loop-name-test.false)
    ∙ spaced_is c.args.names.now)
    c.loop-name.invariant
