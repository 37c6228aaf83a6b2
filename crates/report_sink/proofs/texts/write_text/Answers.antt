use Rattle.std.proofs.Common.{◌∙◌, subst, sym}
use Rattle.report_sink.proofs.WriteLaws.{IsGoing, went_on, count_is, behind}
use Rattle.report_sink.proofs.texts.write_text.Goals as goal

pub loop-rest-preserved : goal.loop-rest-preserved
loop-rest-preserved g c =
    subst
    (IsGoing (g.S.Sink.state c.args.out.now) (g.S.Sink.state c.write.new.self) c.args.text.now)
    (sym (behind c.unwrap_or-count.result c.loop-rest.rest.now))
    (went_on _ _ _ _ _ c.write.result c.unwrap_or-count.result
    (c.unwrap_or-count.ensures ∙ count_is c.write.result) c.if-count-eq0.false
    c.loop-rest.invariant c.write.ensures)
