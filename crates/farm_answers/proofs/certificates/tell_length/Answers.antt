use Rattle.std.proofs.Common.{inr, ℕ, List, ◌++◌, codes, subst, ◌∙◌, arith}
use Rattle.report_sink.specs.Sinks.{IsWritten}
use Rattle.farm_answers.proofs.certificates.tell_length.Goals as goal

pub returns : goal.returns
returns g c =
    inr (
      c.args.count,
      omega (arith, c.if-count-from.false, c.from.ensures),
      subst (λ (number : List ℕ). IsWritten (g.E.Sink.state c.args.errors.now)
          (g.E.Sink.state c.write_pieces-written.new.out)
          (codes "portfarm: a certificate of "
          ++ number ++ codes " bytes is longer than verify-cert takes\n"))
          (c.as_bytes-number.ensures.value ∙ c.format.ensures.text)
          c.write_pieces-written.ensures.written,
    )
