use Rattle.std.proofs.Common.{◌||◌, Ok, ap, ◌∙◌}
use Rattle.std.proofs.Math.Bool.{or-false}
use Rattle.std.proofs.lemmas.Result.{err_from_is_err_and}
use Rattle.std.specs.List.{list_any}
use Rattle.deb_relation.specs.Restrictions.{arch_at}
use Rattle.deb_relation.specs.View.{refusal_of}
use Rattle.deb_relation.proofs.FieldLaws.{each-goes, each-stops, each-ends}
use Rattle.deb_relation.proofs.HoldingLaws.{any-known, any-open}
use Rattle.deb_relation.proofs.holding.some_matches.Goals as goal

pub returns-in_err-arch_name : goal.returns-in_err-arch_name
returns-in_err-arch_name g c =
    let is_arch = g.H.Host.is_arch c.args.host.now in
    let some = c.loop-word.some in
    let p = err_from_is_err_and c.from_residual.result c.from_residual.ensures.1 in
    rw (p.1, p.2)
    (each-stops (arch_at c.args.negated) (λ names. Ok (some || list_any is_arch names)) _ _ _ _
    c.in-Some.ensures.word c.loop-word.invariant refusal_of _ c.in_err-arch_name.ensures)

pub loop-word-preserved-then-some : goal.loop-word-preserved-then-some
loop-word-preserved-then-some g c =
    let is_arch = g.H.Host.is_arch c.args.host.now in
    let some = c.loop-word.some in
    each-goes (arch_at c.args.negated) (λ names. Ok (some || list_any is_arch names)) _ _ _ _
    c.in-Some.ensures.word c.loop-word.invariant
    (λ names. Ok (some || list_any is_arch names)) _ c.in_ok-arch_name.ensures
    (λ names. ap Ok (any-known is_arch some _ names c.if-some.true))

pub loop-word-preserved : goal.loop-word-preserved
loop-word-preserved g c =
    let is_arch = g.H.Host.is_arch c.args.host.now in
    let some = c.loop-word.some in
    let matches = c.matches-matches.result in
    each-goes (arch_at c.args.negated) (λ names. Ok (some || list_any is_arch names)) _ _ _ _
    c.in-Some.ensures.word c.loop-word.invariant
    (λ names. Ok (matches || list_any is_arch names)) _ c.in_ok-arch_name.ensures
    (λ names. ap Ok
    (any-open is_arch some _ names matches c.if-some.false c.matches-matches.ensures))

pub returns : goal.returns
returns g c =
    let is_arch = g.H.Host.is_arch c.args.host.now in
    let some = c.loop-word.some in
    each-ends (arch_at c.args.negated) (λ names. Ok (some || list_any is_arch names)) _ _
    c.in_default.ensures.none c.loop-word.invariant
    ∙ ap Ok (or-false some)
