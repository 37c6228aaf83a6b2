use Rattle.std.proofs.Common.{◌≡◌, sym, subst}
use Rattle.plan_model.specs.declared.instructions.Instruction.TheVariants.{Unpack, Configure, Deconfigure, Remove}
use Rattle.may_rows.specs.Walk.{Answers, AreWordsFor}
use Rattle.may_rows.specs.Words.{may_of}
use Rattle.may_rows.proofs.instruction.go_on.Goals as goal

pub returns-in-Unpack-clause-answer : goal.returns-in-Unpack-clause-answer
returns-in-Unpack-clause-answer c known there of words =
    let u = c.args.of.universe.now in
    let here : AreWordsFor u known there (Unpack c.in-Unpack.name c.in-Unpack.relation)
    c.args.words =
    subst (λ x. AreWordsFor u known there x c.args.words) c.in-Unpack.is words in
    subst (λ x. Answers u c.args.of.lane.now known there (may_of c.args.state.now) x
    (may_of c.unpack.new.state) c.unpack.result) (sym c.in-Unpack.is)
    (c.unpack.ensures.answer known there of here.0 here.1)

pub returns-in-Configure-clause-answer : goal.returns-in-Configure-clause-answer
returns-in-Configure-clause-answer c known there of words =
    let same : Configure c.as_slice.result.now ≡ c.args.instruction.now =
    cc (c.as_slice.ensures, c.in-Configure.is) in
    subst (λ x. Answers c.args.of.universe.now c.args.of.lane.now known there
    (may_of c.args.state.now) x
    (may_of c.configure.new.state) c.configure.result) same (c.configure.ensures.answer known there)

pub returns-in-Deconfigure-clause-answer : goal.returns-in-Deconfigure-clause-answer
returns-in-Deconfigure-clause-answer c known there of words =
    let same : Deconfigure c.as_slice-in-Deconfigure.result.now ≡ c.args.instruction.now =
    cc (c.as_slice-in-Deconfigure.ensures, c.in-Deconfigure.is) in
    subst (λ x. Answers c.args.of.universe.now c.args.of.lane.now known there
    (may_of c.args.state.now) x
    (may_of c.deconfigure.new.state) c.deconfigure.result) same
    (c.deconfigure.ensures.answer known there)

pub returns-in-Remove-clause-answer : goal.returns-in-Remove-clause-answer
returns-in-Remove-clause-answer c known there of words =
    let same : Remove c.as_slice-in-Remove.result.now ≡ c.args.instruction.now =
    cc (c.as_slice-in-Remove.ensures, c.in-Remove.is) in
    subst (λ x. Answers c.args.of.universe.now c.args.of.lane.now known there
    (may_of c.args.state.now) x
    (may_of c.remove.new.state) c.remove.result) same (c.remove.ensures.answer known there)

pub returns-in-Build-clause-answer : goal.returns-in-Build-clause-answer
returns-in-Build-clause-answer c known there of words =
    subst (λ x. Answers c.args.of.universe.now c.args.of.lane.now known there
    (may_of c.args.state.now) x
    (may_of c.build.new.state) c.build.result) (sym c.in-Build.is)
    (c.build.ensures.answer known there)

pub returns-in-Publish-clause-answer : goal.returns-in-Publish-clause-answer
returns-in-Publish-clause-answer c known there of words =
    subst (λ x. Answers c.args.of.universe.now c.args.of.lane.now known there
    (may_of c.args.state.now) x
    (may_of c.publish.new.state) c.publish.result) (sym c.in-Publish.is)
    (c.publish.ensures.answer known there)
