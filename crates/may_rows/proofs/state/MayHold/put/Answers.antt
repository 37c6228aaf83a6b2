use Rattle.std.proofs.Common.{◌≡◌, ◌+◌, ◌-◌, sym, ap, subst, ◌∙◌, arith}
use Rattle.std.specs.Prelude.{slice_index}
use Rattle.clause_kernel.specs.Rows.{word_has}
use Rattle.plan_model.specs.May.{greatest_size}
use Rattle.may_rows.specs.Words.{Words, AreWords, may_of, written}
use Rattle.may_rows.proofs.Writes.{map-written, are-written, size_within, used_small, with_used}
use Rattle.may_rows.proofs.state.MayHold.put.Goals as goal

pub overflow_sub-self : goal.overflow_sub-self
overflow_sub-self c =
    let u = c.args.universe.now in
    let w = c.args.self.now in
    let used : c.self.inside.used ≡ w.used = ap (λ (v : Words). v.used) c.self.view_is in
    let before : c.greatest_size-before.result
    ≡ greatest_size u c.args.name (word_has (slice_index w.here c.args.name)) =
    c.greatest_size-before.ensures.size
    ∙ ap (λ word. greatest_size u c.args.name (word_has word)) c.here_word.ensures in
    let within = size_within u w c.requires.state c.args.name c.requires.named in
    omega (arith, used, before, within)

pub overflow_add-self : goal.overflow_add-self
overflow_add-self c =
    let used : c.self.inside.used ≡ c.args.self.now.used =
    ap (λ (v : Words). v.used) c.self.view_is in
    let small = used_small c.args.universe.now c.args.self.now c.requires.state
    c.names-names.ensures.kept in
    omega (arith, used, small, c.greatest_size-after.ensures.small)

new_is : (c : goal.After-write) → c.write.new.self
    ≡ with_used (written c.args.self.now c.args.name c.args.here c.args.ready c.args.last)
    (c.self.inside.used - c.greatest_size-before.result + c.greatest_size-after.result)
new_is c =
    c.write.ensures
    ∙ ap (λ (v : Words). with_used (written v c.args.name c.args.here c.args.ready c.args.last)
    (c.self.inside.used - c.greatest_size-before.result + c.greatest_size-after.result))
    c.self.view_is

pub returns-clause-state : goal.returns-clause-state
returns-clause-state c =
    let u = c.args.universe.now in
    let w = c.args.self.now in
    let n = c.args.name in
    let used : c.self.inside.used ≡ w.used = ap (λ (v : Words). v.used) c.self.view_is in
    let before : c.greatest_size-before.result
    ≡ greatest_size u n (word_has (slice_index w.here n)) =
    c.greatest_size-before.ensures.size
    ∙ ap (λ word. greatest_size u n (word_has word)) c.here_word.ensures in
    let within = size_within u w c.requires.state n c.requires.named in
    subst (AreWords u) (sym (new_is c))
    (are-written u w c.requires.state n c.args.here c.args.ready c.args.last c.requires.named
    c.requires.words
    (c.self.inside.used - c.greatest_size-before.result + c.greatest_size-after.result)
    (omega (arith, within, used, before, c.greatest_size-after.ensures.size)))

pub returns-clause-map : goal.returns-clause-map
returns-clause-map c =
    ap may_of (new_is c)
    ∙ map-written c.args.universe.now c.args.self.now c.requires.state c.args.name _ _ _
    c.requires.named
