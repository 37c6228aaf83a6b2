use Rattle.std.proofs.Common.{◌<◌, ◌++◌, ◌∷◌, [], length, sym, ap, ◌∙◌, append_assoc, rules}
use Rattle.plan_reader.specs.BlockTable.{part_steps}
use Rattle.plan_reader.proofs.TurnLaws.{step-left, use-left, step-turns, use-turns, top-known, rest-known, use-known}
use Rattle.plan_reader.proofs.blocks.take_turn.Goals as goal

pub bounds-steps-i : goal.bounds-steps-i
bounds-steps-i g c =
    top-known c.args.rows.now c.args.left.now.items (length c.args.steps.now)
    (length c.args.rows.now) _ (rw c.in-Step.is at c.requires.known)

pub offset_bounds-steps-i : goal.offset_bounds-steps-i
offset_bounds-steps-i g c =
    let lt : c.in-Step.i < length c.args.steps.now =
    top-known c.args.rows.now c.args.left.now.items (length c.args.steps.now)
    (length c.args.rows.now) _ (rw c.in-Step.is at c.requires.known) in
    search (rules, lt)

pub bounds-rows-b : goal.bounds-rows-b
bounds-rows-b g c =
    top-known c.args.rows.now c.args.left.now.items (length c.args.steps.now)
    (length c.args.rows.now) _ (rw c.in-Use.is at c.requires.known)

pub offset_bounds-rows-b : goal.offset_bounds-rows-b
offset_bounds-rows-b g c =
    let lt : c.in-Use.b < length c.args.rows.now =
    top-known c.args.rows.now c.args.left.now.items (length c.args.steps.now)
    (length c.args.rows.now) _ (rw c.in-Use.is at c.requires.known) in
    search (rules, lt)

pub returns-in_ok-push-in-Step-clause-same : goal.returns-in_ok-push-in-Step-clause-same
returns-in_ok-push-in-Step-clause-same g c =
    let rows = c.args.rows.now in
    let rest = c.args.left.now.items in
    let steps = c.args.steps.now in
    let x = c.index-steps-i.result in
    let lt = top-known rows rest (length steps) (length rows) _
    (rw c.in-Step.is at c.requires.known) in
    rw (c.in_ok-push-in-Step.ensures.items, c.in_ok-copy-in-Step.ensures, c.in-Step.is)
    (append_assoc c.args.out.now.items (x ∷ []) (part_steps steps rows rest)
    ∙ ap (λ ys. c.args.out.now.items ++ ys)
    (sym (step-left rows rest steps c.in-Step.i x lt c.index-steps-i.is)))

pub returns-in_ok-push-in-Step-clause-less : goal.returns-in_ok-push-in-Step-clause-less
returns-in_ok-push-in-Step-clause-less g c =
    rw c.in-Step.is (step-turns c.args.rows.now c.args.left.now.items c.in-Step.i)

pub returns-in_ok-push-in-Step-clause-known : goal.returns-in_ok-push-in-Step-clause-known
returns-in_ok-push-in-Step-clause-known g c =
    rest-known c.args.rows.now c.args.left.now.items (length c.args.steps.now)
    (length c.args.rows.now) c.args.next c.requires.known

pub returns-in_ok-extend_from_slice-in-Use-clause-same :
    goal.returns-in_ok-extend_from_slice-in-Use-clause-same
returns-in_ok-extend_from_slice-in-Use-clause-same g c =
    let rows = c.args.rows.now in
    let rest = c.args.left.now.items in
    let steps = c.args.steps.now in
    let lt = top-known rows rest (length steps) (length rows) _
    (rw c.in-Use.is at c.requires.known) in
    rw (c.in_ok-extend_from_slice-in-Use.ensures.items, c.deref.ensures.value, c.in-Use.is)
    (ap (λ ys. c.args.out.now.items ++ ys)
    (sym (use-left rows rest steps (length steps) _ c.in-Use.b
    c.requires.table lt)))

pub returns-in_ok-extend_from_slice-in-Use-clause-less :
    goal.returns-in_ok-extend_from_slice-in-Use-clause-less
returns-in_ok-extend_from_slice-in-Use-clause-less g c =
    let rows = c.args.rows.now in
    let rest = c.args.left.now.items in
    let m = length c.args.steps.now in
    let lt = top-known rows rest m (length rows) _ (rw c.in-Use.is at c.requires.known) in
    rw (c.in_ok-extend_from_slice-in-Use.ensures.items, c.deref.ensures.value, c.in-Use.is)
    (use-turns rows rest m _ c.in-Use.b c.requires.table lt)

pub returns-in_ok-extend_from_slice-in-Use-clause-known :
    goal.returns-in_ok-extend_from_slice-in-Use-clause-known
returns-in_ok-extend_from_slice-in-Use-clause-known g c =
    let rows = c.args.rows.now in
    let rest = c.args.left.now.items in
    let m = length c.args.steps.now in
    let lt = top-known rows rest m (length rows) _ (rw c.in-Use.is at c.requires.known) in
    rw (c.in_ok-extend_from_slice-in-Use.ensures.items, c.deref.ensures.value)
    (use-known rows rest m _ c.in-Use.b c.requires.table lt
    (rest-known rows rest m (length rows) c.args.next c.requires.known))
