use Rattle.std.proofs.Common.{rules, ◌≡◌, ◌<◌, ◌≤◌, ◌∷◌, [], length, length-append, arith, refl}
use Rattle.std.proofs.lemmas.Result.{err_from_is_err_and}
use Rattle.deb_relation.specs.Field.{entry_at, relations_at, first_relations_at}
use Rattle.deb_relation.specs.View.{refusal_of}
use Rattle.deb_relation.proofs.FieldLaws.{kept-goes, kept-stops, kept-ends, kept-fails, kept-whole}
use Rattle.deb_relation.proofs.field.read_first.Goals as goal

pub loop-alloc-init : goal.loop-alloc-init
unfolding first_relations_at relations_at
loop-alloc-init c = record {
  within = rw c.new-entries.ensures.items (omega arith);
  so_far = rw c.new-entries.ensures.items refl;
}

pub returns-in_default : goal.returns-in_default
returns-in_default c =
    let so_far = c.loop-alloc.invariant.so_far in
    kept-ends (entry_at c.args.kind) (λ ys. ys) (λ y. y ∷ []) refl (λ _ _. refl) c.args.most _ _ _
    so_far c.loop-alloc.invariant.within c.in_default.ensures.none

pub returns-in_err-parse : goal.returns-in_err-parse
returns-in_err-parse c =
    let p = err_from_is_err_and c.from_residual.result c.from_residual.ensures.1 in
    rw (p.1, p.2)
    (kept-stops (entry_at c.args.kind) (λ ys. ys) (λ y. y ∷ []) refl (λ _ _. refl) c.args.most _ _ _
    _ _ c.in-Some.ensures.entry c.loop-alloc.invariant.so_far refusal_of _ c.in_err-parse.ensures)

pub loop-alloc-preserved : goal.loop-alloc-preserved
loop-alloc-preserved c =
    let entries = c.loop-alloc.entries.items in
    let count : c.len.result ≡ length entries = search (rules, c.len.ensures) in
    let room : length entries < c.args.most = omega (arith, count, c.loop-alloc-test.true) in
    rw c.in_ok-push.ensures.items (record {
      within = rw (length-append entries (c.in_ok-parse.field-0 ∷ [])) (omega (arith, room));
      so_far =
          kept-goes (entry_at c.args.kind) (λ ys. ys) (λ y. y ∷ []) refl (λ _ _. refl) c.args.most
          entries _ _ _ _ c.in-Some.ensures.entry c.loop-alloc.invariant.so_far _
          c.in_ok-parse.ensures;
    })

pub returns-in_err-judge_entries : goal.returns-in_err-judge_entries
returns-in_err-judge_entries c =
    let from = c.from_residual-in_err-judge_entries in
    let p = err_from_is_err_and from.result from.ensures.1 in
    rw (p.1, p.2)
    (kept-fails (entry_at c.args.kind) (λ ys. ys) (λ y. y ∷ []) refl (λ _ _. refl) c.args.most _ _ _
    c.loop-alloc.invariant.so_far refusal_of _ c.in_err-judge_entries.ensures)

pub returns : goal.returns
returns c =
    let entries = c.loop-alloc.entries.items in
    let count : c.len.result ≡ length entries = search (rules, c.len.ensures) in
    let full : c.args.most ≤ length entries = omega (arith, count, c.loop-alloc-test.false) in
    kept-whole (entry_at c.args.kind) (λ ys. ys) (λ y. y ∷ []) refl (λ _ _. refl) c.args.most _ _ _
    c.loop-alloc.invariant.so_far c.loop-alloc.invariant.within full c.in_ok-judge_entries.ensures
