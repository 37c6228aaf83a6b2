use Rattle.std.proofs.Common.{rules, ◌≡◌, ◌<◌, ◌≤◌, length, length-append, arith, refl, sym}
use Rattle.std.proofs.lemmas.Result.{err_from_is_err_and}
use Rattle.deb_relation.specs.Common.{entry_at, relations_at, Entry, Relations, refusal_of}
use Rattle.deb_relation.proofs.FieldLaws.{kept-goes, kept-stops, kept-ends, kept-fails, kept-whole}
use Rattle.deb_relation.proofs.HoldingLaws.{told-refused, told-some}
use Rattle.deb_profile.specs.Reduction.{entry_left, reduced, reduced_entry, reduced_at}
use Rattle.deb_profile.proofs.ReductionLaws.{entry_left-few}
use Rattle.deb_profile.proofs.reduction.reduce_text.Goals as goal

pub loop-alloc-init : goal.loop-alloc-init
unfolding reduced_at relations_at
loop-alloc-init c = record {
  within = rw c.new-entries.ensures.items (omega arith);
  so_far = rw c.new-entries.ensures.items refl;
}

pub returns-in_default : goal.returns-in_default
returns-in_default c =
    let names = c.args.names.now in
    let active = c.args.active.now in
    rw c.from_entries.ensures
    (kept-ends (entry_at c.args.kind) (reduced names active)
    (λ entry. entry_left (reduced_entry names active entry)) refl (λ _ _. refl) c.args.most _ _ _
    c.loop-alloc.invariant.so_far c.loop-alloc.invariant.within c.in_default.ensures.none)

pub returns-in_err-reduce_entry_text : goal.returns-in_err-reduce_entry_text
returns-in_err-reduce_entry_text c =
    let p = err_from_is_err_and c.from_residual.result c.from_residual.ensures.1 in
    let names = c.args.names.now in
    let active = c.args.active.now in
    let refused = told-refused (reduced_entry names active) refusal_of _
    (entry_at c.args.kind c.in-Some.entry.now) c.in_err-reduce_entry_text.ensures in
    rw (p.1, p.2)
    (kept-stops (entry_at c.args.kind) (reduced names active)
    (λ entry. entry_left (reduced_entry names active entry)) refl (λ _ _. refl) c.args.most _ _ _
    _ _ c.in-Some.ensures.entry c.loop-alloc.invariant.so_far refusal_of _ refused)

pub loop-alloc-preserved : goal.loop-alloc-preserved
loop-alloc-preserved c =
    let names = c.args.names.now in
    let active = c.args.active.now in
    let one : Entry → Relations = λ entry. entry_left (reduced_entry names active entry) in
    let entries = c.loop-alloc.entries.items in
    let count : c.len.result ≡ length entries = search (rules, c.len.ensures) in
    let room : length entries < c.args.most = omega (arith, count, c.loop-alloc-test.true) in
    let read = told-some (reduced_entry names active) (entry_at c.args.kind c.in-Some.entry.now) _
    c.in_ok-reduce_entry_text.ensures in
    let few = entry_left-few (reduced_entry names active read.0) in
    rw (c.in_ok-push_left.ensures, sym read.1.1) (record {
      within = rw (length-append entries (one read.0)) (omega (arith, room, few));
      so_far =
          kept-goes (entry_at c.args.kind) (reduced names active) one refl (λ _ _. refl) c.args.most
          entries _ _ _ _ c.in-Some.ensures.entry c.loop-alloc.invariant.so_far _ read.1.0;
    })

pub returns-in_err-judge_entries : goal.returns-in_err-judge_entries
returns-in_err-judge_entries c =
    let from = c.from_residual-in_err-judge_entries in
    let p = err_from_is_err_and from.result from.ensures.1 in
    let names = c.args.names.now in
    let active = c.args.active.now in
    rw (p.1, p.2)
    (kept-fails (entry_at c.args.kind) (reduced names active)
    (λ entry. entry_left (reduced_entry names active entry)) refl (λ _ _. refl) c.args.most _ _ _
    c.loop-alloc.invariant.so_far refusal_of _ c.in_err-judge_entries.ensures)

pub returns : goal.returns
returns c =
    let names = c.args.names.now in
    let active = c.args.active.now in
    let entries = c.loop-alloc.entries.items in
    let count : c.len.result ≡ length entries = search (rules, c.len.ensures) in
    let full : c.args.most ≤ length entries = omega (arith, count, c.loop-alloc-test.false) in
    rw c.from_entries-2.ensures
    (kept-whole (entry_at c.args.kind) (reduced names active)
    (λ entry. entry_left (reduced_entry names active entry)) refl (λ _ _. refl) c.args.most _ _ _
    c.loop-alloc.invariant.so_far c.loop-alloc.invariant.within full c.in_ok-judge_entries.ensures)
