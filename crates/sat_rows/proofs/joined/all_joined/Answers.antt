use Rattle.std.proofs.Common.{◌∙◌, ℕ, ◌+◌, List, [], ◌∷◌, length, length-append, inl, inr, sym, ap, subst, arith}
use Rattle.std.proofs.lemmas.Bool.{cases_lt}
use Rattle.std.proofs.lemmas.List.{get_or_past}
use Rattle.sat_rows.specs.declared.found.NumberWord.{NumberWord}
use Rattle.sat_rows.specs.Links.{nth_list, AreJoined}
use Rattle.sat_rows.proofs.Gathered.{each_next}
use Rattle.sat_rows.proofs.JoinLaws.{joined_none}
use Rattle.sat_rows.proofs.joined.all_joined.Goals as goal

pub loop-name-preserved : goal.loop-name-preserved
loop-name-preserved c =
    let so_far = c.loop-name.invariant in
    let xs = c.loop-name.joined.items in
    let x = c.in_ok-joined_name.field-0 in
    let P = λ (n : ℕ) (lists : List (List NumberWord)).
    AreJoined (nth_list c.args.by_name.now n) c.args.by_entry.now lists in
    let here = subst (λ n. P n x) (sym so_far.0)
    (subst (λ es. AreJoined es c.args.by_entry.now x) c.words_at-entries.ensures
    c.in_ok-joined_name.ensures) in
    let long = length-append xs (x ∷ []) in (
      rw c.in_ok-push.ensures.items (long ∙ ap (λ k. k + 1) so_far.0),
      λ n lt. rw c.in_ok-push.ensures.items
          (each_next P xs x [] so_far.1 here n
          (let top = ap length c.in_ok-push.ensures.items ∙ long in omega (arith, lt, top))),
    )

pub returns : goal.returns
returns c n =
    let lists = c.loop-name.joined.items in
    elim (cases_lt n (length lists)) [
      | inl lt ↦ c.loop-name.invariant.1 n lt
      | inr past ↦
          subst (AreJoined (nth_list c.args.by_name.now n) c.args.by_entry.now)
          (sym (get_or_past lists n [] past))
          (joined_none (nth_list c.args.by_name.now n) c.args.by_entry.now)
    ]
