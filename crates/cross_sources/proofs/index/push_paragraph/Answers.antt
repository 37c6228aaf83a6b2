use Rattle.std.proofs.Common.{List, ◌++◌, ℕ, refl, ap, ◌∙◌, append_assoc}
use Rattle.cross_sources.proofs.index.push_paragraph.Goals as goal

pub returns : goal.returns
returns c =
    let first = c.in_ok-push_side.ensures in
    let then = c.in_ok-push_side-2.ensures in (
      first.0 ++ then.0,
      then.1 ∙ ap (λ (text : List ℕ). text ++ then.0) first.1
          ∙ append_assoc c.args.made.now.text.items first.0 then.0,
      (c.in_ok-judge_name.ensures, first.0, then.0, refl, first.2, then.2),
    )
