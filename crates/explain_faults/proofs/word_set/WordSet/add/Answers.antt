use Rattle.std.proofs.Common.{◌≡◌, ℕ, List, ap, subst, ◌∙◌, bytes_eq}
use Rattle.deb_text.specs.Common.{with_key, lists}
use Rattle.explain_faults.proofs.SetLaws.{lists_with}
use Rattle.explain_faults.proofs.word_set.WordSet.add.Goals as goal

pub returns-in_ok-insert : goal.returns-in_ok-insert
returns-in_ok-insert c =
    subst (λ (words : List (List ℕ)). lists c.insert.new.self.keys
    ≡ with_key bytes_eq words c.args.word.now) c.self.view_is
    (ap lists c.in_ok-insert.ensures.keys
    ∙ (lists_with c.self.inside.words.keys c.in_ok-from_slice.field-0
    ∙ ap (with_key bytes_eq (lists c.self.inside.words.keys)) c.in_ok-from_slice.ensures.items))
