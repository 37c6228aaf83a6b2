use Rattle.std.proofs.Common.{◌≡◌, ℕ, List, sym, subst, ◌∙◌}
use Rattle.deb_text.proofs.ListLaws.{any-lists}
use Rattle.deb_profile.specs.Restriction.{is_among}
use Rattle.explain_faults.proofs.word_set.WordSet.has.Goals as goal

pub returns : goal.returns
returns c =
    subst (λ (words : List (List ℕ)). c.contains.result ≡ is_among words c.args.word.now)
    c.self.view_is
    (c.contains.ensures ∙ sym (any-lists c.self.inside.words.keys c.args.word.now))
