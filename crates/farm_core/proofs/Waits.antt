-- A wait that passes by a variant of one name.
use Rattle.std.proofs.Common.{◌≡◌, ℕ, ◌<◌, true, List, ap, ◌∙◌, sym}
use Rattle.std.specs.Prelude.{◌&&◌, slice_index}
use Rattle.deb_relation.specs.Relations.{Entry}
use Rattle.farm_model.specs.Common.{some_below, Universe, names, variant, variants, word_has, has_bit, satisfies_entry}
use Rattle.farm_model.proofs.BelowLaws.{some_below-at}
use Rattle.plan_model.specs.Turn.{passes}

pub passes_at : (u : Universe) (words : List ℕ) (e : Entry) (name word : ℕ) → name < names u
    → word ≡ slice_index words name
    → some_below (variants u name) (λ b. word_has word b && satisfies_entry u e (variant name b))
    ≡ true
    → passes u (has_bit words) e ≡ true
unfolding has_bit
passes_at u words e name word lt is some =
    some_below-at (names u)
    (λ n. some_below (variants u n)
    (λ b. has_bit words (variant n b) && satisfies_entry u e (variant n b))) name lt
    (ap (λ w. some_below (variants u name)
    (λ b. word_has w b && satisfies_entry u e (variant name b))) (sym is)
    ∙ some)
