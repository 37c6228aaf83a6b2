-- What recipes give.
use Rattle.std.proofs.Common.{◌≡◌, ◌==◌, ◌++◌, ◌∷◌, [], ℕ, true, List, eqb-true, subst, sym}
use Rattle.std.proofs.lemmas.Bool.{and_parts}
use Rattle.std.proofs.lemmas.List.Elements.{All-push}
use Rattle.std.proofs.lemmas.Map.Views.{Contains-from_any}
use Rattle.std.specs.List.{list_any}
use Rattle.std.specs.Prelude.{All}
use Rattle.farm_model.specs.Common.{outputs, Universe}
use Rattle.farm_model.specs.declared.types.Variant.{Variant}
use Rattle.import_farm.specs.Imported.{IsOutput, is_same}

same-is : (a b : Variant) → is_same a b ≡ true → a ≡ b
same-is a b same =
    let both = and_parts (a.name == b.name) (a.bit == b.bit) same in
    let names : a.name ≡ b.name = eqb-true a.name b.name both.0 in
    let bits : a.bit ≡ b.bit = eqb-true a.bit b.bit both.1 in
    λ i. record { name = names i; bit = bits i }

-- an output more
pub output-more : (universe : Universe) (number : ℕ) (variant : Variant) (old new : List Variant)
    → All (IsOutput universe) old → list_any (is_same variant) (outputs universe number) ≡ true
    → new ≡ old ++ variant ∷ [] → All (IsOutput universe) new
output-more universe number variant old new all gives e =
    subst (λ (variants : List Variant). All (IsOutput universe) variants) (sym e)
    (All-push (IsOutput universe) old variant all
    (number, Contains-from_any same-is variant (outputs universe number) gives))
