-- The list that is printed of a row is read again as that row.
use Rattle.std.proofs.Common.{◌≡◌, ℕ, ◌<◌, true, List, [], ◌∷◌, get_or, length, ap, ◌∙◌, zero, suc, None, Some, arith}
use Rattle.std.specs.List.{list_all}
use Rattle.std.specs.Option.{option_map}
use Rattle.std.proofs.lemmas.Bool.{and_parts}
use Rattle.std.proofs.lemmas.List.Elements.{All-weaker}
use Rattle.deb_text.specs.Words.{is_name}
use Rattle.farm_model.specs.Common.{names, Universe}
use Rattle.farm_model.specs.declared.types.Variant.{Variant}
use Rattle.farm_universe.specs.ListText.{variant_words}
use Rattle.cert_text.proofs.RowLists.{row_variants-in}
use Rattle.cert_text.specs.Rows.{IsOfUniverse, row_of_items, row_at, row_variants}
use Rattle.text_laws.specs.CertLaws.{IsSpelled, RowIsReadAgain}
use Rattle.text_laws.proofs.Lists.{IsSpelledVariant, list-again}
use Rattle.text_laws.proofs.RowVariants.{row-ordered, behind-again}
use Rattle.text_laws.proofs.RowWords.{row-words}

name-at : (ns : List (List ℕ)) (n : ℕ) → list_all is_name ns ≡ true → n < length ns
    → is_name (get_or ns n []) ≡ true
name-at [] n are lt = absurd (omega (arith, lt))
name-at (k ∷ ks) zero are lt = (and_parts (is_name k) (list_all is_name ks) are).0
name-at (k ∷ ks) (suc n) are lt =
    name-at ks n (and_parts (is_name k) (list_all is_name ks) are).1 (omega (arith, lt))

pub variant-spelled : (u : Universe) → IsSpelled u → (v : Variant) → IsOfUniverse u v
    → IsSpelledVariant u v
unfolding names
variant-spelled u spelled v is = record {
  name = name-at u.names v.name spelled.names (omega (arith, is.name, spelled.listed));
  version = spelled.versions v.name v.bit is.known;
}

pub row_is_read_again : RowIsReadAgain
unfolding row_at
row_is_read_again u row spelled new =
    let vs = row_variants u row in
    ap (row_of_items u)
    (list-again u vs (All-weaker (IsOfUniverse u) (IsSpelledVariant u) (variant-spelled u spelled)
    vs
    (row_variants-in u row)))
    ∙ ap (option_map (variant_words (names u)))
    (behind-again u spelled vs None (row-ordered u row new))
    ∙ ap Some (row-words u row new)
