-- Each printed line is one line, and is not skipped.
use Rattle.std.proofs.Common.{◌≡◌, ℕ, ◌<◌, ◌^◌, true, false, not, List, [], ◌∷◌, ◌++◌, refl, ◌∙◌, All}
use Rattle.std.proofs.lemmas.Bool.{and_from, or_from, or_parts}
use Rattle.std.proofs.lemmas.List.Elements.{All-head, All-tail, All-weaker}
use Rattle.std.proofs.lemmas.List.Folds.{list_any-append}
use Rattle.std.specs.Fmt.{decimal}
use Rattle.std.specs.List.{list_all, list_any}
use Rattle.std.specs.Prelude.{codes, ◌==◌}
use Rattle.deb_text.proofs.AgainLaws.{is_inner, number-again, number-run, run-parts}
use Rattle.deb_text.proofs.TestLaws.{none-other}
use Rattle.deb_text.specs.Common.{is_byte, is_solid, is_skipped, is_run}
use Rattle.farm_model.specs.Common.{package_of, Universe}
use Rattle.farm_model.specs.declared.types.Variant.{Variant}
use Rattle.plan_model.specs.Plan.{Plan, lane}
use Rattle.plan_reader.specs.Listing.{name_of_number}
use Rattle.cert_text.proofs.RowLists.{row_variants-in}
use Rattle.cert_text.specs.Printed.{variant_text, more_text, list_text}
use Rattle.cert_text.specs.Rows.{IsOfUniverse, row_variants}
use Rattle.text_laws.specs.CertLaws.{IsSpelled, known_text, order_text}
use Rattle.text_laws.proofs.Items.{item-none}
use Rattle.text_laws.proofs.Lists.{IsSpelledVariant}
use Rattle.text_laws.proofs.RowAgain.{variant-spelled}
use Rattle.text_laws.proofs.TextLines.{is_kept}

abbrev IsLine : List ℕ → Type 0
IsLine text = list_any (is_byte 10) text ≡ false

inner : (bs : List ℕ) → IsLine bs → list_all is_inner bs ≡ true
inner [] none = refl
inner (b ∷ bs) none =
    let both = or_parts (b == 10) (list_any (is_byte 10) bs) none in
    rw (both.0, inner bs both.1) refl

append-line : (xs ys : List ℕ) → IsLine xs → IsLine ys → IsLine (xs ++ ys)
append-line xs ys first rest =
    list_any-append (is_byte 10) xs ys
    ∙ or_from (list_any (is_byte 10) xs) (list_any (is_byte 10) ys) first rest

run-line : (w : List ℕ) → is_run w ≡ true → IsLine w
run-line w run = none-other is_solid 10 refl w (run-parts w run).1

module _ (u : Universe) where
  variant-line : (v : Variant) → IsSpelledVariant u v → IsLine (variant_text u v)
  unfolding variant_text
  variant-line v is =
      item-none (name_of_number u v.name) (package_of u v).version is.name is.version 10
      refl refl refl
      refl

  more-line : (vs : List Variant) → All (IsSpelledVariant u) vs → IsLine (more_text u vs)
  more-line [] are = refl
  more-line (v ∷ vs) are =
      append-line (codes ", " ++ variant_text u v) (more_text u vs)
      (variant-line v (All-head (IsSpelledVariant u) v vs are))
      (more-line vs (All-tail (IsSpelledVariant u) v vs are))

  list-line : (vs : List Variant) → All (IsSpelledVariant u) vs → IsLine (list_text u vs)
  list-line [] are = refl
  list-line (v ∷ vs) are =
      append-line (codes " " ++ variant_text u v) (more_text u vs)
      (variant-line v (All-head (IsSpelledVariant u) v vs are))
      (more-line vs (All-tail (IsSpelledVariant u) v vs are))

  module _ (spelled : IsSpelled u) where
    row-line : (row : List ℕ) → IsLine (list_text u (row_variants u row))
    row-line row =
        let vs = row_variants u row in
        list-line vs
        (All-weaker (IsOfUniverse u) (IsSpelledVariant u) (variant-spelled u spelled) vs
        (row_variants-in u row))

    pub known-kept : (name : List ℕ) (number : ℕ) (row : List ℕ) → is_run name ≡ true
        → number < 10 ^ 15 → is_kept (known_text u name number row) ≡ true
    known-kept name number row run small =
        let digits = number-run (decimal number) (number-again number small) in
        let named = codes "known " ++ name in
        let line =
        append-line (named ++ codes " " ++ decimal number ++ codes ":")
        (list_text u (row_variants u row))
        (append-line (named ++ codes " " ++ decimal number) (codes ":")
        (append-line (named ++ codes " ") (decimal number)
        (append-line named (codes " ") (append-line (codes "known ") name refl (run-line name run))
        refl) (run-line (decimal number) digits)) refl)
        (row-line row) in
        and_from (list_all is_inner (known_text u name number row))
        (not (is_skipped (known_text u name number row)))
        (inner (known_text u name number row) line) refl

pub order-kept : (p : Plan) (l : ℕ) → is_run (lane p l).name ≡ true
    → is_kept (order_text p l) ≡ true
order-kept p l run =
    and_from (list_all is_inner (order_text p l)) (not (is_skipped (order_text p l)))
    (inner (order_text p l)
    (append-line (codes "order ") (lane p l).name refl (run-line (lane p l).name run)))
    refl
