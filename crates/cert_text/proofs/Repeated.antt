-- Items that are kept for the line behind them.
use Rattle.std.proofs.Common.{◌++◌, List, [], length, sym, subst}
use Rattle.std.proofs.Math.Seq.{drop-append_seam}
use Rattle.std.proofs.lemmas.List.{append-nil}
use Rattle.std.proofs.lemmas.List.Elements.{All-drop}
use Rattle.farm_model.specs.Universe.{Universe}
use Rattle.cert_text.specs.Items.{IsSaid, SaidText, EachIsSaid}

module _ (u : Universe) (earlier later : List SaidText) where
  -- those of the line that ends
  pub later-said : EachIsSaid u (earlier ++ later) → EachIsSaid u (later ++ [])
  later-said each =
      subst (EachIsSaid u) (sym (append-nil later))
      (subst (EachIsSaid u) (drop-append_seam earlier later)
      (All-drop (λ (item : SaidText). IsSaid u item.text item.variant) (length earlier)
      (earlier ++ later) each))
