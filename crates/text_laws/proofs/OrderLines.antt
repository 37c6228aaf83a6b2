-- The lines of the order are read again as their lanes.
use Rattle.std.proofs.Common.{◌≡◌, ℕ, ◌+◌, ◌<◌, true, List, [], ◌∷◌, ◌++◌, map, length, refl, sym, ap, subst, ◌∙◌, Some, Ok, arith, All}
use Rattle.std.proofs.lemmas.Bool.{and_from}
use Rattle.std.proofs.lemmas.List.{append-nil, length-map}
use Rattle.std.proofs.lemmas.List.Elements.{All-head, All-tail, All-get_or}
use Rattle.std.specs.List.{list_all, enumerate_from, flat_map}
use Rattle.std.specs.Prelude.{codes}
use Rattle.std.specs.Str.{bytes_eq}
use Rattle.deb_text.proofs.AgainLaws.{words-again}
use Rattle.deb_text.specs.Common.{AllDistinct, place_in, traverse, words, is_run, spaced, text_of}
use Rattle.plan_model.specs.Plan.{Lane, Plan, lane, no_lane}
use Rattle.cert_text.proofs.Searches.{lane-name}
use Rattle.cert_text.specs.CertLines.{lane_names, order_words, order_lane}
use Rattle.cert_text.specs.CertText.{order_at}
use Rattle.cert_text.specs.Printed.{order_line}
use Rattle.text_laws.specs.CertLaws.{order_text}
use Rattle.text_laws.proofs.KeptLines.{order-kept}
use Rattle.text_laws.proofs.LaneLines.{IsReadLane}
use Rattle.text_laws.proofs.TextLines.{is_kept}
use Rattle.text_laws.proofs.Variants.{place-again}

-- a plan whose lanes are known by their names
pub record IsReadPlan (p : Plan) : Type 0 where
  pub lanes : All IsReadLane p
  pub distinct : AllDistinct bytes_eq (lane_names p)

module _ (p : Plan) where
  pub orders-text : (ls : List ℕ)
      → flat_map (order_line p) ls ≡ text_of (map (order_text p) ls)
  orders-text [] = refl
  orders-text (l ∷ ls) = ap (λ text. order_line p l ++ text) (orders-text ls)

  module _ (read : IsReadPlan p) where
    lane-run : (l : ℕ) → l < length p → is_run (lane p l).name ≡ true
    lane-run l lt = (All-get_or IsReadLane p l no_lane lt read.lanes).run

    lane-place : (l : ℕ) → l < length p
        → place_in bytes_eq (lane_names p) (lane p l).name ≡ Some l
    lane-place l lt =
        let within : l < length (lane_names p) =
        omega (arith, lt, length-map p (λ (of : Lane). of.name)) in
        subst (λ name. place_in bytes_eq (lane_names p) name ≡ Some l) (lane-name p l)
        (place-again (lane_names p) read.distinct l within)

    pub order-again : (l : ℕ) → l < length p → order_lane p (order_text p l) ≡ Some l
    unfolding order_lane
    order-again l lt =
        let name = (lane p l).name in
        let line : order_text p l ≡ codes "order" ++ spaced (name ∷ []) =
        ap (λ text. codes "order " ++ text) (sym (append-nil name)) in
        ap (λ text. order_words p (words text)) line
        ∙ ap (order_words p)
        (words-again (codes "order") (name ∷ []) refl
        (and_from (is_run name) true (lane-run l lt) refl))
        ∙ lane-place l lt

    pub orders-kept : (ls : List ℕ) → All (λ l. l < length p) ls
        → list_all is_kept (map (order_text p) ls) ≡ true
    orders-kept [] are = refl
    orders-kept (l ∷ ls) are =
        and_from (is_kept (order_text p l)) (list_all is_kept (map (order_text p) ls))
        (order-kept p l (lane-run l (All-head (λ l. l < length p) l ls are)))
        (orders-kept ls (All-tail (λ l. l < length p) l ls are))

    pub orders-again : (ls : List ℕ) (k : ℕ) → All (λ l. l < length p) ls
        → traverse (order_at p) (enumerate_from k (map (order_text p) ls)) ≡ Ok ls
    unfolding traverse
    orders-again [] k are = refl
    orders-again (l ∷ ls) k are =
        rw (
          order-again l (All-head (λ l. l < length p) l ls are),
          orders-again ls (k + 1) (All-tail (λ l. l < length p) l ls are),
        ) refl
