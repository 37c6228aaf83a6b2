-- The text of the certificate, lane by lane.
use Rattle.std.proofs.Common.{◌≡◌, ℕ, suc, ◌+◌, ◌<◌, List, [], ◌∷◌, ◌++◌, length, map, get_or, codes, refl, sym, ap, ◌∙◌, add-zero, arith}
use Rattle.std.specs.List.{flat_map, range_with_len, zip}
use Rattle.cert_text.specs.Certificates.{row_places}
use Rattle.cert_text.specs.Printed.{known_line, known_lines, order_line, certificate_text}
use Rattle.farm_model.specs.Universe.{Universe}
use Rattle.plan_model.specs.Common.{Rows, Plan, lane, no_lane}
use Rattle.cert_writer.specs.Lines.{lane_text, all_lines}
use Rattle.cert_writer.specs.NewRows.{new_row, new_rows, certificate_by}

-- each item with what is made of it
beside : {K X : Type 0} (h : K × X → List ℕ) (f : K → X) (ks : List K)
    → flat_map h (zip ks (map f ks)) ≡ flat_map (λ k. h (k, f k)) ks
beside h f [] = refl
beside h f (k ∷ ks) = ap (λ t. h (k, f k) ++ t) (beside h f ks)

-- each item with what is made of its number
numbered : {K X : Type 0} (h : K × X → List ℕ) (f : ℕ → X) (g : ℕ → List ℕ) (d : K) (ks : List K)
    (n : ℕ)
    → ((i : ℕ) → i < length ks → h (get_or ks i d, f (n + i)) ≡ g (n + i))
    → flat_map h (zip ks (map f (range_with_len n (length ks))))
    ≡ flat_map g (range_with_len n (length ks))
numbered h f g d [] n each = refl
numbered h f g d (k ∷ ks) n each =
    ap (λ t. h (k, f n) ++ t) (numbered h f g d ks (n + 1) later)
    ∙ ap (λ t. t ++ flat_map g (range_with_len (n + 1) (length ks))) first
  where
    here : n + 0 ≡ n
    here = add-zero n

    first : h (k, f n) ≡ g n
    first = ap (λ m. h (k, f m)) (sym here) ∙ each 0 (omega arith) ∙ ap g here

    later : (i : ℕ) → i < length ks → h (get_or ks i d, f (n + 1 + i)) ≡ g (n + 1 + i)
    later i lt =
        let next : n + 1 + i ≡ n + suc i = omega arith in
        ap (λ m. h (get_or ks i d, f m)) next ∙ each (suc i) (omega (arith, lt)) ∙ ap g (sym next)

module _ (u : Universe) (p : Plan) (known : Rows) where
  lane-lines : (l : ℕ) → known_lines u (lane p l, new_rows u p known l) ≡ lane_text u p known l
  lane-lines l = beside (known_line u (lane p l).name) (new_row u known l) (row_places (lane p l))

  lanes-lines : flat_map (known_lines u)
      (zip p (map (new_rows u p known) (range_with_len 0 (length p))))
      ≡ flat_map (lane_text u p known) (range_with_len 0 (length p))
  lanes-lines = numbered (known_lines u) (new_rows u p known) (lane_text u p known) no_lane p 0 each
    where
      each : (i : ℕ) → i < length p → known_lines u (get_or p i no_lane, new_rows u p known (0 + i))
          ≡ lane_text u p known (0 + i)
      each i lt =
          let same : 0 + i ≡ i = omega arith in
          ap (λ m. known_lines u (get_or p i no_lane, new_rows u p known m)) same
          ∙ lane-lines i ∙ ap (lane_text u p known) (sym same)

  -- its head, its lanes, and its order
  pub text-is : (order : List ℕ) → certificate_text u p (certificate_by u p known order)
      ≡ codes "cert 1\n" ++ all_lines u p known order
  unfolding certificate_text
  text-is order = ap (λ t. codes "cert 1\n" ++ t ++ flat_map (order_line p) order) lanes-lines
