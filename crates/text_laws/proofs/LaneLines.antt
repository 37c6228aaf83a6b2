-- The lines of lanes are read again as their rows.
use Rattle.std.proofs.Common.{◌≡◌, ℕ, suc, ◌+◌, ◌<◌, ◌≤◌, ◌^◌, Bool, true, false, List, [], ◌∷◌, ◌++◌, map, get_or, length, length-append, drop, refl, sym, ap, ◌∙◌, append_assoc, arith, Ok, All}
use Rattle.std.proofs.lemmas.Bool.{and_from}
use Rattle.std.proofs.lemmas.List.{length-map}
use Rattle.std.proofs.lemmas.List.Concat.{flat_map-append}
use Rattle.std.proofs.lemmas.List.Elements.{All-nil, All-cons, All-head, All-tail}
use Rattle.std.proofs.lemmas.List.Folds.{list_all-append}
use Rattle.std.proofs.lemmas.List.Sums.{sum_by-cons}
use Rattle.std.proofs.lemmas.Slice.Zip.{length-zip}
use Rattle.std.specs.List.{list_all, enumerate_from, flat_map, sum_by, zip}
use Rattle.deb_text.specs.Common.{then_all, is_run, text_of}
use Rattle.farm_model.specs.Universe.{Universe}
use Rattle.plan_model.specs.Plan.{Lane, Plan, lane}
use Rattle.plan_model.specs.declared.instructions.Instruction.{Instruction}
use Rattle.cert_text.proofs.PlaceLists.{length-places}
use Rattle.cert_text.specs.Certificates.{IsNewRow, learns, places_from, row_places, count_rows}
use Rattle.cert_text.specs.CertText.{rows_in, lanes_in}
use Rattle.cert_text.specs.Printed.{known_line, known_lines}
use Rattle.text_laws.specs.CertLaws.{IsSpelled, known_text}
use Rattle.text_laws.proofs.KeptLines.{known-kept}
use Rattle.text_laws.proofs.KnownLines.{known-again}
use Rattle.text_laws.proofs.TextLines.{is_kept, drop-lines}

-- a lane whose lines are read again
pub record IsReadLane (of : Lane) : Type 0 where
  pub run : is_run of.name ≡ true
  pub few : length of.instructions < 10 ^ 15

-- ---- places

places-small : (n k : ℕ) (xs : List Instruction) → n + length xs ≤ k
    → All (λ m. m < k) (places_from n xs)
places-small n k [] few = All-nil (λ m. m < k)
places-small n k (x ∷ xs) few =
    by (learns x) refl (places-small (n + 1) k xs (omega (arith, few)))
  where
    by : (b : Bool) → learns x ≡ b → All (λ m. m < k) (places_from (n + 1) xs)
        → All (λ m. m < k) (places_from n (x ∷ xs))
    by true is later =
        rw is (All-cons (λ m. m < k) n (places_from (n + 1) xs) (omega (arith, few)) later)
    by false is later = rw is later

row_places-small : (of : Lane) → IsReadLane of → All (λ m. m < 10 ^ 15) (row_places of)
row_places-small of is = places-small 1 (10 ^ 15) of.instructions (omega (arith, is.few))

-- ---- lines

module _ (u : Universe) where
  -- the line of a row, less its end
  abbrev pub row_line : List ℕ → ℕ × List ℕ → List ℕ
  row_line name (number, row) = known_text u name number row

  -- those of a lane
  abbrev pub lane_lines : Lane × List (List ℕ) → List (List ℕ)
  lane_lines (of, rows) = map (row_line of.name) (zip (row_places of) rows)

  rows-text : (name : List ℕ) (xs : List (ℕ × List ℕ))
      → flat_map (known_line u name) xs ≡ text_of (map (row_line name) xs)
  unfolding known_line
  rows-text name [] = refl
  rows-text name (x ∷ xs) = ap (λ text. known_line u name x ++ text) (rows-text name xs)

  pub lanes-text : (xs : List (Lane × List (List ℕ)))
      → flat_map (known_lines u) xs ≡ text_of (flat_map lane_lines xs)
  lanes-text [] = refl
  lanes-text (x ∷ xs) =
      (λ j. rows-text x.0.name (zip (row_places x.0) x.1) j ++ lanes-text xs j)
      ∙ sym (flat_map-append (λ line. line ++ 10 ∷ []) (lane_lines x) (flat_map lane_lines xs))

  length-lines : (of : Lane) (rows : List (List ℕ)) → length rows ≡ count_rows of
      → length (lane_lines (of, rows)) ≡ count_rows of
  length-lines of rows same =
      let pairs = zip (row_places of) rows in
      let mapped = length-map pairs (row_line of.name) in
      let paired = length-zip (row_places of) rows in
      omega (arith, mapped, paired, length-places of, same)

  -- as many rows in each lane as it has places
  abbrev pub AreCounted : Plan → List (List (List ℕ)) → Type 0
  AreCounted p rows =
      (length rows ≡ length p)
      × ((l : ℕ) → l < length p → length (get_or rows l []) ≡ count_rows (lane p l))

  counted-tail : (of : Lane) (p : Plan) (rs : List (List ℕ)) (rows : List (List (List ℕ)))
      → AreCounted (of ∷ p) (rs ∷ rows) → AreCounted p rows
  counted-tail of p rs rows are =
      (omega (arith, are.0), λ l lt. are.1 (suc l) (omega (arith, lt)))

  pub count-lines : (p : Plan) (rows : List (List (List ℕ))) → AreCounted p rows
      → length (flat_map lane_lines (zip p rows)) ≡ sum_by count_rows p
  count-lines [] rows are = refl
  count-lines (of ∷ p) [] are = absurd (omega (arith, are.0))
  count-lines (of ∷ p) (rs ∷ rows) are =
      let lines = length-append (lane_lines (of, rs)) (flat_map lane_lines (zip p rows)) in
      let first = length-lines of rs (are.1 0 (omega arith)) in
      let rest = count-lines p rows (counted-tail of p rs rows are) in
      let all = sum_by-cons count_rows of p in
      omega (arith, lines, first, rest, all)

  -- ---- read again

  module _ (spelled : IsSpelled u) where
    rows-kept : (name : List ℕ) → is_run name ≡ true → (places : List ℕ) (rows : List (List ℕ))
        → All (λ m. m < 10 ^ 15) places
        → list_all is_kept (map (row_line name) (zip places rows)) ≡ true
    rows-kept name run [] rows small = refl
    rows-kept name run (n ∷ ns) [] small = refl
    rows-kept name run (n ∷ ns) (r ∷ rs) small =
        and_from (is_kept (known_text u name n r)) _
        (known-kept u spelled name n r run (All-head (λ m. m < 10 ^ 15) n ns small))
        (rows-kept name run ns rs (All-tail (λ m. m < 10 ^ 15) n ns small))

    pub lanes-kept : (p : Plan) (rows : List (List (List ℕ))) → All IsReadLane p
        → list_all is_kept (flat_map lane_lines (zip p rows)) ≡ true
    lanes-kept [] rows are = refl
    lanes-kept (of ∷ p) [] are = refl
    lanes-kept (of ∷ p) (rs ∷ rows) are =
        let is = All-head IsReadLane of p are in
        list_all-append is_kept (lane_lines (of, rs)) (flat_map lane_lines (zip p rows))
        ∙ and_from (list_all is_kept (lane_lines (of, rs)))
        (list_all is_kept (flat_map lane_lines (zip p rows)))
        (rows-kept of.name is.run (row_places of) rs (row_places-small of is))
        (lanes-kept p rows (All-tail IsReadLane of p are))

    module _ (end : ℕ) where
      rows-again : (name : List ℕ) → is_run name ≡ true → (places : List ℕ)
          (rows more : List (List ℕ)) (k : ℕ) → length rows ≡ length places
          → All (λ m. m < 10 ^ 15) places → All (IsNewRow u) rows
          → rows_in u end name places
          (enumerate_from k (map (row_line name) (zip places rows) ++ more)) ≡ Ok rows
      rows-again name run [] [] more k same small new = refl
      rows-again name run [] (r ∷ rs) more k same small new = absurd (omega (arith, same))
      rows-again name run (n ∷ ns) [] more k same small new = absurd (omega (arith, same))
      rows-again name run (n ∷ ns) (r ∷ rs) more k same small new =
          rw (
            known-again u spelled r (All-head (IsNewRow u) r rs new) n
                (All-head (λ m. m < 10 ^ 15) n ns small) name run,
            rows-again name run ns rs more (k + 1) (omega (arith, same))
                (All-tail (λ m. m < 10 ^ 15) n ns small) (All-tail (IsNewRow u) r rs new),
          ) refl

      pub lanes-again : (p : Plan) (rows : List (List (List ℕ))) (more : List (List ℕ)) (k : ℕ)
          → All IsReadLane p → AreCounted p rows
          → ((l : ℕ) → All (IsNewRow u) (get_or rows l []))
          → lanes_in u end p (enumerate_from k (flat_map lane_lines (zip p rows) ++ more))
          ≡ Ok rows
      lanes-again [] [] more k read are new = refl
      lanes-again [] (rs ∷ rows) more k read are new = absurd (omega (arith, are.0))
      lanes-again (of ∷ p) [] more k read are new = absurd (omega (arith, are.0))
      lanes-again (of ∷ p) (rs ∷ rows) more k read are new =
          let is = All-head IsReadLane of p read in
          let first = lane_lines (of, rs) in
          let rest = flat_map lane_lines (zip p rows) ++ more in
          let same = are.1 0 (omega arith) in
          let here : rows_in u end of.name (row_places of) (enumerate_from k (first ++ rest))
          ≡ Ok rs =
          rows-again of.name is.run (row_places of) rs rest k (same ∙ sym (length-places of))
          (row_places-small of is) (new 0) in
          let behind : drop (count_rows of) (enumerate_from k (first ++ rest))
          ≡ enumerate_from (k + length first) rest =
          ap (λ n. drop n (enumerate_from k (first ++ rest))) (sym (length-lines of rs same))
          ∙ drop-lines first rest k in
          let later : lanes_in u end p (drop (count_rows of) (enumerate_from k (first ++ rest)))
          ≡ Ok rows =
          ap (lanes_in u end p) behind
          ∙ lanes-again p rows more (k + length first) (All-tail IsReadLane of p read)
          (counted-tail of p rs rows are) (λ l. new (suc l)) in
          ap (λ ls. lanes_in u end (of ∷ p) (enumerate_from k ls))
          (append_assoc first (flat_map lane_lines (zip p rows)) more)
          ∙ (λ j. then_all (here j) (later j))
