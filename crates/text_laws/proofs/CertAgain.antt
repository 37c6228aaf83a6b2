-- The text that is printed of a certificate is read again as that certificate.
use Rattle.std.proofs.Common.{◌≡◌, ℕ, ◌+◌, ◌≤◌, true, List, [], ◌∷◌, ◌++◌, map, length, drop, refl, sym, ap, ◌∙◌, append_assoc, Ok}
use Rattle.std.proofs.lemmas.Bool.{and_from, le-ltb}
use Rattle.std.proofs.lemmas.List.Concat.{flat_map-append}
use Rattle.std.proofs.lemmas.List.Folds.{list_all-append}
use Rattle.std.specs.List.{list_all, enumerate_from, flat_map, sum_by, zip}
use Rattle.std.specs.Prelude.{codes}
use Rattle.deb_stanza.specs.declared.error.TheConstants.{MOST_BYTES}
use Rattle.deb_stanza.specs.Plain.{plain_lines_at}
use Rattle.deb_text.specs.Common.{lines_of, plain_lines, ◌>>=◌, traverse, words, is_head, text_of}
use Rattle.farm_model.specs.Universe.{Universe}
use Rattle.plan_model.specs.Plan.{Plan}
use Rattle.cert_text.specs.Certificates.{Certificate, IsCertificate, count_rows}
use Rattle.cert_text.specs.CertText.{lanes_in, order_at, rest_in, certificate_in, in_text, certificate_of}
use Rattle.cert_text.specs.Printed.{known_lines, order_line, certificate_text}
use Rattle.text_laws.specs.CertLaws.{IsSpelled, order_text}
use Rattle.text_laws.proofs.LaneLines.{lane_lines, lanes-text, AreCounted, count-lines, lanes-kept, lanes-again}
use Rattle.text_laws.proofs.OrderLines.{IsReadPlan, orders-text, orders-kept, orders-again}
use Rattle.text_laws.proofs.TextLines.{is_kept, lines-again, drop-lines}

head-is : is_head (codes "cert") (codes "cert 1") ≡ true
unfolding is_head words
head-is = refl

module _ (u : Universe) (p : Plan) (c : Certificate) (spelled : IsSpelled u) (read : IsReadPlan p)
    (is : IsCertificate u p c) where
  -- the lines behind the first
  abbrev row_lines : List (List ℕ)
  row_lines = flat_map (lane_lines u) (zip p c.rows)

  abbrev order_lines : List (List ℕ)
  order_lines = map (order_text p) c.order

  abbrev all_lines : List (List ℕ)
  all_lines = codes "cert 1" ∷ (row_lines ++ order_lines)

  text-bytes : certificate_text u p c ≡ text_of all_lines
  unfolding certificate_text
  text-bytes =
      append_assoc (codes "cert 1\n") (flat_map (known_lines u) (zip p c.rows))
      (flat_map (order_line p) c.order)
      ∙ ap (λ text. codes "cert 1\n" ++ text)
      ((λ j. lanes-text u (zip p c.rows) j ++ orders-text p c.order j)
      ∙ sym (flat_map-append (λ line. line ++ 10 ∷ []) row_lines order_lines))

  all-kept : list_all is_kept all_lines ≡ true
  all-kept =
      list_all-append is_kept row_lines order_lines
      ∙ and_from (list_all is_kept row_lines) (list_all is_kept order_lines)
      (lanes-kept u spelled p c.rows read.lanes) (orders-kept p read c.order is.order)

  counted : AreCounted u p c.rows
  counted = (is.lanes, is.counts)

  rest-again : (end k : ℕ) → rest_in u p end (enumerate_from k (row_lines ++ order_lines)) ≡ Ok c
  unfolding rest_in
  rest-again end k =
      let lines = enumerate_from k (row_lines ++ order_lines) in
      let rows : lanes_in u end p lines ≡ Ok c.rows =
      lanes-again u spelled end p c.rows order_lines k read.lanes counted is.rows in
      let behind : drop (sum_by count_rows p) lines
      ≡ enumerate_from (k + length row_lines) order_lines =
      ap (λ n. drop n lines) (sym (count-lines u p c.rows counted))
      ∙ drop-lines row_lines order_lines k in
      let order : traverse (order_at p) (drop (sum_by count_rows p) lines) ≡ Ok c.order =
      ap (traverse (order_at p)) behind
      ∙ orders-again p read c.order (k + length row_lines) is.order in
      λ j. rows j >>= λ rs. order j >>= λ ls. Ok (record { rows = rs; order = ls })

  pub certificate-again : length (certificate_text u p c) ≤ MOST_BYTES
      → certificate_of u p (certificate_text u p c) ≡ Ok c
  unfolding certificate_of
  certificate-again within =
      let text = certificate_text u p c in
      let end = length (lines_of text) + 1 in
      let plain : plain_lines_at text ≡ Ok (enumerate_from 1 all_lines) =
      rw (le-ltb MOST_BYTES (length text) within)
      (ap Ok (ap (plain_lines 1) text-bytes ∙ lines-again all_lines 1 all-kept)) in
      ap (λ lines. in_text lines >>= certificate_in u p end) plain
      ∙ rw head-is (rest-again end 2)
