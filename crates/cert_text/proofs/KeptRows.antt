-- A certificate that was read has the rows and the lanes of its plan.
use Rattle.std.proofs.Common.{◌≡◌, ℕ, zero, suc, ◌+◌, ◌<◌, ◌≤◌, Bool, true, false, not, ◌&&◌, List, [], ◌∷◌, length, drop, get_or, refl, sym, ap, subst, ◌∙◌, Option, Some, None, Result, Ok, Err, IfOk, All, nat_lt, position, true≢false, arith, if◌then◌else◌}
use Rattle.std.specs.Prelude.{codes, IfSome}
use Rattle.std.specs.List.{list_any, sum_by, AllZip}
use Rattle.std.specs.Str.{bytes_eq}
use Rattle.deb_text.specs.Common.{words, is_head, Gives, is_blank, before, after, behind, place_in, Line, lines_of, number_at, traverse}
use Rattle.deb_stanza.specs.Plain.{plain_lines_at}
use Rattle.std.specs.Option.{option_map, option_and_then}
use Rattle.std.proofs.lemmas.Bool.{and_parts, ltb-true, ltb-false}
use Rattle.std.proofs.lemmas.List.{get_or_past, length-map}
use Rattle.std.proofs.lemmas.List.Elements.{All-nil, All-cons}
use Rattle.std.proofs.lemmas.List.Quantifiers.{position-Some}
use Rattle.bit_rows.specs.Sets.{variants_of}
use Rattle.deb_relation.specs.Common.{relations_at, Entry, Relations}
use Rattle.deb_relation.specs.declared.kind.Kind.TheVariants.{Provide}
use Rattle.deb_text.proofs.CarriedLaws.{has-ok, always, then-has, traverse-has, if-has}
use Rattle.farm_model.specs.Common.{names, variant, variants, initial, has_bit, no_package, IsKnown, Universe}
use Rattle.farm_model.specs.declared.types.Variant.{Variant}
use Rattle.farm_universe.proofs.ArchiveLaws.{length-words_of}
use Rattle.farm_model.proofs.VariantLaws.{contained}
use Rattle.farm_universe.proofs.ListLaws.{has_bit-words_of, has_bit-past}
use Rattle.farm_universe.specs.Items.{find_variant, item_variant, variant_of}
use Rattle.farm_universe.specs.ListText.{has_version, pinned, variant_words}
use Rattle.plan_reader.proofs.Places.{place-within}
use Rattle.plan_model.specs.Plan.{Lane, Plan, lane}
use Rattle.cert_text.specs.declared.fault.CertFault.{CertFault}
use Rattle.cert_text.specs.CertLines.{first_word, behind_word, is_colon, is_number_of, numbered_row, known_row, lane_names, order_words, order_lane}
use Rattle.cert_text.specs.CertText.{told_on_line, first_row, rows_in, lanes_in, order_at, rest_in, certificate_in, in_text, certificate_of}
use Rattle.cert_text.specs.Certificates.{Certificate, IsNewRow, IsCertificate, row_places, count_rows}
use Rattle.cert_text.specs.Faults.{refusal_of}
use Rattle.cert_text.specs.Rows.{comes_behind, is_behind, variants_behind, row_of_items, row_at}
use Rattle.cert_text.proofs.PlaceLists.{length-places}

-- a fact of an optional value, carried along
and-some : {X Y : Type 0} (P : X → Type 0) (Q : Y → Type 0) (f : X → Option Y) (o : Option X)
    → IfSome o P → ((x : X) → P x → IfSome (f x) Q) → IfSome (option_and_then f o) Q
and-some P Q f None has next = tt
and-some P Q f (Some x) has next = next x has

map-some : {X Y : Type 0} (P : X → Type 0) (Q : Y → Type 0) (f : X → Y) (o : Option X)
    → IfSome o P → ((x : X) → P x → Q (f x)) → IfSome (option_map f o) Q
map-some P Q f None has next = tt
map-some P Q f (Some x) has next = next x has

any-some : {X : Type 0} (o : Option X) → IfSome o (λ _. Unit {0})
any-some None = tt
any-some (Some x) = tt

if-some : {X : Type 0} (P : X → Type 0) (b : Bool) (o : Option X) → (b ≡ true → IfSome o P)
    → IfSome (if b then o else None) P
if-some P true o has = has refl
if-some P false o has = tt

-- ---- the variants of a list

-- a variant of the universe that the initial archive does not have
pub record IsNew (u : Universe) (v : Variant) : Type 0 where
  pub known : IsKnown u v
  pub new : initial u v ≡ false

module _ (u : Universe) where
  found-known : (version : List ℕ) (n : ℕ) → IfSome (variant_of u version n) (IsKnown u)
  unfolding variants
  found-known version n =
      map-some (λ b. b < length (get_or u.packages n [])) (IsKnown u) (variant n)
      (position (has_version version) (get_or u.packages n []))
      (by (position (has_version version) (get_or u.packages n [])) refl) (λ b lt. lt) where
        by : (o : Option ℕ) → position (has_version version) (get_or u.packages n []) ≡ o
            → IfSome o (λ b. b < length (get_or u.packages n []))
        by None is = tt
        by (Some b) is =
            (position-Some (has_version version) (get_or u.packages n []) b no_package is).0

  item-known : (item : Entry) → IfSome (item_variant u item) (IsKnown u)
  unfolding item_variant find_variant
  item-known item =
      and-some (λ _. Unit {0}) (IsKnown u) _ (pinned item) (any-some (pinned item))
      (λ is _. and-some (λ _. Unit {0}) (IsKnown u) (variant_of u is.1) _ (any-some _)
      (λ n _. found-known is.1 n))

  new-by : (last : Option Variant) (v : Variant) → comes_behind u last v ≡ true
      → initial u v ≡ false
  new-by last v fine = by (initial u v) (and_parts (is_behind last v) (not (initial u v)) fine).1
    where
      by : (b : Bool) → not b ≡ true → b ≡ false
      by true is = sym is
      by false is = refl

  variants-new : (items : Relations) (last : Option Variant)
      → IfSome (variants_behind u last items) (All (IsNew u))
  variants-new [] last = All-nil (IsNew u)
  variants-new (item ∷ items) last =
      and-some (IsKnown u) (All (IsNew u)) _ (item_variant u item) (item-known item)
      (λ v known. if-some (All (IsNew u)) (comes_behind u last v) _
      (λ fine. map-some (All (IsNew u)) (All (IsNew u)) (λ vs. v ∷ vs)
      (variants_behind u (Some v) items) (variants-new items (Some v))
      (λ vs new. All-cons (IsNew u) v vs
      (record { known = known; new = new-by last v fine }) new)))

  -- ---- the row of a list

  bit-new : (vs : List Variant) → All (IsNew u) vs → (n b : ℕ)
      → variants_of (variant_words (names u) vs) n b ≡ true → IsNew u (variant n b)
  unfolding has_bit
  bit-new vs new n b is = by (nat_lt n (names u)) refl where
    by : (t : Bool) → nat_lt n (names u) ≡ t → IsNew u (variant n b)
    by true e =
        contained (IsNew u) vs (variant n b) new
        (sym (has_bit-words_of (names u) vs (variant n b) (ltb-true n (names u) e)) ∙ is)
    by false e =
        let past : length (variant_words (names u) vs) ≤ n =
        omega (arith, length-words_of (names u) vs, ltb-false n (names u) e) in
        absurd (true≢false (sym is ∙ has_bit-past (variant_words (names u) vs) (variant n b) past))

  words-new : (vs : List Variant) → All (IsNew u) vs → IsNewRow u (variant_words (names u) vs)
  words-new vs new = record {
    long = length-words_of (names u) vs;
    known = λ n b is. (bit-new vs new n b is).known;
    new = λ n b is. (bit-new vs new n b is).new;
  }

  row-new : (text : List ℕ) → IfSome (row_at u text) (IsNewRow u)
  unfolding row_at
  row-new text = by (relations_at Provide text) where
    by : (r : Result Relations ℕ) → IfSome (row_of_items u r) (IsNewRow u)
    by (Ok items) =
        map-some (All (IsNew u)) (IsNewRow u) (variant_words (names u))
        (variants_behind u None items)
        (variants-new items None) words-new
    by (Err code) = tt

  numbered-new : (number : ℕ) (text : List ℕ) → IfSome (numbered_row u number text) (IsNewRow u)
  unfolding numbered_row
  numbered-new number text =
      if-some (IsNewRow u)
      (list_any is_colon text && is_number_of number (number_at (before is_colon text)))
      (row_at u (after is_colon text)) (λ _. row-new (after is_colon text))

  known-new : (name : List ℕ) (number : ℕ) (line : List ℕ)
      → IfSome (known_row u name number line) (IsNewRow u)
  unfolding known_row
  known-new name number line =
      let text = behind is_blank (behind_word (behind_word line)) in
      if-some (IsNewRow u)
      (bytes_eq (first_word line) (codes "known") && bytes_eq (first_word (behind_word line)) name)
      (numbered_row u number text) (λ _. numbered-new number text)

  -- ---- the rows of lanes

  told-has : {X : Type 0} (P : X → Type 0) (number : ℕ) (o : Option X) → IfSome o P
      → IfOk (told_on_line number o) P
  told-has P number None has = tt
  told-has P number (Some x) has = has

  first-new : (end : ℕ) (name : List ℕ) (place : ℕ) (ls : List Line)
      → IfOk (first_row u end name place ls) (IsNewRow u)
  first-new end name place [] = tt
  first-new end name place ((number, line) ∷ ls) =
      told-has (IsNewRow u) number (known_row u name place line) (known-new name place line)

  -- so many new rows
  pub record AreRows (count : ℕ) (rows : List (List ℕ)) : Type 0 where
    pub counted : length rows ≡ count
    pub new : All (IsNewRow u) rows

  rows-are : (end : ℕ) (name : List ℕ) (places : List ℕ) (ls : List Line)
      → IfOk (rows_in u end name places ls) (AreRows (length places))
  rows-are end name [] ls = record { counted = refl; new = All-nil (IsNewRow u) }
  rows-are end name (place ∷ places) ls =
      then-has (IsNewRow u) (AreRows (length (place ∷ places))) (first_row u end name place ls) _
      (first-new end name place ls)
      (λ row new. then-has (AreRows (length places)) (AreRows (length (place ∷ places)))
      (rows_in u end name places (drop 1 ls)) _ (rows-are end name places (drop 1 ls))
      (λ rows are. record {
        counted = let counted = are.counted in omega (arith, counted);
        new = All-cons (IsNewRow u) row rows new are.new;
      }))

  abbrev pub AreLaneRows : Lane → List (List ℕ) → Type 0
  AreLaneRows of rows = AreRows (count_rows of) rows

  lanes-are : (end : ℕ) (p : Plan) (ls : List Line)
      → IfOk (lanes_in u end p ls) (λ rows. AllZip AreLaneRows p rows)
  lanes-are end [] ls = tt
  lanes-are end (of ∷ p) ls =
      then-has (AreRows (length (row_places of))) (λ rows. AllZip AreLaneRows (of ∷ p) rows)
      (rows_in u end of.name (row_places of) ls) _ (rows-are end of.name (row_places of) ls)
      (λ first are. then-has (λ rows. AllZip AreLaneRows p rows)
      (λ rows. AllZip AreLaneRows (of ∷ p) rows) (lanes_in u end p (drop (count_rows of) ls)) _
      (lanes-are end p (drop (count_rows of) ls))
      (λ rows rest. (subst (λ n. AreRows n first) (length-places of) are, rest)))

  lanes-long : (p : Plan) (rows : List (List (List ℕ))) → AllZip AreLaneRows p rows
      → length rows ≡ length p
  lanes-long [] [] are = refl
  lanes-long [] (r ∷ rows) are = absurd are
  lanes-long (of ∷ p) [] are = absurd are
  lanes-long (of ∷ p) (r ∷ rows) are = ap suc (lanes-long p rows are.1)

  lane-at : (p : Plan) (rows : List (List (List ℕ))) → AllZip AreLaneRows p rows → (l : ℕ)
      → l < length p → AreLaneRows (lane p l) (get_or rows l [])
  lane-at [] [] are l lt = absurd (omega (arith, lt))
  lane-at [] (r ∷ rows) are l lt = absurd are
  lane-at (of ∷ p) [] are l lt = absurd are
  lane-at (of ∷ p) (r ∷ rows) are zero lt = are.0
  lane-at (of ∷ p) (r ∷ rows) are (suc l) lt = lane-at p rows are.1 l (omega (arith, lt))

  -- ---- the order

  place-is : (p : Plan) (name : List ℕ) (o : Option ℕ)
      → place_in bytes_eq (lane_names p) name ≡ o → IfSome o (λ l. l < length p)
  place-is p name None is = tt
  place-is p name (Some l) is =
      omega (
        arith,
        place-within (lane_names p) name l is,
        length-map p (λ (of : Lane). of.name),
      )

  words-within : (p : Plan) (ws : List (List ℕ)) → IfSome (order_words p ws) (λ l. l < length p)
  words-within p [] = tt
  words-within p (word ∷ []) = tt
  words-within p (word ∷ name ∷ []) =
      if-some (λ l. l < length p) _ (place_in bytes_eq (lane_names p) name)
      (λ _. place-is p name (place_in bytes_eq (lane_names p) name) refl)
  words-within p (word ∷ name ∷ more ∷ ws) = tt

  order-within : (p : Plan) (line : Line) → IfOk (order_at p line) (λ l. l < length p)
  unfolding order_lane
  order-within p (number, line) =
      told-has (λ l. l < length p) number (order_lane p line) (words-within p (words line))

  -- ---- a certificate

  is-certificate : (p : Plan) (rows : List (List (List ℕ))) (order : List ℕ)
      → AllZip AreLaneRows p rows → All (λ l. l < length p) order
      → IsCertificate u p (record { rows = rows; order = order })
  is-certificate p rows order are within = record {
    lanes = lanes-long p rows are;
    counts = λ l lt. (lane-at p rows are l lt).counted;
    rows = λ l. by l (nat_lt l (length p)) refl;
    order = within;
  } where
    by : (l : ℕ) (b : Bool) → nat_lt l (length p) ≡ b → All (IsNewRow u) (get_or rows l [])
    by l true e = (lane-at p rows are l (ltb-true l (length p) e)).new
    by l false e =
        let past : length rows ≤ l =
        omega (arith, lanes-long p rows are, ltb-false l (length p) e) in
        subst (All (IsNewRow u)) (sym (get_or_past rows l [] past)) (All-nil (IsNewRow u))

  rest-is : (p : Plan) (end : ℕ) (ls : List Line) → IfOk (rest_in u p end ls) (IsCertificate u p)
  unfolding rest_in
  rest-is p end ls =
      then-has (λ rows. AllZip AreLaneRows p rows) (IsCertificate u p) (lanes_in u end p ls) _
      (lanes-are end p ls)
      (λ rows are. then-has (All (λ l. l < length p)) (IsCertificate u p)
      (traverse (order_at p) (drop (sum_by count_rows p) ls)) _
      (traverse-has (order_at p) (λ l. l < length p) (order-within p) _)
      (λ order within. is-certificate p rows order are within))

  in-is : (p : Plan) (end : ℕ) (ls : List Line)
      → IfOk (certificate_in u p end ls) (IsCertificate u p)
  in-is p end [] = tt
  in-is p end ((number, line) ∷ ls) =
      if-has (IsCertificate u p) (is_head (codes "cert") line) _ _ (λ _. rest-is p end ls) (λ _. tt)

  -- what a text stands for
  pub certificate-is : (p : Plan) (text : List ℕ)
      → IfOk (certificate_of u p text) (IsCertificate u p)
  unfolding certificate_of
  certificate-is p text =
      then-has (λ _. Unit {0}) (IsCertificate u p) (in_text (plain_lines_at text)) _
      (always (in_text (plain_lines_at text))) (λ ls _. in-is p (length (lines_of text) + 1) ls)

  -- a certificate that was read
  pub gives-certificate : (p : Plan) (text : List ℕ) (r : Result Certificate CertFault)
      → Gives refusal_of (λ c. c) r (certificate_of u p text) → IfOk r (IsCertificate u p)
  gives-certificate p text (Ok c) gives =
      has-ok (IsCertificate u p) (certificate_of u p text) c (certificate-is p text) gives
  gives-certificate p text (Err e) gives = tt
