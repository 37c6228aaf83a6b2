-- The fields from a place on, and those of the last paragraph.
use Rattle.std.proofs.Common.{◌≡◌, ℕ, ◌+◌, ◌-◌, ◌<◌, ◌≤◌, suc, List, [], ◌∷◌, length, map, drop, get_or, drop-cons, add-one, is_some, Option, Some, None, refl, sym, ap, ◌∙◌, arith, inl, inr}
use Rattle.std.specs.List.{list_any, slice_get, slice_range}
use Rattle.std.specs.Option.{option_map}
use Rattle.std.proofs.lemmas.Bool.{cases_Bool}
use Rattle.std.proofs.lemmas.List.{drop_all}
use Rattle.deb_stanza.specs.declared.table.Start.{Start}
use Rattle.deb_stanza.specs.Cut.{IsCut, cut}
use Rattle.deb_stanza.specs.Draft.{last_texts}
use Rattle.deb_stanza.specs.Stanza.{name_of, same_name}
use Rattle.deb_stanza.specs.View.{first_of_start, raw_of, texts_in, value_among}
use Rattle.deb_stanza.proofs.CutLaws.{IsCut-below, range-to_end}
use Rattle.deb_stanza.proofs.TableLaws.{length-texts}

-- ---- the last paragraph

pub last-start : (texts : List (List ℕ)) (ps : List Start) (s : Start)
    → Some s ≡ slice_get ps (length ps - 1)
    → drop s.first texts ≡ last_texts (cut first_of_start raw_of texts ps)
last-start texts [] s is = absurd cc
last-start texts (p ∷ []) s is =
    let same : s ≡ p = cc in
    ap (λ (q : Start). drop q.first texts) same ∙ sym (range-to_end texts p.first)
last-start texts (p ∷ q ∷ ps) s is =
    let more : length (p ∷ q ∷ ps) - 1 ≡ suc (length (q ∷ ps) - 1) = omega arith in
    last-start texts (q ∷ ps) s (rw more at is)

pub last-within : (n : ℕ) (ps : List Start) (s : Start) → IsCut first_of_start n ps
    → Some s ≡ slice_get ps (length ps - 1) → s.first ≤ n
last-within n [] s cut is = absurd cc
last-within n (p ∷ []) s cut is =
    let same : s ≡ p = cc in rw same (omega (arith, IsCut-below first_of_start n p [] cut))
last-within n (p ∷ q ∷ ps) s cut is =
    let more : length (p ∷ q ∷ ps) - 1 ≡ suc (length (q ∷ ps) - 1) = omega arith in
    last-within n (q ∷ ps) s cut.1 (rw more at is)

pub last-none : (texts : List (List ℕ)) (ps : List Start) → None ≡ slice_get ps (length ps - 1)
    → [] ≡ last_texts (cut first_of_start raw_of texts ps)
last-none texts [] is = refl
last-none texts (p ∷ []) is = absurd cc
last-none texts (p ∷ q ∷ ps) is =
    let more : length (p ∷ q ∷ ps) - 1 ≡ suc (length (q ∷ ps) - 1) = omega arith in
    last-none texts (q ∷ ps) (rw more at is)

-- ---- the fields from a place on

pub range-texts : (bytes fields : List ℕ) (i n : ℕ) → n ≡ length fields
    → slice_range (texts_in bytes fields) i n ≡ drop i (texts_in bytes fields)
range-texts bytes fields i n is =
    ap (slice_range (texts_in bytes fields) i) (is ∙ sym (length-texts bytes fields))
    ∙ range-to_end (texts_in bytes fields) i

pub drop-texts : (bytes fields : List ℕ) (i : ℕ) → length fields ≤ i
    → drop i (texts_in bytes fields) ≡ []
drop-texts bytes fields i le =
    drop_all i (texts_in bytes fields) (omega (arith, length-texts bytes fields))

pub names-cons : (bytes fields : List ℕ) (i : ℕ) → i < length fields
    → map name_of (drop i (texts_in bytes fields))
    ≡ name_of (get_or (texts_in bytes fields) i [])
    ∷ map name_of (drop (i + 1) (texts_in bytes fields))
names-cons bytes fields i lt =
    let texts = texts_in bytes fields in
    let within : i < length texts = omega (arith, length-texts bytes fields) in
    rw (add-one, drop-cons texts i [] within) refl

is_some-map : {X Y : Type 0} (f : X → Y) (o : Option X) → is_some (option_map f o) ≡ is_some o
is_some-map f None = refl
is_some-map f (Some x) = refl

some-among : (name : List ℕ) (texts : List (List ℕ))
    → is_some (value_among name texts) ≡ list_any (same_name name) (map name_of texts)
some-among name [] = refl
some-among name (t ∷ ts) =
    elim (cases_Bool (same_name name (name_of t))) [
      | inl is ↦ rw is refl
      | inr is ↦ rw is (some-among name ts)
    ]

-- a name is there where its value is
pub some-value : {X : Type 0} (f : X → List ℕ) (o : Option X) (name : List ℕ)
    (texts : List (List ℕ)) → option_map f o ≡ value_among name texts
    → is_some o ≡ list_any (same_name name) (map name_of texts)
some-value f o name texts is = sym (is_some-map f o) ∙ ap is_some is ∙ some-among name texts
