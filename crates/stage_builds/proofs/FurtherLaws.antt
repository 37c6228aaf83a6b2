-- Words that are put behind others where they are allowed and new.
use Rattle.std.proofs.Common.{◌≡◌, ℕ, ◌+◌, ◌<◌, Bool, true, false, not, ◌&&◌, ◌||◌, List, [], ◌∷◌, ◌++◌, length, get_or, drop, nat_eq, codes, refl, sym, ap, ◌∙◌, inl, inr, map}
use Rattle.std.specs.List.{starts_with}
use Rattle.std.specs.List.Sorted.{IsPermutation}
use Rattle.std.specs.Str.{bytes_eq}
use Rattle.std.proofs.lemmas.Bool.{and_cases, and_parts, cases_Bool, not-false}
use Rattle.std.proofs.lemmas.List.{at_drop_more, map_push}
use Rattle.std.proofs.lemmas.List.Folds.{list_any-append}
use Rattle.std.proofs.lemmas.List.Sorted.{IsPermutation-map, list_any-IsPermutation}
use Rattle.deb_text.proofs.ListLaws.{bytes-same}
use Rattle.deb_profile.specs.Restriction.{is_among}
use Rattle.stage_builds.specs.Profiles.{is_further}

or-other : (a l : Bool) → a ≡ (a || l && false)
or-other true l = refl
or-other false true = refl
or-other false false = refl

or-none : (a e : Bool) → a ≡ (a || false && e)
or-none true e = refl
or-none false e = refl

-- a word that is not allowed, or is there, changes nothing
pub stays : (allows : List ℕ → Bool) (there : List (List ℕ)) (word q : List ℕ)
    → (allows word && not (is_among there word)) ≡ false
    → is_among there q ≡ (is_among there q || allows q && bytes_eq q word)
stays allows there word q old =
    elim (cases_Bool (bytes_eq q word)) [
      | inr other ↦ rw other (or-other (is_among there q) (allows q))
      | inl same ↦
          let e : q ≡ word = bytes-same q word same in
          elim (and_cases (allows word) (not (is_among there word)) old) [
            | inl lacks ↦
                let not_q : allows q ≡ false = ap allows e ∙ lacks in
                rw not_q (or-none (is_among there q) (bytes_eq q word))
            | inr known ↦
                let is_q : is_among there q ≡ true =
                ap (is_among there) e ∙ not-false (is_among there word) known in
                rw is_q refl
          ]
    ]

or-same : (a e l : Bool) → (e ≡ true → l ≡ true) → (a || (e || false)) ≡ (a || l && e)
or-same true e l f = refl
or-same false true l f = rw (f refl) refl
or-same false false true f = refl
or-same false false false f = refl

-- one that is allowed is there then
pub grows : {R : Type 0} (text : R → List ℕ) (allows : List ℕ → Bool) (there : List R) (word : R)
    (q : List ℕ) → allows (text word) ≡ true
    → is_among (map text (there ++ word ∷ [])) q
    ≡ (is_among (map text there) q || allows q && bytes_eq q (text word))
grows text allows there word q may =
    ap (λ ws. is_among ws q) (map_push text there word)
    ∙ list_any-append (bytes_eq q) (map text there) (text word ∷ [])
    ∙ or-same (is_among (map text there) q) (bytes_eq q (text word)) (allows q)
    (λ same. ap allows (bytes-same q (text word) same) ∙ may)

-- a step of a loop over words
pub shift : (a l e r : Bool) → ((a || l && e) || l && r) ≡ (a || l && (e || r))
shift true l e r = refl
shift false true true r = refl
shift false true false r = refl
shift false false e r = refl

next : {R : Type 0} (words : List R) (i : ℕ) (word : R) → i < length words
    → word ≡ get_or words i word → drop i words ≡ word ∷ drop (i + 1) words
next words i word lt is =
    at_drop_more (λ ws. ws) words i word lt ∙ ap (λ w. w ∷ drop (i + 1) words) (sym is)

pub allowed-more : {R : Type 0} (text : R → List ℕ) (words : List R) (i : ℕ) (word : R)
    (q : List ℕ) (new before allowed all : Bool)
    → i < length words → word ≡ get_or words i word
    → new ≡ (before || allowed && bytes_eq q (text word))
    → (before || allowed && is_among (map text (drop i words)) q) ≡ all
    → (new || allowed && is_among (map text (drop (i + 1) words)) q) ≡ all
allowed-more text words i word q new before allowed all lt is step so_far =
    let rest = is_among (map text (drop (i + 1) words)) q in
    let here = ap (λ ws. is_among (map text ws) q) (next words i word lt is) in
    ap (λ b. b || allowed && rest) step
    ∙ shift before allowed (bytes_eq q (text word)) rest
    ∙ ap (λ b. before || allowed && b) (sym here)
    ∙ so_far

pub allowed-named : (stages base : List (List ℕ)) (own : List ℕ) (named : List (List ℕ)) (q : List ℕ)
    → is_further stages base own named q ≡ true → is_among named q ≡ true
allowed-named stages base own named q e =
    let ways = is_among stages q || is_among stages (codes "pkg") && starts_with nat_eq q own in
    let front = and_parts (is_among named q && not (is_among base q)) ways e in
    (and_parts (is_among named q) (not (is_among base q)) front.0).0

whole : (f s n : Bool) → (f ≡ true → n ≡ true) → ((false || f && s) || f && n) ≡ f
whole true true n g = refl
whole true false n g = g refl
whole false s n g = refl

-- stages first, then all that is named, in any order: what is allowed is named
pub all-allowed : {R : Type 0} (text : R → List ℕ) (allows : List ℕ → Bool)
    (named ordered : List R) (q : List ℕ) (first second stage : Bool)
    → IsPermutation named ordered
    → (allows q ≡ true → is_among (map text named) q ≡ true)
    → first ≡ (false || allows q && stage)
    → second ≡ (first || allows q && is_among (map text ordered) q)
    → second ≡ allows q
all-allowed text allows named ordered q first second stage moved named_q one two =
    let same : is_among (map text named) q ≡ is_among (map text ordered) q =
    list_any-IsPermutation (bytes_eq q) (map text named) (map text ordered)
    (IsPermutation-map text named ordered moved) in
    two ∙ rw (one, ← same) (whole (allows q) stage (is_among (map text named) q) named_q)
