-- Encoded names: each is decoded, so two are one exactly if they are of one name and one sense.
use Rattle.std.proofs.Common.{◌≡◌, ℕ, Bool, true, false, not, ◌&&◌, List, [], ◌∷◌, refl, sym, ap, ◌∙◌, subst}
use Rattle.std.proofs.lemmas.Bool.{and_parts, and_from, or_parts, not-true, and_right}
use Rattle.std.proofs.lemmas.List.Folds.{list_any-append}
use Rattle.std.proofs.lemmas.Slice.Eq.{bytes_eq-Decides}
use Rattle.std.proofs.Math.Bool.{or-true}
use Rattle.std.specs.List.{list_any, list_all}
use Rattle.std.specs.Str.{bytes_eq}
use Rattle.deb_text.specs.Bytes.{is_byte, is_qualifier_byte}
use Rattle.deb_text.specs.Cuts.{is_nil, is_last}
use Rattle.deb_text.proofs.TestLaws.{none-other}
use Rattle.cross_laws.specs.declared.types.Side.{Side}
use Rattle.cross_laws.specs.declared.types.Side.TheVariants.{Build, Host}
use Rattle.cross_laws.specs.Binary.{Sides, is_side}
use Rattle.cross_laws.specs.Names.{Sense, Of, ForAny, One, dot, any_mark, one_mark, marked, encoded, mark_of, stem_of, is_taken, is_mark, decoded}
use Rattle.cross_laws.proofs.Lists.{both-ways}

pub bytes-same : (x y : List ℕ) → bytes_eq x y ≡ true → x ≡ y
bytes-same x y e = (bytes_eq-Decides x y).0 e

pub bytes-self : (x : List ℕ) → bytes_eq x x ≡ true
bytes-self x = (bytes_eq-Decides x x).1 refl

bytes-back : (x y : List ℕ) → bytes_eq x y ≡ true → bytes_eq y x ≡ true
bytes-back x y e = subst (λ z. bytes_eq z x ≡ true) (bytes-same x y e) (bytes-self x)

pub bytes-turned : (x y : List ℕ) → bytes_eq x y ≡ bytes_eq y x
bytes-turned x y = both-ways (bytes_eq x y) (bytes_eq y x) (bytes-back x y) (bytes-back y x)

-- ---- marks

-- a mark has no full stop
abbrev HasNone : List ℕ → Type 0
HasNone mark = list_any (is_byte dot) mark ≡ false

module _ (mark : List ℕ) (none : HasNone mark) where
  not-last : (b : ℕ) (name : List ℕ) → is_last (is_byte dot) b (marked name mark) ≡ false
  not-last b name =
      rw (list_any-append (is_byte dot) name (dot ∷ mark), or-true)
      (and_right (is_byte dot b) false refl)

  mark-found : (name : List ℕ) → mark_of (marked name mark) ≡ mark
  mark-found [] = rw none refl
  mark-found (b ∷ bs) = rw (not-last b bs) (mark-found bs)

  stem-found : (name : List ℕ) → stem_of (marked name mark) ≡ name
  stem-found [] = rw none refl
  stem-found (b ∷ bs) = rw (not-last b bs) (ap (λ xs. b ∷ xs) (stem-found bs))

-- the marks are three
record AreMarks (host : List ℕ) : Type 0 where
  none : HasNone host
  not_any : bytes_eq host any_mark ≡ false
  not_one : bytes_eq host one_mark ≡ false

are-marks : (host : List ℕ) → is_mark host ≡ true → AreMarks host
unfolding is_mark
are-marks host is =
    let a = and_parts _ (not (bytes_eq host one_mark)) is in
    let b = and_parts _ (not (bytes_eq host any_mark)) a.0 in
    let c = and_parts (not (is_nil host)) (list_all is_qualifier_byte host) b.0 in
    record {
      none = none-other is_qualifier_byte dot refl host c.1;
      not_any = not-true (bytes_eq host any_mark) b.1;
      not_one = not-true (bytes_eq host one_mark) a.1;
    }

record IsFree (s : Sides) (name : List ℕ) : Type 0 where
  not_host : bytes_eq (mark_of name) s.host ≡ false
  not_any : bytes_eq (mark_of name) any_mark ≡ false
  not_one : bytes_eq (mark_of name) one_mark ≡ false

is-free : (s : Sides) (name : List ℕ) → is_taken s name ≡ false → IsFree s name
unfolding is_taken
is-free s name free =
    let a = or_parts _ (bytes_eq (mark_of name) one_mark) free in
    let b = or_parts (bytes_eq (mark_of name) s.host) (bytes_eq (mark_of name) any_mark) a.0 in
    record { not_host = b.0; not_any = b.1; not_one = a.1 }

module _ (s : Sides) (is : is_mark s.host ≡ true) (name : List ℕ)
    (free : is_taken s name ≡ false) where
  pub decoded-encoded : (sense : Sense) → decoded s (encoded s sense name) ≡ (sense, name)
  unfolding decoded encoded
  decoded-encoded (Of Build) =
      let f = is-free s name free in
      rw (f.not_host, f.not_any, f.not_one) refl
  decoded-encoded (Of Host) =
      let f = is-free s name free in
      let m = are-marks s.host is in
      rw (
        mark-found s.host m.none name,
        stem-found s.host m.none name,
        bytes-self s.host,
        f.not_any,
      ) refl
  decoded-encoded (ForAny Build) =
      let m = are-marks s.host is in
      rw (
        mark-found any_mark refl name,
        stem-found any_mark refl name,
        bytes-turned any_mark s.host,
        m.not_any,
      ) refl
  decoded-encoded (ForAny Host) =
      let m = are-marks s.host is in
      rw (
        mark-found s.host m.none (marked name any_mark),
        stem-found s.host m.none (marked name any_mark),
        bytes-self s.host,
        mark-found any_mark refl name,
        stem-found any_mark refl name,
      ) refl
  decoded-encoded One =
      let m = are-marks s.host is in
      rw (
        mark-found one_mark refl name,
        stem-found one_mark refl name,
        bytes-turned one_mark s.host,
        m.not_one,
      ) refl

-- ---- equal names

abbrev pub is_sense : Sense → Sense → Bool
is_sense (Of x) (Of y) = is_side x y
is_sense (Of x) (ForAny y) = false
is_sense (Of x) One = false
is_sense (ForAny x) (Of y) = false
is_sense (ForAny x) (ForAny y) = is_side x y
is_sense (ForAny x) One = false
is_sense One (Of y) = false
is_sense One (ForAny y) = false
is_sense One One = true

pub side-self : (x : Side) → is_side x x ≡ true
side-self Build = refl
side-self Host = refl

pub side-same : (x y : Side) → is_side x y ≡ true → x ≡ y
side-same Build Build e = refl
side-same Build Host e = absurd cc
side-same Host Build e = absurd cc
side-same Host Host e = refl

sense-self : (j : Sense) → is_sense j j ≡ true
sense-self (Of x) = side-self x
sense-self (ForAny x) = side-self x
sense-self One = refl

sense-same : (j k : Sense) → is_sense j k ≡ true → j ≡ k
sense-same (Of x) (Of y) e = ap Of (side-same x y e)
sense-same (Of x) (ForAny y) e = absurd cc
sense-same (Of x) One e = absurd cc
sense-same (ForAny x) (Of y) e = absurd cc
sense-same (ForAny x) (ForAny y) e = ap ForAny (side-same x y e)
sense-same (ForAny x) One e = absurd cc
sense-same One (Of y) e = absurd cc
sense-same One (ForAny y) e = absurd cc
sense-same One One e = refl

module _ (s : Sides) (is : is_mark s.host ≡ true) (j k : Sense) (n m : List ℕ)
    (free : is_taken s n ≡ false) (other_free : is_taken s m ≡ false) where
  one-name : bytes_eq (encoded s j n) (encoded s k m) ≡ true
      → (is_sense j k && bytes_eq n m) ≡ true
  one-name e =
      let names = bytes-same (encoded s j n) (encoded s k m) e in
      let pairs : (j, n) ≡ (k, m) =
      sym (decoded-encoded s is n free j) ∙ ap (decoded s) names
      ∙ decoded-encoded s is m other_free k in
      and_from (is_sense j k) (bytes_eq n m)
      (subst (λ l. is_sense j l ≡ true) (ap (λ p. p.0) pairs) (sense-self j))
      (subst (λ l. bytes_eq n l ≡ true) (ap (λ p. p.1) pairs) (bytes-self n))

  one-sense : (is_sense j k && bytes_eq n m) ≡ true
      → bytes_eq (encoded s j n) (encoded s k m) ≡ true
  one-sense e =
      let both = and_parts (is_sense j k) (bytes_eq n m) e in
      let first = ap (λ l. encoded s l n) (sense-same j k both.0) in
      let second = ap (encoded s k) (bytes-same n m both.1) in
      subst (λ l. bytes_eq (encoded s j n) l ≡ true) (first ∙ second) (bytes-self (encoded s j n))

  pub encoded-same : bytes_eq (encoded s j n) (encoded s k m) ≡ (is_sense j k && bytes_eq n m)
  encoded-same =
      both-ways (bytes_eq (encoded s j n) (encoded s k m)) (is_sense j k && bytes_eq n m) one-name
      one-sense
