-- The texts of an alternative, where they lie one behind the other.
use Rattle.std.proofs.Common.{◌≡◌, ℕ, ◌+◌, ◌-◌, ◌≤◌, ◌==◌, true, false, List, [], ◌++◌, length, take, drop, Option, Some, None, IfSome, refl, sym, ap, ◌∙◌, arith, append_assoc, true≢false}
use Rattle.std.specs.List.{slice_range}
use Rattle.std.specs.Option.{option_map}
use Rattle.std.specs.Result.{is_ok}
use Rattle.std.proofs.Math.Seq.{take-append_seam, drop-append_seam}
use Rattle.std.proofs.lemmas.List.{length-append, take-append-drop}
use Rattle.deb_version.specs.Grammar.{version_at}
use Rattle.deb_relation.specs.declared.operator.Op.{Op}
use Rattle.deb_relation.specs.declared.store.Cuts.{Cuts}
use Rattle.deb_relation.specs.Stored.{AreCut, IsLength, Measures, bytes_of, joined, qualifier_in, relation_in, texts_in, version_end, version_in, version_start}

-- what lies between two texts
between : (before inside behind : List ℕ)
    → slice_range (before ++ (inside ++ behind)) (length before) (length before + length inside)
    ≡ inside
between before inside behind =
    let long : length before + length inside - length before ≡ length inside = omega arith in
    rw (long, drop-append_seam before (inside ++ behind)) (take-append_seam inside behind)

some-length : (n : ℕ) (text : List ℕ) → IsLength n (Some text) → (n == 0) ≡ false
some-length n text is = search (arith, is.1)

length-of : (n : ℕ) (text : Option (List ℕ)) → IsLength n text → n ≡ length (bytes_of text)
length-of n None is = is
length-of n (Some text) is = is.0

module _ (cuts : Cuts) (name : List ℕ) (qualifier : Option (List ℕ))
    (relation : Option (Op × List ℕ)) (text : List ℕ)
    (measures : Measures cuts name qualifier (option_map (λ r. r.1) relation))
    (joins : take (length (joined name qualifier (option_map (λ r. r.1) relation))) text
    ≡ joined name qualifier (option_map (λ r. r.1) relation)) where
  abbrev version : Option (List ℕ)
  version = option_map (λ r. r.1) relation

  abbrev whole : List ℕ
  whole = joined name qualifier version

  abbrev behind : List ℕ
  behind = drop (length whole) text

  front : text ≡ whole ++ behind
  front =
      sym (take-append-drop (length whole) text) ∙ ap (λ (xs : List ℕ). xs ++ behind) joins

  at-name : text ≡ name ++ (bytes_of qualifier ++ (bytes_of version ++ behind))
  at-name =
      front ∙ append_assoc name (bytes_of qualifier ++ bytes_of version) behind
      ∙ ap (λ (xs : List ℕ). name ++ xs)
      (append_assoc (bytes_of qualifier) (bytes_of version) behind)

  at-version : text ≡ (name ++ bytes_of qualifier) ++ (bytes_of version ++ behind)
  at-version =
      at-name ∙ sym (append_assoc name (bytes_of qualifier) (bytes_of version ++ behind))

  start : version_start cuts ≡ length (name ++ bytes_of qualifier)
  start =
      omega (
        arith,
        measures.of_name,
        length-of _ _ measures.of_qualifier,
        length-append name (bytes_of qualifier),
      )

  pub ends : version_end cuts ≡ length whole
  ends =
      omega (
        arith,
        measures.of_name,
        length-of _ _ measures.of_qualifier,
        length-of _ _ measures.of_version,
        length-append (bytes_of qualifier) (bytes_of version),
        length-append name (bytes_of qualifier ++ bytes_of version),
      )

  fits : version_end cuts ≤ length text
  fits = omega (arith, ends, ap length front, length-append whole behind)

  name-is : take cuts.name text ≡ name
  name-is =
      rw (measures.of_name, at-name)
      (take-append_seam name (bytes_of qualifier ++ (bytes_of version ++ behind)))

  qualifier-is : qualifier_in cuts text ≡ qualifier
  qualifier-is = by qualifier measures.of_qualifier at-name where
    by : (q : Option (List ℕ)) → IsLength cuts.qualifier q
        → text ≡ name ++ (bytes_of q ++ (bytes_of version ++ behind))
        → qualifier_in cuts text ≡ q
    by None is at = rw is refl
    by (Some bytes) is at =
        rw (some-length cuts.qualifier bytes is, is.0, measures.of_name)
        (ap Some (ap (λ (xs : List ℕ). slice_range xs (length name) (length name + length bytes)) at
        ∙ between name bytes (bytes_of version ++ behind)))

  version-is : version_in cuts text ≡ bytes_of version
  version-is =
      rw (start, length-of _ _ measures.of_version)
      (ap (λ (xs : List ℕ). slice_range xs (length (name ++ bytes_of qualifier))
      (length (name ++ bytes_of qualifier) + length (bytes_of version))) at-version
      ∙ between (name ++ bytes_of qualifier) (bytes_of version) behind)

  module _ (op : IfSome relation (λ r. cuts.op ≡ r.0)) where
    relation-is : relation_in cuts text ≡ relation
    relation-is = by relation op measures.of_version version-is where
      by : (r : Option (Op × List ℕ)) → IfSome r (λ x. cuts.op ≡ x.0)
          → IsLength cuts.version (option_map (λ x. x.1) r)
          → version_in cuts text ≡ bytes_of (option_map (λ x. x.1) r) → relation_in cuts text ≡ r
      by None is long at = rw long refl
      by (Some r) is long at =
          rw (some-length cuts.version r.1 long) (ap Some (pair is at)) where
            pair : cuts.op ≡ r.0 → version_in cuts text ≡ r.1 → (cuts.op, version_in cuts text) ≡ r
            pair same is = rw (same, is) refl

    -- the alternative is read again from its texts
    pub texts-are : texts_in cuts text ≡ record {
      name = name;
      qualifier = qualifier;
      relation = relation;
      archs = None;
      profiles = [];
    }
    texts-are = rw (name-is, qualifier-is, relation-is) refl

  pub are-cut : IfSome relation (λ r. is_ok (version_at r.1) ≡ true) → AreCut cuts text
  are-cut versions =
      record { fits = fits; version = by relation versions measures.of_version version-is } where
        by : (r : Option (Op × List ℕ)) → IfSome r (λ x. is_ok (version_at x.1) ≡ true)
            → IsLength cuts.version (option_map (λ x. x.1) r)
            → version_in cuts text ≡ bytes_of (option_map (λ x. x.1) r)
            → (cuts.version == 0) ≡ false → is_ok (version_at (version_in cuts text)) ≡ true
        by None is long at some = absurd (true≢false (rw long at some))
        by (Some r) is long at some = rw at is
