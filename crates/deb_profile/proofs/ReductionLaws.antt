-- What was reduced is reduced no further, and what is bare stays as it is.
use Rattle.std.proofs.Common.{◌≡◌, ℕ, ◌≤◌, Bool, true, false, not, ◌==◌, ◌&&◌, List, [], ◌∷◌, ◌++◌, length, refl, sym, ap, ◌∙◌, arith, inl, inr, map, filter, append_assoc, if◌then◌else◌, Option, Some, None}
use Rattle.std.proofs.lemmas.Bool.{cases_Bool, and_parts}
use Rattle.std.proofs.lemmas.List.{map-append}
use Rattle.std.proofs.lemmas.List.Elements.{filter-append}
use Rattle.std.specs.List.{list_all}
use Rattle.std.specs.Option.{is_none}
use Rattle.deb_text.specs.Cuts.{is_nil}
use Rattle.deb_relation.specs.Common.{Item, ArchList, Atom, Entry, Relations, is_bare_atom, left_for, unrestricted}
use Rattle.deb_profile.specs.Reduction.{means_nothing, qualifier_left, bare, atoms_left, reduced_entry, entry_left, reduced, is_bare_entry, is_bare}
use Rattle.deb_profile.specs.Restriction.{is_among, keeps}

-- a qualifier that is left stays left
qualifier-again : (names : List (List ℕ)) (qualifier : Option (List ℕ))
    → qualifier_left names (qualifier_left names qualifier) ≡ qualifier_left names qualifier
qualifier-again names None = refl
qualifier-again names (Some qualifier) =
    elim (cases_Bool (means_nothing names qualifier)) [
      | inl is ↦ rw is refl
      | inr is ↦ rw (is, is) refl
    ]

-- an alternative without restrictions stays
bare-stays : (names others : List (List ℕ)) (atoms : Entry)
    → filter (keeps names others) (map (bare names) atoms) ≡ map (bare names) atoms
bare-stays names others [] = refl
bare-stays names others (a ∷ more) =
    ap (λ atoms. bare names a ∷ atoms) (bare-stays names others more)

bare-again : (names : List (List ℕ)) (atoms : Entry)
    → map (bare names) (map (bare names) atoms) ≡ map (bare names) atoms
bare-again names [] = refl
bare-again names (a ∷ more) =
    rw (qualifier-again names a.qualifier)
    (ap (λ atoms. bare names a ∷ atoms) (bare-again names more))

pub reduced-again : (names active others : List (List ℕ)) (entry : Entry)
    → reduced_entry names others (reduced_entry names active entry)
    ≡ reduced_entry names active entry
reduced-again names active others entry =
    let left = filter (keeps names active) entry in
    ap (map (bare names)) (bare-stays names others left) ∙ bare-again names left

-- ---- one entry at a time

-- of an entry comes one entry, or none
pub entry_left-few : (entry : Entry) → length (entry_left entry) ≤ 1
entry_left-few [] = omega arith
entry_left-few (a ∷ atoms) = omega arith

pub reduced-append : (names active : List (List ℕ)) (atoms more : Entry)
    → reduced_entry names active (atoms ++ more)
    ≡ reduced_entry names active atoms ++ reduced_entry names active more
reduced-append names active atoms more =
    ap (map (bare names)) (filter-append (keeps names active) atoms more)
    ∙ map-append (bare names) (filter (keeps names active) atoms) (filter (keeps names active) more)

-- ---- what is bare stays as it is

module _ (names active : List (List ℕ)) where
  bare-same : {atom : Atom} → atom.qualifier ≡ None → atom.archs ≡ None → atom.profiles ≡ []
      → bare names atom ≡ atom
  bare-same {atom} q a p =
      let left = ap (qualifier_left names) q ∙ sym q in
      ap (λ it. record {
        name = atom.name;
        qualifier = it;
        relation = atom.relation;
        archs = None;
        profiles = [];
      }) left
      ∙ ap (λ it. record {
        name = atom.name;
        qualifier = atom.qualifier;
        relation = atom.relation;
        archs = it;
        profiles = [];
      }) (sym a)
      ∙ ap (λ it. record {
        name = atom.name;
        qualifier = atom.qualifier;
        relation = atom.relation;
        archs = atom.archs;
        profiles = it;
      }) (sym p)

  pub bare-atom : (atom : Atom) → is_bare_atom atom ≡ true
      → (bare names atom ≡ atom) × (keeps names active atom ≡ true)
  bare-atom atom is = by atom.qualifier atom.archs atom.profiles refl refl refl is where
    by : (qualifier : Option (List ℕ)) (archs : Option ArchList) (profiles : List (List Item))
        → atom.qualifier ≡ qualifier → atom.archs ≡ archs → atom.profiles ≡ profiles
        → is_none qualifier && is_none archs && is_nil profiles ≡ true
        → (bare names atom ≡ atom) × (keeps names active atom ≡ true)
    by None None [] q a p is = (bare-same q a p, rw (a, p) refl)
    by (Some qualifier) archs profiles q a p is = absurd cc
    by None (Some archs) profiles q a p is = absurd cc
    by None None (list ∷ lists) q a p is = absurd cc

  bare-atoms : (entry : Entry) → list_all is_bare_atom entry ≡ true
      → reduced_entry names active entry ≡ entry
  bare-atoms [] are = refl
  bare-atoms (a ∷ atoms) are =
      let both = and_parts (is_bare_atom a) (list_all is_bare_atom atoms) are in
      let first = bare-atom a both.0 in
      rw (first.1, first.0, bare-atoms atoms both.1) refl

  -- an entry
  pub bare-entry : (entry : Entry) → is_bare_entry entry ≡ true
      → reduced_entry names active entry ≡ entry
  bare-entry entry is =
      bare-atoms entry (and_parts (not (is_nil entry)) (list_all is_bare_atom entry) is).1

  some-left : (entry : Entry) → is_bare_entry entry ≡ true → entry_left entry ≡ entry ∷ []
  some-left [] is = absurd cc
  some-left (a ∷ atoms) is = refl

  -- and a field
  pub bare-field : (field : Relations) → is_bare field ≡ true
      → reduced names active field ≡ field
  bare-field [] are = refl
  bare-field (entry ∷ entries) are =
      let both = and_parts (is_bare_entry entry) (list_all is_bare_entry entries) are in
      rw (bare-entry entry both.0, some-left entry both.0, bare-field entries both.1) refl

-- an entry that is not empty is bare where its alternatives are
pub all-bare : (entry : Entry) → false ≡ (length entry == 0)
    → list_all is_bare_atom entry ≡ is_bare_entry entry
all-bare [] some = absurd cc
all-bare (a ∷ atoms) some = refl

-- one more alternative that was read
module _ (names active : List (List ℕ)) (kept : Entry) (atom : Atom) (more : Entry) where
  reduced-next : (kept ++ reduced_entry names active (atom ∷ [])) ++ reduced_entry names active more
      ≡ kept ++ reduced_entry names active (atom ∷ more)
  reduced-next =
      append_assoc kept (reduced_entry names active (atom ∷ [])) (reduced_entry names active more)
      ∙ ap (λ (left : Entry). kept ++ left) (sym (reduced-append names active (atom ∷ []) more))

  reduced-one : atoms_left names (left_for (is_among names) (is_among active) atom)
      ≡ reduced_entry names active (atom ∷ [])
  reduced-one = by (keeps names active atom) where
    by : (stays : Bool) → atoms_left names (if stays then Some (unrestricted atom) else None)
        ≡ map (bare names) (if stays then atom ∷ [] else [])
    by true = refl
    by false = refl

  pub reduced-left : (left : Option Atom)
      → left_for (is_among names) (is_among active) atom ≡ left
      → (kept ++ atoms_left names left) ++ reduced_entry names active more
      ≡ kept ++ reduced_entry names active (atom ∷ more)
  reduced-left left is =
      ap (λ (one : Entry). (kept ++ one) ++ reduced_entry names active more)
      (ap (atoms_left names) (sym is) ∙ reduced-one)
      ∙ reduced-next
