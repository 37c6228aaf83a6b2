-- Names as numbers, and the sets that they are kept in.
use Rattle.std.proofs.Common.{◌≡◌, ℕ, ◌+◌, ◌-◌, ◌*◌, ◌%◌, ◌^◌, ◌<◌, ◌≤◌, Bool, true, false, List, [], ◌∷◌, length, take, drop, get_or, Ordering, if◌then◌else◌, refl, ap, ◌∙◌, arith, inl, inr}
use Rattle.std.specs.Prelude.{nat_lt}
use Rattle.std.specs.Char.{to_ascii_lowercase}
use Rattle.std.specs.List.{list_any}
use Rattle.std.specs.Global.{Vec}
use Rattle.std.specs.BTreeSet.{BTreeSet, insert_key, contains_by}
use Rattle.std.specs.BTreeMap.{is_at}
use Rattle.std.specs.declared.cmp.Ordering.TheVariants.{Less, Equal, Greater}
use Rattle.std.specs.Ordering.{nat_cmp, match_ordering}
use Rattle.std.specs.Cmp.Lexicographic.{slice_cmp}
use Rattle.std.proofs.lemmas.Bool.{or_cases, or_left, or_right}
use Rattle.deb_text.proofs.FindLaws.{from-drop}
use Rattle.deb_stanza.specs.Names.{lowered, packed, packed_behind, has}
use Rattle.deb_stanza.specs.declared.names.Names.{Names}

-- ---- the number of a name

pub packed_step : (number : ℕ) (text : List ℕ) → 1 ≤ length text
    → packed_behind (number % 2 ^ 120 * 128 + to_ascii_lowercase (get_or text 0 0))
    (lowered (take (length text - 1) (drop 1 text)))
    ≡ packed_behind number (lowered text)
packed_step number [] some = absurd (omega arith)
packed_step number (b ∷ bs) some = rw (from-drop (b ∷ bs) 1) refl

pub packed_end : (number : ℕ) (text : List ℕ) → length text < 1
    → packed_behind number (lowered text) ≡ number
packed_end number [] none = refl
packed_end number (b ∷ bs) none = absurd (omega arith)

-- ---- a key that is put to others

module _ {K : Type 0} (cmp : K → K → Ordering) (q : K → Ordering) where
  -- whoever looks for it or for another finds it
  pub found_again : (k : K) (xs : List K)
      → list_any (is_at q) xs ≡ true → list_any (is_at q) (insert_key cmp xs k) ≡ true
  found_again k [] some = absurd cc
  found_again k (x ∷ xs) some = by (cmp k x) (found_again k xs) where
    by : (o : Ordering) → (list_any (is_at q) xs ≡ true
        → list_any (is_at q) (insert_key cmp xs k) ≡ true)
        → list_any (is_at q) (match_ordering o (k ∷ x ∷ xs) (x ∷ xs) (x ∷ insert_key cmp xs k))
        ≡ true
    by Less later = or_right (is_at q k) _ some
    by Equal later = some
    by Greater later = elim (or_cases (is_at q x) (list_any (is_at q) xs) some) [
      | inl here ↦ or_left (is_at q x) _ here
      | inr there ↦ or_right (is_at q x) _ (later there)
    ]

-- a long name more
abbrev pub key_cmp : Vec ℕ → Vec ℕ → Ordering
key_cmp a b = slice_cmp nat_cmp a.items b.items

pub kept_long : (old : Names) (long : BTreeSet (Vec ℕ)) (k : Vec ℕ)
    → long.keys ≡ insert_key key_cmp old.long.keys k → (key : List ℕ) → has old key ≡ true
    → has (record { short = old.short; middle = old.middle; long = long }) key ≡ true
kept_long old long k is key was =
    by (nat_lt (length key) 10) (nat_lt (length key) 19) was
  where
    q : Vec ℕ → Ordering
    q x = slice_cmp nat_cmp key x.items

    by : (s m : Bool)
        → (if s then contains_by (nat_cmp (packed key % 2 ^ 64)) old.short
        else (if m then contains_by (nat_cmp (packed key)) old.middle
        else contains_by q old.long)) ≡ true
        → (if s then contains_by (nat_cmp (packed key % 2 ^ 64)) old.short
        else (if m then contains_by (nat_cmp (packed key)) old.middle
        else contains_by q long)) ≡ true
    by true m there = there
    by false true there = there
    by false false there =
        ap (list_any (is_at q)) is ∙ found_again key_cmp q k old.long.keys there
