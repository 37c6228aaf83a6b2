-- The sets of names of a paragraph with many fields. Only clauses of private functions cite this
-- file.
--
--   lowered     a name in small letters
--   packed      a name as a number
--   has         a name in small letters is in the set for its length
--   HasNames    the sets have these names
use Rattle.std.specs.Prelude.{◌≡◌, ℕ, ◌+◌, ◌*◌, ◌%◌, ◌^◌, Bool, true, List, [], ◌∷◌, length, nat_lt, if◌then◌else◌}
use Rattle.std.specs.List.{list_all}
use Rattle.std.specs.Str.{str_to_ascii_lowercase}
use Rattle.std.specs.Ordering.{nat_cmp}
use Rattle.std.specs.Cmp.Lexicographic.{slice_cmp}
use Rattle.std.specs.BTreeSet.{contains_by}
use Rattle.deb_stanza.specs.declared.names.Names.{Names}

abbrev pub lowered : List ℕ → List ℕ
lowered name = str_to_ascii_lowercase name

-- behind a number, its bytes as digits to the base 128, as far as 128 bits go
abbrev pub packed_behind : ℕ → List ℕ → ℕ
packed_behind number [] = number
packed_behind number (b ∷ bs) = packed_behind (number % 2 ^ 120 * 128 + b) bs

abbrev pub packed : List ℕ → ℕ
packed key = packed_behind 1 key

abbrev pub has : Names → List ℕ → Bool
has names key =
    if nat_lt (length key) 10 then contains_by (nat_cmp (packed key % 2 ^ 64)) names.short
    else (if nat_lt (length key) 19 then contains_by (nat_cmp (packed key)) names.middle
    else contains_by (λ k. slice_cmp nat_cmp key k.items) names.long)

-- no other name is new
abbrev pub HasNames : Names → List (List ℕ) → Type 0
HasNames names given = list_all (λ name. has names (lowered name)) given ≡ true
