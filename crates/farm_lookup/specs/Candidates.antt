-- Which names may have a variant that satisfies an alternative. The project's own words.
--
--   IsCandidate, AreCandidates   a name is listed under its text and under what its variants
--                                provide; each name of a universe is
--   HasAll                       whose variants satisfy an alternative of this name is among them
--   has_variant                  some variant of the universe satisfies an alternative
--   NoneOf, NoneAmong            no variant of a name does; none of these names
use Rattle.std.specs.Prelude.{◌≡◌, ℕ, ◌<◌, Bool, true, false, List, [], Some, slice_get, slice_index_or}
use Rattle.deb_relation.specs.Relations.{Atom}
use Rattle.farm_model.specs.Common.{some_below, Universe, names, variant, variants, package_of, satisfies, some_variant}
use Rattle.item_index.specs.declared.item.Item.{Item}
use Rattle.item_index.specs.Items.{item, IsListed, IsListedField}

pub record IsCandidate (u : Universe) (n : ℕ) (lists : List (List (Item ℕ))) : Type 0 where
  pub own : IsListed lists (slice_index_or u.names n []) (item n 0 0)
  pub provided : (b : ℕ) → b < variants u n
      → IsListedField lists n (package_of u (variant n b)).provides

abbrev pub AreCandidates : Universe → List (List (Item ℕ)) → Type 0
AreCandidates u lists = (n : ℕ) → n < names u → IsCandidate u n lists

abbrev pub HasAll : Universe → List ℕ → List (Item ℕ) → Type 0
HasAll u name items = (a : Atom) → a.name ≡ name → (n b : ℕ) → b < variants u n
    → satisfies u a (variant n b) ≡ true
    → (k : ℕ) × (at : Item ℕ) × (slice_get items k ≡ Some at) × (at.owner ≡ n)

-- some variant of the universe satisfies an alternative
abbrev pub has_variant : Universe → Atom → Bool
has_variant u a = some_variant u (satisfies u a)

abbrev pub NoneOf : Universe → Atom → ℕ → Type 0
NoneOf u a n = some_below (variants u n) (λ b. satisfies u a (variant n b)) ≡ false

abbrev pub NoneAmong : Universe → Atom → List (Item ℕ) → Type 0
NoneAmong u a items = (k : ℕ) (at : Item ℕ) → slice_get items k ≡ Some at → at.owner < names u
    → NoneOf u a at.owner
