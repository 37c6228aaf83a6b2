-- Whether each entry of what is configured is met.
--
--   misses_at      a name may hold a configured variant with an entry that is not surely met
--   some_misses    some name does
--   MayMiss        such a name, with the variant and the entry
--   may_serve      a name has a variant that satisfies an entry
--   Doubt          what is known of the entries that are missed, and of what is unpacked
--   AreDoubts      it is so
--   upgrades       an instruction unpacks a variant over a configured one
--   IsDoubted      further names are in doubt
--   IsDoubtAfter   what is known after a safe instruction
use Rattle.std.specs.Prelude.{◌≡◌, ℕ, ◌<◌, ◌==◌, Bool, true, false, List, [], ◌∷◌, ◌++◌, Some, slice_get, if◌then◌else◌}
use Rattle.std.specs.List.{list_any}
use Rattle.deb_relation.specs.Relations.{Entry}
use Rattle.farm_model.specs.Common.{some_below, member, unmet, entries, Universe, variant, names, variants, satisfies_entry}
use Rattle.plan_model.specs.May.{May, may_hold_configured, may_have_configured, surely_met, is_surely_unpacked, is_surely_configured}
use Rattle.plan_model.specs.declared.instructions.Instruction.{Instruction}
use Rattle.plan_model.specs.declared.instructions.Instruction.TheVariants.{Unpack, Deconfigure, Build}

abbrev pub misses_at : Universe → May → ℕ → Bool
misses_at u m n =
    may_have_configured u (λ v. unmet (surely_met u m) (entries u v)) n (m.slots n)

abbrev pub some_misses : Universe → May → Bool
some_misses u m = some_below (names u) (misses_at u m)

-- name n may hold variant b configured, b has the entry, and the entry is not surely met
pub record MayMiss (u : Universe) (m : May) (n b : ℕ) (e : Entry) : Type 0 where
  pub held : may_hold_configured u n (λ d. d == b) (m.slots n) ≡ true
  pub place : ℕ
  pub has : slice_get (entries u (variant n b)) place ≡ Some e
  pub missed : surely_met u m e ≡ false

-- a variant of name k satisfies the entry
abbrev pub may_serve : Universe → Entry → ℕ → Bool
may_serve u e k = some_below (variants u k) (λ c. satisfies_entry u e (variant k c))

-- the names that were unpacked over since all was known to be met, and those that were unpacked or
-- deconfigured since all was known to be configured; or nothing is known
pub record Doubt : Type 0 where
  pub known : Bool
  pub over : List ℕ
  pub loose : List ℕ

-- where something is known, each entry that may be missed is one that a variant of one of the names
-- satisfies, and each name that is unpacked is listed
pub record AreDoubts (u : Universe) (m : May) (d : Doubt) : Type 0 where
  pub among : d.known ≡ true → (n b : ℕ) (e : Entry) → MayMiss u m n b e
      → list_any (may_serve u e) d.over ≡ true
  pub loose : d.known ≡ true → (n : ℕ) → n < names u → is_surely_unpacked (m.slots n) ≡ true
      → member d.loose n ≡ true

-- nothing misses an entry, and nothing is unpacked
abbrev pub settled : Doubt
settled = record { known = true; over = []; loose = [] }

abbrev pub upgrades : May → Instruction → Bool
upgrades m (Unpack name wanted) = is_surely_configured (m.slots name)
upgrades m _ = false

-- further names in both lists; or nothing is known any more
pub record IsDoubted (old : Doubt) (missed unpacked : List ℕ) (new : Doubt) : Type 0 where
  pub known : new.known ≡ true → old.known ≡ true
  pub over : new.known ≡ true → new.over ≡ old.over ++ missed
  pub loose : new.known ≡ true → new.loose ≡ old.loose ++ unpacked

-- a build asks for all, and an unpack over what is configured may take away what an entry needs
abbrev pub IsDoubtAfter : Bool → Instruction → Doubt → Doubt → Type 0
IsDoubtAfter upgraded (Unpack name wanted) old new =
    IsDoubted old (if upgraded then name ∷ [] else []) (name ∷ []) new
IsDoubtAfter upgraded (Deconfigure members) old new = IsDoubted old [] members new
IsDoubtAfter upgraded (Build r) old new = new ≡ settled
IsDoubtAfter upgraded _ old new = new ≡ old
