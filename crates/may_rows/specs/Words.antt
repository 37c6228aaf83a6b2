-- What a chroot may hold as rows of words, one word for each name, and the may map that they stand
-- for. Parameters: u a universe, w the words, n a name.
--
--   Words               the words of a place of a lane
--   slot_of, may_of     the slot of a may map, and the map
--   joined_word         the word of `both`
--   AreOfName           what the words of one name keep
--   AreWords            what all of them keep
--   HasName             they have a place for a name
--   written             the words with those of one name replaced
--   with_slot           a map with the slot of one name replaced
--   with_spent          the words, and the map, where more was spent
--   with_recipe         the words where a recipe was built too
--   some_name_inside    some name has bits in a list of words, and all of them pass
--   surely_met_ahead    some name's slot meets an entry ahead of an unpack
use Rattle.std.specs.Prelude.{◌≡◌, ◌⊎◌, ℕ, ◌+◌, ◌<◌, Bool, true, false, not, ◌&&◌, ◌==◌, List, Option, Some, None, length, slice_index, slice_set, bit_or, if◌then◌else◌}
use Rattle.clause_kernel.specs.Rows.{word_has}
use Rattle.deb_relation.specs.Relations.{Atom, Entry}
use Rattle.farm_model.specs.Common.{Universe, variant, names, variants, satisfies, some_below}
use Rattle.farm_model.specs.declared.types.Variant.{Variant}
use Rattle.plan_model.specs.Common.{with_built, MaySlot, MayAbsent, MayUnpacked, MayConfigured, May, all_of, some_name, surely_pre_meets, may_use}

pub record Words : Type 0 where
  -- what may be present, 0 for an absent name;
  pub here : List ℕ
  -- the same where it is configured, else 0;
  pub ready : List ℕ
  -- what may have been configured last;
  pub last : List ℕ
  -- what is in one of `here` and `last`, where something was configured before;
  pub both : List ℕ
  -- the most disk space that may be taken, in KiB, and the most that was spent;
  pub used : ℕ
  pub cost : ℕ
  -- for each recipe whether it was surely built.
  pub built : List Bool

abbrev pub slot_of : (here ready last : ℕ) → MaySlot
slot_of here ready last =
    if here == 0 then MayAbsent
    else (if ready == 0 then MayUnpacked (word_has here) (word_has last)
    else MayConfigured (word_has here))

abbrev pub may_of : Words → May
may_of w = record {
  slots = λ n. slot_of (slice_index w.here n) (slice_index w.ready n) (slice_index w.last n);
  cost = w.cost;
  built = w.built;
}

-- the word of `both`
abbrev pub joined_word : (here last : ℕ) → ℕ
joined_word here last = if last == 0 then 0 else bit_or here last

-- the words of one name that has so many variants
pub record AreOfName (count here ready last both : ℕ) : Type 0 where
  -- a configured name's words are all the same;
  pub phase : (ready ≡ 0) ⊎ ((ready ≡ here) × (last ≡ here))
  -- nothing was configured last of an absent name;
  pub absent : here ≡ 0 → last ≡ 0
  -- the bits are those of variants;
  pub here_known : (b : ℕ) → word_has here b ≡ true → b < count
  pub last_known : (b : ℕ) → word_has last b ≡ true → b < count
  -- and both words are joined where both have bits.
  pub joined : both ≡ joined_word here last

pub record AreWords (u : Universe) (w : Words) : Type 0 where
  pub here_long : length w.here ≡ names u
  pub ready_long : length w.ready ≡ names u
  pub last_long : length w.last ≡ names u
  pub both_long : length w.both ≡ names u
  pub built_long : length w.built ≡ length u.recipes
  pub each : (n : ℕ) → AreOfName (variants u n) (slice_index w.here n) (slice_index w.ready n)
      (slice_index w.last n) (slice_index w.both n)
  pub used_is : w.used ≡ may_use u (may_of w)

-- each list has a place for the name
pub record HasName (w : Words) (n : ℕ) : Type 0 where
  pub here_there : n < length w.here
  pub ready_there : n < length w.ready
  pub last_there : n < length w.last
  pub both_there : n < length w.both

-- the words with those of one name replaced
abbrev pub written : Words → ℕ → (here ready last : ℕ) → Words
written w n here ready last = record w {
  here = slice_set w.here n here;
  ready = slice_set w.ready n ready;
  last = slice_set w.last n last;
  both = slice_set w.both n (joined_word here last);
}

-- the words where so much more was spent
abbrev pub with_spent : Words → ℕ → Words
with_spent w cost = record w { cost = w.cost + cost }

-- the words where this recipe was built too
abbrev pub with_recipe : Words → ℕ → Words
with_recipe w r = record w { built = with_built w.built r }

-- the map where so much more was spent
abbrev pub may_spend : May → ℕ → May
may_spend m cost = record m { cost = m.cost + cost }

-- the map with the slot of one name replaced
abbrev pub with_slot : May → ℕ → MaySlot → May
with_slot m name s = record m { slots = λ n. if n == name then s else m.slots n }

-- some name has bits in these words, and each is of a variant that passes
abbrev pub some_name_inside : Universe → List ℕ → (Variant → Bool) → Bool
some_name_inside u words p =
    some_below (names u) (λ n. not (slice_index words n == 0)
    && all_of u n (word_has (slice_index words n)) (λ b. p (variant n b)))

-- there is an element, and it passes
abbrev pub passes_if : {X : Type 0} → (X → Bool) → Option X → Bool
passes_if p None = false
passes_if p (Some x) = p x

-- some name's slot meets the entry ahead of an unpack
abbrev pub surely_met_ahead : Universe → May → Entry → Bool
surely_met_ahead u m e = some_name u m (surely_pre_meets u e)

-- some name has bits in these words, and each is of a variant that satisfies the alternative
abbrev pub alternative_inside : Universe → List ℕ → Option Atom → Bool
alternative_inside u words atom = passes_if (λ a. some_name_inside u words (satisfies u a)) atom
