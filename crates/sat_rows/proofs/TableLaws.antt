-- What is read of the tables.
use Rattle.std.proofs.Common.{◌≡◌, ℕ, ◌<◌, List, [], length, get_or, refl, sym, ◌∙◌, subst, arith}
use Rattle.std.specs.List.{AllZip}
use Rattle.std.proofs.lemmas.List.{get_or_default}
use Rattle.std.proofs.lemmas.Option.{slice_get_read, slice_get_within, get_or_from_slice_get}
use Rattle.deb_relation.specs.Relations.{Entry}
use Rattle.farm_model.specs.Common.{Universe, pre_depends, depends, recipe, satisfies_entry, IsKnown}
use Rattle.farm_model.specs.declared.types.Variant.{Variant}
use Rattle.farm_universe.proofs.PlaceLaws.{named}
use Rattle.sat_rows.specs.ByVariant.{AreValuesOfName, AreOfEach}
use Rattle.sat_rows.specs.Entries.{Numbers, IsNumberOf, AreNumbers, no_numbers}
use Rattle.sat_rows.specs.Rows.{IsRowOf, nth_entry}
use Rattle.sat_rows.specs.Tables.{AreEntryRows}
use Rattle.sat_rows.proofs.Pairs.{paired_within, paired_at}

module _ {T : Type 0} (u : Universe) (Is : Variant → T → Type 0) (none : T) (lists : List (List T))
    (all : AreOfEach u Is none lists) (v : Variant) (known : IsKnown u v) where
  -- each name of the universe has its list
  pub name_within : v.name < length lists
  name_within = let there = named u v.name v.bit known in omega (arith, all.long)

  module _ (here : List T) (is : here ≡ get_or lists v.name here) where
    pub name_at : AreValuesOfName u Is none v.name here
    name_at =
        subst (AreValuesOfName u Is none v.name)
        (get_or_from_slice_get lists v.name here []
        (slice_get_read lists (length lists) v.name here refl name_within is))
        (all.each v.name (named u v.name v.bit known))

    pub bit_within : v.bit < length here
    bit_within = omega (arith, name_at.long, known)

    pub value_at : Is v (get_or here v.bit none)
    value_at = name_at.each v.bit known

module _ (u : Universe) (by_name : List (List Numbers)) (by_recipe rows : List (List ℕ))
    (kept : AreEntryRows u by_name by_recipe rows) where
  -- where an entry is numbered, its row stands
  pub row_within : (e : Entry) (n : ℕ) → IsNumberOf kept.entries e n → n < length rows
  row_within e n is =
      let lt = slice_get_within kept.entries n e is in omega (arith, lt, kept.rows_of.long)

  pub row_at : (e : Entry) (n : ℕ) (row : List ℕ) → IsNumberOf kept.entries e n
      → row ≡ get_or rows n row → IsRowOf u (satisfies_entry u e) row
  row_at e n row is read =
      subst (IsRowOf u (satisfies_entry u e))
      (get_or_default rows n [] row (row_within e n is) ∙ sym read) (kept.rows_of.each n e is)

  module _ (v : Variant) (known : IsKnown u v) where
    pub numbers_within : v.name < length by_name
    numbers_within =
        name_within u (AreNumbers u kept.entries) no_numbers by_name kept.variants v known

    module _ (here : List Numbers) (is : here ≡ get_or by_name v.name here) where
      pub variant_within : v.bit < length here
      variant_within =
          bit_within u (AreNumbers u kept.entries) no_numbers by_name kept.variants v known here is

      module _ (numbers : Numbers) (at : numbers ≡ get_or here v.bit no_numbers) where
        are : AreNumbers u kept.entries v numbers
        are =
            subst (AreNumbers u kept.entries v) (sym at)
            (value_at u (AreNumbers u kept.entries) no_numbers by_name kept.variants v known here
            is)

        pub depends_within : (i : ℕ) → i < length (depends u v) → i < length numbers.depends
        depends_within i lt =
            paired_within (IsNumberOf kept.entries) (depends u v) numbers.depends i are.depends lt

        pub depends_number : (i n : ℕ) → i < length (depends u v)
            → n ≡ get_or numbers.depends i 0
            → IsNumberOf kept.entries (nth_entry (depends u v) i) n
        depends_number i n lt e =
            subst (IsNumberOf kept.entries (nth_entry (depends u v) i)) (sym e)
            (paired_at (IsNumberOf kept.entries) (depends u v) numbers.depends i [] 0 are.depends
            lt)

        pub pre_within : (i : ℕ) → i < length (pre_depends u v) → i < length numbers.pre_depends
        pre_within i lt =
            paired_within (IsNumberOf kept.entries) (pre_depends u v) numbers.pre_depends i
            are.pre_depends lt

        pub pre_number : (i n : ℕ) → i < length (pre_depends u v)
            → n ≡ get_or numbers.pre_depends i 0
            → IsNumberOf kept.entries (nth_entry (pre_depends u v) i) n
        pre_number i n lt e =
            subst (IsNumberOf kept.entries (nth_entry (pre_depends u v) i)) (sym e)
            (paired_at (IsNumberOf kept.entries) (pre_depends u v) numbers.pre_depends i [] 0
            are.pre_depends lt)

  module _ (r : ℕ) (lt : r < length u.recipes) where
    pub needs_within : r < length by_recipe
    needs_within = omega (arith, lt, kept.needs.long)

    module _ (here : List ℕ) (is : here ≡ get_or by_recipe r here) where
      all : AllZip (IsNumberOf kept.entries) (recipe u r).needs here
      all =
          subst (AllZip (IsNumberOf kept.entries) (recipe u r).needs)
          (get_or_default by_recipe r [] here needs_within ∙ sym is) (kept.needs.each r lt)

      pub need_within : (i : ℕ) → i < length (recipe u r).needs → i < length here
      need_within i there =
          paired_within (IsNumberOf kept.entries) (recipe u r).needs here i all there

      pub need_number : (i n : ℕ) → i < length (recipe u r).needs → n ≡ get_or here i 0
          → IsNumberOf kept.entries (nth_entry (recipe u r).needs i) n
      need_number i n there e =
          subst (IsNumberOf kept.entries (nth_entry (recipe u r).needs i)) (sym e)
          (paired_at (IsNumberOf kept.entries) (recipe u r).needs here i [] 0 all there)
