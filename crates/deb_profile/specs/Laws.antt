-- What reduction keeps; each is the contract of a function of src/laws.rt.
--
--   ReductionIsFinal    what was reduced once stays as it is
use Rattle.std.specs.Prelude.{◌≡◌, ℕ, List}
use Rattle.deb_relation.specs.Relations.{Entry}
use Rattle.deb_profile.specs.Reduction.{reduced_entry}

-- an entry that was reduced for an architecture is left by a further reduction for the same one,
-- whatever profiles are active
abbrev pub ReductionIsFinal : Type 0
ReductionIsFinal = (names active others : List (List ℕ)) (entry : Entry)
    → reduced_entry names others (reduced_entry names active entry)
    ≡ reduced_entry names active entry
