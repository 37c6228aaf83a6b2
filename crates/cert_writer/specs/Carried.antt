-- What is kept from line to line while a certificate is written. The project's own words.
-- Parameters: u a universe, a an accepted plan, l a lane.
--
--   IsSpelled, AreSpelled    the variants of a name that a word has, as a text; those of each name
--   IsReadyForRow            there is a word for each name, whatever it has
--   CarriesKnown             the words are those of what the lane knows at the place
use Rattle.std.specs.Prelude.{◌≡◌, ℕ, ◌≤◌, List, length, Some, slice_get}
use Rattle.cert_text.specs.Printed.{more_text}
use Rattle.cert_text.specs.Rows.{named_variants}
use Rattle.farm_model.specs.Common.{names, Universe}
use Rattle.plan_model.specs.Plan.{lane}
use Rattle.plan_verifier.specs.Accepted.{AcceptedPlan, known_rows}
use Rattle.sat_rows.specs.Rows.{IsRowOf}
use Rattle.cert_writer.specs.declared.carried.Carried.{Carried}
use Rattle.cert_writer.specs.declared.carried.Spelled.{Spelled}
use Rattle.cert_writer.specs.Lines.{in_word}

-- as they stand behind others of a list
abbrev pub IsSpelled : Universe → ℕ → Spelled → Type 0
IsSpelled u n s = s.text.items ≡ more_text u (in_word s.word (named_variants u n))

pub record AreSpelled (u : Universe) (all : List Spelled) : Type 0 where
  pub long : length all ≡ names u
  pub each : (n : ℕ) (s : Spelled) → slice_get all n ≡ Some s → IsSpelled u n s

pub record IsReadyForRow (u : Universe) (kept : Carried) : Type 0 where
  pub long : length kept.words.items ≡ names u
  pub spelled : AreSpelled u kept.spelled.items

pub record CarriesKnown (a : AcceptedPlan) (l : ℕ) (kept : Carried) : Type 0 where
  pub there : kept.place ≤ length (lane a.plan l).instructions
  pub words : IsRowOf a.universe (known_rows a l kept.place) kept.words.items
  pub spelled : AreSpelled a.universe kept.spelled.items
