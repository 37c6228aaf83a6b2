-- The certificate of a plan, row by row, by what is known at each place. The project's own rules.
-- Parameters: u a universe, p a plan, known what its lanes know, l a lane, i a place.
--
--   row_of_test u test        the variants of a universe that pass a test, as a row
--   new_row u known l i       what is known at a place, without the initial archive
--   certificate_by            behind each wait, publish and `when` the row of the place
use Rattle.std.specs.Prelude.{ℕ, Bool, not, ◌&&◌, List, length, map, filter}
use Rattle.std.specs.List.{range_with_len}
use Rattle.cert_text.specs.Certificates.{Certificate, row_places}
use Rattle.cert_text.specs.Rows.{named_variants}
use Rattle.farm_model.specs.Common.{Universe, names, initial}
use Rattle.farm_model.specs.declared.types.Variant.{Variant}
use Rattle.farm_universe.specs.ListText.{word_of}
use Rattle.plan_model.specs.Common.{Rows, Plan, lane}

-- of one name, as a word
abbrev pub word_of_test : Universe → (Variant → Bool) → ℕ → ℕ
word_of_test u test n = word_of (filter test (named_variants u n)) n

unfoldable pub row_of_test : Universe → (Variant → Bool) → List ℕ
row_of_test u test = map (word_of_test u test) (range_with_len 0 (names u))

-- known there, and not in the initial archive
abbrev pub new_at : Universe → Rows → ℕ → ℕ → Variant → Bool
new_at u known l i v = known l i v && not (initial u v)

abbrev pub new_row : Universe → Rows → ℕ → ℕ → List ℕ
new_row u known l i = row_of_test u (new_at u known l i)

-- the rows of a lane: the place behind an instruction has its number, from 1
abbrev pub new_rows : Universe → Plan → Rows → ℕ → List (List ℕ)
new_rows u p known l = map (new_row u known l) (row_places (lane p l))

-- with this order
abbrev pub certificate_by : Universe → Plan → Rows → List ℕ → Certificate
certificate_by u p known order = record {
  rows = map (new_rows u p known) (range_with_len 0 (length p));
  order = order;
}
