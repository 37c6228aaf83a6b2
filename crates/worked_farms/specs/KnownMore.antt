-- Known rows with more than they have. Parameters: u a universe, p a plan, l a lane, i a place, v a
-- variant.
--
--   one_more               rows with one more variant at one place
--   none_more              no such rows have only what the inclusions allow
use Rattle.std.specs.Prelude.{ℕ, suc, Bool, not, ◌&&◌, ◌||◌, ◌==◌, length}
use Rattle.farm_model.specs.Common.{every_below, Universe, same}
use Rattle.farm_model.specs.declared.types.Variant.{Variant}
use Rattle.plan_model.specs.Common.{Plan, lane, Rows}
use Rattle.verdict_laws.specs.Greatest.{every_variant, is_settled}

abbrev pub one_more : Rows → ℕ → ℕ → Variant → Rows
one_more rows l i v m j w = rows m j w || (m == l && (j == i && same w v))

-- each variant of the universe that the rows lack at a place of the plan is one too many there
abbrev pub none_more : Universe → Plan → Rows → Bool
none_more u p rows =
    every_below (length p) (λ l. every_below (suc (length (lane p l).instructions))
    (λ i. every_variant u (λ v. rows l i v || not (is_settled u p (one_more rows l i v)))))
