-- The words where one more recipe was built.
use Rattle.std.proofs.Common.{◌≡◌, ℕ, true, length-set, sym, subst, ◌∙◌}
use Rattle.farm_model.specs.Universe.{Universe}
use Rattle.plan_model.specs.May.{may_use}
use Rattle.may_rows.specs.Words.{Words, AreWords, with_recipe}

are-built : (u : Universe) (w : Words) (r : ℕ) → AreWords u w → AreWords u (with_recipe w r)
unfolding may_use
are-built u w r is = record {
  here_long = is.here_long;
  ready_long = is.ready_long;
  last_long = is.last_long;
  both_long = is.both_long;
  built_long = length-set w.built r true ∙ is.built_long;
  each = is.each;
  used_is = is.used_is;
}

pub words_built : (u : Universe) (old new : Words) (r : ℕ) → new ≡ with_recipe old r
    → AreWords u old
    → AreWords u new
words_built u old new r same is = subst (AreWords u) (sym same) (are-built u old r is)
