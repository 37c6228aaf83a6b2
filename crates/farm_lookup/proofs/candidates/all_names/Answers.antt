use Rattle.std.proofs.Common.{◌≡◌, [], inl, inr, subst, sym, arith}
use Rattle.std.specs.Prelude.{slice_index_or}
use Rattle.std.proofs.lemmas.Bool.{cases_lt}
use Rattle.item_index.specs.Items.{item}
use Rattle.farm_lookup.specs.Candidates.{IsCandidate}
use Rattle.farm_lookup.proofs.candidates.all_names.Goals as goal

pub loop-name-preserved : goal.loop-name-preserved
loop-name-preserved c n lt = elim (cases_lt n c.loop-name.name) [
  | inl before ↦
      let was = c.loop-name.invariant n before in
      let kept = c.in_ok-add_name.ensures.kept in record {
        own = kept (slice_index_or c.args.universe.now.names n []) (item n 0 0) was.own;
        provided = λ b there i e at j a also.
            kept a.name (item n i j) (was.provided b there i e at j a also);
      }
  | inr ge ↦
      let last : n ≡ c.loop-name.name = omega (arith, lt, ge) in
      subst (λ k. IsCandidate c.args.universe.now k c.add_name.new.index) (sym last)
      c.in_ok-add_name.ensures.listed
]
