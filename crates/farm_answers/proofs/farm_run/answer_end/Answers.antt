use Rattle.std.proofs.Common.{◌≡◌, Some, slice_get, subst, sym}
use Rattle.farm_model.specs.Chroot.{used}
use Rattle.farm_answers.proofs.RunLaws.{all_used}
use Rattle.farm_answers.proofs.farm_run.answer_end.Goals as goal

pub write_run-requires-clause-used : goal.write_run-requires-clause-used
write_run-requires-clause-used g c l held here =
    subst (λ u. held.used ≡ used u held.slots) (sym c.universe.ensures)
    (all_used _ _ _ _ c.requires l held
    (subst (λ chroots. slice_get chroots l ≡ Some held) c.deref.ensures.value here))
