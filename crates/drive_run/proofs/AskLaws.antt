-- A question that is put, or not.
use Rattle.std.proofs.Common.{◌≡◌, ◌⊎◌, inl, inr, ℕ, true, false, refl, sym, ap, subst, ◌∙◌}
use Rattle.drive_run.specs.Asking.{IsAdded, IsAtMostPut, IsSilent, Outgoing}
use Rattle.drive_run.specs.LaneDesks.{Desks, asked, may_ask}
use Rattle.drive_run.specs.Questions.{Wanted, noted, number_of, question_text}
use Rattle.drive_run.specs.declared.known.Known.{Known}

module _ (k : Known) (q : Wanted) (d d' : Desks) (old new : Outgoing) (number : ℕ)
    (number_is : number ≡ number_of q) (may : may_ask d q.place.lane number ≡ true)
    (undone : (noted k q).done ≡ false) where
  may_so : may_ask d q.place.lane (number_of q) ≡ true
  may_so = ap (may_ask d q.place.lane) (sym number_is) ∙ may

  -- its line is added
  pub put_so : d' ≡ asked d q.place.lane number → IsAdded old new (question_text k q)
      → IsAtMostPut k q d d' old new
  put_so asks line = inr (record {
    may = may_so;
    undone = undone;
    line = line;
    asks = λ _. asks ∙ ap (asked d q.place.lane) number_is;
  })

  -- its entry is not kept, or the output has failed
  pub put_failed : (mid : Outgoing) → new ≡ mid → IsSilent old mid
      ⊎ (IsAdded old mid (question_text k q) × (mid.taken.failed ≡ true))
      → IsAtMostPut k q d d' old new
  put_failed mid same (inl silent) = inl (same ∙ silent)
  put_failed mid same (inr failed) = inr (record {
    may = may_so;
    undone = undone;
    line = subst (λ (o : Outgoing). IsAdded old o (question_text k q)) (sym same) failed.0;
    asks = λ works.
        let is : new.taken.failed ≡ true =
        ap (λ (o : Outgoing). o.taken.failed) same ∙ failed.1 in
        absurd (cc);
  })
