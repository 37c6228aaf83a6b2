-- The rows of the first lines, line by line and lane by lane.
use Rattle.std.proofs.Common.{◌≡◌, List, [], ◌∷◌, ◌++◌, sym, ◌∙◌, Option, Result, Ok}
use Rattle.deb_text.specs.Common.{Fails, then_all, with_front}
use Rattle.deb_text.proofs.StepLaws.{fails-with, with_front-push}
use Rattle.cert_text.specs.declared.fault.CertFault.{CertFault}

-- a list of answers, of which the first is known
module _ {X : Type 0} (done : List X) (first : Result X CertFault)
    (rest total : Result (List X) CertFault)
    (so_far : with_front done (then_all first rest) ≡ total) where
  pub front-goes : (x : X) → first ≡ Ok x → with_front (done ++ x ∷ []) rest ≡ total
  front-goes x is = sym (with_front-push (λ (y : X). first) done x rest) ∙ (rw is at so_far)

  pub front-stops : (refusal : CertFault → Option CertFault) (e : CertFault) → Fails refusal e first
      → Fails refusal e total
  front-stops refusal e is =
      fails-with refusal e first total (λ d at. sym (rw at at so_far)) is
