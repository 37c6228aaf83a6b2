-- What is drawn of a refused plan, by its refusal.
use Rattle.std.proofs.Common.{◌≡◌, ℕ, Bool, List, Err, refl}
use Rattle.plan_verifier.specs.declared.refusal.Refusal.{Refusal}
use Rattle.plan_verifier.specs.declared.refusal.Refusal.TheVariants.{Text, Unsafe, Uneven, Stuck, Memory}
use Rattle.farm_answers.specs.Answers.{ShowsVerdict}
use Rattle.farm_commands.specs.Pictures.{Draws}

pub draws-other : (json : Bool) (refusal : Refusal) (text : List ℕ) (status : ℕ)
    → ((names : _) → refusal ≡ Stuck names → ⊥) → ShowsVerdict json (Err refusal) text status
    → Draws json (Err refusal) text status
draws-other json (Text fault) text status other is = is
draws-other json (Unsafe name number trap) text status other is = is
draws-other json (Uneven name number) text status other is = is
draws-other json (Stuck names) text status other is = absurd (other names refl)
draws-other json Memory text status other is = is
