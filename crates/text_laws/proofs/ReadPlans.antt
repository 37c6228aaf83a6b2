-- The lanes of a plan that was read are known by their names.
use Rattle.std.proofs.Common.{◌≡◌, ℕ, ◌≤◌, Bool, false, List, [], ◌∷◌, ◌++◌, length, length-append, refl, sym, ◌∙◌, arith, Ok, All}
use Rattle.std.proofs.lemmas.Bool.{or_from, or_parts}
use Rattle.std.proofs.lemmas.List.Elements.{All-nil, All-cons}
use Rattle.std.proofs.lemmas.List.Folds.{list_any-append}
use Rattle.std.specs.List.{list_any}
use Rattle.std.specs.Str.{bytes_eq}
use Rattle.deb_text.proofs.CarriedLaws.{has-ok}
use Rattle.deb_text.specs.Groups.{AllDistinct}
use Rattle.farm_model.specs.Universe.{Universe}
use Rattle.plan_reader.specs.declared.error.TheConstants.{MOST_INSTRUCTIONS}
use Rattle.plan_reader.specs.Drafts.{instructions_of}
use Rattle.plan_reader.specs.PlanText.{plan_of}
use Rattle.plan_model.specs.Plan.{Lane, Plan}
use Rattle.text_laws.proofs.Drafts.{AreLanes, IsListedPlan}
use Rattle.text_laws.proofs.Kept.{plan-has}
use Rattle.text_laws.proofs.Names.{word-run}
use Rattle.cert_text.specs.CertLines.{lane_names}
use Rattle.text_laws.proofs.LaneLines.{IsReadLane}
use Rattle.text_laws.proofs.OrderLines.{IsReadPlan}

abbrev has_name : List ℕ → Lane → Bool
has_name name of = bytes_eq of.name name

module _ (u : Universe) where
  lanes-read : (before ls : List Lane) → AreLanes u before ls
      → length (instructions_of ls) ≤ MOST_INSTRUCTIONS → All IsReadLane ls
  lanes-read before [] are few = All-nil IsReadLane
  lanes-read before (l ∷ ls) are few =
      let long = length-append l.instructions (instructions_of ls) in
      All-cons IsReadLane l ls
      (record { run = word-run l.name are.0.word; few = omega (arith, few, long) })
      (lanes-read (before ++ l ∷ []) ls are.2 (omega (arith, few, long)))

  -- a lane ahead of others has another name than each of them
  name-other : (l : Lane) (before ls : List Lane)
      → ((name : List ℕ) → list_any (has_name name) before ≡ false → has_name name l ≡ false)
      → AreLanes u before ls → list_any (bytes_eq l.name) (lane_names ls) ≡ false
  name-other l before [] ahead are = refl
  name-other l before (k ∷ ks) ahead are =
      or_from (has_name k.name l) (list_any (bytes_eq l.name) (lane_names ks))
      (ahead k.name are.1.fresh)
      (name-other l (before ++ k ∷ []) ks
      (λ name none. ahead name
      (or_parts (list_any (has_name name) before) (list_any (has_name name) (k ∷ []))
      (sym (list_any-append (has_name name) before (k ∷ [])) ∙ none)).0)
      are.2)

  names-distinct : (before ls : List Lane) → AreLanes u before ls
      → AllDistinct bytes_eq (lane_names ls)
  names-distinct before [] are = tt
  names-distinct before (l ∷ ls) are = (
    name-other l (before ++ l ∷ []) ls
        (λ name none. (or_parts (has_name name l) false
        (or_parts (list_any (has_name name) before) (list_any (has_name name) (l ∷ []))
        (sym (list_any-append (has_name name) before (l ∷ [])) ∙ none)).1).0)
        are.2,
    names-distinct (before ++ l ∷ []) ls are.2,
  )

  pub plan-read : (text : List ℕ) (p : Plan) → plan_of u text ≡ Ok p → IsReadPlan p
  plan-read text p is =
      let listed = has-ok (IsListedPlan u) (plan_of u text) p (plan-has u text) is in
      record {
        lanes = lanes-read [] p listed.lanes listed.fits.few;
        distinct = names-distinct [] p listed.lanes;
      }
