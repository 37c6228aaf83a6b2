-- Verdicts are objects without floats.
use Rattle.std.proofs.Common.{◌≡◌, ℕ, zero, suc, List, [], ◌∷◌, ◌++◌, length, Bool, Result, Ok, Err, ◌||◌, false, map, refl, ap, ◌∙◌}
use Rattle.std.proofs.lemmas.Bool.{or_parts}
use Rattle.deb_text.specs.Lists.{lists}
use Rattle.plan_verifier.specs.Accepted.{AcceptedPlan}
use Rattle.plan_verifier.specs.declared.refusal.Refusal.{Refusal}
use Rattle.plan_verifier.specs.declared.refusal.Refusal.TheVariants.{Text, Unsafe, Uneven, Stuck, Memory}
use Rattle.serde_json.specs.Data.{Data}
use Rattle.serde_json.specs.View.{items_of}
use Rattle.serde_json.specs.Written.{has_float, items_have_float, members_have_float}
use Rattle.farm_answers.specs.Refusals.{name_data}
use Rattle.farm_answers.specs.Verdicts.{data_below, lane_data, verdict_members}

pub both : (x y : Bool) → x ≡ false → y ≡ false → (x || y) ≡ false
both x y one two = ap (λ t. t || y) one ∙ two

in_names : (names : List (List ℕ)) → items_have_float (items_of (map name_data names)) ≡ false
in_names [] = refl
in_names (name ∷ names) = in_names names

one_more : (ds : List Data) (d : Data) → items_have_float (items_of ds) ≡ false
    → has_float d ≡ false → items_have_float (items_of (ds ++ d ∷ [])) ≡ false
one_more [] d before none = both (has_float d) false none refl
one_more (e ∷ ds) d before none =
    let parts = or_parts (has_float e) (items_have_float (items_of ds)) before in
    both (has_float e) _ parts.0 (one_more ds d parts.1 none)

in_lanes : (a : AcceptedPlan) (n : ℕ)
    → items_have_float (items_of (data_below n (lane_data a))) ≡ false
in_lanes a zero = refl
in_lanes a (suc n) = one_more (data_below n (lane_data a)) (lane_data a n) (in_lanes a n) refl

pub no_float_in_verdict : (verdict : Result AcceptedPlan Refusal)
    → members_have_float (verdict_members verdict) ≡ false
no_float_in_verdict (Ok a) = both _ false (in_lanes a (length a.plan)) refl
no_float_in_verdict (Err (Text fault)) = refl
no_float_in_verdict (Err (Unsafe name instruction trap)) = refl
no_float_in_verdict (Err (Uneven name instruction)) = refl
no_float_in_verdict (Err (Stuck names)) = both _ false (in_names (lists names.items)) refl
no_float_in_verdict (Err Memory) = refl
