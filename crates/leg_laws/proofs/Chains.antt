-- What holds of a chain of legs.
use Rattle.std.proofs.Common.{◌≡◌, ℕ, zero, suc, ◌<◌, true, false, ◌⊎◌, inl, inr, List, [], ◌∷◌, Some, slice_get, sym, ◌∙◌, subst, arith, add-one}
use Rattle.std.proofs.lemmas.Bool.{cases_Bool, both_ways, false_from_ne_true}
use Rattle.std.proofs.lemmas.Option.{same_Some}
use Rattle.farm_model.specs.declared.types.Variant.{Variant}
use Rattle.farm_model.specs.Common.{outputs, IsKnown}
use Rattle.plan_model.specs.Common.{Publication, archive, Reachable}
use Rattle.farm_laws.proofs.EventsLeft.{runs_end}
use Rattle.farm_laws.proofs.Possible.{initial_there}
use Rattle.leg_laws.specs.Named.{Item, item_of, is_equal_item, is_same, is_listed}
use Rattle.leg_laws.specs.Chain.{Leg, IsLeg, GoesOn, IsChain, IsKept}
use Rattle.leg_laws.specs.Laws.{NoneTwice, ChainIsBounded, ChainsCompose}
use Rattle.leg_laws.proofs.SameItems.{equal_item-turned, equal_item-joined, equal_item-itself, listed-same}
use Rattle.leg_laws.proofs.Archives.{archive_is_left}
use Rattle.leg_laws.proofs.Reached.{Holds, reached_holds, published_there, published_known}
use Rattle.leg_laws.proofs.Once.{stays-by, not_given_again, goes_on_safely}

leg_reached : (leg : Leg) → IsLeg leg → Reachable leg.universe leg.plan leg.state
leg_reached leg is = (leg.schedule, is.run)

leg_holds : (leg : Leg) → (is : IsLeg leg)
    → Holds leg.universe leg.plan is.sound leg.state
leg_holds leg is = reached_holds leg.universe leg.plan is.sound leg.state (leg_reached leg is)

first_leg : (leg : Leg) (earlier : List Leg) → IsChain (leg ∷ earlier) → IsLeg leg
first_leg leg [] chain = chain
first_leg leg (before ∷ earlier) chain = chain.0

rest_chain : (leg : Leg) (earlier : List Leg) → IsChain (leg ∷ earlier) → IsChain earlier
rest_chain leg [] chain = tt
rest_chain leg (before ∷ earlier) chain = chain.2

-- a variant of a universe is withdrawn ahead of a leg, or in the archive that the leg leaves
abbrev Carried : Item → Leg → Type 0
Carried item leg =
    (is_listed leg.gone item ≡ true)
    ⊎ ((x : Variant) × IsKnown leg.universe x × (archive leg.universe leg.state.published x ≡ true)
    × (is_equal_item item (item_of leg.universe x) ≡ true))

-- from one leg to the next
carried_on : (item : Item) (before leg : Leg) → GoesOn before leg → Carried item before
    → Carried item leg
carried_on item before leg on (inl gone) = inl (on.stays_gone item gone)
carried_on item before leg on (inr it) =
    let b = before.universe in
    let w = leg.universe in
    let now = item_of b it.0 in
    elim (cases_Bool (is_listed leg.gone now)) [
      | inl gone ↦ inl (listed-same leg.gone now item (equal_item-turned item now it.3) gone)
      | inr not_gone ↦
          let stay = stays-by b before.state leg.brought leg.gone w on.continues it.0 now it.1 it.2
          (equal_item-itself now) not_gone in
          let found = on.continues.nothing_lost now stay in
          let then = item_of w found.0 in
          let still : is_listed leg.gone then ≡ false =
          false_from_ne_true (is_listed leg.gone then) (λ gone. both_ways (is_listed leg.gone now)
          not_gone (listed-same leg.gone then now (equal_item-turned now then found.2) gone)) in
          let first = on.continues.exact found.0 found.1
          ∙ stays-by b before.state leg.brought leg.gone w on.continues it.0 then it.1 it.2 found.2
          still in
          inr (
            found.0,
            found.1,
            initial_there w leg.plan leg.state.published found.0 first,
            equal_item-joined item now then it.3 found.2,
          )
    ]

-- what a leg has published, at its end
carried_first : (leg : Leg) → IsLeg leg → (i : ℕ) (a : Publication)
    → slice_get leg.state.published i ≡ Some a → Carried (item_of leg.universe a.variant) leg
carried_first leg is i a at = inr (
  a.variant,
  published_known leg.universe leg.plan is.sound leg.state (leg_holds leg is) i a at,
  published_there leg.universe leg.plan is.sound leg.state i a at,
  equal_item-itself (item_of leg.universe a.variant),
)

-- and at the end of each later one
carried : (earlier : List Leg) (leg : Leg) → IsChain (leg ∷ earlier) → (k : ℕ) (old : Leg)
    → slice_get earlier k ≡ Some old → (i : ℕ) (a : Publication)
    → slice_get old.state.published i ≡ Some a → Carried (item_of old.universe a.variant) leg
carried [] leg chain k old at i a is = absurd (cc)
carried (before ∷ earlier) leg chain zero old at i a is =
    let same : before ≡ old = same_Some before old at in
    carried_on (item_of old.universe a.variant) before leg chain.1
    (subst (λ (x : Leg). Carried (item_of old.universe a.variant) x) (sym same)
    (carried_first old (subst IsLeg same (first_leg before earlier chain.2)) i a is))
carried (before ∷ earlier) leg chain (suc k) old at i a is =
    carried_on (item_of old.universe a.variant) before leg chain.1
    (carried earlier before chain.2 k old at i a is)

-- what an earlier leg has published is kept
kept_by : (leg : Leg) (earlier : List Leg) → IsChain (leg ∷ earlier) → (k : ℕ) (old : Leg)
    → slice_get earlier k ≡ Some old → IsKept old leg
kept_by leg earlier chain k old at i a is not_gone =
    elim (carried earlier leg chain k old at i a is) [
      | inl gone ↦ absurd (both_ways (is_listed leg.gone (item_of old.universe a.variant)) not_gone gone)
      | inr it ↦ (it.0, it.2, it.3)
    ]

-- an output of a leg is not what the one before it had carried to its end
not_carried : (item : Item) (before leg : Leg) → IsLeg leg → GoesOn before leg
    → Carried item before → (x : Variant) (r m : ℕ) → IsKnown leg.universe x
    → slice_get (outputs leg.universe r) m ≡ Some x
    → is_equal_item item (item_of leg.universe x) ≡ false
not_carried item before leg is on (inl gone) x r m known output =
    let next = item_of leg.universe x in
    false_from_ne_true (is_equal_item item next) (λ equal.
    both_ways (is_listed leg.gone next) (on.continues.never_again r m x output)
    (listed-same leg.gone item next equal (on.stays_gone item gone)))
not_carried item before leg is on (inr it) x r m known output =
    let b = before.universe in
    let w = leg.universe in
    let next = item_of w x in
    let now = item_of b it.0 in
    false_from_ne_true (is_equal_item item next) (λ equal.
    both_ways (is_same b it.0 w x)
    (not_given_again b before.state leg.brought leg.gone w on.continues leg.plan is.sound it.0 x r m
    it.1 it.2 known output)
    (equal_item-joined now item next (equal_item-turned item now it.3) equal))

-- no leg publishes what an earlier one has published
across_by : (leg : Leg) (earlier : List Leg) → IsChain (leg ∷ earlier) → (k : ℕ) (old : Leg)
    → slice_get earlier k ≡ Some old → NoneTwice old.universe old.state leg.universe leg.state
across_by leg [] chain k old at i j a b at_i at_j = absurd (cc)
across_by leg (before ∷ earlier) chain k old at i j a b at_i at_j =
    let holds = leg_holds leg chain.0 in
    let o = holds.are_outputs j b at_j in
    not_carried (item_of old.universe a.variant) before leg chain.0 chain.1 (of_before k at) b.variant o.0 o.1
    (published_known leg.universe leg.plan chain.0.sound leg.state holds j b at_j) o.2
  where
    of_before : (k : ℕ) → slice_get (before ∷ earlier) k ≡ Some old
        → Carried (item_of old.universe a.variant) before
    of_before zero e =
        let same : before ≡ old = same_Some before old e in
        subst (λ (x : Leg). Carried (item_of old.universe a.variant) x) (sym same)
        (carried_first old (subst IsLeg same (first_leg before earlier chain.2)) i a at_i)
    of_before (suc k) e = carried earlier before chain.2 k old e i a at_i

-- what holds of each leg and those before it holds of any two
of_pairs : (P : Leg → Leg → Type 0)
    → ((leg : Leg) (earlier : List Leg) → IsChain (leg ∷ earlier) → (k : ℕ) (old : Leg)
    → slice_get earlier k ≡ Some old → P old leg)
    → (legs : List Leg) → IsChain legs → (i j : ℕ) (leg old : Leg) → i < j
    → slice_get legs i ≡ Some leg → slice_get legs j ≡ Some old → P old leg
of_pairs P h [] chain i j leg old lt at_i at_j = absurd (cc)
of_pairs P h (first ∷ earlier) chain i zero leg old lt at_i at_j = absurd (omega (arith, lt))
of_pairs P h (first ∷ earlier) chain zero (suc j) leg old lt at_i at_j =
    subst (P old) (same_Some first leg at_i) (h first earlier chain j old at_j)
of_pairs P h (first ∷ earlier) chain (suc i) (suc j) leg old lt at_i at_j =
    of_pairs P h earlier (rest_chain first earlier chain) i j leg old (omega (arith, lt)) at_i at_j

leg_in : (legs : List Leg) → IsChain legs → (i : ℕ) (leg : Leg) → slice_get legs i ≡ Some leg
    → IsLeg leg
leg_in [] chain i leg at = absurd (cc)
leg_in (first ∷ earlier) chain zero leg at =
    subst IsLeg (same_Some first leg at) (first_leg first earlier chain)
leg_in (first ∷ earlier) chain (suc i) leg at =
    leg_in earlier (rest_chain first earlier chain) i leg at

goes_on_in : (legs : List Leg) → IsChain legs → (i : ℕ) (leg before : Leg)
    → slice_get legs i ≡ Some leg → slice_get legs (suc i) ≡ Some before → GoesOn before leg
goes_on_in [] chain i leg before at next = absurd (cc)
goes_on_in (first ∷ []) chain zero leg before at next = absurd (cc)
goes_on_in (first ∷ []) chain (suc i) leg before at next = absurd (cc)
goes_on_in (first ∷ second ∷ earlier) chain zero leg before at next =
    subst (λ (x : Leg). GoesOn before x) (same_Some first leg at)
    (subst (λ (x : Leg). GoesOn x first) (same_Some second before next) chain.1)
goes_on_in (first ∷ second ∷ earlier) chain (suc i) leg before at next =
    goes_on_in (second ∷ earlier) chain.2 i leg before at next

pub chain_is_bounded : ChainIsBounded
chain_is_bounded [] chain = omega arith
chain_is_bounded (leg ∷ earlier) chain =
    let is = first_leg leg earlier chain in
    let own = runs_end leg.universe leg.plan is.sound leg.schedule leg.state is.run in
    let rest = chain_is_bounded earlier (rest_chain leg earlier chain) in
    omega (arith, own, rest)

pub chains_compose : ChainsCompose
chains_compose legs chain =
    record {
      archives = λ i leg before at next.
          let on = goes_on_in legs chain i leg before at (rw add-one at next) in
          archive_is_left before.universe before.state leg.brought leg.gone leg.universe
          on.continues leg.state;
      kept = λ i j leg old lt at_i at_j.
          of_pairs IsKept kept_by legs chain i j leg old lt at_i at_j;
      across = λ i j leg old lt at_i at_j.
          of_pairs (λ x y. NoneTwice x.universe x.state y.universe y.state) across_by legs chain i j
          leg old lt at_i at_j;
      within = λ i leg at. (leg_holds leg (leg_in legs chain i leg at)).once;
      safe = λ i leg at grounds. goes_on_safely leg.universe leg.plan grounds;
      bounded = chain_is_bounded legs chain;
    }
