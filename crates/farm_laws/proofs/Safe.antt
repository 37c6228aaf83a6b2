-- Under safe rows a lane's turn keeps to its may map, and never traps.
use Rattle.std.proofs.Common.{◌≡◌, ℕ, zero, suc, ◌+◌, ◌<◌, ◌≤◌, Bool, true, false, not, ◌&&◌, ◌==◌, inl, inr, List, length, drop, Option, Some, None, slice_get, refl, sym, ap, ◌∙◌, subst, arith, le_refl, length-set, get_or-set_same, get_or-set_other}
use Rattle.std.proofs.lemmas.Option.{none-some}
use Rattle.std.proofs.lemmas.Bool.{false≢true, both_ways, not-true, and_parts, and_from, cases_lt, cases_eq, cases_Bool, lt-ltb, le-ltb, le-leb, eqb-true}
use Rattle.std.proofs.lemmas.List.{get_or_past}
use Rattle.deb_relation.specs.Relations.{Entry}
use Rattle.deb_relation.specs.declared.operator.Op.{Op}
use Rattle.farm_model.specs.Common.{Universe, variant, same, variants, size, recipe, outputs, is_wanted, Chroot, first_trap, configured, deconfigured, removed, unpacked, configured_slot, deconfigured_slot}
use Rattle.farm_model.specs.declared.types.Variant.{Variant}
use Rattle.farm_model.specs.declared.types.Trap.{Trap}
use Rattle.farm_model.specs.declared.types.Slot.TheVariants.{Absent}
use Rattle.farm_model.proofs.BelowLaws.{greatest_below-at, highest_below-some, highest_below-there}
use Rattle.plan_model.specs.Common.{IsBranched, past_else, landing, Plan, next_place, else_place, lane, instruction_at, events_of, unpack_cost, LaneState, newest, passes, Turn, Goes, Gives, Waits, Ends, Fails, has_wanted, past, past_build, past_when, unless, unpacks, given, first_only, publish_traps, publishes, turn_of, was_built, with_built, possible, Rows, MayAbsent, May, allows_absent, AllowsAll, candidates, unpack_risk, publish_risks, risk, greatest_cost, unpack_risks, configure_risks, deconfigure_risks, remove_risks, build_risks, phases_differ, joined_may, parts_of, may_unpack, may_after, Maps, maps_behind, maps_behind_some, maps_at, may_at, may_be_configured, may_be_deconfigured}
use Rattle.plan_model.specs.declared.instructions.Instruction.{Instruction}
use Rattle.plan_model.specs.declared.instructions.Instruction.TheVariants.{Unpack, Configure, Deconfigure, Remove, Build, Publish, Wait, When, Otherwise, EndWhen}
use Rattle.farm_laws.specs.Agrees.{place_paid, Agrees, AgreesAfter}
use Rattle.farm_laws.proofs.Slots.{configured_allowed, deconfigured_allowed}
use Rattle.farm_laws.proofs.Branches.{is_inner, IsStand, landed, else_behind}
use Rattle.farm_laws.proofs.Joins.{allows_left, allows_right, both_built-each, both_built-long}
pub use Rattle.farm_laws.proofs.Joins.{variants_name}
use Rattle.farm_laws.proofs.AllowedAfter.{unpack_keeps, change_keeps}
use Rattle.farm_laws.proofs.MayMaps.{Covers, nil, cons, over-may, no_trap, unpack_covers, configure_covers, build_covers, deconfigure_covers, remove_covers}

-- what the newest variant that is there can be, where h is the newest known one
record IsCandidate (u : Universe) (there may : Variant → Bool) (name : ℕ)
    (wanted : Option (Op × List ℕ)) (h b : ℕ) : Type 0 where
  newest_is : newest u there name wanted ≡ Some b
  in_range : b < variants u name
  candidate : candidates u may name wanted h b ≡ true

candidate_found : (u : Universe) (known there may : Variant → Bool) (name : ℕ)
    (wanted : Option (Op × List ℕ)) (h : ℕ)
    → ((v : Variant) → known v ≡ true → there v ≡ true)
    → ((v : Variant) → there v ≡ true → may v ≡ true) → newest u known name wanted ≡ Some h
    → (b : ℕ) × IsCandidate u there may name wanted h b
unfolding newest candidates
candidate_found u known there may name wanted h in_there in_may e =
    let test = λ (k : ℕ). there (variant name k) && is_wanted u wanted (variant name k) in
    let top = highest_below-some (variants u name)
    (λ k. known (variant name k) && is_wanted u wanted (variant name k)) h e in
    let parts = and_parts (known (variant name h))
    (is_wanted u wanted (variant name h)) top.passes in
    let here : test h ≡ true = and_from _ _ (in_there (variant name h) parts.0) parts.1 in
    let found = highest_below-there (variants u name) test h top.below here in
    let best = highest_below-some (variants u name) test found.0 found.1 in
    let best_parts = and_parts (there (variant name found.0))
    (is_wanted u wanted (variant name found.0)) best.passes in (
      found.0,
      record {
        newest_is = found.1;
        in_range = best.below;
        candidate = and_from _ _ (and_from _ _
            (in_may (variant name found.0) best_parts.0) best_parts.1)
            (le-leb h found.0 (best.highest h top.below here));
      },
    )

-- a lane keeps to a map
pub record Fits (u : Universe) (m : May) (st : LaneState) : Type 0 where
  pub allows : AllowsAll u m st.chroot
  pub spent : st.spent ≤ m.cost
  pub long : length m.built ≤ length st.built
  pub built : (r : ℕ) → was_built m.built r ≡ true → was_built st.built r ≡ true

-- at the end of a branch, to the map behind both
fits_left : (u : Universe) (first second : May) (st : LaneState)
    → phases_differ u first second ≡ false → Fits u first st → Fits u (joined_may u first second) st
fits_left u first second st e fits =
    let long = both_built-long first.built second.built in
    record {
      allows = allows_left u first second st.chroot e fits.allows;
      spent = let low = fits.spent in omega arith;
      long = omega (arith, fits.long, long.0);
      built = λ r b. fits.built r (both_built-each first.built second.built r b).0;
    }

fits_right : (u : Universe) (first second : May) (st : LaneState)
    → phases_differ u first second ≡ false → Fits u second st
    → Fits u (joined_may u first second) st
fits_right u first second st e fits =
    let long = both_built-long first.built second.built in
    record {
      allows = allows_right u first second st.chroot e fits.allows;
      spent = let low = fits.spent in omega arith;
      long = omega (arith, fits.long, long.1);
      built = λ r b. fits.built r (both_built-each first.built second.built r b).1;
    }

-- one more recipe built
built_too : (xs ys : List Bool) (r k : ℕ) → length xs ≤ length ys
    → ((i : ℕ) → was_built xs i ≡ true → was_built ys i ≡ true)
    → was_built (with_built xs r) k ≡ true → was_built (with_built ys r) k ≡ true
built_too xs ys r k long each e =
    elim (cases_eq k r) [
      | inl same ↦ elim (cases_lt r (length xs)) [
        | inl lt ↦ ap (was_built (with_built ys r)) same
            ∙ get_or-set_same ys r true false (omega (arith, long))
        | inr ge ↦
            let past : was_built (with_built xs r) k ≡ false = get_or_past (with_built xs r) k false
            (omega (arith, length-set xs r true, same, ge)) in
            absurd (both_ways _ past e)
      ]
      | inr other ↦ get_or-set_other ys r k true false other
          ∙ each k (sym (get_or-set_other xs r k true false other) ∙ e)
    ]

module _ (u : Universe) (p : Plan) (rows : Rows) where
  unless_agrees : (l : ℕ) (o : Option Trap) (m : Turn) → o ≡ None → AgreesAfter u p rows l m
      → AgreesAfter u p rows l (unless o m)
  unless_agrees l o m e h = subst (λ t. AgreesAfter u p rows l (unless t m)) (sym e) h

  -- the branches of lane l leave each name in one phase
  abbrev pub Joins : ℕ → Type 0
  Joins l = (i : ℕ) → parts_of u (maps_at u p rows l i) (instruction_at p l i) ≡ false

  module _ (l : ℕ) (st : LaneState) (branched : IsBranched (lane p l).instructions)
      (joins : Joins l) where
    abbrev is : List Instruction
    is = (lane p l).instructions

    maps_next : (k : ℕ) (x : Instruction) → slice_get is k ≡ Some x
        → maps_at u p rows l (suc k) ≡ maps_behind u (rows l k) (possible u p l k)
        (maps_at u p rows l k) x
    maps_next k x e = ap (maps_behind_some u (rows l k) (possible u p l k) (maps_at u p rows l k)) e

    at_join : (k : ℕ) → slice_get is k ≡ Some EndWhen
        → phases_differ u (maps_at u p rows l k).first (maps_at u p rows l k).here ≡ false
    at_join k e = ap (parts_of u (maps_at u p rows l k)) (sym e) ∙ joins k

    -- what instructions of a branch leave
    first_kept : (known there : Variant → Bool) (m : Maps) (x : Instruction) → is_inner x ≡ true
        → (maps_behind u known there m x).first ≡ m.first
    first_kept known there m (Publish r) h = refl
    first_kept known there m (Wait e) h = refl
    first_kept known there m (When name wanted) h = refl
    first_kept known there m Otherwise h = absurd (false≢true h)
    first_kept known there m EndWhen h = refl
    first_kept known there m _ h = refl

    ahead_kept : (known there : Variant → Bool) (m : Maps) (x : Instruction) → is_inner x ≡ true
        → (maps_behind u known there m x).ahead ≡ m.ahead
    ahead_kept known there m (When name wanted) h = absurd (false≢true h)
    ahead_kept known there m _ h = refl

    abbrev FitsAt : ℕ → Type 0
    FitsAt k = Fits u (may_at u p rows l k) st

    -- a lane that fits where it comes to fits where it goes on
    pub fits_lands : (k : ℕ) → FitsAt k → FitsAt (landing is k)
    fits_lands =
        landed is branched FitsAt (λ w j. Fits u (maps_at u p rows l j).first st) FitsAt
        (λ j s fits. fits)
        (λ w j s e fits. subst (λ (m : Maps). Fits u m.first st) (sym (maps_next j Otherwise e))
        fits)
        (λ w j x e s inner fits. subst (λ (m : Maps). Fits u m.first st) (sym (maps_next j x e))
        (subst (λ m. Fits u m st) (sym (first_kept (rows l j) (possible u p l j)
        (maps_at u p rows l j) x inner)) fits))
        (λ w j s e fits. subst (λ (m : Maps). Fits u m.here st) (sym (maps_next j EndWhen e))
        (fits_left u _ _ st (at_join j e) fits))
        (λ w j s e fits. subst (λ (m : Maps). Fits u m.here st) (sym (maps_next j EndWhen e))
        (fits_right u _ _ st (at_join j e) fits))

    -- and so does a lane at a `when` where the second branch begins
    pub fits_else : (k name : ℕ) (wanted : Option (Op × List ℕ))
        → slice_get is k ≡ Some (When name wanted) → FitsAt k → FitsAt (else_place (lane p l) k)
    fits_else k name wanted e fits =
        let found = else_behind is branched k name wanted e
        (λ j. (maps_at u p rows l j).ahead ≡ may_at u p rows l k)
        (λ j x at s inner same. ap (λ (m : Maps). m.ahead) (maps_next j x at)
        ∙ ahead_kept (rows l j) (possible u p l j) (maps_at u p rows l j) x inner ∙ same)
        (ap (λ (m : Maps). m.ahead) (maps_next k (When name wanted) e)) in
        let there : may_at u p rows l (suc found.at) ≡ may_at u p rows l k =
        ap (λ (m : Maps). m.here) (maps_next found.at Otherwise found.is) ∙ found.holds in
        fits_lands (past_else (drop (suc k) is) (suc k))
        (subst FitsAt (sym found.place) (subst (λ m. Fits u m st) (sym there) fits))

  module _ (l : ℕ) (st : LaneState) (there : Variant → Bool)
      (branched : IsBranched (lane p l).instructions) (joins : Joins l)
      (agrees : Agrees u p rows l st) where
    abbrev here : May
    here = may_at u p rows l st.done

    abbrev may_be : Variant → Bool
    may_be = possible u p l st.done

    -- the map after an instruction that ends no branch
    plain : (known may : Variant → Bool) (m : Maps) (x : Instruction) → IsStand (Some x)
        → (maps_behind u known may m x).here ≡ may_after u known may m.here x
    plain known may m Otherwise s = absurd s
    plain known may m EndWhen s = absurd s
    plain known may m _ s = refl

    next_map : (x : Instruction) → IsStand (Some x) → instruction_at p l st.done ≡ Some x
        → may_at u p rows l (suc st.done) ≡ may_after u (rows l st.done) may_be here x
    next_map x s e = ap (λ o. (maps_behind_some u (rows l st.done) may_be
        (maps_at u p rows l st.done) o).here) e
        ∙ plain (rows l st.done) may_be (maps_at u p rows l st.done) x s

    -- a lane that has made nothing of what comes next fits just where it agrees
    fits_here : st.made ≡ 0 → Fits u here st
    fits_here z = record {
      allows = agrees.allows;
      spent = rw z at agrees.spent;
      long = agrees.long;
      built = agrees.built;
    }

    agrees_at : (next : LaneState) (k : ℕ) → next.done ≡ k → next.made ≡ 0
        → Fits u (may_at u p rows l k) next → Agrees u p rows l next
    agrees_at next k e z fits =
        subst (λ j. Fits u (may_at u p rows l j) next → Agrees u p rows l next) e
        (λ f. record {
          allows = f.allows;
          spent = subst (λ m. next.spent ≤ (may_at u p rows l (place_paid next.done m)).cost)
              (sym z) f.spent;
          long = f.long;
          built = f.built;
        }) fits

    -- behind an instruction, where the lane fits the map after it
    lands_at : (x : Instruction) (next : LaneState) → IsStand (Some x)
        → instruction_at p l st.done ≡ Some x → next.done ≡ next_place (lane p l) st.done
        → next.made ≡ 0 → Fits u (may_after u (rows l st.done) may_be here x) next
        → Agrees u p rows l next
    lands_at x next s e place z fits =
        agrees_at next _ place z (fits_lands l next branched joins (suc st.done)
        (subst (λ m. Fits u m next) (sym (next_map x s e)) fits))

    past_agrees : (x : Instruction) (cost : ℕ) (c : Chroot) → IsStand (Some x)
        → instruction_at p l st.done ≡ Some x
        → AllowsAll u (may_after u (rows l st.done) may_be here x) c
        → st.spent + cost ≤ (may_after u (rows l st.done) may_be here x).cost
        → (may_after u (rows l st.done) may_be here x).built ≡ here.built
        → Agrees u p rows l (past (lane p l) st cost c)
    past_agrees x cost c s e a b same =
        lands_at x (past (lane p l) st cost c) s e refl refl
        (record {
          allows = a;
          spent = b;
          long = rw same agrees.long;
          built = rw same agrees.built;
        })

    spent_here : st.made ≡ 0 → st.spent ≤ here.cost
    spent_here e = rw e at agrees.spent

    unpack_agrees : (name : ℕ) (wanted : Option (Op × List ℕ)) (h b : ℕ)
        → instruction_at p l st.done ≡ Some (Unpack name wanted) → st.made ≡ 0
        → newest u (rows l st.done) name wanted ≡ Some h
        → IsCandidate u there may_be name wanted h b
        → first_trap (unpack_risks u (lane p l) here name (candidates u may_be name wanted h))
        ≡ None
        → AgreesAfter u p rows l (unpacks u (lane p l) st name (newest u there name wanted))
    unpack_agrees name wanted h b e z top is safe =
        let cur = candidates u may_be name wanted h in
        let covers = unpack_covers u here st.chroot agrees.allows (lane p l) st.spent name cur b
        (spent_here z) is.in_range is.candidate in
        let bound = greatest_below-at (variants u name) cur
        (λ k. size u (variant name k)) b is.in_range is.candidate in
        let paid : st.spent + unpack_cost u (variant name b)
        ≤ here.cost + greatest_cost u name cur = omega (arith, spent_here z, bound) in
        rw is.newest_is
        (unless_agrees l _ (Goes (past (lane p l) st (unpack_cost u (variant name b))
        (unpacked st.chroot (variant name b)))) (no_trap covers safe)
        (past_agrees (Unpack name wanted) _ _ tt e
        (subst (λ o. AllowsAll u (may_unpack u may_be here name wanted o)
        (unpacked st.chroot (variant name b))) (sym top)
        (unpack_keeps u here st.chroot agrees.allows name cur b _ _
        (variants_name u name b is.in_range) is.in_range is.candidate))
        (subst (λ o. st.spent + unpack_cost u (variant name b)
        ≤ (may_unpack u may_be here name wanted o).cost) (sym top) paid)
        (subst (λ o. (may_unpack u may_be here name wanted o).built ≡ here.built) (sym top) refl)))

    unpack_case : (name : ℕ) (wanted : Option (Op × List ℕ)) (o : Option ℕ)
        → newest u (rows l st.done) name wanted ≡ o
        → instruction_at p l st.done ≡ Some (Unpack name wanted) → st.made ≡ 0
        → ((v : Variant) → rows l st.done v ≡ true → there v ≡ true)
        → ((v : Variant) → there v ≡ true → may_be v ≡ true)
        → unpack_risk u may_be (lane p l) here name wanted o ≡ None
        → AgreesAfter u p rows l (unpacks u (lane p l) st name (newest u there name wanted))
    unpack_case name wanted None top e z below above safe = absurd (none-some _ (sym safe))
    unpack_case name wanted (Some h) top e z below above safe =
        let found = candidate_found u (rows l st.done) there may_be name wanted h below above top in
        unpack_agrees name wanted h found.0 e z top found.1 safe

    configure_agrees : (ms : List ℕ) → instruction_at p l st.done ≡ Some (Configure ms)
        → st.made ≡ 0 → first_trap (configure_risks u (lane p l) here ms) ≡ None
        → AgreesAfter u p rows l (turn_of u there (lane p l) st (Some (Configure ms)))
    configure_agrees ms e z safe =
        let low = spent_here z in
        unless_agrees l _ (Goes (past (lane p l) st (length ms) (configured st.chroot ms)))
        (no_trap (configure_covers u here st.chroot agrees.allows
        (lane p l) st.spent ms low) safe)
        (past_agrees (Configure ms) _ _ tt e
        (change_keeps u here st.chroot agrees.allows may_be_configured configured_slot
        (λ k n t a. configured_allowed a) ms _ _ refl) (omega (arith, low)) refl)

    deconfigure_agrees : (ms : List ℕ) → instruction_at p l st.done ≡ Some (Deconfigure ms)
        → st.made ≡ 0 → first_trap (deconfigure_risks u (lane p l) here ms) ≡ None
        → AgreesAfter u p rows l (turn_of u there (lane p l) st (Some (Deconfigure ms)))
    deconfigure_agrees ms e z safe =
        let low = spent_here z in
        unless_agrees l _ (Goes (past (lane p l) st (length ms) (deconfigured st.chroot ms)))
        (no_trap (deconfigure_covers u here st.chroot agrees.allows (lane p l) st.spent ms low)
        safe)
        (past_agrees (Deconfigure ms) _ _ tt e
        (change_keeps u here st.chroot agrees.allows may_be_deconfigured deconfigured_slot
        (λ k n t a. deconfigured_allowed a) ms _ _ refl) (omega (arith, low)) refl)

    remove_agrees : (ms : List ℕ) → instruction_at p l st.done ≡ Some (Remove ms) → st.made ≡ 0
        → first_trap (remove_risks u (lane p l) here ms) ≡ None
        → AgreesAfter u p rows l (turn_of u there (lane p l) st (Some (Remove ms)))
    remove_agrees ms e z safe =
        let low = spent_here z in
        unless_agrees l _ (Goes (past (lane p l) st (length ms) (removed st.chroot ms)))
        (no_trap (remove_covers u here st.chroot agrees.allows (lane p l) st.spent ms low) safe)
        (past_agrees (Remove ms) _ _ tt e
        (change_keeps u here st.chroot agrees.allows (λ s. MayAbsent) (λ s. Absent)
        (λ k n t a. allows_absent) ms _ _ refl) (omega (arith, low)) refl)

    build_agrees : (r : ℕ) → instruction_at p l st.done ≡ Some (Build r) → st.made ≡ 0
        → first_trap (build_risks u (lane p l) here (recipe u r)) ≡ None
        → AgreesAfter u p rows l (turn_of u there (lane p l) st (Some (Build r)))
    build_agrees r e z safe =
        let low = spent_here z in
        unless_agrees l _ (Goes (past_build (lane p l) st (recipe u r).steps r))
        (no_trap (build_covers u here st.chroot agrees.allows (lane p l) st.spent
        (recipe u r) low) safe)
        (lands_at (Build r) (past_build (lane p l) st (recipe u r).steps r) tt e refl refl
        (record {
          allows = record { long = agrees.allows.long; each = agrees.allows.each };
          spent = omega (arith, low);
          long = omega (
            arith,
            agrees.long,
            length-set here.built r true,
            length-set st.built r true,
          );
          built = λ k. built_too here.built st.built r k agrees.long agrees.built;
        }))

    -- after an output the lane has paid for the whole publish
    paid_agrees : (r : ℕ) → instruction_at p l st.done ≡ Some (Publish r) → (made : ℕ)
        → st.made ≡ made
        → st.spent + first_only made (length (outputs u r)) ≤ (may_at u p rows l (suc st.done)).cost
    paid_agrees r e zero z =
        let next = ap (λ (m : May). m.cost) (next_map (Publish r) tt e) in
        omega (arith, next, spent_here z)
    paid_agrees r e (suc made) z =
        let low : st.spent ≤ (may_at u p rows l (suc st.done)).cost = rw z at agrees.spent in
        omega (arith, low)

    given_agrees : (r : ℕ) (cost : ℕ) → instruction_at p l st.done ≡ Some (Publish r)
        → st.spent + cost ≤ (may_at u p rows l (suc st.done)).cost
        → Agrees u p rows l (given (lane p l) (length (outputs u r)) st cost)
    given_agrees r cost e paid =
        elim (cases_lt (suc st.made) (length (outputs u r))) [
          | inl lt ↦ rw (lt-ltb (suc st.made) (length (outputs u r)) lt)
              (record {
                allows = agrees.allows;
                spent = paid;
                long = agrees.long;
                built = agrees.built;
              })
          | inr ge ↦ let next = next_map (Publish r) tt e in
              rw (le-ltb (suc st.made) (length (outputs u r)) ge)
              (lands_at (Publish r) (past (lane p l) st cost st.chroot) tt e refl refl
              (record {
                allows = record { long = agrees.allows.long; each = agrees.allows.each };
                spent = subst (λ (m : May). st.spent + cost ≤ m.cost) next paid;
                long = agrees.long;
                built = agrees.built;
              }))
        ]

    -- what a lane has not built it has not surely built
    unbuilt : (r : ℕ) → not (was_built st.built r) ≡ true → not (was_built here.built r) ≡ true
    unbuilt r e =
        elim (cases_Bool (was_built here.built r)) [
          | inl sure ↦ absurd (both_ways _ (not-true _ e) (agrees.built r sure))
          | inr other ↦ ap not other
        ]

    publish_covers : (r : ℕ) → Covers (publish_traps u (lane p l) st r)
        (publish_risks u (lane p l) here r)
    publish_covers r =
        cons
        (λ k. let parts = and_parts (st.made == 0) _ k in
        over-may (lane p l).budget _ _ _ _ (spent_here (eqb-true st.made 0 parts.0))
        (le_refl _) parts.1)
        (cons (λ k. unbuilt r (and_parts (st.made == 0) _ k).1) nil)

    publishes_agrees : (r : ℕ) (o : Option Variant) → instruction_at p l st.done ≡ Some (Publish r)
        → first_trap (publish_risks u (lane p l) here r) ≡ None
        → AgreesAfter u p rows l (publishes u (lane p l) st r o)
    publishes_agrees r None e safe = tt
    publishes_agrees r (Some v) e safe =
        unless_agrees l _ (Gives (given (lane p l) (length (outputs u r)) st
        (first_only st.made (length (outputs u r)))) v) (no_trap (publish_covers r) safe)
        (given_agrees r _ e (paid_agrees r e st.made refl))

    wait_agrees : (entry : Entry) → instruction_at p l st.done ≡ Some (Wait entry) → st.made ≡ 0
        → AgreesAfter u p rows l (turn_of u there (lane p l) st (Some (Wait entry)))
    wait_agrees entry e z =
        elim (cases_Bool (passes u there entry)) [
          | inl passed ↦ let low = spent_here z in
              rw passed (past_agrees (Wait entry) 0 st.chroot tt e agrees.allows
              (omega (arith, low)) refl)
          | inr blocked ↦ rw blocked tt
        ]

    when_agrees : (name : ℕ) (wanted : Option (Op × List ℕ))
        → instruction_at p l st.done ≡ Some (When name wanted) → st.made ≡ 0
        → (holds : Bool) → Agrees u p rows l (past_when (lane p l) st holds)
    when_agrees name wanted e z true =
        let fits = fits_here z in
        lands_at (When name wanted) (past_when (lane p l) st true) tt e refl refl
        (record {
          allows = fits.allows;
          spent = fits.spent;
          long = fits.long;
          built = fits.built;
        })
    when_agrees name wanted e z false =
        let fits = fits_here z in
        agrees_at (past_when (lane p l) st false) _ refl refl
        (fits_else l (past_when (lane p l) st false) branched joins st.done name wanted e
        (record {
          allows = fits.allows;
          spent = fits.spent;
          long = fits.long;
          built = fits.built;
        }))

    -- a lane's turn keeps to its map, and does not trap
    pub turn_agrees : (x : Instruction) → instruction_at p l st.done ≡ Some x
        → st.made < events_of u x
        → ((v : Variant) → rows l st.done v ≡ true → there v ≡ true)
        → (st.made ≡ 0 → (v : Variant) → there v ≡ true → may_be v ≡ true)
        → risk u (lane p l) (rows l st.done) may_be here x ≡ None
        → AgreesAfter u p rows l (turn_of u there (lane p l) st (Some x))
    turn_agrees (Unpack name wanted) e lt below above safe =
        let z : st.made ≡ 0 = omega arith in
        unpack_case name wanted (newest u (rows l st.done) name wanted) refl e z below
        (above z) safe
    turn_agrees (Configure members) e lt below above safe =
        configure_agrees members e (omega arith) safe
    turn_agrees (Deconfigure members) e lt below above safe =
        deconfigure_agrees members e (omega arith) safe
    turn_agrees (Remove members) e lt below above safe = remove_agrees members e (omega arith) safe
    turn_agrees (Build r) e lt below above safe = build_agrees r e (omega arith) safe
    turn_agrees (Publish r) e lt below above safe =
        publishes_agrees r (slice_get (outputs u r) st.made) e safe
    turn_agrees (Wait entry) e lt below above safe = wait_agrees entry e (omega arith)
    turn_agrees (When name wanted) e lt below above safe =
        when_agrees name wanted e (omega arith) (has_wanted u there name wanted)
    turn_agrees Otherwise e lt below above safe = tt
    turn_agrees EndWhen e lt below above safe = tt
