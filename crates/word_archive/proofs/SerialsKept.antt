-- What stays true of the serials where one lane's record changes.
use Rattle.std.proofs.Common.{List, Some, [], ap, arith, false, inl, inr, length, set, slice_get, subst, suc, sym, true, zero, ℕ, ◌+◌, ◌<◌, ◌∙◌, ◌∷◌, ◌≡◌, ◌≤◌}
use Rattle.std.proofs.lemmas.Bool.{cases_eq}
use Rattle.std.specs.Prelude.{slice_index_or}
use Rattle.farm_model.specs.Common.{initial, same, Universe}
use Rattle.farm_model.specs.declared.types.Variant.{Variant}
use Rattle.plan_model.specs.Plan.{Plan, lane, lane_outputs, no_lane}
use Rattle.archive_laws.specs.LaneMoves.{IsOutputOf}
use Rattle.archive_laws.specs.Records.{Record}
use Rattle.plan_verifier.specs.Accepted.{AcceptedPlan, known_rows}
use Rattle.word_archive.specs.Serials.{AreFew, IsPublishedBelow, IsSerials, all_outputs, drawn, draws, made_by, times}
use Rattle.word_archive.proofs.Lists.{get_set, get_set_other}
use Rattle.word_archive.proofs.Moves.{changed, same_record}

-- how often x is drawn once a lane's record has changed
pub drawn_set : (x : ℕ) (rs : List Record) (l : ℕ) (r r' : Record) → slice_get rs l ≡ Some r
    → drawn x (set rs l r') + times x r.serials ≡ drawn x rs + times x r'.serials
drawn_set x [] l r r' e = absurd (cc)
drawn_set x (q ∷ rs) zero r r' e =
    let s : q ≡ r = cc in let t = ap (λ (y : Record). times x y.serials) s in omega arith
drawn_set x (q ∷ rs) (suc l) r r' e = let d = drawn_set x rs l r r' e in omega arith

-- how many are drawn then
pub draws_set : (rs : List Record) (l : ℕ) (r r' : Record) → slice_get rs l ≡ Some r
    → draws (set rs l r') + length r.serials ≡ draws rs + length r'.serials
draws_set [] l r r' e = absurd (cc)
draws_set (q ∷ rs) zero r r' e =
    let s : q ≡ r = cc in let t = ap (λ (y : Record). length y.serials) s in omega arith
draws_set (q ∷ rs) (suc l) r r' e = let d = draws_set rs l r r' e in omega arith

-- no lane has too many serials
pub few_at : (u : Universe) (rs : List Record) (ofs : Plan) (l : ℕ) (r : Record)
    → slice_get rs l ≡ Some r → AreFew u rs ofs
    → length r.serials ≤ length (lane_outputs u (slice_index_or ofs l no_lane))
few_at u [] ofs l r e h = absurd (cc)
few_at u (q ∷ rs) [] l r e h = absurd h
few_at u (q ∷ rs) (c ∷ cs) zero r e h =
    let s : q ≡ r = cc in
    let t = ap (λ (y : Record). length y.serials) s in
    let b = h.0 in
    omega arith
few_at u (q ∷ rs) (c ∷ cs) (suc l) r e h = few_at u rs cs l r e h.1

-- nor one whose record has changed
pub few_set : (u : Universe) (rs : List Record) (ofs : Plan) (l : ℕ) (r : Record)
    → length r.serials ≤ length (lane_outputs u (slice_index_or ofs l no_lane)) → AreFew u rs ofs
    → AreFew u (set rs l r) ofs
few_set u [] ofs l r le h = tt
few_set u (q ∷ rs) [] l r le h = absurd h
few_set u (q ∷ rs) (c ∷ cs) zero r le h = (le, h.1)
few_set u (q ∷ rs) (c ∷ cs) (suc l) r le h = (h.0, few_set u rs cs l r le h.1)

-- all have at most as many as there are outputs
pub draws_few : (u : Universe) (rs : List Record) (ofs : Plan) → AreFew u rs ofs
    → draws rs ≤ all_outputs u ofs
draws_few u [] ofs h = omega arith
draws_few u (r ∷ rs) [] h = absurd h
draws_few u (r ∷ rs) (c ∷ cs) h = let b = h.0 in let t = draws_few u rs cs h.1 in omega arith

-- what was published under a serial stays so, where serials and outputs are only added
pub below_stays : (a : AcceptedPlan) (records : List Record) (l : ℕ) (r r' : Record)
    → slice_get records l ≡ Some r
    → ((i y : ℕ) → slice_get r.serials i ≡ Some y → slice_get r'.serials i ≡ Some y)
    → made_by a l r.at ≤ made_by a l r'.at → (v : Variant) (x : ℕ)
    → IsPublishedBelow a records v x → IsPublishedBelow a (set records l r') v x
below_stays a records l r r' here more grows v x h =
    elim (cases_eq h.publisher l) [
      | inl is ↦
          let same : h.told ≡ r =
          same_record records l h.told r (ap (slice_get records) (sym is) ∙ h.there) here in
          record {
            publisher = l;
            place = h.place;
            told = r';
            serial = h.serial;
            there = get_set records l r r' here;
            made = let was : h.place < made_by a l r.at =
                subst (λ (y : ℕ × Record). h.place < made_by a y.0 y.1.at) (λ i. (is i, same i))
                h.made in
                omega arith;
            output = ap (λ k. slice_get (lane_outputs a.universe (lane a.plan k)) h.place)
                (sym is)
                ∙ h.output;
            drawn_as = more h.place h.serial
                (ap (λ (q : Record). slice_get q.serials h.place) (sym same) ∙ h.drawn_as);
            below = h.below;
          }
      | inr apart ↦
          record {
            publisher = h.publisher;
            place = h.place;
            told = h.told;
            serial = h.serial;
            there = get_set_other records l h.publisher r' apart ∙ h.there;
            made = h.made;
            output = h.output;
            drawn_as = h.drawn_as;
            below = h.below;
          }
    ]

-- a record changes, and its serials do not
pub serials_stay : (a : AcceptedPlan) (word : ℕ) (records : List Record) (l : ℕ) (r r' : Record)
    → IsSerials a word records → slice_get records l ≡ Some r → r'.serials ≡ r.serials
    → (made_by a l r'.at ≤ length r.serials) × (length r.serials ≤ suc (made_by a l r'.at))
    → made_by a l r.at ≤ made_by a l r'.at → IsSerials a word (set records l r')
serials_stay a word records l r r' h here same owed grows =
    let long : length r'.serials ≡ length r.serials = ap length same in
    record {
      once = λ x. let d = drawn_set x records l r r' here in
          let g = h.once x in
          let t = ap (times x) same in
          omega arith;
      count = let d = draws_set records l r r' here in let g = h.count in omega arith;
      few = few_set a.universe records a.plan l r'
          (let f = few_at a.universe records a.plan l r here h.few in omega arith) h.few;
      owed = changed (λ k q. (made_by a k q.at ≤ length q.serials)
          × (length q.serials ≤ suc (made_by a k q.at))) records l r r' here
          (let o = owed.0 in let w = owed.1 in (omega arith, omega arith)) h.owed;
      above = λ m k j x q v there drawn_is of known new.
          below_stays a records l r r' here
          (λ i y e. ap (λ s. slice_get s i) same ∙ e) grows v x
          (changed (λ m q. (k j x : ℕ) (v : Variant) → slice_get q.serials j ≡ Some x
          → IsOutputOf a.universe (lane a.plan m) k j → known_rows a m k v ≡ true
          → initial a.universe v ≡ false
          → IsPublishedBelow a records v x) records l r r' here
          (λ k j x v d. h.above l k j x r v here (ap (λ s. slice_get s j) (sym same) ∙ d))
          (λ m q there k j x v d. h.above m k j x q v there d) m q there k j x v drawn_is of known
          new);
    }
