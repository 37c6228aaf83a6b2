-- The history of a closed archive has exactly what the lanes have published.
use Rattle.std.proofs.Common.{All, Bool, IsPermutation, List, Option, Some, ap, arith, length, map, slice_get, subst, ℕ, ⊎_elim, ◌<◌, ◌∙◌, ◌≡◌, ◌≤◌}
use Rattle.std.proofs.lemmas.Bool.{cases_lt}
use Rattle.std.proofs.lemmas.List.{length-map}
use Rattle.std.proofs.lemmas.List.Sorted.{All-permutation, Contains-permutation, sum_by-IsPermutation}
use Rattle.std.proofs.lemmas.Option.{get_or_from_slice_get, slice_get_within}
use Rattle.std.specs.List.Sorted.{IsNonDecreasingBy}
use Rattle.std.specs.Prelude.{slice_index, slice_index_or}
use Rattle.farm_model.specs.Packages.{variant}
use Rattle.plan_model.specs.Plan.{lane, lane_outputs}
use Rattle.farm_archive.specs.declared.publication.Publication.{Publication}
use Rattle.archive_laws.specs.Records.{Record}
use Rattle.plan_verifier.specs.Accepted.{AcceptedPlan, IsAccepted}
use Rattle.word_archive.specs.History.{IsHistory, IsMadeOutput, lanes_published}
use Rattle.word_archive.specs.Rule.{AreWordsOf, serial_word}
use Rattle.word_archive.specs.Serials.{made_by}
use Rattle.word_archive.proofs.Lists.{get_some}
use Rattle.word_archive.proofs.Published.{in_all, in_has, in_sum}
use Rattle.word_archive.proofs.Records.{record_holds}
use Rattle.word_archive.proofs.SerialSums.{at_most_one, drawn_front, is_under, one_if, output_at, same_under, two_in}

-- a list of what the lanes have published, by serial, is the history of the records
pub history_is : (a : AcceptedPlan) → IsAccepted a → (words : List ℕ) (records : List Record)
    (stopped : Bool) → AreWordsOf a words records stopped → (all : List (Option Record))
    → all ≡ map (λ r. Some r) records → (history : List Publication)
    → IsPermutation (lanes_published a all (length all)) history
    → IsNonDecreasingBy (λ (h : Publication). h.serial) history → IsHistory a records history
history_is a accepted words records stopped st all is history permutation up =
    let fits : (l : ℕ) (r : Record) → slice_get records l ≡ Some r
    → made_by a l r.at ≤ length r.serials =
    λ l r e. (record_holds a accepted words records stopped st l r e).made in
    let shown = map (λ (r : Record). Some r) records in
    let long : length shown ≡ length records = length-map records (λ (r : Record). Some r) in
    let n = length shown in
    let same : IsPermutation (lanes_published a shown n) history =
    subst (λ (xs : List (Option Record)). IsPermutation (lanes_published a xs (length xs))
    history) is permutation in
    let serial_there : (l i : ℕ) (r : Record) → slice_get records l ≡ Some r
    → i < made_by a l r.at
    → slice_get r.serials i ≡ Some (slice_index r.serials i) =
    λ l i r e made. get_some r.serials i 0 (let f = fits l r e in omega arith) in
    let output_there : (l i : ℕ) (r : Record) → slice_get records l ≡ Some r
    → i < made_by a l r.at
    → slice_get (lane_outputs a.universe (lane a.plan l)) i
    ≡ Some (slice_index_or (lane_outputs a.universe (lane a.plan l)) i (variant 0 0)) =
    λ l i r e made. get_some (lane_outputs a.universe (lane a.plan l)) i (variant 0 0)
    (let f = fits l r e in
    let g = (record_holds a accepted words records stopped st l r e).few in omega arith) in
    let each_all : All (IsMadeOutput a records) history =
    All-permutation (IsMadeOutput a records) (lanes_published a shown n) history same
    (in_all a records fits (IsMadeOutput a records) n (omega (arith, long))
    (λ l i r e made. record {
      told = r;
      place = i;
      there = e;
      made = made;
      drawn_as = serial_there l i r e made;
      output = output_there l i r e made;
    })) in
    record {
      each = λ k h e. subst (IsMadeOutput a records) (get_or_from_slice_get history k h h e)
          (each_all k h (slice_get_within history k h e));
      all = λ l i r e made.
          let x = output_at l (lane_outputs a.universe (lane a.plan l)) r.serials i in
          let c = Contains-permutation (lanes_published a shown n) history x same
          (in_has a records fits n l i r (let b = slice_get_within records l r e in
          omega (arith, long)) e made) in
          record {
            serial = x.serial;
            output = x.variant;
            number = c.0;
            stands = get_some history c.0 x c.1 ∙ ap (λ (y : Publication). Some y) c.2;
            drawn_as = serial_there l i r e made;
            variant = output_there l i r e made;
          };
      rises = λ j k g h lt ej ek.
          let m = up j k g (omega arith) (slice_get_within history k h ek) in
          let gj = ap (λ (y : Publication). y.serial) (get_or_from_slice_get history j g g ej) in
          let hk = ap (λ (y : Publication). y.serial) (get_or_from_slice_get history k h g ek) in
          let le : g.serial ≤ h.serial = omega arith in
          ⊎_elim
          (λ (below : g.serial < h.serial). below)
          (λ (above : h.serial ≤ g.serial).
          let e : g.serial ≡ h.serial = omega arith in
          let x = h.serial in
          let two = two_in (is_under x) history j k g h lt ej ek in
          let ug : is_under x g ≡ 1 = ap (one_if x) e ∙ same_under x in
          let uh : is_under x h ≡ 1 = same_under x in
          let moved = sum_by-IsPermutation (is_under x) (lanes_published a shown n) history same
          in
          let few = in_sum a records fits x n (omega (arith, long)) in
          let front = drawn_front x records n in
          let once = st.serials.once x in
          let one = at_most_one x (serial_word a words) in
          absurd (omega arith))
          (cases_lt g.serial h.serial);
    }
