-- What the lanes have published, lane by lane.
use Rattle.std.proofs.Common.{All, Contains, List, Option, Some, [], ap, arith, length, map, refl, slice_get, subst, suc, sum_by, sym, take, zero, ℕ, ⊎_elim, ◌++◌, ◌<◌, ◌∷◌, ◌≡◌, ◌≤◌}
use Rattle.std.proofs.lemmas.Bool.{cases_lt}
use Rattle.std.proofs.lemmas.List.Elements.{All-append, All-nil, All-push, Contains-append_left, Contains-append_right}
use Rattle.std.proofs.lemmas.List.Sums.{sum_by-append}
use Rattle.farm_model.specs.declared.types.Variant.{Variant}
use Rattle.plan_model.specs.Plan.{lane, lane_outputs}
use Rattle.farm_archive.specs.declared.publication.Publication.{Publication}
use Rattle.archive_laws.specs.Records.{Record}
use Rattle.plan_verifier.specs.Accepted.{AcceptedPlan}
use Rattle.farm_laws.proofs.Archive.{element}
use Rattle.word_archive.specs.History.{first_published, lane_published, lanes_published}
use Rattle.word_archive.specs.Serials.{drawn, made_by}
use Rattle.word_archive.proofs.Lists.{get_map}
use Rattle.word_archive.proofs.SerialSums.{by_sum, drawn_take, is_under, output_at, times_front}

-- what holds of each output of a lane holds of its list
by_all : (P : Publication → Type 0) (l : ℕ) (outs : List Variant) (serials : List ℕ) (m : ℕ)
    → ((i : ℕ) → i < m → P (output_at l outs serials i))
    → All P (first_published l outs serials m)
by_all P l outs serials zero h = All-nil P
by_all P l outs serials (suc m) h =
    All-push P (first_published l outs serials m) (output_at l outs serials m)
    (by_all P l outs serials m (λ i lt. h i (omega arith))) (h m (omega arith))

-- the list has each output that was made
by_has : (l : ℕ) (outs : List Variant) (serials : List ℕ) (m i : ℕ) → i < m
    → Contains (first_published l outs serials m) (output_at l outs serials i)
by_has l outs serials zero i lt = absurd (omega arith)
by_has l outs serials (suc m) i lt =
    let front = first_published l outs serials m in
    let last = output_at l outs serials m in
    ⊎_elim
    (λ (n : i < m). Contains-append_left front (last ∷ []) (output_at l outs serials i)
    (by_has l outs serials m i n))
    (λ (n : m ≤ i). let e : m ≡ i = omega arith in
    subst (λ j. Contains (front ++ last ∷ []) (output_at l outs serials j)) e
    (Contains-append_right front (last ∷ []) last (0, omega arith, refl)))
    (cases_lt i m)

module _ (a : AcceptedPlan) (records : List Record)
    (fits : (l : ℕ) (r : Record) → slice_get records l ≡ Some r
    → made_by a l r.at ≤ length r.serials) where
  -- the records, as those of seats that are in
  abbrev logs : List (Option Record)
  logs = map (λ r. Some r) records

  -- what a lane publishes
  abbrev outs : ℕ → List Variant
  outs l = lane_outputs a.universe (lane a.plan l)

  -- one of its outputs, as a publication
  abbrev item : ℕ → Record → ℕ → Publication
  item l r i = output_at l (outs l) r.serials i

  -- the record of a lane whose seat is in
  log_is : (l : ℕ) (r : Record) → slice_get records l ≡ Some r → slice_get logs l ≡ Some (Some r)
  log_is l r e = get_map (λ r. Some r) records l r e

  -- a serial stands in the list at most as often as it was drawn
  pub in_sum : (x n : ℕ) → n ≤ length records
      → sum_by (is_under x) (lanes_published a logs n) ≤ drawn x (take n records)
  in_sum x zero le = omega arith
  in_sum x (suc n) le =
      let at = element records n (omega arith) in
      let r = at.0 in
      let h = in_sum x n (omega arith) in
      let s = sum_by-append (is_under x) (lanes_published a logs n)
      (lane_published a n (slice_get logs n)) in
      let e = ap (λ o. sum_by (is_under x) (lane_published a n o)) (log_is n r at.1) in
      let b = by_sum x n (outs n) r.serials (made_by a n r.at) (fits n r at.1) in
      let f = times_front x r.serials (made_by a n r.at) in
      let d = drawn_take x records n r at.1 in
      omega arith

  -- what holds of each output of each lane holds of the list
  pub in_all : (P : Publication → Type 0) (n : ℕ) → n ≤ length records
      → ((l i : ℕ) (r : Record) → slice_get records l ≡ Some r → i < made_by a l r.at
      → P (item l r i))
      → All P (lanes_published a logs n)
  in_all P zero le h = All-nil P
  in_all P (suc n) le h =
      let at = element records n (omega arith) in
      let r = at.0 in
      All-append P (lanes_published a logs n) (lane_published a n (slice_get logs n))
      (in_all P n (omega arith) h)
      (subst (λ o. All P (lane_published a n o)) (sym (log_is n r at.1))
      (by_all P n (outs n) r.serials (made_by a n r.at) (λ i lt. h n i r at.1 lt)))

  -- the list has each output that some lane has made
  pub in_has : (n l i : ℕ) (r : Record) → l < n → slice_get records l ≡ Some r
      → i < made_by a l r.at
      → Contains (lanes_published a logs n) (item l r i)
  in_has zero l i r lt e made = absurd (omega arith)
  in_has (suc n) l i r lt e made =
      ⊎_elim
      (λ (m : l < n). Contains-append_left (lanes_published a logs n)
      (lane_published a n (slice_get logs n)) (item l r i) (in_has n l i r m e made))
      (λ (m : n ≤ l). let s : l ≡ n = omega arith in
      Contains-append_right (lanes_published a logs n)
      (lane_published a n (slice_get logs n)) (item l r i)
      (subst (λ j. Contains (lane_published a j (slice_get logs j)) (item l r i)) s
      (subst (λ o. Contains (lane_published a l o) (item l r i)) (sym (log_is l r e))
      (by_has l (outs l) r.serials (made_by a l r.at) i made))))
      (cases_lt l n)
