-- The entries of waits by number, and the sources of each.
use Rattle.std.proofs.Common.{◌≡◌, inl, inr, ℕ, ◌+◌, ◌<◌, List, [], ◌∷◌, ◌++◌, length, get_or, Some, slice_get, sym, ap, subst, ◌∙◌, arith}
use Rattle.std.proofs.lemmas.List.{length-append}
use Rattle.std.proofs.lemmas.Option.{same_Some, slice_get-get_or, slice_get_within, slice_get_cases, get_or_from_slice_get}
use Rattle.deb_relation.specs.Relations.{Entry}
use Rattle.farm_model.specs.Universe.{Universe}
use Rattle.plan_model.specs.Plan.{Plan}
use Rattle.sat_rows.proofs.Gathered.{each_next}
use Rattle.known_rows.specs.declared.column.Source.{Source}
use Rattle.known_rows.specs.declared.marks.Mark.{Mark}
use Rattle.known_rows.specs.Entries.{IsLonger, AreFor}
use Rattle.known_rows.specs.EntrySources.{IsNumber, AreMarkNumbers, AreAllSources, AreFoundFor}
use Rattle.known_rows.specs.Hits.{AreEntrySources}
use Rattle.known_rows.specs.Marks.{all_marks, IsThere, AreThere}
use Rattle.known_rows.proofs.KeptLaws.{for_at}
use Rattle.known_rows.proofs.PointLaws.{mark_facts}

-- the marks of a plan are there
pub all_there : (u : Universe) (p : Plan) (marks : List Mark) → marks ≡ all_marks u p (length p)
    → AreThere p marks
all_there u p marks are w mark at =
    let facts = mark_facts u p marks w mark are (slice_get_within marks w mark at) in
    subst (IsThere p) (get_or_from_slice_get marks w mark mark at)
    (record { in_plan = facts.1; in_lane = facts.2 })

-- one more number
pub numbers_next : (p : Plan) (es more : List Entry) (marks : List Mark) (numbers next : List ℕ)
    (k n : ℕ) (mark : Mark) → AreMarkNumbers p es marks numbers k → IsLonger es more
    → slice_get marks k ≡ Some mark → IsNumber p more mark n → next ≡ numbers ++ n ∷ []
    → AreMarkNumbers p more marks next (k + 1)
numbers_next p es more marks numbers next k n mark are longer at is items =
    record {
      long = ap length items ∙ length-append numbers (n ∷ []) ∙ ap (λ m. m + 1) are.long;
      each = λ w m lt got.
          subst (λ ns. IsNumber p more m (get_or ns w 0)) (sym items)
          (each_next (λ v i. (g : Mark) → slice_get marks v ≡ Some g → IsNumber p more g i)
          numbers n 0
          (λ v v_lt g there e waits.
          longer (get_or numbers v 0) e
          (are.each v g (omega (arith, v_lt, are.long)) there e waits))
          (λ g there.
          subst (λ h. IsNumber p more h n)
          (same_Some mark g (sym at ∙ ap (slice_get marks) (sym are.long) ∙ there)) is) w
          (omega (arith, lt, are.long)) m got);
    }

module _ {V : Type 0} (Is : Entry → V → Type 0) where
  pub for_each : (es : List Entry) (vs : List V) → length vs ≡ length es
      → ((k : ℕ) (v : V) → slice_get vs k ≡ Some v → (e : Entry) → slice_get es k ≡ Some e → Is e v)
      → AreFor Is es vs
  for_each es vs long each k v at =
      elim (slice_get_cases es k).1 [
        | inl a ↦ record { entry = a.0; at = a.2; is = each k v at a.0 a.2 }
        | inr b ↦ absurd (omega (arith, b.0, slice_get_within vs k v at, long))
      ]

-- under the number of a wait stand the sources of its entry
pub found_for : (u : Universe) (p : Plan) (es : List Entry) (all : List (List Source))
    (marks : List Mark) (numbers : List ℕ) → AreMarkNumbers p es marks numbers (length marks)
    → AreAllSources u p es all → AreFoundFor u p all marks numbers
found_for u p es all marks numbers are sources =
    record {
      long = are.long;
      each = λ w mark at e waits.
          let n = get_or numbers w 0 in
          let got = are.each w mark (slice_get_within marks w mark at) at e waits in
          let lt = slice_get_within es n e got in
          let there : n < length all = omega (arith, lt, sources.long) in
          record {
            there = there;
            are = for_at (AreEntrySources u p) es all n e (get_or all n []) sources.each got
                (slice_get-get_or all n [] there);
          };
    }
