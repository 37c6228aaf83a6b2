-- What a lane has behind it, place by place.
use Rattle.std.proofs.Common.{◌≡◌, inl, inr, ℕ, zero, suc, ◌+◌, List, [], ◌∷◌, ◌++◌, Option, Some, slice_get, length, get_or, sym, ap, subst, ◌∙◌, arith}
use Rattle.std.proofs.Math.Seq.{get_or-append_seam}
use Rattle.std.proofs.lemmas.Bool.{cases_eq}
use Rattle.std.proofs.lemmas.Option.{none-some, same_Some}
use Rattle.std.proofs.lemmas.List.{length-append, get_or_append_left}
use Rattle.farm_model.specs.Universe.{Universe}
use Rattle.plan_model.specs.Plan.{Plan, lane, outputs_before}
use Rattle.known_rows.specs.declared.marks.Past.{Past}
use Rattle.known_rows.specs.Marks.{past_at, no_past, ArePast}
use Rattle.known_rows.specs.Points.{last_point}
use Rattle.known_rows.proofs.MarkPlaces.{split}

-- one more place
pub past_next : (u : Universe) (p : Plan) (l n : ℕ) (past : List Past) (own : ℕ) (last : Option ℕ)
    → ArePast u p l n past → own ≡ outputs_before u (lane p l) n 0 → last ≡ last_point p l n
    → ArePast u p l (n + 1) (past ++ record { own = own; last = last } ∷ [])
past_next u p l n past own last so_far own_is last_is =
    let new : Past = record { own = own; last = last } in
    record {
      long = length-append past (new ∷ []) ∙ ap (λ k. k + 1) so_far.long;
      each = λ i lt. elim (cases_eq i n) [
        | inl here ↦
            ap (λ k. get_or (past ++ new ∷ []) k no_past) (here ∙ sym so_far.long)
            ∙ get_or-append_seam past new [] no_past
            ∙ ap (λ (k : ℕ). make k last) own_is
            ∙ ap (λ o. make (outputs_before u (lane p l) n 0) o) last_is
            ∙ ap (past_at u p l) (sym here)
        | inr other ↦
            get_or_append_left past (new ∷ []) no_past i (omega (arith, lt, other, so_far.long))
            ∙ so_far.each i (omega (arith, lt, other))
      ];
    }
  where
    make : ℕ → Option ℕ → Past
    make k o = record { own = k; last = o }

-- one more element of a list of which each fits its place
pub each_next : {X : Type 0} (P : ℕ → X → Type 0) (xs more : List X) (n : ℕ) (x : X)
    → more ≡ xs ++ x ∷ [] → length xs ≡ n
    → ((k : ℕ) (y : X) → slice_get xs k ≡ Some y → P k y) → P n x
    → (k : ℕ) (y : X) → slice_get more k ≡ Some y → P k y
each_next {X} P xs more n x items long so_far new k y at =
    elim (split xs (x ∷ []) k y (subst (λ zs. slice_get zs k ≡ Some y) items at)) [
      | inl old ↦ so_far k y old
      | inr last ↦ here last.0 last.1 last.2
    ]
  where
    here : (j : ℕ) → k ≡ length xs + j → slice_get (x ∷ []) j ≡ Some y → P k y
    here zero at_k is =
        subst (λ z. P k z) (same_Some x y is)
        (subst (λ i. P i x) (let e : n ≡ k = omega (arith, at_k, long) in e) new)
    here (suc j) at_k is = absurd (none-some y is)
