-- What is kept for the entries of waits.
use Rattle.std.proofs.Common.{◌≡◌, inl, inr, ℕ, List, [], ◌∷◌, ◌++◌, length, Some, slice_get, sym, ap, subst, ◌∙◌}
use Rattle.std.proofs.lemmas.Option.{same_Some}
use Rattle.farm_universe.proofs.ListFacts.{slice_get-push}
use Rattle.deb_relation.specs.Relations.{Entry}
use Rattle.known_rows.specs.Entries.{IsLonger, AreFor}

module _ {V : Type 0} (Is : Entry → V → Type 0) where
  pub for_longer : (es more : List Entry) (vs : List V) → IsLonger es more → AreFor Is es vs
      → AreFor Is more vs
  for_longer es more vs longer are k v at =
      let f = are k v at in
      record { entry = f.entry; at = longer k f.entry f.at; is = f.is }

  pub for_push : (es : List Entry) (vs next : List V) (e : Entry) (v : V)
      → AreFor Is es vs → slice_get es (length vs) ≡ Some e → Is e v → next ≡ vs ++ v ∷ []
      → AreFor Is es next
  for_push es vs next e v are at is items =
      subst (AreFor Is es) (sym items) (λ k w got. elim (slice_get-push vs v k w got) [
        | inl old ↦ are k w old
        | inr new ↦ record {
          entry = e;
          at = ap (slice_get es) new.0 ∙ at;
          is = subst (Is e) new.1 is;
        }
      ])

  pub for_at : (es : List Entry) (vs : List V) (n : ℕ) (e : Entry) (v : V) → AreFor Is es vs
      → slice_get es n ≡ Some e → slice_get vs n ≡ Some v → Is e v
  for_at es vs n e v are at got =
      let f = are n v got in
      subst (λ g. Is g v) (same_Some f.entry e (sym f.at ∙ at)) f.is
