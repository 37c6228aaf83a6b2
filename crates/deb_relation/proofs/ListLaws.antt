-- The first profile list of a text, and those behind it.
use Rattle.std.proofs.Common.{◌≡◌, ℕ, ◌∷◌, ◌++◌, true, false, List, [], Option, Result, Ok, refl, sym, ◌∙◌}
use Rattle.std.proofs.lemmas.List.{append-nil}
use Rattle.std.specs.List.{list_any}
use Rattle.deb_text.specs.Common.{Fails, is_byte, is_blank, before, after, behind, then_all, with_front}
use Rattle.deb_text.proofs.PartLaws.{split-none, split-some, split-cons}
use Rattle.deb_text.proofs.StepLaws.{fails-with, with_front-push}
use Rattle.deb_relation.specs.Marks.{greater}
use Rattle.deb_relation.specs.Restrictions.{list_in, end_in, lists_at}

-- behind the last `>`
pub lists-last : (text : List ℕ) → list_any (is_byte greater) text ≡ false
    → lists_at text ≡ end_in (behind is_blank text)
unfolding lists_at
lists-last text none = rw (split-none (is_byte greater) text none) refl

-- a list, cut at the first `>`
pub lists-more : (text inside rest : List ℕ) → list_any (is_byte greater) text ≡ true
    → inside ≡ before (is_byte greater) text → rest ≡ after (is_byte greater) text
    → lists_at text ≡ then_all (list_in (behind is_blank inside)) (lists_at rest)
unfolding lists_at
lists-more text inside rest some cut_before cut_after =
    let next = split-cons (is_byte greater) (after (is_byte greater) text) in
    rw (cut_before, cut_after, split-some (is_byte greater) text some, next.2) refl

-- a loop over the lists: it goes on by one, stops at a fault, or ends
module _ {B F : Type 0} where
  pub list-goes : (done : List B) (list : Result B F) (items : B)
      (all more total : Result (List B) F) → all ≡ then_all list more → list ≡ Ok items
      → with_front done all ≡ total → with_front (done ++ items ∷ []) more ≡ total
  list-goes done list items all more total cut is so_far =
      sym (with_front-push {A = Unit {0}} (λ _. list) done items more) ∙ (rw (cut, is) at so_far)

  module _ {E : Type 0} (refusal : E → Option F) (e : E) (done : List B) where
    pub list-fails : (rest total : Result (List B) F)
        → Fails refusal e rest → with_front done rest ≡ total → Fails refusal e total
    list-fails rest total is so_far =
        fails-with refusal e rest total (λ d at. sym (rw at at so_far)) is

    pub list-stops : (list : Result B F) (all more total : Result (List B) F)
        → all ≡ then_all list more → Fails refusal e list → with_front done all ≡ total
        → Fails refusal e total
    list-stops list all more total cut is so_far =
        list-fails all total (fails-with refusal e list all (λ d at. rw (cut, at) refl) is) so_far

  pub list-ends : (done : List B) (rest total : Result (List B) F)
      → rest ≡ Ok [] → with_front done rest ≡ total → total ≡ Ok done
  list-ends done rest total is so_far = sym (rw (is, append-nil done) at so_far)
