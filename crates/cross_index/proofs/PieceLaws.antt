-- What paragraphs come to, one behind another.
use Rattle.std.proofs.Common.{◌≡◌, ℕ, zero, suc, ◌+◌, ◌<◌, List, [], ◌∷◌, ◌++◌, length, take, get_or, refl, sym, ap, subst, ◌∙◌, append_assoc, arith}
use Rattle.std.proofs.lemmas.List.{append-nil, take_more}
use Rattle.std.proofs.lemmas.List.Concat.{flat_map-append}
use Rattle.std.specs.List.{flat_map}
use Rattle.deb_stanza.specs.Stanza.{Paragraph, paragraph_at}
use Rattle.debian_index.specs.Index.{later}
use Rattle.cross_index.specs.Pieces.{AreMade, GetsBehind}

-- within a list it does not matter what stands for what lies past its end
pub get_or-any : {X : Type 0} (xs : List X) (i : ℕ) (d e : X) → i < length xs
    → get_or xs i d ≡ get_or xs i e
get_or-any [] i d e below = absurd (omega (arith, below))
get_or-any (x ∷ xs) zero d e below = refl
get_or-any (x ∷ xs) (suc i) d e below = get_or-any xs i d e (omega (arith, below))

-- paragraphs that are one
pub only-one : (ps : List Paragraph) (p : Paragraph) → length ps ≡ 1 → p ≡ paragraph_at ps 0
    → ps ≡ p ∷ []
only-one [] p one at = absurd cc
only-one (q ∷ []) p one at = ap (λ (x : Paragraph). x ∷ []) (sym at)
only-one (q ∷ r ∷ rs) p one at = absurd (omega (arith, one))

module _ (Is : Paragraph → List ℕ → Type 0) where
  pub made-append : (olds more : List Paragraph) (made next : List ℕ)
      → AreMade Is olds made → AreMade Is more next → AreMade Is (olds ++ more) (made ++ next)
  made-append [] more made next none are =
      subst (λ (text : List ℕ). AreMade Is more (text ++ next)) (sym none) are
  made-append (old ∷ olds) more made next first are =
      let rest = first.1 in (
        first.0,
        rest ++ next,
        ap (λ (text : List ℕ). text ++ next) first.2 ∙ append_assoc first.0 rest next,
        first.3,
        made-append olds more rest next first.4 are,
      )

  pub gets-none : (text : List ℕ) → GetsBehind (AreMade Is []) text text
  gets-none text = ([], sym (append-nil text), refl)

  pub gets-more : (olds more : List Paragraph) (old mid new : List ℕ)
      → GetsBehind (AreMade Is olds) old mid → GetsBehind (AreMade Is more) mid new
      → GetsBehind (AreMade Is (olds ++ more)) old new
  gets-more olds more old mid new first then = (
    first.0 ++ then.0,
    then.1 ∙ ap (λ (text : List ℕ). text ++ then.0) first.1
        ∙ append_assoc old first.0 then.0,
    made-append olds more first.0 then.0 first.2 then.2,
  )

  pub gets-one : (paragraph : Paragraph) (old new : List ℕ)
      → GetsBehind (Is paragraph) old new → GetsBehind (AreMade Is (paragraph ∷ [])) old new
  gets-one paragraph old new got =
      (got.0, got.1, (got.0, [], sym (append-nil got.0), got.2, refl))

  -- one paragraph more
  pub gets-next : (all : List Paragraph) (i : ℕ) (p : Paragraph) (old mid new : List ℕ)
      → i < length all → p ≡ get_or all i p → GetsBehind (AreMade Is (take i all)) old mid
      → GetsBehind (Is p) mid new → GetsBehind (AreMade Is (take (i + 1) all)) old new
  gets-next all i p old mid new below at so_far next =
      let more =
      take_more all i p below ∙ ap (λ (x : Paragraph). take i all ++ x ∷ []) (sym at) in
      subst (λ (olds : List Paragraph). GetsBehind (AreMade Is olds) old new) (sym more)
      (gets-more (take i all) (p ∷ []) old mid new so_far (gets-one p mid new next))

  pub gets-next_at : (all : List Paragraph) (i : ℕ) (p : Paragraph) (old mid new : List ℕ)
      → i < length all → p ≡ paragraph_at all i → GetsBehind (AreMade Is (take i all)) old mid
      → GetsBehind (Is p) mid new → GetsBehind (AreMade Is (take (i + 1) all)) old new
  gets-next_at all i p old mid new below at so_far next =
      gets-next all i p old mid new below
      (at ∙ get_or-any all i (record { line = 0; fields = [] }) p below) so_far next

  -- the paragraphs of one block more
  pub gets-block : {X : Type 0} (make : X → List Paragraph) (all : List X) (i : ℕ) (x : X)
      (old mid new : List ℕ) → i < length all → x ≡ get_or all i x
      → GetsBehind (AreMade Is (flat_map make (take i all))) old mid
      → GetsBehind (AreMade Is (make x)) mid new
      → GetsBehind (AreMade Is (flat_map make (take (i + 1) all))) old new
  gets-block make all i x old mid new below at so_far next =
      let front = flat_map make (take i all) in
      let more =
      ap (flat_map make) (take_more all i x below)
      ∙ flat_map-append make (take i all) (get_or all i x ∷ [])
      ∙ ap (λ (ps : List Paragraph). front ++ ps)
      (append-nil (make (get_or all i x)) ∙ ap make (sym at)) in
      subst (λ (olds : List Paragraph). GetsBehind (AreMade Is olds) old new) (sym more)
      (gets-more front (make x) old mid new so_far next)

  -- where it does not matter at which line a paragraph stands
  module _ (moves : (p : Paragraph) (k : ℕ) (piece : List ℕ) → Is p piece
      → Is (record { line = p.line + k; fields = p.fields }) piece) where
    made-later : (ps : List Paragraph) (k : ℕ) (made : List ℕ)
        → AreMade Is ps made → AreMade Is (later k ps) made
    made-later [] k made none = none
    made-later (p ∷ ps) k made are =
        (are.0, are.1, are.2, moves p k are.0 are.3, made-later ps k are.1 are.4)

    pub gets-later : (ps all : List Paragraph) (k : ℕ) (old new : List ℕ) → later k ps ≡ all
        → GetsBehind (AreMade Is ps) old new → GetsBehind (AreMade Is all) old new
    gets-later ps all k old new are got = (
      got.0,
      got.1,
      subst (λ (olds : List Paragraph). AreMade Is olds got.0) are (made-later ps k got.0 got.2),
    )
