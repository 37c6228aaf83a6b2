-- Texts that are made of others, one by one.
use Rattle.std.proofs.Common.{◌≡◌, ℕ, ◌+◌, ◌<◌, List, [], ◌∷◌, ◌++◌, length, map, take, get_or, refl, sym, ap, subst, ◌∙◌}
use Rattle.std.proofs.lemmas.List.{map_push, take_more}
use Rattle.import_farm.specs.declared.imported.NamedText.{NamedText}
use Rattle.cross_index.proofs.PieceLaws.{get_or-any}
use Rattle.cross_import.specs.CrossImport.{AreEach, texts_of}
use Rattle.cross_import.specs.Pushed.{GetsOne}

module _ (Is : List ℕ → List ℕ → Type 0) where
  each-append : (givens more mades next : List (List ℕ))
      → AreEach Is givens mades → AreEach Is more next
      → AreEach Is (givens ++ more) (mades ++ next)
  each-append [] more mades next none are =
      subst (λ (ms : List (List ℕ)). AreEach Is more (ms ++ next)) (sym none) are
  each-append (given ∷ givens) more mades next first are = (
    first.0,
    first.1 ++ next,
    ap (λ (ms : List (List ℕ)). ms ++ next) first.2,
    first.3,
    each-append givens more first.1 next first.4 are,
  )

  -- one more
  pub each-more : (all : List NamedText) (i : ℕ) (any : NamedText) (old new : List (List ℕ))
      → i < length all → AreEach Is (texts_of (take i all)) old
      → GetsOne (Is (get_or all i any).bytes.now) old new
      → AreEach Is (texts_of (take (i + 1) all)) new
  each-more all i any old new below so_far got =
      let text = get_or all i any in
      let more = texts_of (take i all) ++ text.bytes.now ∷ [] in
      let texts : texts_of (take (i + 1) all) ≡ more =
      ap texts_of (take_more all i text below
      ∙ ap (λ (t : NamedText). take i all ++ t ∷ []) (get_or-any all i text any below))
      ∙ map_push (λ (t : NamedText). t.bytes.now) (take i all) text in
      subst (λ (ms : List (List ℕ)). AreEach Is (texts_of (take (i + 1) all)) ms) (sym got.1)
      (subst (λ (gs : List (List ℕ)). AreEach Is gs (old ++ got.0 ∷ [])) (sym texts)
      (each-append (texts_of (take i all)) (text.bytes.now ∷ []) old (got.0 ∷ []) so_far
      (got.0, [], refl, got.2, refl)))
