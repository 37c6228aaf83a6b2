-- The table when it gets a line.
use Rattle.std.proofs.Common.{◌≡◌, ℕ, suc, ◌<◌, List, [], ◌∷◌, ◌++◌, length, refl, sym, ap, ◌∙◌, arith, length-append, subst}
use Rattle.deb_stanza.specs.declared.table.Start.{Start}
use Rattle.deb_stanza.specs.Cut.{onto_last, IsCut, cut}
use Rattle.deb_stanza.specs.Draft.{longer, larger}
use Rattle.deb_stanza.specs.View.{first_of_start, own, raw_of, texts_in, raws_in}
use Rattle.deb_stanza.proofs.CutLaws.{IsCut-more, IsCut-push, cut-append, cut-onto_last, cut-push}

pub length-cut : {C X P : Type 0} (start : C → ℕ) (make : C → List X → P) (xs : List X)
    (cs : List C) → length (cut start make xs cs) ≡ length cs
length-cut start make xs [] = refl
length-cut start make xs (c ∷ cs) = ap suc (length-cut start make xs cs)

pub length-texts : (bytes fields : List ℕ) → length (texts_in bytes fields) ≡ length fields
length-texts bytes fields = length-cut own (λ start text. text) bytes fields

module _ (bytes fields : List ℕ) (paragraphs : List Start) (text : List ℕ)
    (fields_are : IsCut own (length bytes) fields)
    (paragraphs_are : IsCut first_of_start (length fields) paragraphs) where
  among_texts : IsCut first_of_start (length (texts_in bytes fields)) paragraphs
  among_texts =
      subst (λ n. IsCut first_of_start n paragraphs) (sym (length-texts bytes fields))
      paragraphs_are

  -- the last field goes on
  pub texts-longer : texts_in (bytes ++ 10 ∷ text) fields
      ≡ onto_last (λ t. t ++ 10 ∷ text) (texts_in bytes fields)
  texts-longer =
      cut-append own (λ start part. part) (λ t. t ++ 10 ∷ text) (10 ∷ text) (λ c part. refl)
      bytes fields fields_are

  pub raws-longer : raws_in (bytes ++ 10 ∷ text) fields paragraphs
      ≡ onto_last (longer text) (raws_in bytes fields paragraphs)
  raws-longer =
      ap (λ ts. cut first_of_start raw_of ts paragraphs) texts-longer
      ∙ cut-onto_last first_of_start raw_of (λ t. t ++ 10 ∷ text) (longer text) (λ c part. refl)
      (texts_in bytes fields) paragraphs among_texts

  pub fields-longer : IsCut own (length (bytes ++ 10 ∷ text)) fields
  fields-longer =
      IsCut-more own (length bytes) (length (bytes ++ 10 ∷ text)) fields
      (omega (arith, length-append bytes (10 ∷ text))) fields_are

  pub texts-push : texts_in (bytes ++ text) (fields ++ length bytes ∷ [])
      ≡ texts_in bytes fields ++ text ∷ []
  texts-push = cut-push own (λ start part. part) text bytes fields (length bytes) fields_are refl

  -- the last paragraph gets one more field
  pub raws-larger : raws_in (bytes ++ text) (fields ++ length bytes ∷ []) paragraphs
      ≡ onto_last (larger text) (raws_in bytes fields paragraphs)
  raws-larger =
      ap (λ ts. cut first_of_start raw_of ts paragraphs) texts-push
      ∙ cut-append first_of_start raw_of (larger text) (text ∷ []) (λ c part. refl)
      (texts_in bytes fields) paragraphs among_texts

  -- a paragraph begins with its first field
  pub raws-push : (line : ℕ)
      → raws_in (bytes ++ text) (fields ++ length bytes ∷ [])
      (paragraphs ++ record { first = length fields; line = line } ∷ [])
      ≡ raws_in bytes fields paragraphs ++ record { line = line; texts = text ∷ [] } ∷ []
  raws-push line =
      ap (λ ts. cut first_of_start raw_of ts
      (paragraphs ++ record { first = length fields; line = line } ∷ [])) texts-push
      ∙ cut-push first_of_start raw_of (text ∷ []) (texts_in bytes fields) paragraphs
      (record { first = length fields; line = line }) among_texts (sym (length-texts bytes fields))

  pub fields-push : 0 < length text
      → IsCut own (length (bytes ++ text)) (fields ++ length bytes ∷ [])
  fields-push some =
      IsCut-push own (length bytes) (length (bytes ++ text)) fields (length bytes) fields_are refl
      (omega (arith, length-append bytes text, some))

  pub paragraphs-more : IsCut first_of_start (length (fields ++ length bytes ∷ [])) paragraphs
  paragraphs-more =
      IsCut-more first_of_start (length fields) (length (fields ++ length bytes ∷ [])) paragraphs
      (omega (arith, length-append fields (length bytes ∷ []))) paragraphs_are

  pub paragraphs-push : (line : ℕ)
      → IsCut first_of_start (length (fields ++ length bytes ∷ []))
      (paragraphs ++ record { first = length fields; line = line } ∷ [])
  paragraphs-push line =
      IsCut-push first_of_start (length fields) (length (fields ++ length bytes ∷ [])) paragraphs
      (record { first = length fields; line = line }) paragraphs_are refl
      (omega (arith, length-append fields (length bytes ∷ [])))
