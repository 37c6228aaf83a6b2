-- The archive after one more publication.
use Rattle.std.proofs.Common.{◌≡◌, ℕ, suc, ◌+◌, ◌<◌, refl, sym, ap, ◌∙◌, List, [], ◌∷◌, ◌++◌, length, length-set, zero-add, add-zero, take, get_or, arith, ◌≤◌, take_all}
use Rattle.std.specs.Prelude.{◌||◌}
use Rattle.std.specs.List.{list_any}
use Rattle.std.proofs.Math.Bool.{or_assoc, or-false}
use Rattle.std.proofs.lemmas.List.{take_more}
use Rattle.std.proofs.lemmas.List.Folds.{list_any-append}
use Rattle.farm_model.specs.Common.{Universe, names, same, initial, has_bit}
use Rattle.farm_model.specs.declared.types.Variant.{Variant}
use Rattle.farm_universe.specs.Kept.{IsKept}
use Rattle.plan_model.specs.Run as run
use Rattle.plan_model.specs.Run.{publication, archive}
use Rattle.plan_model.proofs.WordLaws.{has_bit-with_bit}
use Rattle.farm_archive.specs.declared.publication.Publication.{Publication}
use Rattle.farm_archive.specs.Kept.{Kept, with_publication, numbered, IsArchive}

abbrev serialed : ℕ → ℕ → Variant → Publication
serialed k l v = record { serial = k; lane = l; variant = v }

module _ (l : ℕ) (v : Variant) where
  numbered-append : (k : ℕ) (ps : List run.Publication)
      → numbered k (ps ++ publication l v ∷ [])
      ≡ numbered k ps ++ serialed (k + length ps) l v ∷ []
  numbered-append k [] = ap (λ n. serialed n l v ∷ []) (sym (add-zero k))
  numbered-append k (q ∷ qs) =
      let next : suc k + length qs ≡ k + length (q ∷ qs) = omega arith in
      ap (λ xs. serialed k q.lane q.variant ∷ xs)
      (numbered-append (suc k) qs
      ∙ ap (λ n. numbered (suc k) qs ++ serialed n l v ∷ []) next)

  length-numbered : (k : ℕ) (ps : List run.Publication) → length (numbered k ps) ≡ length ps
  length-numbered k [] = refl
  length-numbered k (q ∷ qs) = ap suc (length-numbered (suc k) qs)

  archive-more : (u : Universe) (ps : List run.Publication) (w : Variant)
      → archive u (ps ++ publication l v ∷ []) w ≡ (archive u ps w || same v w)
  unfolding archive
  archive-more u ps w =
      ap (λ b. initial u w || b)
      (list_any-append (λ (q : run.Publication). same q.variant w) ps (publication l v ∷ [])
      ∙ ap (λ b. list_any (λ (q : run.Publication). same q.variant w) ps || b)
      (or-false (same v w)))
      ∙ sym (or_assoc (initial u w) (list_any (λ (q : run.Publication). same q.variant w) ps)
      (same v w))

  -- the archive of one publication more
  pub archive-published : (u : Universe) (ps : List run.Publication) (a : Kept)
      → v.name < length a.words → IsArchive u ps a
      → IsArchive u (ps ++ publication l v ∷ []) (with_publication a l v)
  archive-published u ps a lt is = record {
    long = length-set a.words v.name _ ∙ is.long;
    words = λ w. archive-more u ps w
        ∙ (ap (λ b. b || same v w) (is.words w) ∙ sym (has_bit-with_bit a.words v w lt));
    history =
        ap (λ h. h ++ serialed (length h) l v ∷ []) is.history
        ∙ (ap (λ n. numbered 0 ps ++ serialed n l v ∷ [])
        (length-numbered 0 ps ∙ sym (zero-add (length ps)))
        ∙ sym (numbered-append 0 ps));
  }

module _ (u : Universe) (kept : IsKept u) where
  long : length u.initial ≡ names u
  unfolding names
  long = kept.sound.words

  -- the words so far, and the next
  pub initial-more : (words more : List ℕ) (word n : ℕ) → words ≡ take n u.initial
      → word ≡ get_or u.initial n 0 → n < names u → more ≡ words ++ word ∷ []
      → more ≡ take (n + 1) u.initial
  initial-more words more word n so_far here lt pushed =
      pushed
      ∙ (ap (λ ws. ws ++ word ∷ []) so_far
      ∙ (ap (λ x. take n u.initial ++ x ∷ []) here
      ∙ sym (take_more u.initial n 0 (omega (arith, lt, long)))))

  -- the initial archive
  pub archive-initial : (a : Kept) (n : ℕ) → a.words ≡ take n u.initial → names u ≤ n
      → a.history ≡ [] → IsArchive u [] a
  unfolding archive initial
  archive-initial a n taken past none =
      let is = taken ∙ take_all n u.initial (omega (arith, past, long)) in
      record {
        long = ap length is ∙ long;
        words = λ v. or-false (has_bit u.initial v) ∙ ap (λ ws. has_bit ws v) (sym is);
        history = none;
      }
