-- Rows cut into blocks of eight words and the rest.
use Rattle.std.proofs.Common.{◌≡◌, ℕ, zero, suc, ◌+◌, ◌<◌, ◌≤◌, Bool, false, ◌||◌, List, [], ◌∷◌, ◌++◌, length, take, drop, get_or, set, drop-cons, add-one, append_assoc, refl, sym, ap, ap₂, ◌∙◌, arith}
use Rattle.std.specs.Simd.Lanes.{zip2}
use Rattle.std.proofs.lemmas.Simd.{chunk-drop, length-chunk, take_more_put_chunk, length-zip2}
use Rattle.std.proofs.lemmas.List.{take_more_set, drop-set-lt}
use Rattle.std.proofs.lemmas.List.Folds.{list_any-append}
use Rattle.std.specs.List.{list_any}
use lib.Lanes.{chunk, put_chunk}
use mir.Syntax.{w64}
use mir.Val.{Fits}
use Rattle.clause_kernel.specs.Kernels.{some_pair}

zip2-append : {Z : Type 0} (f : ℕ → ℕ → Z) (ps qs cs ds : List ℕ) → length ps ≡ length qs
    → zip2 f (ps ++ cs) (qs ++ ds) ≡ zip2 f ps qs ++ zip2 f cs ds
zip2-append f [] [] cs ds e = refl
zip2-append f [] (q ∷ qs) cs ds e = absurd (omega arith)
zip2-append f (p ∷ ps) [] cs ds e = absurd (omega arith)
zip2-append f (p ∷ ps) (q ∷ qs) cs ds e =
    ap (λ l. f p q ∷ l) (zip2-append f ps qs cs ds (omega arith))

-- the rest of two rows is a block and the rest behind it
zip2-block : {Z : Type 0} (f : ℕ → ℕ → Z) (a b : List ℕ) (at : ℕ) → length a ≡ length b
    → at + 8 ≤ length a
    → zip2 f (drop at a) (drop at b) ≡ zip2 f (chunk at 8 a) (chunk at 8 b)
    ++ zip2 f (drop (at + 8) a) (drop (at + 8) b)
zip2-block f a b at long room =
    ap₂ (zip2 f) (chunk-drop at 8 a) (chunk-drop at 8 b)
    ∙ zip2-append f (chunk at 8 a) (chunk at 8 b) _ _
    (length-chunk at 8 a room ∙ sym (length-chunk at 8 b (omega arith)))

some_pair-block : (t : ℕ → ℕ → Bool) (a b : List ℕ) (at : ℕ) → length a ≡ length b
    → at + 8 ≤ length a
    → some_pair t (drop at a) (drop at b)
    ≡ (some_pair t (chunk at 8 a) (chunk at 8 b) || some_pair t (drop (at + 8) a) (drop (at + 8) b))
some_pair-block t a b at long room =
    ap (list_any (λ (p : Bool). p)) (zip2-block t a b at long room)
    ∙ list_any-append (λ (p : Bool). p) (zip2 t (chunk at 8 a) (chunk at 8 b)) _

-- past a block in which no pair passes
pub some_pair-past_block : (t : ℕ → ℕ → Bool) (a b : List ℕ) (at : ℕ) → length a ≡ length b
    → at + 8 ≤ length a
    → some_pair t (chunk at 8 a) (chunk at 8 b) ≡ false
    → some_pair t (drop (at + 8) a) (drop (at + 8) b) ≡ some_pair t (drop at a) (drop at b)
some_pair-past_block t a b at long room none =
    sym (some_pair-block t a b at long room
    ∙ ap (λ v. v || some_pair t (drop (at + 8) a) (drop (at + 8) b)) none)

drop-put_chunk : (i : ℕ) (xs ys : List ℕ) (m : ℕ) → m ≡ i + length ys
    → drop m (put_chunk i xs ys) ≡ drop m xs
drop-put_chunk i [] ys m e = refl
drop-put_chunk zero (x ∷ xs) [] m e = refl
drop-put_chunk zero (x ∷ xs) (y ∷ ys) zero e = absurd (omega arith)
drop-put_chunk zero (x ∷ xs) (y ∷ ys) (suc m) e = drop-put_chunk zero xs ys m (omega arith)
drop-put_chunk (suc i) (x ∷ xs) ys zero e = absurd (omega arith)
drop-put_chunk (suc i) (x ∷ xs) ys (suc m) e = drop-put_chunk i xs ys m (omega arith)

-- a row whose first words are changed already, with the rest as it will be
abbrev pub changed_from : (ℕ → ℕ → ℕ) → ℕ → List ℕ → List ℕ → List ℕ
changed_from f at a b = take at a ++ zip2 f (drop at a) (drop at b)

-- how far a loop over the row `start` has come
pub record IsChangedTo (f : ℕ → ℕ → ℕ) (at : ℕ) (a b start : List ℕ) : Type 0 where
  pub within : at ≤ length start
  pub rest : changed_from f at a b ≡ zip2 f start b
  pub fits : (i : ℕ) → Fits w64 (get_or start i 0)

-- it stays the same where a block is changed
pub changed_from-block : (f : ℕ → ℕ → ℕ) (at : ℕ) (a b : List ℕ) → length a ≡ length b
    → at + 8 ≤ length a
    → changed_from f (at + 8) (put_chunk at a (zip2 f (chunk at 8 a) (chunk at 8 b))) b
    ≡ changed_from f at a b
changed_from-block f at a b long room =
    let block = zip2 f (chunk at 8 a) (chunk at 8 b) in
    let long_a = length-chunk at 8 a room in
    let long_b = length-chunk at 8 b (omega arith) in
    let long_block : length block
    ≡ 8 = length-zip2 f (chunk at 8 a) (chunk at 8 b) (long_a ∙ sym long_b) ∙ long_a in
    let front = take_more_put_chunk at a block (at + 8) (omega arith) room in
    let back = drop-put_chunk at a block (at + 8) (omega arith) in
    ap₂ (λ p q. p ++ zip2 f q (drop (at + 8) b)) front back
    ∙ (append_assoc (take at a) block (zip2 f (drop (at + 8) a) (drop (at + 8) b))
    ∙ ap (λ l. take at a ++ l) (sym (zip2-block f a b at long room)))

-- and where a word is changed
pub changed_from-word : (f : ℕ → ℕ → ℕ) (at : ℕ) (a b : List ℕ) → length a ≡ length b
    → at < length a
    → changed_from f (at + 1) (set a at (f (get_or a at 0) (get_or b at 0))) b
    ≡ changed_from f at a b
changed_from-word f at a b long room =
    let word = f (get_or a at 0) (get_or b at 0) in
    let room_b : at < length b = omega arith in
    let front = take_more_set a at word room in
    let back = drop-set-lt (at + 1) a at word (omega arith) in
    ap₂ (λ p q. p ++ zip2 f q (drop (at + 1) b)) front back
    ∙ (append_assoc (take at a) (word ∷ []) (zip2 f (drop (at + 1) a) (drop (at + 1) b))
    ∙ ap (λ l. take at a ++ l) (sym (rw (drop-cons a at 0, drop-cons b at 0, add-one) refl)))
