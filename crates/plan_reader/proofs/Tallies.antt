-- What is noted of the instructions so far, with one more instruction.
use Rattle.std.proofs.Common.{◌≡◌, ℕ, ◌+◌, Bool, true, false, not, List, [], ◌∷◌, ◌++◌, length, length-append, refl, sym, ap, ◌∙◌, Option, Some, None, Result, Ok, Err, MatchOption}
use Rattle.deb_text.specs.Common.{Fails, ◌>>=◌}
use Rattle.plan_reader.specs.Drafts.{Block, InLane, instructions_of, published, with_instructions, published_once, add_to_open}
use Rattle.plan_reader.specs.SectionView.{IsTallied}
use Rattle.plan_reader.proofs.DraftLaws.{instructions-more}
use Rattle.plan_reader.proofs.Publishes.{published-append}
use Rattle.plan_model.specs.Common.{Lane, has_double}
use Rattle.plan_model.specs.declared.instructions.Instruction.{Instruction}

pub not-new : (told there : Bool) → told ≡ not there → told ≡ false → there ≡ true
not-new told true is old = refl
not-new told false is old = sym old ∙ is

pub not-old : (told there : Bool) → told ≡ not there → told ≡ true → there ≡ false
not-old told false is new = refl
not-old told true is new = sym new ∙ is

pub fails-then : {E A B F : Type 0} (refusal : E → Option F) (e : E) (r : Result A F)
    (next : A → Result B F) → Fails refusal e r → Fails refusal e (r >>= next)
fails-then {E} {A} {B} {F} refusal e r next fails = go (refusal e) fails where
  go : (o : Option F) → MatchOption o (Unit {0}) (λ f. r ≡ Err f)
      → MatchOption o (Unit {0}) (λ f. (r >>= next) ≡ Err f)
  go None is = tt
  go (Some f) is = rw is refl

-- instructions that publish a recipe again
pub add-fails : {E : Type 0} (refusal : E → Option ℕ) (e : E) (bs : List Block) (ls : List Lane)
    (line : ℕ) (l : Lane) (xs : List Instruction) (rs : List ℕ)
    → rs ≡ published (instructions_of (ls ++ l ∷ []))
    → Fails refusal e (published_once (rs ++ published xs))
    → Fails refusal e (add_to_open bs ls (InLane line l) xs)
add-fails refusal e bs ls line l xs rs is fails =
    rw (published-append (instructions_of (ls ++ l ∷ [])) xs, sym is)
    (fails-then refusal e (published_once (rs ++ published xs)) _ fails)

ok-same : (xs ys : List ℕ) → (let r : Result (List ℕ) ℕ = Ok xs in r ≡ Ok ys) → xs ≡ ys
ok-same xs ys is = cc

pub err-never : (e : ℕ) (ys : List ℕ) → (let r : Result (List ℕ) ℕ = Err e in r ≡ Ok ys) → ⊥
err-never e ys is = cc

once-is : (rs found : List ℕ) → published_once rs ≡ Ok found
    → (found ≡ rs) × (has_double found ≡ false)
once-is rs found is = go (has_double rs) refl where
  go : (b : Bool) → has_double rs ≡ b → (found ≡ rs) × (has_double found ≡ false)
  go true twice = absurd (err-never _ found (rw twice at is))
  go false once =
      let same = ok-same rs found (rw once at is) in
      (sym same, ap has_double (sym same) ∙ once)

-- more instructions
pub tallied-more : (ls : List Lane) (l next : Lane) (xs : List Instruction) (n m : ℕ)
    (rs found : List ℕ) → next ≡ with_instructions l xs
    → IsTallied (instructions_of (ls ++ l ∷ [])) n rs → m ≡ n + length xs
    → published_once (rs ++ published xs) ≡ Ok found
    → IsTallied (instructions_of (ls ++ next ∷ [])) m found
tallied-more ls l next xs n m rs found is kept long once =
    let all = instructions_of (ls ++ l ∷ []) in
    let q = once-is (rs ++ published xs) found once in
    rw (is, instructions-more ls l xs) (record {
      counted = long ∙ ap (λ k. k + length xs) kept.counted ∙ sym (length-append all xs);
      recipes = q.0 ∙ ap (λ ms. ms ++ published xs) kept.recipes ∙ sym (published-append all xs);
      once = q.1;
    })
