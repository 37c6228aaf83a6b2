-- What is kept of the lines so far, with one more instruction in what is open.
use Rattle.std.proofs.Common.{◌≡◌, ℕ, ◌+◌, List, [], ◌∷◌, ◌++◌, refl, ap, subst, ◌∙◌, Option, Some, None, Result, Ok, Err, MatchOption}
use Rattle.deb_text.specs.Answers.{Fails}
use Rattle.plan_reader.specs.declared.assembly.Section.{Section}
use Rattle.plan_reader.specs.declared.assembly.Section.TheVariants.{Outside, Block, Lane}
use Rattle.plan_reader.specs.declared.error.TheConstants.{BAD_LINE}
use Rattle.plan_reader.specs.BlockTable.{BlockList}
use Rattle.plan_reader.specs.Drafts.{Draft, add_to_open, noted, with_instructions, within_limit}
use Rattle.plan_reader.specs.SectionView.{IsAssembled, open_of, put_in}
use Rattle.plan_reader.proofs.AssemblyLaws.{lane-gives, lane-kept}
use Rattle.plan_reader.proofs.Noted.{add-stops, noted-is}
use Rattle.plan_model.specs.Plan.{Lane as LaneRecord}
use Rattle.plan_model.specs.declared.instructions.Instruction.{Instruction}

ok-same : {A : Type 0} (x y : A) → (let r : Result A ℕ = Ok x in r ≡ Ok y) → x ≡ y
ok-same x y is = cc

code-same : {A : Type 0} (e f : ℕ) → (let r : Result A ℕ = Err e in r ≡ Err f) → e ≡ f
code-same e f is = cc

ok-never : {A : Type 0} (x : A) (f : ℕ) → (let r : Result A ℕ = Ok x in r ≡ Err f) → ⊥
ok-never x f is = cc

err-never : {A : Type 0} (f : ℕ) (y : A) → (let r : Result A ℕ = Err f in r ≡ Ok y) → ⊥
err-never f y is = cc

-- what is kept: the blocks, what is open, how many instructions the lanes have, what they publish
abbrev pub Kept : Type 0
Kept = BlockList Instruction × Section × ℕ × List ℕ

module _ (blocks : BlockList Instruction) (ls : List LaneRecord) (n : ℕ) (rs : List ℕ) (x : Instruction) where
  abbrev draft_of : Kept → Draft
  draft_of (next, section, m, found) =
      record { blocks = next.ended; lanes = ls; current = open_of next.written section }

  abbrev with_more : Section → Result Draft ℕ
  with_more section = add_to_open blocks.ended ls (open_of blocks.written section) (x ∷ [])

  -- where that fails, so does the line
  put-stops : (section : Section) → IsAssembled blocks ls section n rs → (f : ℕ)
      → put_in blocks section n rs x ≡ Err f → with_more section ≡ Err f
  put-stops Outside kept f is = ap Err (code-same BAD_LINE f is)
  put-stops (Block line name) kept f is = go (within_limit (blocks.written ++ x ∷ [])) refl
    where
      go : (r : Result (List Instruction) ℕ) → within_limit (blocks.written ++ x ∷ []) ≡ r
          → with_more (Block line name) ≡ Err f
      go (Ok all) e = absurd (ok-never _ f (rw e at is))
      go (Err g) e = rw e (ap Err (code-same g f (rw e at is)))
  put-stops (Lane line l) kept f is = go (noted n rs (x ∷ [])) refl
    where
      go : (r : Result (List ℕ) ℕ) → noted n rs (x ∷ []) ≡ r → with_more (Lane line l) ≡ Err f
      go (Ok found) e = absurd (ok-never _ f (rw e at is))
      go (Err g) e =
          add-stops n rs (x ∷ []) blocks.ended ls line l kept.tallied f
          (e ∙ ap Err (code-same g f (rw e at is)))

  pub put-fails : {E : Type 0} (refusal : E → Option ℕ) (e : E) (section : Section)
      → IsAssembled blocks ls section n rs → Fails refusal e (put_in blocks section n rs x)
      → Fails refusal e (add_to_open blocks.ended ls (open_of blocks.written section) (x ∷ []))
  put-fails refusal e section kept fails = go (refusal e) fails
    where
      go : (o : Option ℕ) → MatchOption o (Unit {0}) (λ f. put_in blocks section n rs x ≡ Err f)
          → MatchOption o (Unit {0}) (λ f. with_more section ≡ Err f)
      go None is = tt
      go (Some f) is = put-stops section kept f is

  -- what is kept goes on being kept, and is what the line comes to
  abbrev IsKeptBy : Section → Kept → Type 0
  IsKeptBy section next = IsAssembled next.0 ls next.1 next.2 next.3
      × (with_more section ≡ Ok (draft_of next))

  put-on : (section : Section) → IsAssembled blocks ls section n rs → (next : Kept)
      → put_in blocks section n rs x ≡ Ok next → IsKeptBy section next
  put-on Outside kept next is = absurd (err-never BAD_LINE next is)
  put-on (Block line name) kept next is = go (within_limit (blocks.written ++ x ∷ [])) refl
    where
      go : (r : Result (List Instruction) ℕ) → within_limit (blocks.written ++ x ∷ []) ≡ r
          → IsKeptBy (Block line name) next
      go (Err g) e = absurd (err-never g next (rw e at is))
      go (Ok all) e = subst (IsKeptBy (Block line name)) (ok-same _ next (rw e at is)) (
        record { tallied = kept.tallied; few = kept.few; suits = kept.suits },
        rw e refl,
      )
  put-on (Lane line l) kept next is = go (noted n rs (x ∷ [])) refl
    where
      go : (r : Result (List ℕ) ℕ) → noted n rs (x ∷ []) ≡ r → IsKeptBy (Lane line l) next
      go (Err g) e = absurd (err-never g next (rw e at is))
      go (Ok found) e =
          let told = noted-is n rs (x ∷ []) found e in
          let more = with_instructions l (x ∷ []) in
          subst (IsKeptBy (Lane line l)) (ok-same _ next (rw e at is)) (
            lane-kept blocks ls line l more (x ∷ []) n (n + 1) rs found kept told.0 refl refl
                told.1,
            lane-gives blocks.ended ls line l (x ∷ []) n rs found kept.tallied told.0 more refl
                told.1,
          )

  pub put-kept : (section : Section) → IsAssembled blocks ls section n rs → (bs : BlockList Instruction)
      (now : Section) (m : ℕ) (found : List ℕ)
      → put_in blocks section n rs x ≡ Ok (bs, now, m, found) → IsAssembled bs ls now m found
  put-kept section kept bs now m found is = (put-on section kept (bs, now, m, found) is).0

  pub put-gives : (section : Section) → IsAssembled blocks ls section n rs → (bs : BlockList Instruction)
      (now : Section) (m : ℕ) (found : List ℕ)
      → put_in blocks section n rs x ≡ Ok (bs, now, m, found)
      → add_to_open blocks.ended ls (open_of blocks.written section) (x ∷ [])
      ≡ Ok (record { blocks = bs.ended; lanes = ls; current = open_of bs.written now })
  put-gives section kept bs now m found is = (put-on section kept (bs, now, m, found) is).1
