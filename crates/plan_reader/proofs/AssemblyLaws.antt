-- What is kept of the lines so far, with one more line.
use Rattle.std.proofs.Common.{◌≡◌, ◌<◌, ◌≤◌, ℕ, ◌+◌, Bool, true, false, arith, List, [], ◌∷◌, ◌++◌, length, drop, get_or, refl, sym, ap, ◌∙◌, append_assoc, length-append, Option, Some, None, Ok, Err, MatchOption, true≢false}
use Rattle.std.proofs.lemmas.List.{append-nil, at_drop_more}
use Rattle.deb_text.specs.Answers.{Fails}
use Rattle.plan_reader.specs.declared.assembly.Section.{Section}
use Rattle.plan_reader.specs.declared.assembly.Section.TheVariants.{Outside, Block, Lane}
use Rattle.plan_reader.specs.declared.error.TheConstants.{OVER_LIMIT, MOST_INSTRUCTIONS}
use Rattle.plan_reader.specs.BlockTable.{BlockList}
use Rattle.plan_reader.specs.Drafts.{Block as BlockRecord, InLane, is_open, instructions_of, published, with_instructions, published_once, add_to_open}
use Rattle.plan_model.specs.Common.{published_by, Lane as LaneRecord, has_double}
use Rattle.plan_model.specs.declared.instructions.Instruction.{Instruction}
use Rattle.plan_reader.specs.SectionView.{open_of, IsTallied, IsAssembled}
use Rattle.plan_reader.proofs.Doubles.{double-front}
use Rattle.plan_reader.proofs.DraftLaws.{instructions_of-push}
use Rattle.plan_reader.proofs.Publishes.{published-append}
use Rattle.plan_reader.proofs.Tallies.{tallied-more}
use Rattle.plan_reader.proofs.WriteLaws.{limit-over, limit-fits}

-- ---- nothing is open

module _ (blocks : BlockList Instruction) (ls : List LaneRecord) (n : ℕ) (rs : List ℕ) where
  pub shut : (section : Section) → is_open (open_of blocks.written section) ≡ false
      → IsAssembled blocks ls section n rs
      → (blocks.written ≡ []) × IsTallied (instructions_of ls) n rs
  shut Outside is kept = (kept.suits, kept.tallied)
  shut (Block line name) is kept = absurd (true≢false is)
  shut (Lane line l) is kept = absurd (true≢false is)

  pub lane-opened : (line : ℕ) (l : LaneRecord) → l.instructions ≡ []
      → IsTallied (instructions_of ls) n rs → n ≤ MOST_INSTRUCTIONS → blocks.written ≡ []
      → IsAssembled blocks ls (Lane line l) n rs
  lane-opened line l none tallied few written = record {
    few = few;
    tallied = rw (instructions_of-push ls l, none, append-nil (instructions_of ls)) tallied;
    suits = written;
  }

-- ---- a lane is open

module _ (bs : List BlockRecord) (ls : List LaneRecord) (line : ℕ) (l : LaneRecord)
    (xs : List Instruction) (n : ℕ) (rs found : List ℕ)
    (tallied : IsTallied (instructions_of (ls ++ l ∷ [])) n rs)
    (once : published_once (rs ++ published xs) ≡ Ok found) where
  once-all : published_once (published (instructions_of (ls ++ l ∷ []) ++ xs)) ≡ Ok found
  once-all = rw (published-append (instructions_of (ls ++ l ∷ [])) xs, sym tallied.recipes) once

  pub lane-over : MOST_INSTRUCTIONS < n + length xs
      → add_to_open bs ls (InLane line l) xs ≡ Err OVER_LIMIT
  lane-over over =
      let counted = tallied.counted in
      let long = length-append (instructions_of (ls ++ l ∷ [])) xs in
      rw (
        once-all,
        limit-over (instructions_of (ls ++ l ∷ []) ++ xs)
            (omega (arith, counted, long, over)),
      ) refl

  pub lane-gives : (next : LaneRecord) → next ≡ with_instructions l xs
      → n + length xs ≤ MOST_INSTRUCTIONS
      → add_to_open bs ls (InLane line l) xs
      ≡ Ok (record { blocks = bs; lanes = ls; current = InLane line next })
  lane-gives next is fits =
      let counted = tallied.counted in
      let long = length-append (instructions_of (ls ++ l ∷ [])) xs in
      rw (
        once-all,
        limit-fits (instructions_of (ls ++ l ∷ []) ++ xs)
            (omega (arith, counted, long, fits)),
        is,
      ) refl

-- a lane with more in it
pub lane-kept : (blocks : BlockList Instruction) (ls : List LaneRecord) (line : ℕ) (l next : LaneRecord)
    (xs : List Instruction) (n m : ℕ) (rs found : List ℕ)
    → IsAssembled blocks ls (Lane line l) n rs → published_once (rs ++ published xs) ≡ Ok found
    → next ≡ with_instructions l xs → m ≡ n + length xs → m ≤ MOST_INSTRUCTIONS
    → IsAssembled blocks ls (Lane line next) m found
lane-kept blocks ls line l next xs n m rs found kept once is long few = record {
  tallied = tallied-more ls l next xs n m rs found is kept.tallied long once;
  few = few;
  suits = kept.suits;
}

-- what one instruction publishes
pub one-once : (x : Instruction) (rs found : List ℕ)
    → published_once (rs ++ published_by x) ≡ Ok found
    → published_once (rs ++ published (x ∷ [])) ≡ Ok found
one-once x rs found is = rw (append-nil (published_by x)) is

pub one-fails : {E : Type 0} (refusal : E → Option ℕ) (e : E) (x : Instruction) (rs : List ℕ)
    → Fails refusal e (published_once (rs ++ published_by x))
    → Fails refusal e (published_once (rs ++ published (x ∷ [])))
one-fails refusal e x rs fails = rw (append-nil (published_by x)) fails

-- ---- recipes noted one by one

double-more : (ms ns : List ℕ) → has_double ms ≡ true → has_double (ms ++ ns) ≡ true
double-more ms ns twice = go (has_double (ms ++ ns)) refl where
  go : (b : Bool) → has_double (ms ++ ns) ≡ b → has_double (ms ++ ns) ≡ true
  go true is = is
  go false is = absurd (true≢false (sym twice ∙ double-front ms ns is))

once-more-fails : {E : Type 0} (refusal : E → Option ℕ) (e : E) (ms ns : List ℕ)
    → Fails refusal e (published_once ms) → Fails refusal e (published_once (ms ++ ns))
once-more-fails refusal e ms ns fails = go (has_double ms) refl (refusal e) fails where
  go : (b : Bool) → has_double ms ≡ b → (o : Option ℕ)
      → MatchOption o (Unit {0}) (λ f. published_once ms ≡ Err f)
      → MatchOption o (Unit {0}) (λ f. published_once (ms ++ ns) ≡ Err f)
  go b twice None is = tt
  go true twice (Some f) is = rw (double-more ms ns twice) (rw twice at is)
  go false once (Some f) is =
      let never : Ok ms ≡ Err f = rw once at is in absurd cc

module _ (xs : List Instruction) (i : ℕ) (x : Instruction) (ms total : List ℕ)
    (lt : i < length xs) (is : x ≡ get_or xs i x)
    (so_far : ms ++ published (drop i xs) ≡ total) where
  split : (ms ++ published_by x) ++ published (drop (i + 1) xs) ≡ total
  split =
      append_assoc ms (published_by x) (published (drop (i + 1) xs))
      ∙ ap (λ y. ms ++ (published_by y ++ published (drop (i + 1) xs))) is
      ∙ ap (λ ys. ms ++ ys) (sym (at_drop_more published xs i x lt))
      ∙ so_far

  pub note-stops : {E : Type 0} (refusal : E → Option ℕ) (e : E)
      → Fails refusal e (published_once (ms ++ published_by x))
      → Fails refusal e (published_once total)
  note-stops refusal e fails =
      rw (sym split)
      (once-more-fails refusal e (ms ++ published_by x) (published (drop (i + 1) xs)) fails)
