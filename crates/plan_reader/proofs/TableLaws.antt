-- What the table of blocks keeps, and what it stands for.
use Rattle.std.proofs.Common.{inl, inr, ◌≡◌, ◌<◌, ◌≤◌, ℕ, ◌+◌, zero, suc, arith, List, [], ◌∷◌, ◌++◌, length, map, reverse, refl, sym, ap, ◌∙◌, length-append, All, Option, Some, None}
use Rattle.std.specs.Prelude.{option_to_list}
use Rattle.std.specs.Global.{Vec}
use Rattle.std.proofs.lemmas.List.{append-nil, map-append, reverse-append}
use Rattle.std.proofs.lemmas.List.Elements.{All-head, All-tail, All-push, All-weaker}
use Rattle.plan_reader.specs.declared.blocks.Part.{Part}
use Rattle.plan_reader.specs.declared.blocks.Part.TheVariants.{Step}
use Rattle.plan_reader.specs.declared.blocks.Row.{Row}
use Rattle.plan_reader.specs.declared.blocks.Whole.{Whole}
use Rattle.plan_reader.specs.declared.error.TheConstants.{MOST_INSTRUCTIONS}
use Rattle.plan_reader.specs.BlockTable.{one, step_at, part_steps, AreParts, AreRows, block_of, IsWhole, IsTable, Closes}
use Rattle.plan_reader.proofs.BlockLaws.{parts-more, rows-more, rows-push, top-row, last-row, step-same}

-- more steps or rows, over which what there was stands for the same
pub record Extends {X : Type 0} (xs : List X) (rs : List Row) (ys : List X)
    (ss : List Row) : Type 0 where
  pub steps : length xs ≤ length ys
  pub rows : length rs ≤ length ss
  pub same : (ps : List Part) → AreParts (length xs) (length rs) ps
      → part_steps ys ss ps ≡ part_steps xs rs ps

abbrev pub IsEntry : {X : Type 0} → List X → List Row → Vec ℕ × Whole → Type 0
IsEntry xs rs e = IsWhole xs rs e.1

module _ {X : Type 0} (xs : List X) (rs : List Row) (ys : List X) (ss : List Row)
    (more : Extends xs rs ys ss) where
  whole-kept : (w : Whole) → IsWhole xs rs w → IsWhole ys ss w
  whole-kept w is =
      let ps : List Part = option_to_list w.part in
      record {
        known = parts-more (length xs) (length rs) (length ys) (length ss) ps more.steps more.rows
            is.known;
        counted = rw (more.same ps is.known) is.counted;
        few = is.few;
      }

  pub ended-kept : (es : List (Vec ℕ × Whole)) → All (IsEntry xs rs) es → All (IsEntry ys ss) es
  ended-kept es kept =
      All-weaker (IsEntry xs rs) (IsEntry ys ss) (λ e is. whole-kept e.1 is) es kept

  pub blocks-kept : (es : List (Vec ℕ × Whole)) → All (IsEntry xs rs) es
      → map (block_of ys ss) es ≡ map (block_of xs rs) es
  blocks-kept [] kept = refl
  blocks-kept (e ∷ es) kept =
      let is = All-head (IsEntry xs rs) e es kept in
      ap (λ zs. record { name = e.0.items; body = zs } ∷ map (block_of ys ss) es)
      (more.same (option_to_list e.1.part) is.known)
      ∙ ap (λ bs. block_of xs rs e ∷ bs)
      (blocks-kept es (All-tail (IsEntry xs rs) e es kept))

at-early : {X : Type 0} (xs ys : List X) (i : ℕ) → i < length xs
    → step_at (xs ++ ys) i ≡ step_at xs i
at-early [] ys i lt = grind (arith, lt)
at-early (x ∷ xs) ys zero lt = refl
at-early (x ∷ xs) ys (suc i) lt = at-early xs ys i (omega (arith, lt))

at-last : {X : Type 0} (xs : List X) (x : X)
    → step_at (xs ++ x ∷ []) (length xs) ≡ x ∷ []
at-last [] x = refl
at-last (y ∷ xs) x = at-last xs x

pub step-extends : {X : Type 0} (xs : List X) (rs : List Row) (x : X)
    → AreRows (length xs) 0 rs → Extends xs rs (xs ++ x ∷ []) rs
step-extends xs rs x rows = record {
  steps = let long = length-append xs (x ∷ []) in omega (arith, long);
  rows = omega arith;
  same = λ ps are. step-same [] (step_at (xs ++ x ∷ [])) (step_at xs) (length xs)
      (λ i lt. at-early xs (x ∷ []) i lt) (length rs) rs ps rows are;
}

pub row-extends : {X : Type 0} (xs : List X) (rs : List Row) (r : Row)
    → Extends xs rs xs (rs ++ r ∷ [])
row-extends xs rs r = record {
  steps = omega arith;
  rows = let long = length-append rs (r ∷ []) in omega (arith, long);
  same = λ ps are. top-row [] (step_at xs) (length xs) rs r ps are;
}

-- ---- the open block

pub written-push : {X : Type 0} (xs : List X) (rs : List Row) (ps : List Part) (p : Part)
    → part_steps xs rs (reverse (ps ++ p ∷ []))
    ≡ part_steps xs rs (reverse ps) ++ part_steps xs rs (p ∷ [])
written-push xs rs ps p = rw (reverse-append ps (p ∷ [])) refl

pub part-pushed : {X : Type 0} (xs : List X) (rs : List Row) (es : List (Vec ℕ × Whole))
    (ps : List Part) (p : Part) (n k : ℕ) → IsTable xs rs es ps n
    → AreParts (length xs) (length rs) (p ∷ []) → k ≡ n + length (part_steps xs rs (p ∷ []))
    → k ≤ MOST_INSTRUCTIONS → IsTable xs rs es (ps ++ p ∷ []) k
part-pushed xs rs es ps p n k table known is few = record {
  rows = table.rows;
  ended = table.ended;
  parts = rw (reverse-append ps (p ∷ [])) (known.0, table.parts);
  counted = is ∙ ap (λ m. m + length (part_steps xs rs (p ∷ []))) table.counted
      ∙ sym (length-append (part_steps xs rs (reverse ps))
      (part_steps xs rs (p ∷ [])))
      ∙ ap length (sym (written-push xs rs ps p));
  few = few;
}

-- what a block stands for comes behind
pub whole-written : {X : Type 0} (xs : List X) (rs : List Row) (ps : List Part) (o : Option Part)
    → part_steps xs rs (reverse (ps ++ option_to_list o))
    ≡ part_steps xs rs (reverse ps) ++ part_steps xs rs (option_to_list o)
whole-written xs rs ps None =
    ap (λ qs. part_steps xs rs (reverse qs)) (append-nil ps)
    ∙ sym (append-nil (part_steps xs rs (reverse ps)))
whole-written xs rs ps (Some p) = written-push xs rs ps p

pub whole-pushed : {X : Type 0} (xs : List X) (rs : List Row) (es : List (Vec ℕ × Whole))
    (ps : List Part) (o : Option Part) (n m : ℕ) → IsTable xs rs es ps n
    → IsWhole xs rs (record { part = o; count = m }) → n + m ≤ MOST_INSTRUCTIONS
    → IsTable xs rs es (ps ++ option_to_list o) (n + m)
whole-pushed xs rs es ps None n m table is few =
    let none : n ≡ n + m = omega (arith, is.counted) in
    rw (append-nil ps, sym none) table
whole-pushed xs rs es ps (Some p) n m table is few =
    part-pushed xs rs es ps p n (n + m) table is.known (ap (λ k. n + k) is.counted) few

-- over more steps and rows
pub table-more : {X : Type 0} (xs : List X) (rs : List Row) (ys : List X) (ss : List Row)
    (es : List (Vec ℕ × Whole)) (ps : List Part) (n : ℕ) → Extends xs rs ys ss
    → AreRows (length ys) 0 ss → IsTable xs rs es ps n → IsTable ys ss es ps n
table-more xs rs ys ss es ps n more rows table = record {
  rows = rows;
  ended = ended-kept xs rs ys ss more es table.ended;
  parts = parts-more (length xs) (length rs) (length ys) (length ss) (reverse ps) more.steps
      more.rows table.parts;
  counted = rw (more.same (reverse ps) table.parts) table.counted;
  few = table.few;
}

-- one more instruction
module _ {X : Type 0} (xs : List X) (rs : List Row) (es : List (Vec ℕ × Whole)) (ps : List Part)
    (n : ℕ) (x : X) (table : IsTable xs rs es ps n) where
  grown : Extends xs rs (xs ++ x ∷ []) rs
  grown = step-extends xs rs x table.rows

  pub step-table : n < MOST_INSTRUCTIONS
      → IsTable (xs ++ x ∷ []) rs es (ps ++ Step (length xs) ∷ []) (n + 1)
  step-table free =
      let long = length-append xs (x ∷ []) in
      let wider = table-more xs rs (xs ++ x ∷ []) rs es ps n grown
      (rows-more (length xs) (length (xs ++ x ∷ [])) 0 rs (omega (arith, long)) table.rows)
      table in
      part-pushed (xs ++ x ∷ []) rs es ps (Step (length xs)) n (n + 1) wider
      (omega (arith, long), tt) (ap (λ ys. n + length ys) (sym (at-last xs x)))
      (omega (arith, free))

  pub step-ended : map (block_of (xs ++ x ∷ []) rs) es ≡ map (block_of xs rs) es
  step-ended = blocks-kept xs rs (xs ++ x ∷ []) rs grown es table.ended

  pub step-written : part_steps (xs ++ x ∷ []) rs (reverse (ps ++ Step (length xs) ∷ []))
      ≡ part_steps xs rs (reverse ps) ++ x ∷ []
  step-written =
      written-push (xs ++ x ∷ []) rs ps (Step (length xs))
      ∙ ap (λ ys. part_steps (xs ++ x ∷ []) rs (reverse ps) ++ ys) (at-last xs x)
      ∙ ap (λ ys. ys ++ x ∷ []) (grown.same (reverse ps) table.parts)

-- ---- the end of a block

module _ {X : Type 0} (xs : List X) (rs ss : List Row) (es : List (Vec ℕ × Whole)) (ps : List Part)
    (n : ℕ) (part : Option Part) (closes : Closes rs ps ss part)
    (table : IsTable xs rs es ps n) where
  closed-rows : Extends xs rs xs ss × AreRows (length xs) 0 ss
  closed-rows =
      elim closes [
        | inl kept ↦ (
          rw kept.0 (record { steps = omega arith; rows = omega arith; same = λ qs are. refl }),
          rw kept.0 table.rows,
        )
        | inr (r, is, parts, one) ↦ (
          rw is (row-extends xs rs r),
          rw is (rows-push (length xs) 0 rs r table.rows
              (let e : 0 + length rs ≡ length rs = omega arith in rw (parts, e) table.parts)),
        )
      ]

  closed-same : part_steps xs ss (option_to_list part) ≡ part_steps xs rs (reverse ps)
  closed-same =
      elim closes [
        | inl kept ↦ rw (kept.0, sym kept.1) refl
        | inr (r, is, parts, one) ↦
            rw (is, one)
            (last-row [] (step_at xs) rs r
            ∙ ap (λ qs. part_steps xs rs qs) parts)
      ]

  closed-known : AreParts (length xs) (length ss) (option_to_list part)
  closed-known =
      elim closes [
        | inl kept ↦ rw (kept.0, sym kept.1) table.parts
        | inr (r, is, parts, one) ↦
            let long = length-append rs (r ∷ []) in
            rw (is, one) (omega (arith, long), tt)
      ]

  closed-whole : IsWhole xs ss (record { part = part; count = n })
  closed-whole = record {
    known = closed-known;
    counted = rw closed-same table.counted;
    few = table.few;
  }

  pub closed-table : (name : Vec ℕ)
      → IsTable xs ss (es ++ (name, record { part = part; count = n }) ∷ []) [] 0
  closed-table name = record {
    rows = closed-rows.1;
    ended = All-push (IsEntry xs ss) es (name, record { part = part; count = n })
        (ended-kept xs rs xs ss closed-rows.0 es table.ended) closed-whole;
    parts = tt;
    counted = refl;
    few = omega arith;
  }

  pub closed-ended : (name : Vec ℕ)
      → map (block_of xs ss) (es ++ (name, record { part = part; count = n }) ∷ [])
      ≡ map (block_of xs rs) es
      ++ record { name = name.items; body = part_steps xs rs (reverse ps) } ∷ []
  closed-ended name =
      map-append (block_of xs ss) es ((name, record { part = part; count = n }) ∷ [])
      ∙ ap (λ bs. bs ++ block_of xs ss (name, record { part = part; count = n }) ∷ [])
      (blocks-kept xs rs xs ss closed-rows.0 es table.ended)
      ∙ ap (λ zs. map (block_of xs rs) es ++ record { name = name.items; body = zs } ∷ [])
      closed-same
