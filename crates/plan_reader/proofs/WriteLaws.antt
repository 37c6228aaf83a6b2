-- What the table of blocks stands for, after a line of a block, and by a block's name.
use Rattle.std.proofs.Common.{◌≡◌, ◌<◌, ◌≤◌, ℕ, ◌+◌, Bool, true, false, arith, List, [], ◌∷◌, ◌++◌, length, map, reverse, refl, ap, subst, ◌∙◌, length-append, All, Option, Some, None, Ok, Err, IfOk, true≢false}
use Rattle.std.specs.Prelude.{option_to_list, is_some}
use Rattle.std.specs.Global.{Vec}
use Rattle.std.specs.List.{list_any}
use Rattle.std.specs.Map.{lookup}
use Rattle.std.specs.Str.{bytes_eq}
use Rattle.std.proofs.lemmas.Bool.{lt-ltb, le-ltb}
use Rattle.std.proofs.lemmas.List.Elements.{All-head, All-tail}
use Rattle.deb_text.specs.Common.{Fails, ◌>>=◌}
use Rattle.plan_reader.specs.declared.blocks.Part.{Part}
use Rattle.plan_reader.specs.declared.blocks.Part.TheVariants.{Step}
use Rattle.plan_reader.specs.declared.blocks.Row.{Row}
use Rattle.plan_reader.specs.declared.blocks.Whole.{Whole}
use Rattle.plan_reader.specs.declared.error.TheConstants.{OVER_LIMIT, MOST_INSTRUCTIONS}
use Rattle.plan_reader.specs.BlockTable.{BlockList, part_steps, block_of, IsWhole, IsTable, Closes, whole_named, write, write_use}
use Rattle.plan_reader.specs.Drafts.{BlockOf, block_named, within_limit}
use Rattle.plan_reader.proofs.TableLaws.{IsEntry, step-table, step-ended, step-written, whole-written, whole-pushed, closed-table, closed-ended}
use Rattle.plan_reader.proofs.Tallies.{fails-then}

pub limit-over : {X : Type 0} (xs : List X) → MOST_INSTRUCTIONS < length xs
    → within_limit xs ≡ Err OVER_LIMIT
limit-over xs over = rw (lt-ltb MOST_INSTRUCTIONS (length xs) over) refl

pub limit-fits : {X : Type 0} (xs : List X) → length xs ≤ MOST_INSTRUCTIONS → within_limit xs ≡ Ok xs
limit-fits xs fits = rw (le-ltb MOST_INSTRUCTIONS (length xs) fits) refl

pub write-over : {X : Type 0} (blocks : BlockList X) (xs : List X)
    → MOST_INSTRUCTIONS < length blocks.written + length xs → write blocks xs ≡ Err OVER_LIMIT
write-over blocks xs over =
    let long = length-append blocks.written xs in
    rw (limit-over (blocks.written ++ xs) (omega (arith, long, over))) refl

pub write-fits : {X : Type 0} (blocks : BlockList X) (xs : List X)
    → length blocks.written + length xs ≤ MOST_INSTRUCTIONS
    → write blocks xs ≡ Ok (record { ended = blocks.ended; written = blocks.written ++ xs })
write-fits blocks xs fits =
    let long = length-append blocks.written xs in
    rw (limit-fits (blocks.written ++ xs) (omega (arith, long, fits))) refl

-- what a table stands for
abbrev pub list_of : {X : Type 0} → List X → List Row → List (Vec ℕ × Whole) → List Part → BlockList X
list_of xs rs es ps = record {
  ended = map (block_of xs rs) es;
  written = part_steps xs rs (reverse ps);
}

-- one more instruction
module _ {X : Type 0} (xs : List X) (rs : List Row) (es : List (Vec ℕ × Whole)) (ps : List Part)
    (n : ℕ) (x : X) (table : IsTable xs rs es ps n) where
  module _ (free : n < MOST_INSTRUCTIONS) (ys : List X) (qs : List Part) (i : ℕ)
      (place : i ≡ length xs) (steps : ys ≡ xs ++ x ∷ []) (parts : qs ≡ ps ++ Step i ∷ []) where
    pub add-table : IsTable ys rs es qs (n + 1)
    add-table = rw (steps, parts, place) (step-table xs rs es ps n x table free)

    pub add-gives : write (list_of xs rs es ps) (x ∷ []) ≡ Ok (list_of ys rs es qs)
    add-gives =
        let counted = table.counted in
        rw (
          steps,
          parts,
          place,
          write-fits (list_of xs rs es ps) (x ∷ []) (omega (arith, counted, free)),
          step-ended xs rs es ps n x table,
          step-written xs rs es ps n x table,
        ) refl

-- ---- blocks by name

module _ {X : Type 0} (xs : List X) (rs : List Row) (name : List ℕ) where
  pub any-ended : (es : List (Vec ℕ × Whole))
      → is_some (lookup (λ k. bytes_eq name k.items) es)
      ≡ list_any (λ (b : BlockOf X). bytes_eq name b.name) (map (block_of xs rs) es)
  any-ended [] = refl
  any-ended (e ∷ es) = go (bytes_eq name e.0.items) refl (any-ended es) where
    go : (b : Bool) → bytes_eq name e.0.items ≡ b
        → is_some (lookup (λ k. bytes_eq name k.items) es)
        ≡ list_any (λ (b : BlockOf X). bytes_eq name b.name) (map (block_of xs rs) es)
        → is_some (lookup (λ k. bytes_eq name k.items) (e ∷ es))
        ≡ list_any (λ (b : BlockOf X). bytes_eq name b.name) (map (block_of xs rs) (e ∷ es))
    go true is later = rw is refl
    go false is later = rw is later

  pub named-ended : (es : List (Vec ℕ × Whole))
      → block_named (map (block_of xs rs) es) name
      ≡ (whole_named es name >>= λ w. Ok (part_steps xs rs (option_to_list w.part)))
  named-ended [] = refl
  named-ended (e ∷ es) = go (bytes_eq name e.0.items) refl (named-ended es) where
    go : (b : Bool) → bytes_eq name e.0.items ≡ b
        → block_named (map (block_of xs rs) es) name
        ≡ (whole_named es name >>= λ w. Ok (part_steps xs rs (option_to_list w.part)))
        → block_named (map (block_of xs rs) (e ∷ es)) name
        ≡ (whole_named (e ∷ es) name >>= λ w. Ok (part_steps xs rs (option_to_list w.part)))
    go true is later = rw is refl
    go false is later = rw is later

  pub named-whole : (es : List (Vec ℕ × Whole)) → All (IsEntry xs rs) es
      → IfOk (whole_named es name) (IsWhole xs rs)
  named-whole [] kept = tt
  named-whole (e ∷ es) kept =
      go (bytes_eq name e.0.items) refl
      (named-whole es (All-tail (IsEntry xs rs) e es kept)) where
        go : (b : Bool) → bytes_eq name e.0.items ≡ b → IfOk (whole_named es name) (IsWhole xs rs)
            → IfOk (whole_named (e ∷ es) name) (IsWhole xs rs)
        go true is later = rw is (All-head (IsEntry xs rs) e es kept)
        go false is later = rw is later

-- a block that is not there
module _ {X E : Type 0} (refusal : E → Option ℕ) (e : E) (xs : List X) (rs : List Row)
    (es : List (Vec ℕ × Whole)) (name : List ℕ)
    (fails : Fails refusal e (whole_named es name)) where
  pub named-fails : Fails refusal e (block_named (map (block_of xs rs) es) name)
  named-fails =
      rw (named-ended xs rs name es) (fails-then refusal e (whole_named es name) _ fails)

  pub use-fails : (ps : List Part) → Fails refusal e (write_use (list_of xs rs es ps) name)
  use-fails ps =
      fails-then refusal e (block_named (map (block_of xs rs) es) name) _ named-fails

-- a use of a block
module _ {X : Type 0} (xs : List X) (rs : List Row) (es : List (Vec ℕ × Whole)) (ps : List Part)
    (n : ℕ) (name : List ℕ) (w : Whole) (table : IsTable xs rs es ps n)
    (found : whole_named es name ≡ Ok w) where
  pub found-whole : IsWhole xs rs w
  found-whole = subst (λ r. IfOk r (IsWhole xs rs)) found (named-whole xs rs name es table.ended)

  pub found-named : block_named (map (block_of xs rs) es) name
      ≡ Ok (part_steps xs rs (option_to_list w.part))
  found-named = rw (named-ended xs rs name es, found) refl

  found-is : write_use (list_of xs rs es ps) name
      ≡ write (list_of xs rs es ps) (part_steps xs rs (option_to_list w.part))
  found-is = rw found-named refl

  pub use-over : MOST_INSTRUCTIONS < n + w.count
      → write_use (list_of xs rs es ps) name ≡ Err OVER_LIMIT
  use-over over =
      let counted = table.counted in
      let long = found-whole.counted in
      found-is
      ∙ write-over (list_of xs rs es ps) (part_steps xs rs (option_to_list w.part))
      (omega (arith, counted, long, over))

  module _ (fits : n + w.count ≤ MOST_INSTRUCTIONS) (qs : List Part)
      (parts : qs ≡ ps ++ option_to_list w.part) where
    pub use-table : IsTable xs rs es qs (n + w.count)
    use-table = rw parts (whole-pushed xs rs es ps w.part n w.count table found-whole fits)

    pub use-gives : write_use (list_of xs rs es ps) name ≡ Ok (list_of xs rs es qs)
    use-gives =
        let counted = table.counted in
        let long = found-whole.counted in
        rw (
          parts,
          found-is,
          write-fits (list_of xs rs es ps) (part_steps xs rs (option_to_list w.part))
              (omega (arith, counted, long, fits)),
          whole-written xs rs ps w.part,
        ) refl

-- a block of a new name ends
pub lookup-none : {X : Type 0} (o : Option X) → is_some o ≡ false → o ≡ None
lookup-none (Some x) is = absurd (true≢false is)
lookup-none None is = refl

pub name-new : {X : Type 0} (xs : List X) (rs : List Row) (es : List (Vec ℕ × Whole)) (name : List ℕ)
    → list_any (λ (b : BlockOf X). bytes_eq name b.name) (map (block_of xs rs) es) ≡ false
    → lookup (λ k. bytes_eq name k.items) es ≡ None
name-new xs rs es name new = lookup-none _ (any-ended xs rs name es ∙ new)

module _ {X : Type 0} (xs : List X) (rs ss : List Row) (es fs : List (Vec ℕ × Whole))
    (ps qs : List Part) (n : ℕ) (name : Vec ℕ) (part : Option Part) (closes : Closes rs ps ss part)
    (table : IsTable xs rs es ps n)
    (put : fs ≡ es ++ (name, record { part = part; count = n }) ∷ []) (none : qs ≡ []) where
  pub end-table : IsTable xs ss fs qs 0
  end-table = rw (put, none) (closed-table xs rs ss es ps n part closes table name)

  pub end-gives : list_of xs ss fs qs ≡ record {
    ended = map (block_of xs rs) es
        ++ record { name = name.items; body = part_steps xs rs (reverse ps) } ∷ [];
    written = [];
  }
  end-gives =
      rw (put, none)
      (ap (λ bs. record { ended = bs; written = [] })
      (closed-ended xs rs ss es ps n part closes table name))
