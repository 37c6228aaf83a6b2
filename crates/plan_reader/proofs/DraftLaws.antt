-- What a line keeps of a good draft.
use Rattle.std.proofs.Common.{◌≡◌, ℕ, ◌<◌, ◌≤◌, ◌^◌, false, ◌&&◌, List, [], ◌∷◌, ◌++◌, length, length-append, append_assoc, refl, sym, arith, Option, Some, None, Result, IfOk, All, true≢false}
use Rattle.std.specs.Prelude.{nat_le, nat_lt}
use Rattle.std.specs.List.{list_any}
use Rattle.std.specs.Str.{bytes_eq}
use Rattle.std.proofs.lemmas.Bool.{leb-false, ltb-false}
use Rattle.std.proofs.lemmas.List.{append-nil, length-map}
use Rattle.std.proofs.lemmas.List.Concat.{flat_map-append}
use Rattle.std.proofs.lemmas.List.Elements.{All-nil, All-tail, All-push, All-pop, All-append}
use Rattle.deb_text.specs.Steps.{◌>>=◌, traverse}
use Rattle.farm_model.specs.Universe.{Recipe, Base, Universe}
use Rattle.plan_reader.specs.declared.error.TheConstants.{MOST_LANES, MOST_INSTRUCTIONS}
use Rattle.plan_model.specs.Common.{Side, Outside, InFirst, InSecond, Lane, has_double}
use Rattle.plan_model.specs.declared.instructions.Instruction.{Instruction}
use Rattle.plan_model.specs.declared.instructions.Instruction.TheVariants.{Unpack, Configure, Deconfigure, Remove, Build, Publish, Wait, When, Otherwise, EndWhen}
use Rattle.plan_reader.specs.Drafts.{Block, Open, Nothing, InBlock, InLane, Draft, is_open, block_named, all_lanes, instructions_of, published, or_unknown, known_name, base_names, known_base, recipe_names, known_recipe, set_of, instruction_of, open_block, fresh_lane, open_lane, end_open, with_instructions, published_once, within_limit, add_to_open, is_outside, may_say, Reading, on_side, put, take_end, take_form}
use Rattle.plan_reader.specs.Forms.{Wording, UnpackForm, ConfigureForm, DeconfigureForm, RemoveForm, BuildForm, PublishForm, WaitForm, WhenForm, ElseForm, Form, BlockForm, LaneForm, EndForm, UseForm, InstructionForm}
use Rattle.deb_text.proofs.CarriedLaws.{if-has, then-has, traverse-has}
use Rattle.plan_reader.proofs.FormLaws.{IsForm}
use Rattle.plan_reader.proofs.Places.{place-within}

-- known names, none twice
abbrev pub IsGoodSet : Universe → List ℕ → Type 0
IsGoodSet u members = All (λ n. n < length u.names) members × (has_double members ≡ false)

-- an instruction of a plan: it speaks of what there is
abbrev pub IsGood : Universe → Instruction → Type 0
IsGood u (Unpack name wanted) = name < length u.names
IsGood u (Configure members) = IsGoodSet u members
IsGood u (Deconfigure members) = IsGoodSet u members
IsGood u (Remove members) = IsGoodSet u members
IsGood u (Build r) = r < length u.recipes
IsGood u (Publish r) = r < length u.recipes
IsGood u (Wait e) = Unit {0}
IsGood u (When name wanted) = name < length u.names
IsGood u Otherwise = Unit {0}
IsGood u EndWhen = Unit {0}

pub record IsGoodLane (u : Universe) (l : Lane) : Type 0 where
  pub base : l.base < length u.bases
  pub budget : l.budget < 10 ^ 15
  pub instructions : All (IsGood u) l.instructions

abbrev pub IsGoodBlock : Universe → Block → Type 0
IsGoodBlock u b = All (IsGood u) b.body

-- the blocks that have ended, and the open one
abbrev pub all_blocks : List Block → Open → List Block
all_blocks bs Nothing = bs
all_blocks bs (InBlock line block) = bs ++ block ∷ []
all_blocks bs (InLane line lane) = bs

pub record IsGoodDraft (u : Universe) (d : Draft) : Type 0 where
  pub blocks : All (IsGoodBlock u) (all_blocks d.blocks d.current)
  pub lanes : All (IsGoodLane u) (all_lanes d.lanes d.current)
  pub few : length (all_lanes d.lanes d.current) ≤ MOST_LANES
  pub small : length (instructions_of (all_lanes d.lanes d.current)) ≤ MOST_INSTRUCTIONS
  pub once : has_double (published (instructions_of (all_lanes d.lanes d.current))) ≡ false

-- the instructions of one more lane come last
pub instructions_of-push : (ls : List Lane) (l : Lane)
    → instructions_of (ls ++ l ∷ []) ≡ instructions_of ls ++ l.instructions
instructions_of-push ls l =
    rw (flat_map-append (λ (l : Lane). l.instructions) ls (l ∷ []), append-nil l.instructions) refl

-- more instructions of the last lane are more of all
pub instructions-more : (ls : List Lane) (l : Lane) (xs : List Instruction)
    → instructions_of (ls ++ with_instructions l xs ∷ [])
    ≡ instructions_of (ls ++ l ∷ []) ++ xs
instructions-more ls l xs =
    rw (instructions_of-push ls (with_instructions l xs), instructions_of-push ls l)
    (sym (append_assoc (instructions_of ls) l.instructions xs))

pub block_named-has : (P : List Instruction → Type 0) (bs : List Block) (name : List ℕ)
    → All (λ (b : Block). P b.body) bs → IfOk (block_named bs name) P
block_named-has P [] name kept = tt
block_named-has P (b ∷ bs) name kept =
    if-has P (bytes_eq name b.name) _ _
    (λ _. kept 0 b (omega arith))
    (λ _. block_named-has P bs name (All-tail (λ (b : Block). P b.body) b bs kept))

pub within_limit-has : (xs : List Instruction)
    → IfOk (within_limit xs) (λ ys. (ys ≡ xs) × (length xs ≤ MOST_INSTRUCTIONS))
within_limit-has xs =
    if-has (λ ys. (ys ≡ xs) × (length xs ≤ MOST_INSTRUCTIONS))
    (nat_lt MOST_INSTRUCTIONS (length xs)) _ _ (λ _. tt)
    (λ few. (refl, ltb-false MOST_INSTRUCTIONS (length xs) few))

-- what was published once has no double
pub published_once-has : (rs : List ℕ) → IfOk (published_once rs) (λ _. has_double rs ≡ false)
published_once-has rs =
    if-has (λ _. has_double rs ≡ false) (has_double rs) _ _ (λ _. tt) (λ once. once)

module _ (u : Universe) where
  -- ---- names

  or_unknown-has : (n : ℕ) (o : Option ℕ) → ((i : ℕ) → o ≡ Some i → i < n)
      → IfOk (or_unknown o) (λ i. i < n)
  or_unknown-has n (Some i) has = has i refl
  or_unknown-has n None has = tt

  known_name-has : (word : List ℕ) → IfOk (known_name u word) (λ n. n < length u.names)
  unfolding known_name
  known_name-has word = or_unknown-has (length u.names) _ (place-within u.names word)

  known_base-has : (word : List ℕ) → IfOk (known_base u word) (λ b. b < length u.bases)
  unfolding known_base
  known_base-has word =
      or_unknown-has (length u.bases) _
      (λ i is. let lt = place-within (base_names u) word i is in
      omega (arith, lt, length-map u.bases (λ (b : Base). b.name)))

  known_recipe-has : (word : List ℕ) → IfOk (known_recipe u word) (λ r. r < length u.recipes)
  unfolding known_recipe
  known_recipe-has word =
      or_unknown-has (length u.recipes) _
      (λ i is. let lt = place-within (recipe_names u) word i is in
      omega (arith, lt, length-map u.recipes (λ (r : Recipe). r.name)))

  set_of-has : (ws : List (List ℕ)) → IfOk (set_of u ws) (IsGoodSet u)
  unfolding set_of
  set_of-has ws =
      then-has (All (λ n. n < length u.names)) (IsGoodSet u) (traverse (known_name u) ws) _
      (traverse-has (known_name u) (λ n. n < length u.names) known_name-has ws)
      (λ members known. if-has (IsGoodSet u) (has_double members) _ _
      (λ _. tt) (λ once. (known, once)))

  -- the instruction that a line says is one of a plan
  instruction_of-has : (wording : Wording) → IfOk (instruction_of u wording) (IsGood u)
  unfolding instruction_of
  instruction_of-has (UnpackForm name relation) =
      then-has (λ n. n < length u.names) (IsGood u) (known_name u name) _ (known_name-has name)
      (λ n known. known)
  instruction_of-has (ConfigureForm ws) =
      then-has (IsGoodSet u) (IsGood u) (set_of u ws) _ (set_of-has ws) (λ members good. good)
  instruction_of-has (DeconfigureForm ws) =
      then-has (IsGoodSet u) (IsGood u) (set_of u ws) _ (set_of-has ws) (λ members good. good)
  instruction_of-has (RemoveForm ws) =
      then-has (IsGoodSet u) (IsGood u) (set_of u ws) _ (set_of-has ws) (λ members good. good)
  instruction_of-has (BuildForm word) =
      then-has (λ r. r < length u.recipes) (IsGood u) (known_recipe u word) _
      (known_recipe-has word) (λ r known. known)
  instruction_of-has (PublishForm word) =
      then-has (λ r. r < length u.recipes) (IsGood u) (known_recipe u word) _
      (known_recipe-has word) (λ r known. known)
  instruction_of-has (WaitForm entry) = tt
  instruction_of-has (WhenForm name relation) =
      then-has (λ n. n < length u.names) (IsGood u) (known_name u name) _ (known_name-has name)
      (λ n known. known)
  instruction_of-has ElseForm = tt

  -- ---- lines

  abbrev good : List Block → List Lane → Open → Type 0
  good bs ls o = IsGoodDraft u (record { blocks = bs; lanes = ls; current = o })

  block-opened : (number : ℕ) (bs : List Block) (ls : List Lane) (name : List ℕ)
      → good bs ls Nothing
      → good bs ls (InBlock number (record { name = name; body = [] }))
  block-opened number bs ls name kept = record {
    blocks = All-push (IsGoodBlock u) bs (record { name = name; body = [] }) kept.blocks
        (All-nil (IsGood u));
    lanes = kept.lanes;
    few = kept.few;
    small = kept.small;
    once = kept.once;
  }

  open_block-has : (number : ℕ) (bs : List Block) (ls : List Lane) (o : Open) (name : List ℕ)
      → is_open o ≡ false → good bs ls o
      → let d : Draft = record { blocks = bs; lanes = ls; current = o } in
      IfOk (open_block number d name) (IsGoodDraft u)
  open_block-has number bs ls Nothing name shut kept =
      if-has (IsGoodDraft u) (list_any (λ (b : Block). bytes_eq name b.name) bs) _ _ (λ _. tt)
      (λ _. block-opened number bs ls name kept)
  open_block-has number bs ls (InBlock line b) name shut kept = absurd (true≢false shut)
  open_block-has number bs ls (InLane line l) name shut kept = absurd (true≢false shut)

  lane-opened : (number : ℕ) (bs : List Block) (ls : List Lane) (name : List ℕ) (budget base : ℕ)
      → good bs ls Nothing
      → budget < 10 ^ 15 → base < length u.bases → length ls < MOST_LANES
      → good bs ls (InLane number (fresh_lane name base budget))
  lane-opened number bs ls name budget base kept small known few = record {
    blocks = kept.blocks;
    lanes = All-push (IsGoodLane u) ls (fresh_lane name base budget) kept.lanes
        (record { base = known; budget = small; instructions = All-nil (IsGood u) });
    few = rw (length-append ls (fresh_lane name base budget ∷ [])) (omega (arith, few));
    small = rw (
      instructions_of-push ls (fresh_lane name base budget),
      append-nil (instructions_of ls),
    ) kept.small;
    once = rw (
      instructions_of-push ls (fresh_lane name base budget),
      append-nil (instructions_of ls),
    ) kept.once;
  }

  open_lane-has : (number : ℕ) (bs : List Block) (ls : List Lane) (o : Open) (name : List ℕ)
      (budget base : ℕ) → is_open o ≡ false → good bs ls o
      → budget < 10 ^ 15 → base < length u.bases
      → let d : Draft = record { blocks = bs; lanes = ls; current = o } in
      IfOk (open_lane number d name budget base) (IsGoodDraft u)
  open_lane-has number bs ls Nothing name budget base shut kept small known =
      if-has (IsGoodDraft u) (list_any (λ (l : Lane). bytes_eq l.name name) ls) _ _ (λ _. tt)
      (λ _. if-has (IsGoodDraft u) (nat_le MOST_LANES (length ls)) _ _ (λ _. tt)
      (λ free. lane-opened number bs ls name budget base kept small known
      (leb-false MOST_LANES (length ls) free)))
  open_lane-has number bs ls (InBlock line b) name budget base shut kept small known =
      absurd (true≢false shut)
  open_lane-has number bs ls (InLane line l) name budget base shut kept small known =
      absurd (true≢false shut)

  end_open-has : (bs : List Block) (ls : List Lane) (o : Open) → good bs ls o
      → IfOk (end_open bs ls o) (IsGoodDraft u)
  end_open-has bs ls Nothing kept = tt
  end_open-has bs ls (InBlock line b) kept = record {
    blocks = kept.blocks;
    lanes = kept.lanes;
    few = kept.few;
    small = kept.small;
    once = kept.once;
  }
  end_open-has bs ls (InLane line l) kept = record {
    blocks = kept.blocks;
    lanes = kept.lanes;
    few = kept.few;
    small = kept.small;
    once = kept.once;
  }

  ended : (bs : List Block) (o : Open) → All (IsGoodBlock u) (all_blocks bs o)
      → All (IsGoodBlock u) bs
  ended bs Nothing kept = kept
  ended bs (InBlock line b) kept =
      (All-pop (IsGoodBlock u) (bs ++ b ∷ []) bs (Some b) refl kept).0
  ended bs (InLane line l) kept = kept

  -- more instructions of the open block
  block-added : (bs : List Block) (ls : List Lane) (line : ℕ) (b : Block)
      (xs all : List Instruction) → good bs ls (InBlock line b) → All (IsGood u) xs
      → all ≡ b.body ++ xs
      → good bs ls (InBlock line (record { name = b.name; body = all }))
  block-added bs ls line b xs all kept fine is =
      let both = All-pop (IsGoodBlock u) (bs ++ b ∷ []) bs (Some b) refl kept.blocks in
      record {
        blocks = All-push (IsGoodBlock u) bs (record { name = b.name; body = all }) both.0
            (rw is (All-append (IsGood u) b.body xs both.1 fine));
        lanes = kept.lanes;
        few = kept.few;
        small = kept.small;
        once = kept.once;
      }

  -- more instructions of the open lane
  lane-added : (bs : List Block) (ls : List Lane) (line : ℕ) (l : Lane) (xs : List Instruction)
      → good bs ls (InLane line l) → All (IsGood u) xs
      → has_double (published (instructions_of (ls ++ l ∷ []) ++ xs)) ≡ false
      → length (instructions_of (ls ++ l ∷ []) ++ xs) ≤ MOST_INSTRUCTIONS
      → good bs ls (InLane line (with_instructions l xs))
  lane-added bs ls line l xs kept fine once few =
      let both = All-pop (IsGoodLane u) (ls ++ l ∷ []) ls (Some l) refl kept.lanes in
      record {
        blocks = kept.blocks;
        lanes = All-push (IsGoodLane u) ls (with_instructions l xs) both.0 (record {
          base = both.1.base;
          budget = both.1.budget;
          instructions = All-append (IsGood u) l.instructions xs both.1.instructions fine;
        });
        few = rw (length-append ls (with_instructions l xs ∷ []))
            (rw (length-append ls (l ∷ [])) at kept.few);
        small = rw (instructions-more ls l xs) few;
        once = rw (instructions-more ls l xs) once;
      }

  add-has : (bs : List Block) (ls : List Lane) (o : Open) (xs : List Instruction)
      → good bs ls o → All (IsGood u) xs → IfOk (add_to_open bs ls o xs) (IsGoodDraft u)
  add-has bs ls Nothing xs kept fine = tt
  add-has bs ls (InBlock line b) xs kept fine =
      let all = b.body ++ xs in
      then-has (λ ys. (ys ≡ all) × (length all ≤ MOST_INSTRUCTIONS)) (IsGoodDraft u)
      (within_limit all) _ (within_limit-has all)
      (λ ys is. block-added bs ls line b xs ys kept fine is.0)
  add-has bs ls (InLane line l) xs kept fine =
      let all = instructions_of (ls ++ l ∷ []) ++ xs in
      then-has (λ _. has_double (published all) ≡ false) (IsGoodDraft u)
      (published_once (published all)) _ (published_once-has (published all))
      (λ _ once. then-has (λ ys. (ys ≡ all) × (length all ≤ MOST_INSTRUCTIONS)) (IsGoodDraft u)
      (within_limit all) _ (within_limit-has all)
      (λ _ few. lane-added bs ls line l xs kept fine once few.1))

  -- what is read, where its draft is good
  abbrev pub IsGoodReading : Reading → Type 0
  IsGoodReading r = IsGoodDraft u r.draft

  on_side-has : (s : Side) (r : Result Draft ℕ) → IfOk r (IsGoodDraft u)
      → IfOk (r >>= on_side s) IsGoodReading
  on_side-has s r has = then-has (IsGoodDraft u) IsGoodReading r (on_side s) has (λ d is. is)

  put-has : (number : ℕ) (r : Reading) (x : Instruction) → IsGoodDraft u r.draft → IsGood u x
      → IfOk (put number r x) IsGoodReading
  put-has number r x kept fine =
      on_side-has _ _ (add-has r.draft.blocks r.draft.lanes r.draft.current (x ∷ []) kept
      (All-push (IsGood u) [] x (All-nil (IsGood u)) fine))

  end-has : (r : Reading) (s : Side) → IsGoodDraft u r.draft
      → IfOk (take_end r.draft s) IsGoodReading
  end-has r Outside kept =
      on_side-has Outside _ (end_open-has r.draft.blocks r.draft.lanes r.draft.current kept)
  end-has r (InFirst w) kept = tt
  end-has r (InSecond w) kept =
      on_side-has Outside _ (add-has r.draft.blocks r.draft.lanes r.draft.current (EndWhen ∷ [])
      kept (All-push (IsGood u) [] EndWhen (All-nil (IsGood u)) tt))

  pub take_form-has : (number : ℕ) (r : Reading) (form : Form) → IsGoodReading r → IsForm form
      → IfOk (take_form u number r form) IsGoodReading
  unfolding take_form
  take_form-has number r (BlockForm name) kept small =
      on_side-has Outside _ (if-has (IsGoodDraft u) (is_open r.draft.current) _ _ (λ _. tt)
      (λ shut. open_block-has number r.draft.blocks r.draft.lanes r.draft.current name shut kept))
  take_form-has number r (LaneForm name chroot budget) kept small =
      on_side-has Outside _ (if-has (IsGoodDraft u) (is_open r.draft.current) _ _ (λ _. tt)
      (λ shut. then-has (λ b. b < length u.bases) (IsGoodDraft u) (known_base u chroot) _
      (known_base-has chroot)
      (λ base known. open_lane-has number r.draft.blocks r.draft.lanes r.draft.current name budget
      base shut kept small known)))
  take_form-has number r EndForm kept small = end-has r r.side kept
  take_form-has number r (UseForm name) kept small =
      if-has IsGoodReading (is_open r.draft.current && is_outside r.side) _ _
      (λ _. on_side-has Outside _ (then-has (All (IsGood u)) (IsGoodDraft u)
      (block_named r.draft.blocks name) _
      (block_named-has (All (IsGood u)) r.draft.blocks name
      (ended r.draft.blocks r.draft.current kept.blocks))
      (λ xs fine. add-has r.draft.blocks r.draft.lanes r.draft.current xs kept fine)))
      (λ _. tt)
  take_form-has number r (InstructionForm wording) kept small =
      if-has IsGoodReading (is_open r.draft.current && may_say r.side wording) _ _
      (λ _. then-has (IsGood u) IsGoodReading (instruction_of u wording) _
      (instruction_of-has wording) (λ x fine. put-has number r x kept fine))
      (λ _. tt)
