-- What a line keeps of a draft whose instructions can be listed.
use Rattle.std.proofs.Common.{◌≡◌, ℕ, ◌<◌, ◌≤◌, ◌^◌, Bool, true, false, ◌&&◌, List, [], ◌∷◌, ◌++◌, length, append_assoc, refl, sym, subst, ◌∙◌, Result, Ok, Err, IfOk, All, true≢false}
use Rattle.std.proofs.lemmas.Bool.{and_parts, leb-false, ltb-false}
use Rattle.std.proofs.lemmas.List.{append-nil}
use Rattle.std.proofs.lemmas.List.Elements.{All-nil, All-cons, All-push, All-append, All-head, All-tail}
use Rattle.std.specs.List.{list_any}
use Rattle.std.specs.Prelude.{codes, nat_le, nat_lt}
use Rattle.std.specs.Str.{bytes_eq}
use Rattle.deb_text.proofs.AgainLaws.{number-small}
use Rattle.deb_text.proofs.CarriedLaws.{if-has, then-has}
use Rattle.deb_text.specs.Common.{is_nil, is_number, number_at, ◌>>=◌, words, is_word}
use Rattle.farm_model.specs.Common.{base, Universe}
use Rattle.plan_reader.specs.declared.error.TheConstants.{MOST_LANES, MOST_INSTRUCTIONS}
use Rattle.plan_reader.specs.Drafts.{Block, Open, Nothing, InBlock, InLane, Draft, is_open, block_named, instructions_of, published, known_base, instruction_of, open_block, fresh_lane, open_lane, end_open, with_instructions, published_once, within_limit, add_to_open, Reading, is_outside, may_say, on_side, take_end, take_form}
use Rattle.plan_reader.specs.Forms.{Form, BlockForm, LaneForm, EndForm, UseForm, InstructionForm, lane_with, lane_form, one_word, wording_by, form_at, first_word, behind_word}
use Rattle.plan_reader.proofs.DraftLaws.{instructions_of-push, published_once-has}
use Rattle.plan_model.specs.Common.{Side, Outside, InFirst, InSecond, side_behind, Lane, Plan, has_double}
use Rattle.plan_model.specs.declared.instructions.Instruction.{Instruction}
use Rattle.plan_model.specs.declared.instructions.Instruction.TheVariants.{EndWhen}
use Rattle.text_laws.proofs.Listed.{instruction-has}
use Rattle.text_laws.proofs.Names.{base-known}
use Rattle.text_laws.proofs.WordLines.{IsListed}
use Rattle.text_laws.proofs.Wordings.{IsWording, wording-has}

pub record IsListedLane (u : Universe) (l : Lane) : Type 0 where
  pub word : is_word l.name ≡ true
  pub base_word : is_word (base u l.base).name ≡ true
  pub base_known : known_base u (base u l.base).name ≡ Ok l.base
  pub budget : l.budget < 10 ^ 15
  pub instructions : All (IsListed u) l.instructions

-- no recipe is published twice, and there are not too many instructions
pub record Fits (xs : List Instruction) : Type 0 where
  pub once : has_double (published xs) ≡ false
  pub few : length xs ≤ MOST_INSTRUCTIONS

-- the name is new behind these lanes, and there is room for one more
pub record IsNext (before : List Lane) (name : List ℕ) : Type 0 where
  pub fresh : list_any (λ (l : Lane). bytes_eq l.name name) before ≡ false
  pub room : length before < MOST_LANES

-- each lane can be listed, and is a next one behind the lanes before it
abbrev pub AreLanes : Universe → List Lane → List Lane → Type 0
AreLanes u before [] = Unit {0}
AreLanes u before (l ∷ ls) =
    IsListedLane u l × IsNext before l.name × AreLanes u (before ++ l ∷ []) ls

pub record IsListedPlan (u : Universe) (p : Plan) : Type 0 where
  pub lanes : AreLanes u [] p
  pub fits : Fits (instructions_of p)

abbrev pub IsListedBlock : Universe → Block → Type 0
IsListedBlock u b = All (IsListed u) b.body

abbrev pub IsListedOpen : Universe → List Lane → Open → Type 0
IsListedOpen u ls Nothing = Fits (instructions_of ls)
IsListedOpen u ls (InBlock line b) = IsListedBlock u b × Fits (instructions_of ls)
IsListedOpen u ls (InLane line l) =
    IsListedLane u l × IsNext ls l.name × Fits (instructions_of (ls ++ l ∷ []))

pub record IsListedDraft (u : Universe) (d : Draft) : Type 0 where
  pub blocks : All (IsListedBlock u) d.blocks
  pub lanes : AreLanes u [] d.lanes
  pub current : IsListedOpen u d.lanes d.current

-- ---- the form of a line

abbrev pub IsListedForm : Form → Type 0
IsListedForm (BlockForm name) = Unit {0}
IsListedForm (LaneForm name chroot budget) =
    (is_word name ≡ true) × (is_word chroot ≡ true) × (budget < 10 ^ 15)
IsListedForm EndForm = Unit {0}
IsListedForm (UseForm block) = Unit {0}
IsListedForm (InstructionForm wording) = IsWording wording

lane_with-has : (name chroot budget : List ℕ) → is_word name ≡ true → is_word chroot ≡ true
    → IfOk (lane_with name chroot (number_at budget)) IsListedForm
lane_with-has name chroot budget word base_word = go (is_number budget) refl where
  go : (b : Bool) → is_number budget ≡ b
      → IfOk (lane_with name chroot (number_at budget)) IsListedForm
  go true is = rw is (word, base_word, number-small budget is)
  go false is = rw is tt

lane_form-has : (ws : List (List ℕ)) → IfOk (lane_form ws) IsListedForm
lane_form-has [] = tt
lane_form-has (a ∷ []) = tt
lane_form-has (a ∷ b ∷ []) = tt
lane_form-has (a ∷ b ∷ c ∷ []) = tt
lane_form-has (a ∷ b ∷ c ∷ d ∷ []) = tt
lane_form-has (a ∷ b ∷ c ∷ d ∷ e ∷ []) =
    if-has IsListedForm
    (is_word a && bytes_eq b (codes "chroot") && is_word c && bytes_eq d (codes "budget")) _ _
    (λ all. let three = and_parts (is_word a && bytes_eq b (codes "chroot") && is_word c)
    (bytes_eq d (codes "budget")) all in
    let two = and_parts (is_word a && bytes_eq b (codes "chroot")) (is_word c) three.0 in
    lane_with-has a c e (and_parts (is_word a) (bytes_eq b (codes "chroot")) two.0).0 two.1)
    (λ _. tt)
lane_form-has (a ∷ b ∷ c ∷ d ∷ e ∷ f ∷ ws) = tt

word-has : (P : Form → Type 0) (form : List ℕ → Form) → ((w : List ℕ) → P (form w))
    → (r : Result (List ℕ) ℕ) → IfOk (r >>= λ w. Ok (form w)) P
word-has P form has (Ok w) = has w
word-has P form has (Err e) = tt

pub form-has : (line : List ℕ) → IfOk (form_at line) IsListedForm
unfolding form_at
form-has line =
    let word = first_word line in
    let rest = behind_word line in
    if-has IsListedForm (bytes_eq word (codes "lane")) _ _ (λ _. lane_form-has (words rest))
    (λ _. if-has IsListedForm (bytes_eq word (codes "end")) _ _
    (λ _. if-has IsListedForm (is_nil (words rest)) _ _ (λ _. tt) (λ _. tt))
    (λ _. if-has IsListedForm (bytes_eq word (codes "block")) _ _
    (λ _. word-has IsListedForm BlockForm (λ w. tt) (one_word (words rest)))
    (λ _. if-has IsListedForm (bytes_eq word (codes "use")) _ _
    (λ _. word-has IsListedForm UseForm (λ w. tt) (one_word (words rest)))
    (λ _. then-has IsWording IsListedForm (wording_by word rest) _ (wording-has word rest)
    (λ wording is. is)))))

-- ---- instructions of lanes

instructions-more : (ls : List Lane) (l : Lane) (xs : List Instruction)
    → instructions_of (ls ++ l ∷ []) ++ xs ≡ instructions_of (ls ++ with_instructions l xs ∷ [])
instructions-more ls l xs =
    rw (instructions_of-push ls l, instructions_of-push ls (with_instructions l xs))
    (append_assoc (instructions_of ls) l.instructions xs)

within-has : (xs : List Instruction)
    → IfOk (within_limit xs) (λ ys. (xs ≡ ys) × (length xs ≤ MOST_INSTRUCTIONS))
within-has xs =
    if-has (λ ys. (xs ≡ ys) × (length xs ≤ MOST_INSTRUCTIONS))
    (nat_lt MOST_INSTRUCTIONS (length xs)) _ _ (λ _. tt)
    (λ few. (refl, ltb-false MOST_INSTRUCTIONS (length xs) few))

lanes-push : (u : Universe) (ls before : List Lane) (l : Lane) → AreLanes u before ls
    → IsListedLane u l → IsNext (before ++ ls) l.name → AreLanes u before (ls ++ l ∷ [])
lanes-push u [] before l are is next =
    (is, subst (λ ls. IsNext ls l.name) (append-nil before) next, tt)
lanes-push u (k ∷ ls) before l are is next = (
  are.0,
  are.1,
  lanes-push u ls (before ++ k ∷ []) l are.2 is
      (subst (λ ls. IsNext ls l.name) (sym (append_assoc before (k ∷ []) ls)) next),
)

-- ---- lines

module _ (u : Universe) where
  abbrev draft : List Block → List Lane → Open → Draft
  draft bs ls o = record { blocks = bs; lanes = ls; current = o }

  block-has : (bs : List Block) (name : List ℕ) → All (IsListedBlock u) bs
      → IfOk (block_named bs name) (All (IsListed u))
  block-has [] name are = tt
  block-has (b ∷ bs) name are =
      if-has (All (IsListed u)) (bytes_eq name b.name) _ _
      (λ _. All-head (IsListedBlock u) b bs are)
      (λ _. block-has bs name (All-tail (IsListedBlock u) b bs are))

  add-has : (bs : List Block) (ls : List Lane) (o : Open) (xs : List Instruction)
      → IsListedDraft u (draft bs ls o) → All (IsListed u) xs
      → IfOk (add_to_open bs ls o xs) (IsListedDraft u)
  add-has bs ls Nothing xs is are = tt
  add-has bs ls (InBlock line b) xs is are =
      let more = b.body ++ xs in
      then-has (λ ys. (more ≡ ys) × (length more ≤ MOST_INSTRUCTIONS)) (IsListedDraft u)
      (within_limit more) _ (within-has more)
      (λ ys same. record {
        blocks = is.blocks;
        lanes = is.lanes;
        current = (
          subst (All (IsListed u)) same.0
              (All-append (IsListed u) b.body xs is.current.0 are),
          is.current.1,
        );
      })
  add-has bs ls (InLane line l) xs is are =
      let all = instructions_of (ls ++ l ∷ []) ++ xs in
      then-has (λ _. has_double (published all) ≡ false) (IsListedDraft u)
      (published_once (published all)) _ (published_once-has (published all))
      (λ _ once. then-has (λ ys. (all ≡ ys) × (length all ≤ MOST_INSTRUCTIONS)) (IsListedDraft u)
      (within_limit all) _ (within-has all)
      (λ _ few. record {
        blocks = is.blocks;
        lanes = is.lanes;
        current = (
          record {
            word = is.current.0.word;
            base_word = is.current.0.base_word;
            base_known = is.current.0.base_known;
            budget = is.current.0.budget;
            instructions =
                All-append (IsListed u) l.instructions xs is.current.0.instructions are;
          },
          is.current.1,
          subst Fits (instructions-more ls l xs) (record { once = once; few = few.1 }),
        );
      }))

  lane-opened : (number : ℕ) (bs : List Block) (ls : List Lane) (name chroot : List ℕ)
      (budget b : ℕ) → IsListedDraft u (draft bs ls Nothing)
      → IsListedForm (LaneForm name chroot budget)
      → ((base u b).name ≡ chroot) × (known_base u chroot ≡ Ok b) → IsNext ls name
      → IsListedDraft u (draft bs ls (InLane number (fresh_lane name b budget)))
  lane-opened number bs ls name chroot budget b is form known next = record {
    blocks = is.blocks;
    lanes = is.lanes;
    current = (
      record {
        word = form.0;
        base_word = subst (λ w. is_word w ≡ true) (sym known.0) form.1;
        base_known = subst (λ w. known_base u w ≡ Ok b) (sym known.0) known.1;
        budget = form.2;
        instructions = All-nil (IsListed u);
      },
      next,
      subst Fits
          (sym (instructions_of-push ls (fresh_lane name b budget)
          ∙ append-nil (instructions_of ls)))
          is.current,
    );
  }

  open_lane-has : (number : ℕ) (bs : List Block) (ls : List Lane) (o : Open)
      (name chroot : List ℕ) (budget b : ℕ) → is_open o ≡ false
      → IsListedDraft u (draft bs ls o) → IsListedForm (LaneForm name chroot budget)
      → ((base u b).name ≡ chroot) × (known_base u chroot ≡ Ok b)
      → IfOk (open_lane number (draft bs ls o) name budget b) (IsListedDraft u)
  open_lane-has number bs ls (InBlock line c) name chroot budget b shut is form known =
      absurd (true≢false shut)
  open_lane-has number bs ls (InLane line l) name chroot budget b shut is form known =
      absurd (true≢false shut)
  open_lane-has number bs ls Nothing name chroot budget b shut is form known =
      if-has (IsListedDraft u) (list_any (λ (l : Lane). bytes_eq l.name name) ls) _ _ (λ _. tt)
      (λ fresh. if-has (IsListedDraft u) (nat_le MOST_LANES (length ls)) _ _ (λ _. tt)
      (λ free. lane-opened number bs ls name chroot budget b is form known
      (record { fresh = fresh; room = leb-false MOST_LANES (length ls) free })))

  open_block-has : (number : ℕ) (bs : List Block) (ls : List Lane) (o : Open) (name : List ℕ)
      → is_open o ≡ false → IsListedDraft u (draft bs ls o)
      → IfOk (open_block number (draft bs ls o) name) (IsListedDraft u)
  open_block-has number bs ls (InBlock line c) name shut is = absurd (true≢false shut)
  open_block-has number bs ls (InLane line l) name shut is = absurd (true≢false shut)
  open_block-has number bs ls Nothing name shut is =
      if-has (IsListedDraft u) (list_any (λ (b : Block). bytes_eq name b.name) bs) _ _ (λ _. tt)
      (λ _. record {
        blocks = is.blocks;
        lanes = is.lanes;
        current = (All-nil (IsListed u), is.current);
      })

  end-has : (bs : List Block) (ls : List Lane) (o : Open) → IsListedDraft u (draft bs ls o)
      → IfOk (end_open bs ls o) (IsListedDraft u)
  end-has bs ls Nothing is = tt
  end-has bs ls (InBlock line b) is = record {
    blocks = All-push (IsListedBlock u) bs b is.blocks is.current.0;
    lanes = is.lanes;
    current = is.current.1;
  }
  end-has bs ls (InLane line l) is = record {
    blocks = is.blocks;
    lanes = lanes-push u ls [] l is.lanes is.current.0 is.current.1;
    current = is.current.2;
  }

  -- what is read, where each instruction can be listed
  abbrev pub IsListedReading : Reading → Type 0
  IsListedReading r = IsListedDraft u r.draft

  on_side-has : (s : Side) (r : Result Draft ℕ) → IfOk r (IsListedDraft u)
      → IfOk (r >>= on_side s) IsListedReading
  on_side-has s r has = then-has (IsListedDraft u) IsListedReading r (on_side s) has (λ d is. is)

  one-has : (r : Reading) (x : Instruction) (s : Side) → IsListedReading r → IsListed u x
      → IfOk (add_to_open r.draft.blocks r.draft.lanes r.draft.current (x ∷ []) >>= on_side s)
      IsListedReading
  one-has r x s is listed =
      on_side-has s _ (add-has r.draft.blocks r.draft.lanes r.draft.current (x ∷ []) is
      (All-cons (IsListed u) x [] listed (All-nil (IsListed u))))

  end_side-has : (r : Reading) (s : Side) → IsListedReading r
      → IfOk (take_end r.draft s) IsListedReading
  end_side-has r Outside is =
      on_side-has Outside _ (end-has r.draft.blocks r.draft.lanes r.draft.current is)
  end_side-has r (InFirst w) is = tt
  end_side-has r (InSecond w) is = one-has r EndWhen Outside is tt

  pub take-has : (number : ℕ) (r : Reading) (form : Form) → IsListedReading r → IsListedForm form
      → IfOk (take_form u number r form) IsListedReading
  unfolding take_form
  take-has number r (BlockForm name) is form =
      on_side-has Outside _ (if-has (IsListedDraft u) (is_open r.draft.current) _ _ (λ _. tt)
      (λ shut. open_block-has number r.draft.blocks r.draft.lanes r.draft.current name shut is))
  take-has number r (LaneForm name chroot budget) is form =
      on_side-has Outside _ (if-has (IsListedDraft u) (is_open r.draft.current) _ _ (λ _. tt)
      (λ shut. then-has (λ b. ((base u b).name ≡ chroot) × (known_base u chroot ≡ Ok b))
      (IsListedDraft u) (known_base u chroot) _ (base-known u chroot)
      (λ b known. open_lane-has number r.draft.blocks r.draft.lanes r.draft.current name chroot
      budget b shut is form known)))
  take-has number r EndForm is form = end_side-has r r.side is
  take-has number r (UseForm name) is form =
      if-has IsListedReading (is_open r.draft.current && is_outside r.side) _ _
      (λ _. on_side-has Outside _ (then-has (All (IsListed u)) (IsListedDraft u)
      (block_named r.draft.blocks name) _ (block-has r.draft.blocks name is.blocks)
      (λ xs are. add-has r.draft.blocks r.draft.lanes r.draft.current xs is are)))
      (λ _. tt)
  take-has number r (InstructionForm wording) is form =
      if-has IsListedReading (is_open r.draft.current && may_say r.side wording) _ _
      (λ _. then-has (IsListed u) IsListedReading (instruction_of u wording) _
      (instruction-has u wording form)
      (λ x listed. one-has r x (side_behind number r.side x) is listed))
      (λ _. tt)
