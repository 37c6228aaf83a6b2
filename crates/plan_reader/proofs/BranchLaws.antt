-- What is read keeps branches whole, up to the open one.
use Rattle.std.proofs.Common.{◌≡◌, ◌≤◌, ℕ, zero, suc, true, ◌&&◌, List, [], ◌∷◌, ◌++◌, length, drop, refl, sym, ap, subst, ◌∙◌, Option, Some, None, Result, IfOk, All, arith}
use Rattle.std.specs.Prelude.{slice_get, nat_le}
use Rattle.std.specs.List.{list_any}
use Rattle.std.specs.Str.{bytes_eq}
use Rattle.std.proofs.lemmas.Bool.{and_parts, false≢true}
use Rattle.std.proofs.lemmas.List.{drop_all}
use Rattle.std.proofs.lemmas.List.Elements.{All-nil, All-push}
use Rattle.deb_text.specs.Steps.{◌>>=◌}
use Rattle.deb_text.proofs.CarriedLaws.{if-has, then-has, always}
use Rattle.farm_model.specs.Universe.{Universe}
use Rattle.plan_reader.specs.declared.error.TheConstants.{MOST_LANES, MOST_INSTRUCTIONS}
use Rattle.plan_reader.specs.Drafts.{Block, Open, Nothing, InBlock, InLane, Draft, Reading, unread, is_open, block_named, instructions_of, published, known_name, known_base, known_recipe, set_of, instruction_of, end_open, published_once, within_limit, add_to_open, add_use, is_outside, may_say, on_side, take_block, take_lane, take_end, take_form}
use Rattle.plan_reader.specs.Forms.{Wording, UnpackForm, ConfigureForm, DeconfigureForm, RemoveForm, BuildForm, PublishForm, WaitForm, WhenForm, ElseForm, Form, BlockForm, LaneForm, EndForm, UseForm, InstructionForm}
use Rattle.plan_model.specs.Common.{Side, Outside, InFirst, InSecond, second_of, side_behind, side_behind_some, side_at, may_stand, IsBranched, Lane}
use Rattle.plan_model.specs.declared.instructions.Instruction.{Instruction}
use Rattle.plan_model.specs.declared.instructions.Instruction.TheVariants.{Unpack, Configure, Deconfigure, Remove, Build, Publish, Wait, When, Otherwise, EndWhen}
use Rattle.plan_reader.proofs.DraftLaws.{block_named-has, within_limit-has}

-- a side, whatever the place of its `when`
abbrev pub kind : Side → Side
kind Outside = Outside
kind (InFirst w) = InFirst 0
kind (InSecond w) = InSecond 0

-- from the one side on these instructions may stand, and behind them is the other
abbrev pub Leads : Side → List Instruction → Side → Type 0
Leads s [] t = s ≡ t
Leads s (x ∷ xs) t = (may_stand s x ≡ true) × Leads (side_behind 0 s x) xs t

pub leads-more : (s t r : Side) (xs ys : List Instruction) → Leads s xs t → Leads t ys r
    → Leads s (xs ++ ys) r
leads-more s t r [] ys first then = subst (λ q. Leads q ys r) (sym first) then
leads-more s t r (x ∷ xs) ys first then =
    (first.0, leads-more (side_behind 0 s x) t r xs ys first.1 then)

stands-kind : (s : Side) (x : Instruction) → may_stand (kind s) x ≡ may_stand s x
stands-kind Outside x = refl
stands-kind (InFirst w) (Publish r) = refl
stands-kind (InFirst w) (Wait e) = refl
stands-kind (InFirst w) (When name wanted) = refl
stands-kind (InFirst w) EndWhen = refl
stands-kind (InFirst w) _ = refl
stands-kind (InSecond w) (Publish r) = refl
stands-kind (InSecond w) (Wait e) = refl
stands-kind (InSecond w) (When name wanted) = refl
stands-kind (InSecond w) Otherwise = refl
stands-kind (InSecond w) _ = refl

second-kind : (s : Side) → kind (second_of s) ≡ second_of (kind s)
second-kind Outside = refl
second-kind (InFirst w) = refl
second-kind (InSecond w) = refl

behind-kind : (k : ℕ) (s : Side) (x : Instruction)
    → kind (side_behind k s x) ≡ side_behind 0 (kind s) x
behind-kind k s (When name wanted) = refl
behind-kind k s Otherwise = second-kind s
behind-kind k s EndWhen = refl
behind-kind k s _ = refl

pub outside-kind : (s : Side) → kind s ≡ Outside → s ≡ Outside
outside-kind Outside is = refl
outside-kind (InFirst w) is = absurd cc
outside-kind (InSecond w) is = absurd cc

-- the first of some instructions, at a side whatever its place
pub leads-next : (k : ℕ) (s t : Side) (x : Instruction) (xs : List Instruction)
    → Leads (kind s) (x ∷ xs) t
    → (may_stand s x ≡ true) × Leads (kind (side_behind k s x)) xs t
leads-next k s t x xs leads = (
  sym (stands-kind s x) ∙ leads.0,
  subst (λ q. Leads q xs t) (sym (behind-kind k s x)) leads.1,
)

-- one instruction that may stand
pub leads-one : (number : ℕ) (s : Side) (x : Instruction) → may_stand s x ≡ true
    → Leads (kind s) (x ∷ []) (kind (side_behind number s x))
leads-one number s x may = (stands-kind s x ∙ may, sym (behind-kind number s x))

-- ---- whole branches are branches by place

-- the instruction at a place and those behind it
pub drop-some : (xs : List Instruction) (i : ℕ) (x : Instruction) → slice_get xs i ≡ Some x
    → drop i xs ≡ x ∷ drop (suc i) xs
drop-some [] i x is = absurd cc
drop-some (y ∷ ys) zero x is = let same : y ≡ x = cc in ap (λ z. z ∷ ys) same
drop-some (y ∷ ys) (suc i) x is = drop-some ys i x is

drop-none : (xs : List Instruction) (i : ℕ) → slice_get xs i ≡ None
    → (drop i xs ≡ []) × (drop (suc i) xs ≡ [])
drop-none [] zero is = (refl, refl)
drop-none [] (suc i) is = (refl, refl)
drop-none (y ∷ ys) zero is = absurd cc
drop-none (y ∷ ys) (suc i) is = drop-none ys i is

module _ (xs : List Instruction) (whole : Leads Outside xs Outside) where
  one-more : (k : ℕ) (o : Option Instruction) → slice_get xs k ≡ o
      → Leads (kind (side_at xs k)) (drop k xs) Outside
      → Leads (kind (side_behind_some k (side_at xs k) o)) (drop (suc k) xs) Outside
  one-more k None is leads =
      let both = drop-none xs k is in
      subst (λ ys. Leads (kind (side_at xs k)) ys Outside) (both.0 ∙ sym both.1) leads
  one-more k (Some x) is leads =
      let s = side_at xs k in
      let cut = subst (λ ys. Leads (kind s) ys Outside) (drop-some xs k x is) leads in
      (leads-next k s Outside x (drop (suc k) xs) cut).1

  from-place : (k : ℕ) → Leads (kind (side_at xs k)) (drop k xs) Outside
  from-place zero = whole
  from-place (suc k) = one-more k (slice_get xs k) refl (from-place k)

  pub leads-branched : IsBranched xs
  leads-branched = record {
    stands = λ k x is.
        let s = side_at xs k in
        let cut = subst (λ ys. Leads (kind s) ys Outside) (drop-some xs k x is) (from-place k) in
        (leads-next k s Outside x (drop (suc k) xs) cut).0;
    closed = outside-kind (side_at xs (length xs))
        (subst (λ ys. Leads (kind (side_at xs (length xs))) ys Outside)
        (drop_all (length xs) xs (omega arith)) (from-place (length xs)));
  }

-- ---- drafts

abbrev pub IsWhole : List Instruction → Type 0
IsWhole xs = Leads Outside xs Outside

-- the instructions of what is open come to this side
abbrev pub IsBegun : Side → Open → Type 0
IsBegun s Nothing = Unit {0}
IsBegun s (InBlock line b) = Leads Outside b.body (kind s)
IsBegun s (InLane line l) = Leads Outside l.instructions (kind s)

pub record AreWhole (d : Draft) (s : Side) : Type 0 where
  pub blocks : All (λ (b : Block). IsWhole b.body) d.blocks
  pub lanes : All (λ (l : Lane). IsWhole l.instructions) d.lanes
  pub current : IsBegun s d.current

abbrev pub IsWholeReading : Reading → Type 0
IsWholeReading r = AreWhole r.draft r.side

pub unread-whole : IsWholeReading unread
unread-whole = record {
  blocks = All-nil (λ (b : Block). IsWhole b.body);
  lanes = All-nil (λ (l : Lane). IsWhole l.instructions);
  current = tt;
}

abbrev draft : List Block → List Lane → Open → Draft
draft bs ls o = record { blocks = bs; lanes = ls; current = o }

-- instructions that lead from the one side to the other
add-whole : (bs : List Block) (ls : List Lane) (o : Open) (xs : List Instruction) (s t : Side)
    → AreWhole (draft bs ls o) s → Leads (kind s) xs (kind t)
    → IfOk (add_to_open bs ls o xs) (λ d. AreWhole d t)
add-whole bs ls Nothing xs s t kept leads = tt
add-whole bs ls (InBlock line b) xs s t kept leads =
    let all = b.body ++ xs in
    then-has (λ ys. (ys ≡ all) × (length all ≤ MOST_INSTRUCTIONS)) (λ d. AreWhole d t)
    (within_limit all) _ (within_limit-has all)
    (λ ys is. record {
      blocks = kept.blocks;
      lanes = kept.lanes;
      current = subst (λ zs. Leads Outside zs (kind t)) (sym is.0)
          (leads-more Outside (kind s) (kind t) b.body xs kept.current leads);
    })
add-whole bs ls (InLane line l) xs s t kept leads =
    let all = instructions_of (ls ++ l ∷ []) ++ xs in
    then-has (λ _. Unit {0}) (λ d. AreWhole d t) (published_once (published all)) _
    (always (published_once (published all)))
    (λ _ _. then-has (λ _. Unit {0}) (λ d. AreWhole d t) (within_limit all) _
    (always (within_limit all))
    (λ _ _. record {
      blocks = kept.blocks;
      lanes = kept.lanes;
      current = leads-more Outside (kind s) (kind t) l.instructions xs kept.current leads;
    }))

on-side : (s : Side) (r : Result Draft ℕ) → IfOk r (λ d. AreWhole d s)
    → IfOk (r >>= on_side s) IsWholeReading
on-side s r has = then-has (λ d. AreWhole d s) IsWholeReading r (on_side s) has (λ d is. is)

end-open : (bs : List Block) (ls : List Lane) (o : Open) → AreWhole (draft bs ls o) Outside
    → IfOk (end_open bs ls o) (λ d. AreWhole d Outside)
end-open bs ls Nothing kept = tt
end-open bs ls (InBlock line b) kept = record {
  blocks = All-push (λ (b : Block). IsWhole b.body) bs b kept.blocks kept.current;
  lanes = kept.lanes;
  current = tt;
}
end-open bs ls (InLane line l) kept = record {
  blocks = kept.blocks;
  lanes = All-push (λ (l : Lane). IsWhole l.instructions) ls l kept.lanes kept.current;
  current = tt;
}

end-whole : (d : Draft) (s : Side) → AreWhole d s → IfOk (take_end d s) IsWholeReading
end-whole d Outside kept = on-side Outside _ (end-open d.blocks d.lanes d.current kept)
end-whole d (InFirst w) kept = tt
end-whole d (InSecond w) kept =
    on-side Outside _ (add-whole d.blocks d.lanes d.current (EndWhen ∷ []) (InSecond w) Outside kept
    (refl, refl))

outside-is : (s : Side) → is_outside s ≡ true → s ≡ Outside
outside-is Outside is = refl
outside-is (InFirst w) is = absurd (false≢true is)
outside-is (InSecond w) is = absurd (false≢true is)

-- ---- what a line says may stand where its instruction may

on-sides : (P : Side → Type 0) → P Outside → ((w : ℕ) → P (InFirst w)) → ((w : ℕ) → P (InSecond w))
    → (s : Side) → P s
on-sides P outside first second Outside = outside
on-sides P outside first second (InFirst w) = first w
on-sides P outside first second (InSecond w) = second w

abbrev pub IsSaid : Wording → Instruction → Type 0
IsSaid wording x = (s : Side) → may_say s wording ≡ may_stand s x

module _ (wording : Wording) (x : Instruction)
    (outside : may_say Outside wording ≡ may_stand Outside x)
    (first : (w : ℕ) → may_say (InFirst w) wording ≡ may_stand (InFirst w) x)
    (second : (w : ℕ) → may_say (InSecond w) wording ≡ may_stand (InSecond w) x) where
  pub said : IsSaid wording x
  said = on-sides (λ s. may_say s wording ≡ may_stand s x) outside first second

module _ (u : Universe) where
  pub instruction-said : (wording : Wording) → IfOk (instruction_of u wording) (IsSaid wording)
  unfolding instruction_of
  instruction-said (UnpackForm name relation) =
      then-has (λ _. Unit {0}) (IsSaid (UnpackForm name relation)) (known_name u name) _
      (always (known_name u name))
      (λ n _. said (UnpackForm name relation) (Unpack n relation) refl (λ w. refl) (λ w. refl))
  instruction-said (ConfigureForm ws) =
      then-has (λ _. Unit {0}) (IsSaid (ConfigureForm ws)) (set_of u ws) _ (always (set_of u ws))
      (λ ns _. said (ConfigureForm ws) (Configure ns) refl (λ w. refl) (λ w. refl))
  instruction-said (DeconfigureForm ws) =
      then-has (λ _. Unit {0}) (IsSaid (DeconfigureForm ws)) (set_of u ws) _ (always (set_of u ws))
      (λ ns _. said (DeconfigureForm ws) (Deconfigure ns) refl (λ w. refl) (λ w. refl))
  instruction-said (RemoveForm ws) =
      then-has (λ _. Unit {0}) (IsSaid (RemoveForm ws)) (set_of u ws) _ (always (set_of u ws))
      (λ ns _. said (RemoveForm ws) (Remove ns) refl (λ w. refl) (λ w. refl))
  instruction-said (BuildForm word) =
      then-has (λ _. Unit {0}) (IsSaid (BuildForm word)) (known_recipe u word) _
      (always (known_recipe u word))
      (λ r _. said (BuildForm word) (Build r) refl (λ w. refl) (λ w. refl))
  instruction-said (PublishForm word) =
      then-has (λ _. Unit {0}) (IsSaid (PublishForm word)) (known_recipe u word) _
      (always (known_recipe u word))
      (λ r _. said (PublishForm word) (Publish r) refl (λ w. refl) (λ w. refl))
  instruction-said (WaitForm entry) = said (WaitForm entry) (Wait _) refl (λ w. refl) (λ w. refl)
  instruction-said (WhenForm name relation) =
      then-has (λ _. Unit {0}) (IsSaid (WhenForm name relation)) (known_name u name) _
      (always (known_name u name))
      (λ n _. said (WhenForm name relation) (When n relation) refl (λ w. refl) (λ w. refl))
  instruction-said ElseForm = said ElseForm Otherwise refl (λ w. refl) (λ w. refl)

  -- ---- lines

  open-block : (number : ℕ) (d : Draft) (name : List ℕ) (s : Side) → AreWhole d s
      → IfOk (take_block number d name) (λ e. AreWhole e Outside)
  open-block number d name s kept =
      if-has (λ e. AreWhole e Outside) (is_open d.current) _ _ (λ _. tt)
      (λ _. if-has (λ e. AreWhole e Outside)
      (list_any (λ (b : Block). bytes_eq name b.name) d.blocks) _ _ (λ _. tt)
      (λ _. record { blocks = kept.blocks; lanes = kept.lanes; current = refl }))

  open-lane : (number : ℕ) (d : Draft) (name chroot : List ℕ) (budget : ℕ) (s : Side)
      → AreWhole d s → IfOk (take_lane u number d name chroot budget) (λ e. AreWhole e Outside)
  open-lane number d name chroot budget s kept =
      if-has (λ e. AreWhole e Outside) (is_open d.current) _ _ (λ _. tt)
      (λ _. then-has (λ _. Unit {0}) (λ e. AreWhole e Outside) (known_base u chroot) _
      (always (known_base u chroot))
      (λ base _. if-has (λ e. AreWhole e Outside)
      (list_any (λ (l : Lane). bytes_eq l.name name) d.lanes) _ _ (λ _. tt)
      (λ _. if-has (λ e. AreWhole e Outside) (nat_le MOST_LANES (length d.lanes)) _ _ (λ _. tt)
      (λ _. record { blocks = kept.blocks; lanes = kept.lanes; current = refl }))))

  use-whole : (d : Draft) (name : List ℕ) (s : Side) → s ≡ Outside → AreWhole d s
      → IfOk (add_use d.blocks d.lanes d.current name) (λ e. AreWhole e Outside)
  use-whole d name s out kept =
      then-has IsWhole (λ e. AreWhole e Outside) (block_named d.blocks name) _
      (block_named-has IsWhole d.blocks name kept.blocks)
      (λ xs whole. add-whole d.blocks d.lanes d.current xs Outside Outside
      (subst (AreWhole d) out kept) whole)

  pub take-whole : (number : ℕ) (r : Reading) (form : Form) → IsWholeReading r → Unit {0}
      → IfOk (take_form u number r form) IsWholeReading
  unfolding take_form
  take-whole number r (BlockForm name) kept _ =
      on-side Outside _ (open-block number r.draft name r.side kept)
  take-whole number r (LaneForm name chroot budget) kept _ =
      on-side Outside _ (open-lane number r.draft name chroot budget r.side kept)
  take-whole number r EndForm kept _ = end-whole r.draft r.side kept
  take-whole number r (UseForm name) kept _ =
      if-has IsWholeReading (is_open r.draft.current && is_outside r.side) _ _
      (λ both. on-side Outside _ (use-whole r.draft name r.side
      (outside-is r.side (and_parts (is_open r.draft.current) (is_outside r.side) both).1) kept))
      (λ _. tt)
  take-whole number r (InstructionForm wording) kept _ =
      if-has IsWholeReading (is_open r.draft.current && may_say r.side wording) _ _
      (λ both. then-has (IsSaid wording) IsWholeReading (instruction_of u wording) _
      (instruction-said wording)
      (λ x is. let may = and_parts (is_open r.draft.current) (may_say r.side wording) both in
      on-side (side_behind number r.side x) _
      (add-whole r.draft.blocks r.draft.lanes r.draft.current (x ∷ []) r.side
      (side_behind number r.side x) kept
      (leads-one number r.side x (sym (is r.side) ∙ may.1)))))
      (λ _. tt)
