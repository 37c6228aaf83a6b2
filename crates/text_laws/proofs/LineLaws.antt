-- The lines of a plan's text say its plan: what is read by lines goes along with what is read.
use Rattle.std.proofs.Common.{rules, ◌≡◌, ◌≤◌, ℕ, length, Bool, true, false, arith, List, [], ◌∷◌, ◌++◌, map, refl, ap, Option, Some, Ok, IfOk, not, ◌&&◌, fold, ◌∙◌, None, Result, Err, Contains}
use Rattle.std.specs.Prelude.{◌||◌, nat_le, nat_lt, codes, if◌then◌else◌}
use Rattle.std.specs.List.{AllZip, list_any}
use Rattle.std.specs.Str.{bytes_eq}
use Rattle.std.proofs.lemmas.Bool.{and_parts}
use Rattle.std.proofs.lemmas.List.{map-append, map-id}
use Rattle.std.proofs.lemmas.Simd.{map-map}
use Rattle.std.proofs.lemmas.List.Elements.{Contains-append_right}
use Rattle.deb_stanza.specs.declared.error.TheConstants.{MOST_BYTES}
use Rattle.deb_text.proofs.CarriedLaws.{if-has, then-has, placed-has, has-ok}
use Rattle.deb_text.specs.Common.{Line, plain_lines, ◌>>=◌, steps, is_head}
use Rattle.farm_model.specs.Universe.{Universe}
use Rattle.text_laws.specs.LinesSay.{Says, IsLane, IsSaidByForm, LinesSay}
use Rattle.plan_reader.proofs.DraftLaws.{within_limit-has}
use Rattle.plan_reader.specs.declared.error.TheConstants.{MOST_LANES, MOST_INSTRUCTIONS, FILE}
use Rattle.plan_reader.specs.declared.origin.Origin.{Origin}
use Rattle.plan_reader.specs.Drafts as plan
use Rattle.plan_reader.specs.Drafts.{BlockOf, block_named, instructions_of, is_open, known_base, published, published_once, within_limit, instruction_of, is_outside, known_name, known_recipe, may_say, on_side, put, set_of}
use Rattle.plan_reader.specs.Ends.{finished}
use Rattle.plan_reader.specs.Forms.{Wording, UnpackForm, ConfigureForm, DeconfigureForm, RemoveForm, BuildForm, PublishForm, WaitForm, WhenForm, ElseForm, Form, BlockForm, LaneForm, EndForm, UseForm, InstructionForm, form_at}
use Rattle.plan_reader.specs.PlanLines as lines
use Rattle.plan_reader.specs.PlanLines.{LineReading, from_line, or_no_lines}
use Rattle.plan_reader.specs.PlanText as text
use Rattle.plan_model.specs.Common.{Side, Outside, InFirst, InSecond, side_behind, second_of, Lane, Plan}
use Rattle.plan_model.specs.declared.instructions.Instruction.{Instruction}
use Rattle.plan_model.specs.declared.instructions.Instruction.TheVariants.{EndWhen}

zip-append : {X Y : Type 0} (R : X → Y → Type 0) (xs zs : List X) (ys ws : List Y)
    → AllZip R xs ys → AllZip R zs ws → AllZip R (xs ++ zs) (ys ++ ws)
zip-append R [] zs [] ws first second = second
zip-append R [] zs (y ∷ ys) ws first second = absurd first
zip-append R (x ∷ xs) zs [] ws first second = absurd first
zip-append R (x ∷ xs) zs (y ∷ ys) ws first second =
    (first.0, zip-append R xs zs ys ws first.1 second)

then-all : {A B F : Type 0} (P : B → Type 0) (r : Result A F) (f : A → Result B F)
    → ((x : A) → IfOk (f x) P) → IfOk (r >>= f) P
then-all P (Ok x) f has = has x
then-all P (Err e) f has = tt

module _ (u : Universe) (ls : List Line) where
  abbrev Lines : List ℕ → List Instruction → Type 0
  Lines ns xs = AllZip (Says u ls) ns xs

  abbrev IsBlock : BlockOf ℕ → plan.Block → Type 0
  IsBlock b c = (b.name ≡ c.name) × Lines b.body c.body

  -- what is open
  abbrev IsOpen : plan.Open → lines.Open → Type 0
  IsOpen plan.Nothing q = Unit {0}
  IsOpen (plan.InBlock line c) q =
      (ns : List ℕ) × (q ≡ lines.InBlock c.name ns) × Lines ns c.body
  IsOpen (plan.InLane line l) q =
      (head : ℕ) × (os : List Origin) × (q ≡ lines.InLane head os)
      × Lines (map (λ (o : Origin). o.line) os) l.instructions

  record IsDraft (d : plan.Draft) (s : LineReading) : Type 0 where
    pub blocks : AllZip IsBlock s.blocks d.blocks
    pub lanes : AllZip (IsLane u ls) s.lanes d.lanes
    pub current : IsOpen d.current s.current

  -- ---- blocks by name

  named : (cs : List (BlockOf ℕ)) (bs : List plan.Block) (name : List ℕ)
      → AllZip IsBlock cs bs
      → IfOk (block_named bs name) (λ xs. Lines (or_no_lines (block_named cs name)) xs)
  named [] [] name zip = tt
  named [] (b ∷ bs) name zip = absurd zip
  named (c ∷ cs) [] name zip = absurd zip
  named (c ∷ cs) (b ∷ bs) name zip =
      rw zip.0.0 (go (bytes_eq name b.name) (named cs bs name zip.1)) where
        go : (q : Bool)
            → IfOk (block_named bs name) (λ xs. Lines (or_no_lines (block_named cs name)) xs)
            → IfOk (if q then Ok b.body else block_named bs name)
            (λ xs. Lines (or_no_lines (if q then Ok c.body else block_named cs name)) xs)
        go true later = zip.0.1
        go false later = later

  -- ---- instructions come into what is open

  module _ (d : plan.Draft) (s : LineReading) (is : IsDraft d s) where
    module _ (used : Option ℕ) (new : List ℕ) (inside : Bool) (xs : List Instruction)
        (said : Lines new xs) where
      -- the lines have come into what was open
      abbrev next : lines.Open → LineReading
      next q = record s { current = lines.add_to q used new; inside = inside }

      added : (o : plan.Open) (q : lines.Open) → IsOpen o q
          → IfOk (plan.add_to_open d.blocks d.lanes o xs) (λ e. IsDraft e (next q))
      added plan.Nothing q opened = tt
      added (plan.InBlock line c) q opened =
          let ns = opened.0 in
          let all = c.body ++ xs in
          rw opened.1
          (then-has (λ ys. (ys ≡ all) × (length all ≤ MOST_INSTRUCTIONS))
          (λ e. IsDraft e (next (lines.InBlock c.name ns))) (within_limit all) _
          (within_limit-has all)
          (λ ys fits. record {
            blocks = is.blocks;
            lanes = is.lanes;
            current = (
              ns ++ new,
              refl,
              rw fits.0 (zip-append (Says u ls) ns new c.body xs opened.2 said),
            );
          }))
      added (plan.InLane line l) q opened =
          let all = instructions_of (d.lanes ++ l ∷ []) ++ xs in
          let Goal : plan.Draft → Type 0 =
          λ e. IsDraft e (next (lines.InLane opened.0 opened.1)) in
          rw opened.2
          (then-all Goal (published_once (published all)) _
          (λ _. then-all Goal (within_limit all) _ (λ _. record {
            blocks = is.blocks;
            lanes = is.lanes;
            current = (
              opened.0,
              opened.1 ++ map (from_line used) new,
              refl,
              rw (
                map-append (λ (o : Origin). o.line) opened.1 (map (from_line used) new),
                map-map (λ (o : Origin). o.line) (from_line used) new,
                map-id new,
              ) (zip-append (Says u ls) _ new l.instructions xs opened.3 said),
            );
          })))

      add-goes : IfOk (plan.add_to_open d.blocks d.lanes d.current xs)
          (λ e. IsDraft e (lines.add_lines used new inside s))
      add-goes = added d.current s.current is.current

    end-goes : (number : ℕ)
        → IfOk (plan.end_open d.blocks d.lanes d.current)
        (λ e. IsDraft e (lines.end_of s.current number s))
    end-goes number = go d.current s.current is.current where
      go : (o : plan.Open) (q : lines.Open) → IsOpen o q
          → IfOk (plan.end_open d.blocks d.lanes o) (λ e. IsDraft e (lines.end_of q number s))
      go plan.Nothing q opened = tt
      go (plan.InBlock line c) q opened =
          rw opened.1 (record {
            blocks = zip-append IsBlock s.blocks _ d.blocks _ is.blocks ((refl, opened.2), tt);
            lanes = is.lanes;
            current = tt;
          })
      go (plan.InLane line l) q opened =
          rw opened.2 (record {
            blocks = is.blocks;
            lanes = zip-append (IsLane u ls) s.lanes _ d.lanes _ is.lanes (opened.3, tt);
            current = tt;
          })

    -- ---- a block or a lane opens

    block-goes : (number : ℕ) (name : List ℕ)
        → IfOk (plan.take_block number d name)
        (λ e. IsDraft e (record s { current = lines.InBlock name []; inside = false }))
    block-goes number name =
        if-has _ (is_open d.current) _ _ (λ _. tt)
        (λ _. if-has _ (list_any (λ (b : plan.Block). bytes_eq name b.name) d.blocks) _ _
        (λ _. tt)
        (λ _. record { blocks = is.blocks; lanes = is.lanes; current = ([], refl, tt) }))

    lane-goes : (number : ℕ) (name chroot : List ℕ) (budget : ℕ)
        → IfOk (plan.take_lane u number d name chroot budget)
        (λ e. IsDraft e (record s { current = lines.InLane number []; inside = false }))
    lane-goes number name chroot budget =
        let Goal : plan.Draft → Type 0 =
        λ e. IsDraft e (record s { current = lines.InLane number []; inside = false }) in
        if-has Goal (is_open d.current) _ _ (λ _. tt)
        (λ _. then-all Goal (known_base u chroot) _
        (λ base. if-has Goal (list_any (λ (l : Lane). bytes_eq l.name name) d.lanes) _ _
        (λ _. tt)
        (λ _. if-has Goal (nat_le MOST_LANES (length d.lanes)) _ _ (λ _. tt)
        (λ _. record {
          blocks = is.blocks;
          lanes = is.lanes;
          current = (number, [], refl, tt);
        }))))

-- ---- line by line

-- the side behind an instruction is told by its wording
abbrev Sides : Wording → Instruction → Type 0
Sides w x =
    (number : ℕ) (t : Side)
    → (lines.opens_branches w || not (is_outside t)) ≡ not (is_outside (side_behind number t x))

second-side : (t : Side) → not (is_outside t) ≡ not (is_outside (second_of t))
second-side Outside = refl
second-side (InFirst w) = refl
second-side (InSecond w) = refl

finished-has : (P : Plan → Type 0) (p : List Lane) (o : plan.Open) (t : Side) → P p
    → IfOk (finished p o t) P
finished-has P p plan.Nothing t has = has
finished-has P p (plan.InBlock line b) t has = tt
finished-has P p (plan.InLane line l) t has = tt

module _ (u : Universe) where
  wording-sides : (w : Wording) → IfOk (instruction_of u w) (Sides w)
  unfolding instruction_of
  wording-sides (UnpackForm name relation) = search (rules, then-all)
  wording-sides (ConfigureForm ws) = search (rules, then-all)
  wording-sides (DeconfigureForm ws) = search (rules, then-all)
  wording-sides (RemoveForm ws) = search (rules, then-all)
  wording-sides (BuildForm word) = search (rules, then-all)
  wording-sides (PublishForm word) = search (rules, then-all)
  wording-sides (WaitForm entry) = λ number t. refl
  wording-sides (WhenForm name relation) = search (rules, then-all)
  wording-sides ElseForm = λ number t. second-side t

  module _ (ls : List Line) where
    abbrev IsReading : plan.Reading → LineReading → Type 0
    IsReading r s = IsDraft u ls r.draft s × (s.inside ≡ not (is_outside r.side))

    -- behind a line, the next one stands on this side
    side-goes : (t : Side) (s : LineReading) (r : Result plan.Draft ℕ)
        → s.inside ≡ not (is_outside t) → IfOk r (λ d. IsDraft u ls d s)
        → IfOk (r >>= on_side t) (λ e. IsReading e s)
    side-goes t s r inside has =
        then-has (λ d. IsDraft u ls d s) (λ e. IsReading e s) r (on_side t) has
        (λ d is. (is, inside))

    module _ (number : ℕ) (r : plan.Reading) (s : LineReading) (is : IsReading r s) where
      ends : (t : Side) (b : Bool) → b ≡ not (is_outside t) → s.inside ≡ b
          → Says u ls number EndWhen
          → IfOk (plan.take_end r.draft t) (λ e. IsReading e
          (if b then lines.add_lines None (number ∷ []) false s
          else lines.end_of s.current number s))
      ends Outside true side inside says = absurd cc
      ends Outside false side inside says =
          side-goes Outside (lines.end_of s.current number s) _ (still-inside s.current)
          (end-goes u ls r.draft s is.0 number)
        where
          still-inside : (q : lines.Open) → (lines.end_of q number s).inside ≡ false
          still-inside lines.Nothing = inside
          still-inside (lines.InBlock name ns) = inside
          still-inside (lines.InLane head os) = inside
      ends (InFirst w) b side inside says = tt
      ends (InSecond w) true side inside says =
          side-goes Outside (lines.add_lines None (number ∷ []) false s) _ refl
          (add-goes u ls r.draft s is.0 None (number ∷ []) false (EndWhen ∷ []) (says, tt))
      ends (InSecond w) false side inside says = absurd cc

      uses : (name : List ℕ)
          → IfOk (plan.take_use r name) (λ e. IsReading e
          (lines.add_lines (Some number) (or_no_lines (block_named s.blocks name)) s.inside s))
      uses name =
          let new = or_no_lines (block_named s.blocks name) in
          let next = lines.add_lines (Some number) new s.inside s in
          if-has (λ e. IsReading e next) (is_open r.draft.current && is_outside r.side) _ _
          (λ both. side-goes Outside next _
          (is.1 ∙ ap not (and_parts (is_open r.draft.current) (is_outside r.side) both).1)
          (then-has (λ xs. Lines u ls new xs) (λ d. IsDraft u ls d next)
          (block_named r.draft.blocks name) _
          (named u ls s.blocks r.draft.blocks name is.0.blocks)
          (add-goes u ls r.draft s is.0 (Some number) new s.inside)))
          (λ _. tt)

      instructs : (w : Wording)
          → ((x : Instruction) → instruction_of u w ≡ Ok x → Says u ls number x)
          → IfOk (plan.take_instruction u number r w) (λ e. IsReading e
          (lines.add_lines None (number ∷ []) (lines.opens_branches w || s.inside) s))
      instructs w says =
          if-has _ (is_open r.draft.current && may_say r.side w) _ _
          (λ _. go (instruction_of u w) refl (wording-sides w)) (λ _. tt)
        where
          inside : Bool
          inside = lines.opens_branches w || s.inside

          go : (x : Result Instruction ℕ) → instruction_of u w ≡ x → IfOk x (Sides w)
              → IfOk (x >>= put number r)
              (λ e. IsReading e (lines.add_lines None (number ∷ []) inside s))
          go (Err code) at sides = tt
          go (Ok x) at sides =
              side-goes (side_behind number r.side x)
              (lines.add_lines None (number ∷ []) inside s) _
              (ap (λ b. lines.opens_branches w || b) is.1 ∙ sides number r.side)
              (add-goes u ls r.draft s is.0 None (number ∷ []) inside (x ∷ []) (says x at, tt))

      form-goes : (form : Form)
          → ((x : Instruction) → IsSaidByForm u (Ok form) x → Says u ls number x)
          → IfOk (plan.take_form u number r form)
          (λ e. IsReading e (lines.take_kind number (lines.kind_of form) s))
      unfolding plan.take_form lines.take_kind
      form-goes (BlockForm name) says =
          side-goes Outside (record s { current = lines.InBlock name []; inside = false }) _ refl
          (block-goes u ls r.draft s is.0 number name)
      form-goes (LaneForm name chroot budget) says =
          side-goes Outside (record s { current = lines.InLane number []; inside = false }) _ refl
          (lane-goes u ls r.draft s is.0 number name chroot budget)
      form-goes EndForm says = ends r.side s.inside is.1 refl (says EndWhen refl)
      form-goes (UseForm name) says = uses name
      form-goes (InstructionForm w) says = instructs w says

    line-goes : (line : Line) (r : plan.Reading) (s : LineReading) → IsReading r s
        → Contains ls line
        → IfOk (text.take_line u r line) (λ e. IsReading e (lines.reading_with s line))
    unfolding text.take_text
    line-goes (number, line) r s is there =
        placed-has (λ e. IsReading e (lines.reading_with s (number, line))) FILE number
        (form_at line >>= plan.take_form u number r)
        (go (form_at line) refl)
      where
        go : (read : Result Form ℕ) → form_at line ≡ read
            → IfOk (read >>= plan.take_form u number r)
            (λ e. IsReading e (lines.take_read number read s))
        go (Err code) at = tt
        go (Ok form) at =
            form-goes number r s is form
            (λ x said. record { line = line; stands = there; said = rw at said })

    steps-go : (xs : List Line) (r : plan.Reading) (s : LineReading)
        → ((x : Line) → Contains xs x → Contains ls x) → IsReading r s
        → IfOk (steps (text.take_line u) r xs) (λ e. IsReading e (fold lines.reading_with s xs))
    unfolding steps
    steps-go [] r s there is = is
    steps-go (x ∷ xs) r s there is =
        then-has (λ e. IsReading e (lines.reading_with s x))
        (λ e. IsReading e (fold lines.reading_with (lines.reading_with s x) xs))
        (text.take_line u r x) _ (line-goes x r s is (there x (0, omega arith, refl)))
        (λ t good. steps-go xs t (lines.reading_with s x)
        (λ y stands. there y (Contains-append_right (x ∷ []) xs y stands)) good)

  plan-says : (ls : List Line)
      → IfOk (text.plan_in u ls) (λ p. AllZip (IsLane u ls) (lines.lines_in ls).lanes p)
  unfolding text.reading_of
  plan-says [] = tt
  plan-says ((number, line) ∷ ls) =
      let all : List Line = (number, line) ∷ ls in
      let said = fold lines.reading_with lines.no_lines_read ls in
      let Goal : Plan → Type 0 = λ p. AllZip (IsLane u all) said.lanes p in
      if-has Goal (is_head (codes "plan") line) _ _
      (λ _. then-has (λ e. IsReading all e said) Goal (steps (text.take_line u) plan.unread ls)
      text.end_of
      (steps-go all ls plan.unread lines.no_lines_read
      (Contains-append_right ((number, line) ∷ []) ls)
      (record { blocks = tt; lanes = tt; current = tt }, refl))
      (λ e is. finished-has Goal e.draft.lanes e.draft.current e.side is.0.lanes))
      (λ _. tt)

pub lines_say : LinesSay
unfolding text.plan_of lines.lines_of
lines_say u bytes p is = go (nat_lt MOST_BYTES (length bytes)) refl where
  go : (b : Bool) → nat_lt MOST_BYTES (length bytes) ≡ b
      → AllZip (IsLane u (plain_lines 1 bytes)) (lines.lines_of bytes).lanes p
  go true long = let no = rw long at is in absurd cc
  go false short =
      has-ok (λ q. AllZip (IsLane u (plain_lines 1 bytes)) (lines.lines_of bytes).lanes q)
      (text.plan_in u (plain_lines 1 bytes)) p (plan-says u (plain_lines 1 bytes))
      (rw short at is)
