-- A plan that can be listed is the plan of its listing.
use Rattle.std.proofs.Common.{◌≡◌, ℕ, ◌+◌, ◌≤◌, Bool, true, false, not, List, [], ◌∷◌, ◌++◌, length, length-append, append_assoc, refl, sym, ap, subst, ◌∙◌, arith, Result, Ok, All, if◌then◌else◌}
use Rattle.std.proofs.lemmas.Bool.{lt-leb, le-ltb, false≢true}
use Rattle.std.proofs.lemmas.List.{append-nil}
use Rattle.std.proofs.lemmas.List.Concat.{flat_map-append}
use Rattle.std.proofs.lemmas.List.Elements.{All-head, All-tail}
use Rattle.std.specs.Fmt.{decimal}
use Rattle.std.specs.List.{list_all, flat_map}
use Rattle.std.specs.Prelude.{codes}
use Rattle.deb_stanza.specs.declared.error.TheConstants.{MOST_BYTES}
use Rattle.deb_text.proofs.AgainLaws.{is_inner, number-again, number-run, value-again, plain-again, spaced-again, spaced-line}
use Rattle.deb_text.proofs.CarriedLaws.{has-ok}
use Rattle.deb_text.proofs.LineLaws.{lines_kept-ends, lines_of-nil}
use Rattle.deb_text.specs.Common.{Line, is_skipped, plain_lines, steps, words, is_head, is_run, spaced}
use Rattle.deb_text.specs.declared.fault.Fault.{Fault}
use Rattle.farm_model.specs.Common.{base, Universe}
use Rattle.plan_reader.specs.declared.error.TheConstants.{MOST_LANES, MOST_INSTRUCTIONS}
use Rattle.plan_reader.specs.Drafts.{Nothing, InLane, Draft, Reading, unread, instructions_of, published, instruction_of, add_to_open, take_form}
use Rattle.plan_model.specs.Common.{published_by, Side, Outside, InFirst, InSecond, side_behind, may_stand, Lane, Plan, has_double}
use Rattle.plan_model.specs.declared.instructions.Instruction.{Instruction}
use Rattle.plan_model.specs.declared.instructions.Instruction.TheVariants.{Otherwise, EndWhen}
use Rattle.plan_reader.specs.Forms.{LaneForm, form_at}
use Rattle.plan_reader.specs.Listing.{instruction_text, margin, inside_behind, instruction_lines, lane_text, listing_of}
use Rattle.plan_reader.specs.PlanText.{take_text, take_line, reading_of, plan_in, plan_of}
use Rattle.plan_reader.proofs.BranchLaws.{kind, Leads, leads-next, outside-kind, IsWhole, IsSaid, instruction-said}
use Rattle.text_laws.proofs.Drafts.{IsListedLane, Fits, IsNext, AreLanes, IsListedPlan}
use Rattle.plan_reader.proofs.Doubles.{double-front}
use Rattle.plan_reader.proofs.DraftLaws.{instructions_of-push}
use Rattle.text_laws.proofs.WordLines.{IsLineOf, IsListed, line_of}
use Rattle.text_laws.proofs.Names.{word-run}

-- ---- instructions that fit

-- a part in front of instructions that fit
fits-front : (xs ys : List Instruction) → Fits (xs ++ ys) → Fits xs
fits-front xs ys fits = record {
  once = double-front (published xs) (published ys)
      (ap has_double (sym (flat_map-append published_by xs ys)) ∙ fits.once);
  few = omega (arith, fits.few, length-append xs ys);
}

-- ---- drafts of a listing, in which there is no block

abbrev between : List Lane → Reading
between lanes = record {
  draft = record { blocks = []; lanes = lanes; current = Nothing };
  side = Outside;
}

-- the lane with these instructions
abbrev with_done : Lane → List Instruction → Lane
with_done l done = record {
  name = l.name;
  base = l.base;
  budget = l.budget;
  instructions = done;
}

abbrev with_more : List Lane → ℕ → Lane → List Instruction → Draft
with_more lanes m l done =
    record { blocks = []; lanes = lanes; current = InLane m (with_done l done) }

abbrev in_lane : List Lane → ℕ → Lane → List Instruction → Side → Reading
in_lane lanes m l done s = record { draft = with_more lanes m l done; side = s }

steps-next : {S X F : Type 0} (f : S → X → Result S F) (s t : S) (x : X) (xs : List X)
    (total : Result S F) → f s x ≡ Ok t → steps f t xs ≡ total → steps f s (x ∷ xs) ≡ total
unfolding steps
steps-next f s t x xs total is next = rw is next

module _ (u : Universe) where
  -- one more line, whatever its number
  line-goes : (d t : Reading) (k : ℕ) (line rest text : List ℕ) (total : Result Reading Fault)
      → text ≡ line ++ 10 ∷ rest → list_all is_inner line ≡ true → is_skipped line ≡ false
      → take_line u d (k, line) ≡ Ok t
      → ((j : ℕ) → steps (take_line u) t (plain_lines j rest) ≡ total)
      → steps (take_line u) d (plain_lines k text) ≡ total
  line-goes d t k line rest text total cut inner kept taken next =
      ap (λ bytes. steps (take_line u) d (plain_lines k bytes)) cut
      ∙ ap (steps (take_line u) d) (plain-again k line rest inner kept)
      ∙ steps-next (take_line u) d t (k, line) (plain_lines (k + 1) rest) total taken (next (k + 1))

  -- ---- an instruction

  add-again : (lanes : List Lane) (m : ℕ) (l : Lane) (done : List Instruction) (x : Instruction)
      → Fits (instructions_of lanes ++ done ++ x ∷ [])
      → add_to_open [] lanes (InLane m (with_done l done)) (x ∷ [])
      ≡ Ok (with_more lanes m l (done ++ x ∷ []))
  add-again lanes m l done x fits =
      let all = instructions_of (lanes ++ with_done l done ∷ []) ++ x ∷ [] in
      let now : Fits all =
      subst (λ xs. Fits (xs ++ x ∷ [])) (sym (instructions_of-push lanes (with_done l done)))
      fits in
      rw (now.once, le-ltb MOST_INSTRUCTIONS (length all) now.few) refl

  -- the line of an instruction, less its end
  abbrev listed_line : Bool → Instruction → List ℕ
  listed_line inside x = margin inside x ++ instruction_text u x

  -- two more spaces
  indented : (x : Instruction) (line : List ℕ) → IsLineOf u x (codes "  " ++ line)
      → IsLineOf u x (codes "    " ++ line)
  unfolding form_at
  indented x line is = record {
    wording = is.wording;
    read = is.read;
    meant = is.meant;
    inner = is.inner;
    kept = is.kept;
  }

  indented-if : (inside : Bool) (x : Instruction) → IsLineOf u x (line_of u x)
      → IsLineOf u x ((if inside then codes "    " else codes "  ") ++ instruction_text u x)
  indented-if true x is = indented x (instruction_text u x) is
  indented-if false x is = is

  in-margin : (inside : Bool) (x : Instruction) → IsLineOf u x (line_of u x)
      → IsLineOf u x (listed_line inside x)
  in-margin inside Otherwise is = is
  in-margin inside EndWhen is = is
  in-margin inside _ is = indented-if inside _ is

  instruction-taken : (n : ℕ) (lanes : List Lane) (m : ℕ) (l : Lane) (done : List Instruction)
      (s : Side) (x : Instruction) (line : List ℕ) → IsLineOf u x line → may_stand s x ≡ true
      → Fits (instructions_of lanes ++ done ++ x ∷ [])
      → take_line u (in_lane lanes m l done s) (n, line)
      ≡ Ok (in_lane lanes m l (done ++ x ∷ []) (side_behind n s x))
  unfolding take_text take_form
  instruction-taken n lanes m l done s x line is may fits =
      let said = has-ok (IsSaid is.wording) (instruction_of u is.wording) x
      (instruction-said u is.wording) is.meant in
      rw (is.read, said s ∙ may, is.meant, add-again lanes m l done x fits) refl

  -- the `end` of a branch
  end-of-when : (n : ℕ) (lanes : List Lane) (m : ℕ) (l : Lane) (done : List Instruction)
      (s : Side) (inside : Bool) → may_stand s EndWhen ≡ true
      → Fits (instructions_of lanes ++ done ++ EndWhen ∷ [])
      → take_line u (in_lane lanes m l done s) (n, listed_line inside EndWhen)
      ≡ Ok (in_lane lanes m l (done ++ EndWhen ∷ []) Outside)
  unfolding take_text take_form form_at words instruction_text
  end-of-when n lanes m l done Outside inside may fits = absurd (false≢true may)
  end-of-when n lanes m l done (InFirst w) inside may fits = absurd (false≢true may)
  end-of-when n lanes m l done (InSecond w) inside may fits =
      rw (add-again lanes m l done EndWhen fits) refl

  -- one line of a listing
  pub record Goes (lanes : List Lane) (m : ℕ) (l : Lane) (n : ℕ) (done : List Instruction)
      (s : Side) (x : Instruction) (line : List ℕ) : Type 0 where
    pub inner : list_all is_inner line ≡ true
    pub kept : is_skipped line ≡ false
    pub taken : take_line u (in_lane lanes m l done s) (n, line)
        ≡ Ok (in_lane lanes m l (done ++ x ∷ []) (side_behind n s x))

  by-wording : (n : ℕ) (lanes : List Lane) (m : ℕ) (l : Lane) (done : List Instruction)
      (s : Side) (inside : Bool) (x : Instruction) → IsLineOf u x (line_of u x)
      → may_stand s x ≡ true → Fits (instructions_of lanes ++ done ++ x ∷ [])
      → Goes lanes m l n done s x (listed_line inside x)
  by-wording n lanes m l done s inside x listed may fits =
      let is = in-margin inside x listed in
      record {
        inner = is.inner;
        kept = is.kept;
        taken = instruction-taken n lanes m l done s x (listed_line inside x) is may fits;
      }

  listed-goes : (n : ℕ) (lanes : List Lane) (m : ℕ) (l : Lane) (done : List Instruction)
      (s : Side) (inside : Bool) (x : Instruction) → IsListed u x → may_stand s x ≡ true
      → Fits (instructions_of lanes ++ done ++ x ∷ [])
      → Goes lanes m l n done s x (listed_line inside x)
  unfolding instruction_text
  listed-goes n lanes m l done s inside EndWhen is may fits = record {
    inner = refl;
    kept = refl;
    taken = end-of-when n lanes m l done s inside may fits;
  }
  listed-goes n lanes m l done s inside _ is may fits =
      by-wording n lanes m l done s inside _ is may fits

  instructions-again : (total : Result Reading Fault) (lanes : List Lane) (m : ℕ) (l : Lane)
      (rest : List ℕ) (xs : List Instruction) (k : ℕ) (done : List Instruction) (s : Side)
      (inside : Bool) → All (IsListed u) xs → Leads (kind s) xs Outside
      → Fits (instructions_of lanes ++ done ++ xs)
      → ((j : ℕ) → steps (take_line u) (in_lane lanes m l (done ++ xs) Outside) (plain_lines j rest)
      ≡ total)
      → steps (take_line u) (in_lane lanes m l done s)
      (plain_lines k (instruction_lines u inside xs ++ rest)) ≡ total
  instructions-again total lanes m l rest [] k done s inside are leads fits next =
      rw (outside-kind s leads) (rw (append-nil done) at (next k))
  instructions-again total lanes m l rest (x ∷ xs) k done s inside are leads fits next =
      let lines = instruction_lines u (inside_behind inside x) xs in
      let line = listed_line inside x in
      let before = instructions_of lanes in
      let long : Fits ((before ++ done ++ x ∷ []) ++ xs) =
      subst Fits (sym (append_assoc (before ++ done) (x ∷ []) xs)) fits in
      let whole : Fits (before ++ (done ++ x ∷ []) ++ xs) =
      subst (λ ys. Fits (ys ++ xs)) (append_assoc before done (x ∷ [])) long in
      let both = leads-next k s Outside x xs leads in
      let is = listed-goes k lanes m l done s inside x (All-head (IsListed u) x xs are) both.0
      (fits-front (before ++ done ++ x ∷ []) xs long) in
      line-goes (in_lane lanes m l done s) (in_lane lanes m l (done ++ x ∷ []) (side_behind k s x))
      k line (lines ++ rest) (instruction_lines u inside (x ∷ xs) ++ rest) total
      (append_assoc (line ++ 10 ∷ []) lines rest ∙ append_assoc line (10 ∷ []) (lines ++ rest))
      is.inner is.kept is.taken
      (λ j. instructions-again total lanes m l rest xs j (done ++ x ∷ []) (side_behind k s x)
      (inside_behind inside x) (All-tail (IsListed u) x xs are) both.1 whole
      (λ i. subst
      (λ ys. steps (take_line u) (in_lane lanes m l ys Outside) (plain_lines i rest) ≡ total)
      (sym (append_assoc done (x ∷ []) xs)) (next i)))

  -- ---- a lane

  -- its first line, less its end
  abbrev head_of : Lane → List ℕ
  head_of l =
      codes "lane " ++ l.name ++ codes " chroot " ++ (base u l.base).name ++ codes " budget "
      ++ decimal l.budget

  abbrev head_words : Lane → List (List ℕ)
  head_words l =
      l.name ∷ codes "chroot" ∷ (base u l.base).name ∷ codes "budget" ∷ decimal l.budget ∷ []

  head-bytes : (name chroot budget : List ℕ)
      → codes "lane " ++ name ++ codes " chroot " ++ chroot ++ codes " budget " ++ budget
      ≡ codes "lane" ++ spaced (name ∷ codes "chroot" ∷ chroot ∷ codes "budget" ∷ budget ∷ [])
  head-bytes name chroot budget =
      let third = name ++ codes " chroot " ++ chroot in
      rw (
        append-nil budget,
        append_assoc third (codes " budget ") budget,
        append_assoc (name ++ codes " chroot ") chroot (codes " budget " ++ budget),
        append_assoc name (codes " chroot ") (chroot ++ (codes " budget " ++ budget)),
      ) refl

  words-are-runs : (l : Lane) → IsListedLane u l → list_all is_run (head_words l) ≡ true
  words-are-runs l is =
      rw (
        word-run l.name is.word,
        word-run (base u l.base).name is.base_word,
        number-run (decimal l.budget) (number-again l.budget is.budget),
      ) refl

  head-read : (l : Lane) → IsListedLane u l
      → form_at (head_of l) ≡ Ok (LaneForm l.name (base u l.base).name l.budget)
  unfolding form_at
  head-read l is =
      ap form_at (head-bytes l.name (base u l.base).name (decimal l.budget))
      ∙ rw (
        spaced-again (head_words l) (words-are-runs l is),
        is.word,
        is.base_word,
        number-again l.budget is.budget,
        value-again l.budget is.budget,
      ) refl

  head-inner : (l : Lane) → IsListedLane u l → list_all is_inner (head_of l) ≡ true
  head-inner l is =
      ap (list_all is_inner) (head-bytes l.name (base u l.base).name (decimal l.budget))
      ∙ spaced-line (head_words l) (words-are-runs l is)

  head-taken : (n : ℕ) (lanes : List Lane) (l : Lane) → IsListedLane u l → IsNext lanes l.name
      → take_line u (between lanes) (n, head_of l) ≡ Ok (in_lane lanes n l [] Outside)
  unfolding take_text take_form
  head-taken n lanes l is next =
      rw (
        head-read l is,
        is.base_known,
        next.fresh,
        lt-leb MOST_LANES (length lanes) next.room,
      ) refl

  end-taken : (n : ℕ) (lanes : List Lane) (m : ℕ) (l : Lane)
      → take_line u (in_lane lanes m l l.instructions Outside) (n, codes "end")
      ≡ Ok (between (lanes ++ l ∷ []))
  unfolding take_text take_form form_at words
  end-taken n lanes m l = refl

  -- the text of a lane, cut at its first line and before its last
  lane-bytes : (l : Lane) (rest : List ℕ)
      → lane_text u l ++ rest
      ≡ head_of l ++ 10 ∷ (instruction_lines u false l.instructions
      ++ (codes "end" ++ 10 ∷ rest))
  unfolding lane_text
  lane-bytes l rest =
      let body = instruction_lines u false l.instructions in
      append_assoc (head_of l ++ 10 ∷ [] ++ body) (codes "end\n") rest
      ∙ append_assoc (head_of l ++ 10 ∷ []) body (codes "end\n" ++ rest)
      ∙ append_assoc (head_of l) (10 ∷ []) (body ++ (codes "end\n" ++ rest))

  lane-again : (total : Result Reading Fault) (lanes : List Lane) (l : Lane) (rest : List ℕ) (k : ℕ)
      → IsListedLane u l → IsWhole l.instructions → IsNext lanes l.name
      → Fits (instructions_of lanes ++ l.instructions)
      → ((j : ℕ) → steps (take_line u) (between (lanes ++ l ∷ [])) (plain_lines j rest) ≡ total)
      → steps (take_line u) (between lanes) (plain_lines k (lane_text u l ++ rest)) ≡ total
  lane-again total lanes l rest k is branched next fits goes =
      let last = codes "end" ++ 10 ∷ rest in
      line-goes (between lanes) (in_lane lanes k l [] Outside) k (head_of l)
      (instruction_lines u false l.instructions ++ last) (lane_text u l ++ rest) total
      (lane-bytes l rest) (head-inner l is) refl (head-taken k lanes l is next)
      (λ j. instructions-again total lanes k l last l.instructions j [] Outside false
      is.instructions branched
      (subst (λ xs. Fits (xs ++ l.instructions)) (sym (append-nil (instructions_of lanes))) fits)
      (λ i. line-goes (in_lane lanes k l l.instructions Outside) (between (lanes ++ l ∷ [])) i
      (codes "end") rest last total refl refl refl (end-taken i lanes k l) goes))

  lanes-again : (ls lanes : List Lane) (k : ℕ) → AreLanes u lanes ls
      → All (λ (l : Lane). IsWhole l.instructions) ls
      → Fits (instructions_of lanes ++ instructions_of ls)
      → steps (take_line u) (between lanes) (plain_lines k (flat_map (lane_text u) ls))
      ≡ Ok (between (lanes ++ ls))
  unfolding steps
  lanes-again [] lanes k are whole fits =
      ap (steps (take_line u) (between lanes))
      (lines_kept-ends (λ line. not (is_skipped line)) k [] lines_of-nil)
      ∙ ap (λ ls. Ok (between ls)) (sym (append-nil lanes))
  lanes-again (l ∷ ls) lanes k are branched fits =
      let before = instructions_of lanes in
      let long : Fits ((before ++ l.instructions) ++ instructions_of ls) =
      subst Fits (sym (append_assoc before l.instructions (instructions_of ls))) fits in
      let whole : Fits (instructions_of (lanes ++ l ∷ []) ++ instructions_of ls) =
      subst (λ xs. Fits (xs ++ instructions_of ls)) (sym (instructions_of-push lanes l)) long in
      lane-again (Ok (between (lanes ++ l ∷ ls))) lanes l (flat_map (lane_text u) ls) k are.0
      (All-head (λ (l : Lane). IsWhole l.instructions) l ls branched) are.1
      (fits-front (before ++ l.instructions) (instructions_of ls) long)
      (λ j. lanes-again ls (lanes ++ l ∷ []) j are.2
      (All-tail (λ (l : Lane). IsWhole l.instructions) l ls branched) whole
      ∙ ap (λ xs. Ok (between xs)) (append_assoc lanes (l ∷ []) ls))

  -- ---- a text

  head-is : is_head (codes "plan") (codes "plan 1") ≡ true
  unfolding is_head words
  head-is = refl

  lines-again : (p : Plan) (ls : List Line)
      → steps (take_line u) unread ls ≡ Ok (between p)
      → plan_in u ((1, codes "plan 1") ∷ ls) ≡ Ok p
  unfolding reading_of
  lines-again p ls goes = rw (head-is, goes) refl

  pub listing-again : (p : Plan) → IsListedPlan u p
      → All (λ (l : Lane). IsWhole l.instructions) p → length (listing_of u p) ≤ MOST_BYTES
      → plan_of u (listing_of u p) ≡ Ok p
  unfolding plan_of listing_of
  listing-again p is branched within =
      let lanes = flat_map (lane_text u) p in
      rw (
        le-ltb MOST_BYTES (length (codes "plan 1" ++ 10 ∷ lanes)) within,
        plain-again 1 (codes "plan 1") lanes refl refl,
      )
      (lines-again p (plain_lines 2 lanes) (lanes-again p [] 2 is.lanes branched is.fits))
