-- From which lines the instructions of a plan come, line by line.
use Rattle.std.proofs.Common.{◌≡◌, ℕ, zero, suc, ◌+◌, ◌<◌, ◌≤◌, Bool, true, false, List, [], ◌∷◌, ◌++◌, length, drop, fold, get_or, Result, Ok, Err, refl, sym, ap, ◌∙◌, arith}
use Rattle.std.specs.Prelude.{nat_lt, slice_index_or, if◌then◌else◌}
use Rattle.std.proofs.lemmas.List.{drop_all}
use Rattle.deb_stanza.specs.declared.error.TheConstants.{TEXT_TOO_LONG, MOST_BYTES}
use Rattle.deb_stanza.specs.Plain.{plain_lines_at}
use Rattle.deb_text.specs.Common.{fault_at, Line, plain_lines, ◌>>=◌}
use Rattle.farm_model.specs.Universe.{Universe}
use Rattle.farm_universe.specs.Told.{in_file}
use Rattle.plan_reader.specs.BlockTable.{BlockList, write}
use Rattle.plan_reader.specs.declared.error.TheConstants.{MOST_INSTRUCTIONS, OVER_LIMIT}
use Rattle.plan_reader.specs.Forms.{Wording, UnpackForm, ConfigureForm, DeconfigureForm, RemoveForm, BuildForm, PublishForm, WaitForm, WhenForm, ElseForm, Form, BlockForm, LaneForm, EndForm, UseForm, InstructionForm, form_at}
use Rattle.plan_reader.specs.LineView.{kind_said, opens}
use Rattle.plan_reader.specs.PlanLines.{LineReading, Says, kind_of, opens_branches, lines_in, lines_of, no_lines_read, reading_with, take_kind, take_read}
use Rattle.plan_reader.specs.Said.{Said, said_at, said_by, standing_of}

-- what a line does is told by what it says
opens-same : (wording : Wording) → opens (standing_of wording) ≡ opens_branches wording
opens-same (UnpackForm name relation) = refl
opens-same (ConfigureForm names) = refl
opens-same (DeconfigureForm names) = refl
opens-same (RemoveForm names) = refl
opens-same (BuildForm recipe) = refl
opens-same (PublishForm recipe) = refl
opens-same (WaitForm entry) = refl
opens-same (WhenForm name relation) = refl
opens-same ElseForm = refl

kind-said : (u : Universe) (form : Form) → kind_said (said_by u form) ≡ kind_of form
kind-said u (BlockForm name) = refl
kind-said u (LaneForm name chroot budget) = refl
kind-said u EndForm = refl
kind-said u (UseForm block) = refl
kind-said u (InstructionForm wording) = ap Says (opens-same wording)

pub traced : (u : Universe) (number : ℕ) (s : LineReading) (line : List ℕ) (said : Said)
    → said_at u line ≡ Ok said
    → reading_with s (number, line) ≡ take_kind number (kind_said said) s
unfolding said_at
traced u number s line said is = by (form_at line) is
  where
    by : (f : Result Form ℕ) → (f >>= λ form. Ok (said_by u form)) ≡ Ok said
        → take_read number f s ≡ take_kind number (kind_said said) s
    by (Ok form) is =
        let same : said_by u form ≡ said = cc in
        ap (λ k. take_kind number k s) (sym (kind-said u form) ∙ ap kind_said same)
    by (Err code) is = absurd cc

-- steps that come into the open block stand behind the others
pub written-is : {X : Type 0} (blocks next : BlockList X) (xs : List X)
    → write blocks xs ≡ Ok next
    → next ≡ record { ended = blocks.ended; written = blocks.written ++ xs }
written-is {X} blocks next xs is = by (nat_lt MOST_INSTRUCTIONS (length all)) is
  where
    all : List X
    all = blocks.written ++ xs

    with_all : List X → Result (BlockList X) ℕ
    with_all ys = Ok (record { ended = blocks.ended; written = ys })

    by : (b : Bool) → ((if b then Err OVER_LIMIT else Ok all) >>= with_all) ≡ Ok next
        → next ≡ record { ended = blocks.ended; written = all }
    by true is = absurd cc
    by false is = cc

-- one more line of a list
pub fold-goes : {S X : Type 0} (f : S → X → S) (xs : List X) (i : ℕ) (d : X) (s t : S)
    → i < length xs → t ≡ f s (get_or xs i d) → fold f t (drop (i + 1) xs) ≡ fold f s (drop i xs)
fold-goes f [] i d s t lt is = absurd (omega (arith, lt))
fold-goes f (x ∷ xs) zero d s t lt is = ap (λ r. fold f r xs) is
fold-goes f (x ∷ xs) (suc i) d s t lt is =
    let more : suc i + 1 ≡ suc (i + 1) = omega arith in
    rw more (fold-goes f xs i d s t (omega (arith, lt)) is)

-- behind the last one
pub fold-ends : {S X : Type 0} (f : S → X → S) (xs : List X) (i : ℕ) (s : S) → length xs ≤ i
    → fold f s (drop i xs) ≡ s
fold-ends f xs i s le = rw (drop_all i xs le) refl

pub lines-there : (ls : List Line) → 0 < length ls → lines_in ls ≡ record {
  first = (slice_index_or ls 0 (0, [])).0;
  lanes = (fold reading_with no_lines_read (drop 1 ls)).lanes;
}
lines-there [] lt = absurd (omega (arith, lt))
lines-there (line ∷ ls) lt = refl

pub lines-of : (file : ℕ) (text : List ℕ) (ls : List Line)
    → in_file file (plain_lines_at text) ≡ Ok ls → lines_in ls ≡ lines_of text
unfolding lines_of
lines-of file text ls is = by (nat_lt MOST_BYTES (length text)) is
  where
    by : (b : Bool)
        → in_file file (if b then Err (fault_at 0 0 TEXT_TOO_LONG) else Ok (plain_lines 1 text))
        ≡ Ok ls
        → lines_in ls ≡ lines_of text
    by true is = absurd cc
    by false is = let same : plain_lines 1 text ≡ ls = cc in ap lines_in (sym same)
