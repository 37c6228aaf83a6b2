-- What a life keeps along a journal.
use Rattle.std.proofs.Common.{◌≡◌, refl, sym, ap, ◌∙◌, subst, arith, ℕ, zero, suc, ◌-◌, Bool, true, false, ◌&&◌, ◌==◌, nat_lt, List, [], ◌∷◌, ◌++◌, length, replicate, Option, Some, None, slice_set}
use Rattle.std.specs.Prelude.{slice_index_or, is_none, Result, Ok, ok_or, if◌then◌else◌}
use Rattle.std.specs.Option.{option_map, option_and_then}
use Rattle.std.specs.Result.{result_ok}
use Rattle.std.proofs.lemmas.Option.{none-some, same_Some}
use Rattle.chroot_state.specs.Slots.{bit_of}
use Rattle.deb_relation.specs.declared.operator.Op.{Op}
use Rattle.deb_text.specs.Steps.{◌>>=◌}
use Rattle.drive_journal.specs.Entries as entries
use Rattle.drive_journal.specs.Entries.{Noted, IsAsked, HasPicked, HasBranched, IsDone, HasFailed, IsAskedAgain, noted_of, time_of}
use Rattle.drive_replay.specs.declared.notes.Note.{Note}
use Rattle.drive_replay.specs.Follow.{Life, life, ahead, is_asked, chroot_asked, here_asked, asked_for, unpacked_name, held_bit, is_spelled, if_spelled, unpacked_as, picked, branch_place, when_at, when_place, if_there, gone_into, branched, is_open, all_made, carried_out, finished_at, finished, failed, asked_again, followed_note, followed, line_by, line_followed, followed_by}
use Rattle.drive_replay.specs.Following.{first_life}
use Rattle.drive_replay.specs.LaneNotes.{LaneNotes, nothing, note_at, asked_at, now_of, with_note, with_ask, with_pick, with_branch, with_done, with_rank, with_failure, with_again, with_time, no_notes}
use Rattle.drive_replay.specs.Laws.{Turned, IsPick, IsBranch, AreCores}
use Rattle.drive_replay.specs.Onward.{done_in, here, moved_by, moved, turned, is_wait, waited, led, stood}
use Rattle.drive_protocol.specs.AnswerText.{named_from}
use Rattle.farm_core.specs.Farm.{Farm, with_state, chroot_in}
use Rattle.farm_model.specs.Common.{slot, outputs, variant, Universe}
use Rattle.plan_reader.specs.CountedPlan.{CountedPlan}
use Rattle.plan_model.specs.Common.{Lane, Plan, instruction_at, lane, State, start, Outcome, Moved, Blocked, Finished, Unknown, Trapped, Reachable, Run, lane_state, step}
use Rattle.plan_model.specs.declared.instructions.Instruction.{Instruction}
use Rattle.plan_model.specs.declared.instructions.Instruction.TheVariants.{Unpack, Configure, Deconfigure, Remove, Build, Publish, Wait, When, Otherwise, EndWhen}

-- ---- answers taken apart

from_none : {A B : Type 0} (x : A) → None ≡ Some x → B
from_none x e = absurd (none-some x e)

pub and_then_is : {A B : Type 0} (o : Option A) (k : A → Option B) (y : B)
    → option_and_then k o ≡ Some y → (x : A) × (o ≡ Some x) × (k x ≡ Some y)
and_then_is None k y e = from_none y e
and_then_is (Some x) k y e = (x, refl, e)

pub map_is : {A B : Type 0} (o : Option A) (f : A → B) (y : B)
    → option_map f o ≡ Some y → (x : A) × (o ≡ Some x) × (f x ≡ y)
map_is None f y e = from_none y e
map_is (Some x) f y e = (x, refl, same_Some _ _ e)

pub if_is : {A : Type 0} (ok : Bool) (o : Option A) (y : A)
    → (if ok then o else None) ≡ Some y → (ok ≡ true) × (o ≡ Some y)
if_is true o y e = (refl, e)
if_is false o y e = from_none y e

-- ---- farms further on

pub run_append : (u : Universe) (p : Plan) (ls ms : List ℕ) (s t w : State)
    → Run u p s ls t → Run u p t ms w → Run u p s (ls ++ ms) w
run_append u p [] ms s t w r q = subst (λ x. Run u p x ms w) (sym r) q
run_append u p (l ∷ ls) ms s t w r q = (r.0, r.1, run_append u p ls ms r.0 t w r.2 q)

-- a run leads from the one to the other
abbrev pub IsOn : Farm → Farm → Type 0
IsOn f g = (ls : List ℕ) × (s : State) × Run f.universe f.plan.lanes f.state ls s
    × (g ≡ with_state f s)

pub on_self : (f : Farm) → IsOn f f
on_self f = ([], f.state, refl, refl)

on_state : (f h : Farm) (ls : List ℕ) (s : State) → Run f.universe f.plan.lanes f.state ls s
    → IsOn (with_state f s) h → IsOn f h
on_state f h ls s r b =
    (ls ++ b.0, b.1, run_append f.universe f.plan.lanes ls b.0 f.state s b.1 r b.2, b.3)

pub on_on : (f g h : Farm) → IsOn f g → IsOn g h → IsOn f h
on_on f g h a b = on_state f h a.0 a.1 a.2 (subst (λ x. IsOn x h) a.3 b)

moved_out : (f g : Farm) (o : Outcome) → moved_by f o ≡ Some g
    → (s : State) × (o ≡ Moved s) × (g ≡ with_state f s)
moved_out f g (Moved s) e = (s, refl, sym (same_Some _ _ e))
moved_out f g Blocked e = from_none g e
moved_out f g Finished e = from_none g e
moved_out f g Unknown e = from_none g e
moved_out f g (Trapped trap) e = from_none g e

pub moved_is : (f g : Farm) (l : ℕ) → moved f l ≡ Some g
    → (s : State) × (step f.universe f.plan.lanes f.state l ≡ Moved s) × (g ≡ with_state f s)
unfolding moved
moved_is f g l e = moved_out f g (step f.universe f.plan.lanes f.state l) e

pub moved_on : (f g : Farm) (l : ℕ) → moved f l ≡ Some g → IsOn f g
moved_on f g l e =
    let m = moved_is f g l e in (l ∷ [], m.0, (m.0, m.1, refl), m.2)

pub turned_on : (k : ℕ) (f g : Farm) (l : ℕ) → turned k f l ≡ Some g → IsOn f g
turned_on zero f g l e = subst (λ x. IsOn f x) (same_Some _ _ e) (on_self f)
turned_on (suc k) f g l e =
    let m = and_then_is (moved f l) (λ h. turned k h l) g e in
    on_on f m.0 g (moved_on f m.0 l m.1) (turned_on k m.0 g l m.2)

-- at the place already, or behind a wait
led_by : (ok : Bool) (k : ℕ) (f g : Farm) (l place : ℕ) → (done_in f l == place) ≡ ok
    → ((h : Farm) → led k h l place ≡ Some g → IsOn h g × (done_in g l ≡ place))
    → (if ok then Some f else option_and_then (λ h. led k h l place) (waited f l)) ≡ Some g
    → IsOn f g × (done_in g l ≡ place)
led_by true k f g l place is more e =
    let same = same_Some _ _ e in (
      subst (λ x. IsOn f x) same (on_self f),
      subst (λ x. done_in x l ≡ place) same (grind (arith, is)),
    )
led_by false k f g l place is more e =
    let m = and_then_is (waited f l) (λ h. led k h l place) g e in
    let w = if_is (is_wait (here f l)) (moved f l) m.0 m.1 in
    let rest = more m.0 m.2 in
    (on_on f m.0 g (moved_on f m.0 l w.1) rest.0, rest.1)

pub led_on : (k : ℕ) (f g : Farm) (l place : ℕ) → led k f l place ≡ Some g
    → IsOn f g × (done_in g l ≡ place)
led_on zero f g l place e =
    let i = if_is (done_in f l == place) (Some f) g e in
    let same = same_Some _ _ i.1 in (
      subst (λ x. IsOn f x) same (on_self f),
      subst (λ x. done_in x l ≡ place) same (grind (arith, i.0)),
    )
led_on (suc k) f g l place e =
    led_by (done_in f l == place) k f g l place refl (λ h. led_on k h g l place) e

pub stood_on : (f g : Farm) (l n : ℕ) → stood f l n ≡ Some g
    → IsOn f g × (n ≡ suc (done_in g l))
stood_on f g l zero e = from_none g e
stood_on f g l (suc place) e =
    let a = led_on place f g l place e in (a.0, ap suc (sym a.1))

-- ---- what is noted

-- the notes of an instruction are the core's
abbrev pub NoteHolds : Farm → ℕ → ℕ → Note → Type 0
NoteHolds f l n note =
    ((b : ℕ) → note.pick ≡ Some b → IsPick f l n b)
    × ((first : Bool) → note.branch ≡ Some first → IsBranch f l n first)

abbrev pub AllHold : Farm → LaneNotes → Type 0
AllHold f notes = (l n : ℕ) → NoteHolds f l n (note_at notes l n)

abbrev turn_on : (f : Farm) (l place : ℕ) (ls : List ℕ) (s : State)
    → Run f.universe f.plan.lanes f.state ls s → Turned f l place
    → Turned (with_state f s) l place
turn_on f l place ls s r t = record {
  before = t.before;
  after = t.after;
  reached = t.reached;
  there = t.there;
  turn = t.turn;
  turns = t.turns ++ ls;
  onward =
      run_append f.universe f.plan.lanes t.turns ls t.after f.state s t.onward r;
}

note_on : (f g : Farm) (l n : ℕ) (note : Note) → IsOn f g → NoteHolds f l n note
    → NoteHolds g l n note
note_on f g l n note on h =
    subst (λ x. NoteHolds x l n note) (sym on.3) (
      (λ b e. let p = h.0 b e in
          (p.0, p.1, turn_on f l p.0 on.0 on.1 on.2 p.2, p.3, p.4, p.5, p.6)),
      (λ first e. let p = h.1 first e in
          (p.0, p.1, turn_on f l p.0 on.0 on.1 on.2 p.2, p.3, p.4, p.5, p.6)),
    )

pub all_on : (f g : Farm) (notes : LaneNotes) → IsOn f g → AllHold f notes → AllHold g notes
all_on f g notes on all l n = note_on f g l n (note_at notes l n) on (all l n)

set_all : {A : Type 0} (xs : List A) (d : A) (k : ℕ) (x : A) (P : ℕ → A → Type 0)
    → ((j : ℕ) → P j (slice_index_or xs j d)) → P k x
    → (j : ℕ) → P j (slice_index_or (slice_set xs k x) j d)
set_all [] d k x P all here j = all j
set_all (y ∷ xs) d zero x P all here zero = here
set_all (y ∷ xs) d zero x P all here (suc j) = all (suc j)
set_all (y ∷ xs) d (suc k) x P all here zero = all zero
set_all (y ∷ xs) d (suc k) x P all here (suc j) =
    set_all xs d k x (λ i. P (suc i)) (λ i. all (suc i)) here j

pub with_note_holds : (f : Farm) (notes : LaneNotes) (l k : ℕ) (x : Note)
    → AllHold f notes → NoteHolds f l k x → AllHold f (with_note notes l k x)
with_note_holds f notes l k x all here =
    set_all notes.places [] l (slice_set (slice_index_or notes.places l []) k x)
    (λ i ns. (j : ℕ) → NoteHolds f i j (slice_index_or ns j nothing)) all
    (set_all (slice_index_or notes.places l []) nothing k x (NoteHolds f l) (all l) here)

pub ask_holds : (f : Farm) (notes : LaneNotes) (l k : ℕ) → AllHold f notes
    → AllHold f (with_ask notes l k)
ask_holds f notes l k all =
    with_note_holds f notes l k
    (record (note_at notes l k) { asked = true; since = now_of notes }) all (all l k)

pub failure_holds : (f : Farm) (notes : LaneNotes) (l k : ℕ) → AllHold f notes
    → AllHold f (with_failure notes l k)
failure_holds f notes l k all =
    with_note_holds f notes l k (record (note_at notes l k) { failed = true }) all (all l k)

pub again_holds : (f : Farm) (notes : LaneNotes) (l k : ℕ) → AllHold f notes
    → AllHold f (with_again notes l k)
again_holds f notes l k all =
    with_note_holds f notes l k
    (record (note_at notes l k) { failed = false; since = now_of notes }) all (all l k)

pub done_holds : (f : Farm) (notes : LaneNotes) (l k : ℕ) → AllHold f notes
    → AllHold f (with_done notes l k)
done_holds f notes l k all =
    with_note_holds f notes l k
    (record (note_at notes l k) { done = true; failed = false; until = now_of notes }) all (all l k)

pub rank_holds : (f : Farm) (notes : LaneNotes) (l k : ℕ) → AllHold f notes
    → AllHold f (with_rank notes l k)
rank_holds f notes l k all =
    with_note_holds f notes l k (record (note_at notes l k) { rank = Some notes.ranks }) all
    (all l k)

pub pick_holds : (f : Farm) (notes : LaneNotes) (l k b : ℕ) → AllHold f notes
    → IsPick f l k b → AllHold f (with_pick notes l k b)
pick_holds f notes l k b all is =
    with_note_holds f notes l k
    (record (note_at notes l k) {
      asked = true;
      since = now_of notes;
      pick = Some b;
      rank = Some notes.ranks;
    }) all
    ((λ c e. subst (λ x. IsPick f l k x) (same_Some b c e) is), (all l k).1)

pub branch_holds : (f : Farm) (notes : LaneNotes) (l k : ℕ) (first : Bool) → AllHold f notes
    → IsBranch f l k first → AllHold f (with_branch notes l k first)
branch_holds f notes l k first all is =
    with_note_holds f notes l k
    (record (note_at notes l k) { branch = Some first; rank = Some notes.ranks }) all
    ((all l k).0, (λ c e. subst (λ x. IsBranch f l k x) (same_Some first c e) is))

-- ---- nothing is noted at the start

index_all : {A : Type 0} (n j : ℕ) (d : A) → slice_index_or (replicate n d) j d ≡ d
index_all zero j d = refl
index_all (suc n) zero d = refl
index_all (suc n) (suc j) d = index_all n j d

nothing_at : (p : Plan) (l n : ℕ) → note_at (no_notes p) l n ≡ nothing
nothing_at [] l n = refl
nothing_at (of ∷ p) zero n = index_all (suc (length of.instructions)) n nothing
nothing_at (of ∷ p) (suc l) n = nothing_at p l n

nothing_holds : (f : Farm) (l n : ℕ) → NoteHolds f l n nothing
nothing_holds f l n = ((λ b e. from_none b e), (λ first e. from_none first e))

pub start_holds : (f : Farm) (p : Plan) → AllHold f (no_notes p)
start_holds f p l n =
    subst (NoteHolds f l n) (sym (nothing_at p l n)) (nothing_holds f l n)

-- ---- entries

module _ (u : Universe) (p : CountedPlan) where
  abbrev pub Holds : Life → Type 0
  Holds x =
      Reachable x.farm.universe x.farm.plan.lanes x.farm.state × AllHold x.farm x.notes
      × (x.farm.universe ≡ u) × (x.farm.plan ≡ p)

  reach_on : (f g : Farm) → IsOn f g → Reachable f.universe f.plan.lanes f.state
      → Reachable g.universe g.plan.lanes g.state
  reach_on f g on r =
      subst (λ (h : Farm). Reachable h.universe h.plan.lanes h.state) (sym on.3) (
        r.0 ++ on.0,
        run_append f.universe f.plan.lanes r.0 on.0 (start f.universe f.plan.lanes) f.state on.1
            r.1 on.2,
      )

  -- further on, with other notes
  life_holds : (x : Life) (g : Farm) (notes : LaneNotes) → Holds x → IsOn x.farm g
      → (AllHold g x.notes → AllHold g notes) → Holds (life g notes)
  life_holds x g notes h on next = (
    reach_on x.farm g on h.0,
    next (all_on x.farm g x.notes on h.1),
    ap (λ (f : Farm). f.universe) on.3 ∙ h.2,
    ap (λ (f : Farm). f.plan) on.3 ∙ h.3,
  )

  answered : (x y : Life) → Some x ≡ Some y → Holds x → Holds y
  answered x y e h = subst Holds (same_Some x y e) h

  if_not_is : {A : Type 0} (no_more : Bool) (o : Option A) (y : A)
      → (if no_more then None else o) ≡ Some y → o ≡ Some y
  if_not_is true o y e = from_none y e
  if_not_is false o y e = e

  either_holds : (ok : Bool) (a b : Option Life) (y : Life)
      → (a ≡ Some y → Holds y) → (b ≡ Some y → Holds y)
      → (if ok then a else b) ≡ Some y → Holds y
  either_holds true a b y f g e = f e
  either_holds false a b y f g e = g e

  ahead_on : (x : Life) (l n : ℕ) (g : Farm) → ahead x l n ≡ Some g
      → IsOn x.farm g × (n ≡ suc (done_in g l))
  ahead_on x l n g e =
      stood_on x.farm g l n
      (if_is ((note_at x.notes l 0).done && is_none (asked_at x.notes l)) (stood x.farm l n) g e).1

  ask_next : (x y : Life) (l n : ℕ) → Holds x → asked_for x l n ≡ Some y → Holds y
  ask_next x y l n h e =
      either_holds (n == 0) (chroot_asked x l)
      (option_and_then (here_asked x l n) (ahead x l n)) y of_chroot of_instruction e
    where
      of_chroot : chroot_asked x l ≡ Some y → Holds y
      of_chroot e =
          answered (life x.farm (with_ask x.notes l 0)) y
          (if_not_is (note_at x.notes l 0).asked (Some (life x.farm (with_ask x.notes l 0))) y e)
          (life_holds x x.farm (with_ask x.notes l 0) h (on_self x.farm)
          (ask_holds x.farm x.notes l 0))

      of_instruction : option_and_then (here_asked x l n) (ahead x l n) ≡ Some y → Holds y
      of_instruction e =
          let m = and_then_is (ahead x l n) (here_asked x l n) y e in
          let i = if_is (is_asked (here m.0 l)) (Some (life m.0 (with_ask x.notes l n))) y m.2 in
          answered (life m.0 (with_ask x.notes l n)) y i.1
          (life_holds x m.0 (with_ask x.notes l n) h (ahead_on x l n m.0 m.1).0
          (ask_holds m.0 x.notes l n))

  abbrev turn_here : (f : Farm) (l : ℕ) (s : State)
      → Reachable f.universe f.plan.lanes f.state
      → step f.universe f.plan.lanes f.state l ≡ Moved s → Turned (with_state f s) l (done_in f l)
  turn_here f l s r e = record {
    before = f.state;
    after = s;
    reached = r;
    there = refl;
    turn = e;
    turns = [];
    onward = refl;
  }

  unpack_is : (i : Option Instruction) (n : ℕ) → unpacked_name i ≡ Some n
      → (wanted : Option (Op × List ℕ)) × (i ≡ Some (Unpack n wanted))
  unpack_is None n e = from_none n e
  unpack_is (Some (Unpack k wanted)) n e =
      (wanted, ap (λ j. Some (Unpack j wanted)) (same_Some k n e))
  unpack_is (Some (Configure members)) n e = from_none n e
  unpack_is (Some (Deconfigure members)) n e = from_none n e
  unpack_is (Some (Remove members)) n e = from_none n e
  unpack_is (Some (Build r)) n e = from_none n e
  unpack_is (Some (Publish r)) n e = from_none n e
  unpack_is (Some (Wait w)) n e = from_none n e
  unpack_is (Some (When k wanted)) n e = from_none n e
  unpack_is (Some Otherwise) n e = from_none n e
  unpack_is (Some EndWhen) n e = from_none n e

  pick_is : (f g : Farm) (l n number b : ℕ) → Reachable f.universe f.plan.lanes f.state
      → n ≡ suc (done_in f l) → unpacked_name (here f l) ≡ Some number
      → moved f l ≡ Some g → held_bit g l number ≡ Some b → IsPick g l n b
  pick_is f g l n number b r n_is name_is m held =
      let mv = moved_is f g l m in
      let un = unpack_is (here f l) number name_is in
      let inside = if_is (nat_lt l (length g.plan.lanes))
      (bit_of (slot (chroot_in g l).slots number)) b held in
      let bit : bit_of (slot (lane_state mv.0 l).chroot number) ≡ Some b =
      subst (λ (k : Farm). bit_of (slot (chroot_in k l).slots number) ≡ Some b) mv.2 inside.1
      in
      subst (λ k. IsPick k l n b) (sym mv.2)
      (done_in f l, n_is, turn_here f l mv.0 r mv.1, number, un.0, un.1, bit)

  pick_next : (x y : Life) (l n : ℕ) (name version : List ℕ) → Holds x
      → picked x l n name version ≡ Some y → Holds y
  pick_next x y l n name version h e =
      let m = and_then_is (ahead x l n) (λ f. option_and_then (unpacked_as x l n name version f)
      (unpacked_name (here f l))) y e in
      let k = and_then_is (unpacked_name (here m.0 l)) (unpacked_as x l n name version m.0) y m.2 in
      let g = and_then_is (moved m.0 l) (λ g. option_and_then
      (λ b. if_spelled x l n name version g (variant k.0 b)) (held_bit g l k.0)) y k.2 in
      let b = and_then_is (held_bit g.0 l k.0)
      (λ b. if_spelled x l n name version g.0 (variant k.0 b)) y g.2 in
      let i = if_is (is_spelled g.0.universe (variant k.0 b.0) name version)
      (Some (life g.0 (with_pick x.notes l n b.0))) y b.2 in
      let a = ahead_on x l n m.0 m.1 in
      let is = pick_is m.0 g.0 l n k.0 b.0 (reach_on x.farm m.0 a.0 h.0) a.1 k.1 g.1 b.1 in
      answered (life g.0 (with_pick x.notes l n b.0)) y i.1
      (life_holds x g.0 (with_pick x.notes l n b.0) h
      (on_on x.farm m.0 g.0 a.0 (moved_on m.0 g.0 l g.1))
      (λ all. pick_holds g.0 x.notes l n b.0 all is))

  when_is : (of : Lane) (place : ℕ) (first : Bool) (i : Option Instruction) (k : ℕ)
      → when_at of place first i ≡ Some k
      → (name : ℕ) × (wanted : Option (Op × List ℕ)) × (i ≡ Some (When name wanted))
      × (k ≡ branch_place of place first)
  when_is of place first None k e = from_none k e
  when_is of place first (Some (When name wanted)) k e =
      (name, wanted, refl, sym (same_Some (branch_place of place first) k e))
  when_is of place first (Some (Unpack name wanted)) k e = from_none k e
  when_is of place first (Some (Configure members)) k e = from_none k e
  when_is of place first (Some (Deconfigure members)) k e = from_none k e
  when_is of place first (Some (Remove members)) k e = from_none k e
  when_is of place first (Some (Build r)) k e = from_none k e
  when_is of place first (Some (Publish r)) k e = from_none k e
  when_is of place first (Some (Wait w)) k e = from_none k e
  when_is of place first (Some Otherwise) k e = from_none k e
  when_is of place first (Some EndWhen) k e = from_none k e

  number_is : (a b : ℕ) → (a == b) ≡ true → a ≡ b
  number_is a b e = grind (arith, e)

  branch_is : (f g : Farm) (l n place : ℕ) (first : Bool)
      → Reachable f.universe f.plan.lanes f.state → n ≡ suc (done_in f l)
      → when_place f l first ≡ Some place → moved f l ≡ Some g → done_in g l ≡ place
      → IsBranch g l n first
  branch_is f g l n place first r n_is when m there =
      let mv = moved_is f g l m in
      let wh = when_is (lane f.plan.lanes l) (done_in f l) first (here f l) place when in
      let gone : (lane_state mv.0 l).done ≡ branch_place (lane f.plan.lanes l) (done_in f l) first =
      subst (λ (k : Farm). done_in k l ≡ branch_place (lane f.plan.lanes l) (done_in f l) first)
      mv.2 (there ∙ wh.3)
      in
      subst (λ k. IsBranch k l n first) (sym mv.2)
      (done_in f l, n_is, turn_here f l mv.0 r mv.1, wh.0, wh.1, wh.2, gone)

  branch_next : (x y : Life) (l n : ℕ) (first : Bool) → Holds x
      → branched x l n first ≡ Some y → Holds y
  branch_next x y l n first h e =
      let m = and_then_is (ahead x l n) (gone_into x l n first) y e in
      let k = and_then_is (when_place m.0 l first)
      (λ place. option_and_then (if_there x l n first place) (moved m.0 l)) y m.2 in
      let g = and_then_is (moved m.0 l) (if_there x l n first k.0) y k.2 in
      let i = if_is (done_in g.0 l == k.0) (Some (life g.0 (with_branch x.notes l n first))) y g.2 in
      let a = ahead_on x l n m.0 m.1 in
      let is = branch_is m.0 g.0 l n k.0 first (reach_on x.farm m.0 a.0 h.0) a.1 k.1 g.1
      (number_is (done_in g.0 l) k.0 i.0) in
      answered (life g.0 (with_branch x.notes l n first)) y i.1
      (life_holds x g.0 (with_branch x.notes l n first) h
      (on_on x.farm m.0 g.0 a.0 (moved_on m.0 g.0 l g.1))
      (λ all. branch_holds g.0 x.notes l n first all is))

  here_done : (x y : Life) (l n : ℕ) → Holds x
      → Some (life x.farm (with_done x.notes l n)) ≡ Some y → Holds y
  here_done x y l n h e =
      answered (life x.farm (with_done x.notes l n)) y e
      (life_holds x x.farm (with_done x.notes l n) h (on_self x.farm)
      (done_holds x.farm x.notes l n))

  moved_done : (x y : Life) (l n : ℕ) → Holds x
      → option_map (λ f. life f (with_done x.notes l n)) (moved x.farm l) ≡ Some y → Holds y
  moved_done x y l n h e =
      let m = map_is (moved x.farm l) (λ f. life f (with_done x.notes l n)) y e in
      subst Holds m.2
      (life_holds x m.0 (with_done x.notes l n) h (moved_on x.farm m.0 l m.1)
      (done_holds m.0 x.notes l n))

  made_done : (x y : Life) (l n r : ℕ) → Holds x → all_made x l n r ≡ Some y → Holds y
  made_done x y l n r h e =
      let count = length (outputs x.farm.universe r) in
      let m = map_is (turned count x.farm l)
      (λ f. life f (with_rank (with_done x.notes l n) l n)) y e in
      subst Holds m.2
      (life_holds x m.0 (with_rank (with_done x.notes l n) l n) h
      (turned_on count x.farm m.0 l m.1)
      (λ all. rank_holds m.0 (with_done x.notes l n) l n (done_holds m.0 x.notes l n all)))

  carried_next : (x y : Life) (l n : ℕ) (i : Instruction) → Holds x
      → carried_out x l n i ≡ Some y → Holds y
  carried_next x y l n (Unpack name wanted) h e = here_done x y l n h e
  carried_next x y l n (Publish r) h e = made_done x y l n r h e
  carried_next x y l n (Configure members) h e = moved_done x y l n h e
  carried_next x y l n (Deconfigure members) h e = moved_done x y l n h e
  carried_next x y l n (Remove members) h e = moved_done x y l n h e
  carried_next x y l n (Build r) h e = moved_done x y l n h e
  carried_next x y l n (Wait w) h e = moved_done x y l n h e
  carried_next x y l n (When name wanted) h e = moved_done x y l n h e
  carried_next x y l n Otherwise h e = moved_done x y l n h e
  carried_next x y l n EndWhen h e = moved_done x y l n h e

  done_next : (x y : Life) (l n : ℕ) → Holds x → finished x l n ≡ Some y → Holds y
  done_next x y l n h e =
      either_holds (n == 0) (Some (life x.farm (with_done x.notes l 0)))
      (option_and_then (carried_out x l n) (instruction_at x.farm.plan.lanes l (n - 1))) y
      (here_done x y l 0 h)
      (λ e. let m = and_then_is (instruction_at x.farm.plan.lanes l (n - 1)) (carried_out x l n) y e
      in carried_next x y l n m.0 h m.2)
      (if_is (is_open (asked_at x.notes l) n) (finished_at x l n) y e).1

  -- what is open stays so, with another note
  open_next : (x y : Life) (l n : ℕ) (notes : LaneNotes) → Holds x
      → (AllHold x.farm x.notes → AllHold x.farm notes)
      → (if is_open (asked_at x.notes l) n then Some (life x.farm notes) else None) ≡ Some y
      → Holds y
  open_next x y l n notes h next e =
      answered (life x.farm notes) y
      (if_is (is_open (asked_at x.notes l) n) (Some (life x.farm notes)) y e).1
      (life_holds x x.farm notes h (on_self x.farm) next)

  note_next : (x y : Life) (l n : ℕ) (note : entries.Note) → Holds x
      → followed_note x l n note ≡ Some y → Holds y
  note_next x y l n IsAsked h e = ask_next x y l n h e
  note_next x y l n (HasPicked name version) h e = pick_next x y l n name version h e
  note_next x y l n (HasBranched first) h e = branch_next x y l n first h e
  note_next x y l n IsDone h e = done_next x y l n h e
  note_next x y l n HasFailed h e =
      open_next x y l n (with_failure x.notes l n) h (failure_holds x.farm x.notes l n) e
  note_next x y l n IsAskedAgain h e =
      open_next x y l n (with_again x.notes l n) h (again_holds x.farm x.notes l n) e

  entry_next : (x y : Life) (e : Noted) → Holds x → followed x e ≡ Some y → Holds y
  unfolding followed
  entry_next x y e h is =
      let m = and_then_is (named_from e.lane 0 x.farm.plan.lanes)
      (λ l. followed_note x l e.number e.note) y is in
      note_next x y m.0 e.number e.note h m.2

  line_is : (x y : Life) (time : Option ℕ) (entry : Option Noted) → Holds x
      → line_by x time entry ≡ Some y → Holds y
  line_is x y (Some seconds) entry h e =
      answered (life x.farm (with_time x.notes seconds)) y e
      (life_holds x x.farm (with_time x.notes seconds) h (on_self x.farm) (λ all. all))
  line_is x y None entry h e =
      let m = and_then_is entry (followed x) y e in entry_next x y m.0 h m.2

  line_next : (x y : Life) (line : List ℕ) → Holds x → line_followed x line ≡ Some y → Holds y
  line_next x y line h e = line_is x y (time_of line) (noted_of line) h e

  go_on : (o : Option Life) (n : ℕ) (k : Life → Result Life ℕ) (z : Life)
      → ((y : Life) → o ≡ Some y → k y ≡ Ok z → Holds z)
      → (ok_or o n >>= k) ≡ Ok z → Holds z
  go_on None n k z more e = from_none z (ap result_ok e)
  go_on (Some y) n k z more e = more y refl e

  pub lines_next : (n : ℕ) (lines : List (List ℕ)) (x z : Life) → Holds x
      → followed_by n x lines ≡ Ok z → Holds z
  lines_next n [] x z h e = subst Holds (same_Some x z (ap result_ok e)) h
  lines_next n (line ∷ lines) x z h e =
      go_on (line_followed x line) n (λ y. followed_by (suc n) y lines) z
      (λ y is rest. lines_next (suc n) lines y z (line_next x y line h is) rest) e

pub replay_cores : (u : Universe) (p : CountedPlan) (first : ℕ) (lines : List (List ℕ))
    (x : Life) → followed_by first (first_life u p) lines ≡ Ok x
    → AreCores x × (x.farm.universe ≡ u) × (x.farm.plan ≡ p)
replay_cores u p first lines x e =
    let begun : Holds u p (first_life u p) =
    (([], refl), start_holds (first_life u p).farm p.lanes, refl, refl) in
    let h = lines_next u p first lines (first_life u p) x begun e in (
      record {
        reached = h.0;
        picks = λ l n b. (h.1 l n).0 b;
        branches = λ l n first. (h.1 l n).1 first;
      },
      h.2,
      h.3,
    )
