-- Texts that are written one behind the other.
use Rattle.std.proofs.Common.{◌≡◌, ◌-◌, arith, ℕ, ◌==◌, nat_lt, Bool, true, false, ◌&&◌, List, [], ◌++◌, length, take, drop, Option, Some, None, Result, Ok, Err, refl, sym, ap, ◌∙◌, subst}
use Rattle.std.specs.Io.KnownBytes.{Appends}
use Rattle.std.proofs.lemmas.List.{append_assoc, append-nil, take-append-drop, take_all, length-drop}
use Rattle.std.specs.Result.{result_unwrap_or}
use Rattle.report_sink.specs.Sinks.{SinkState, IsTaken, IsWritten, taken_count}

-- bytes that are put behind known ones, twice
pub appends_twice : (old mid new : Option (List ℕ)) (a b : List ℕ)
    → Appends old mid a → Appends mid new b → Appends old new (a ++ b)
appends_twice None mid new a b one two = tt
appends_twice (Some xs) None new a b one two = elim one [ ]
appends_twice (Some xs) (Some ys) None a b one two = elim two [ ]
appends_twice (Some xs) (Some ys) (Some zs) a b one two =
    two ∙ (ap (λ t. t ++ b) one ∙ append_assoc xs a b)

-- none
pub appends_none : (known : Option (List ℕ)) → Appends known known []
appends_none None = tt
appends_none (Some xs) = sym (append-nil xs)

-- no text is written by doing nothing
pub nothing_written : (s : SinkState) → IsWritten s s []
nothing_written s = record {
  taken = [];
  left = [];
  is_part = refl;
  appended = appends_none s.contents;
  whole = λ _. refl;
  not_again = λ _. refl;
}

-- nothing more is written once the sink has failed
pub cut_short : (old new : SinkState) (a b : List ℕ) → IsWritten old new a → new.failed ≡ true
    → IsWritten old new (a ++ b)
cut_short old new a b w failed = record {
  taken = w.taken;
  left = w.left ++ b;
  is_part = ap (λ t. t ++ b) w.is_part ∙ append_assoc w.taken w.left b;
  appended = w.appended;
  whole = λ going. cc;
  not_again = w.not_again;
}

-- a text of which nothing is left was taken whole
all_taken : (text taken left : List ℕ) → text ≡ taken ++ left → left ≡ [] → taken ≡ text
all_taken text taken left is none = sym (is ∙ (ap (λ t. taken ++ t) none ∙ append-nil taken))

-- more is written while the sink has not failed
more_written : (old mid new : SinkState) (a b : List ℕ) → mid.failed ≡ false → IsWritten old mid a
    → IsWritten mid new b → IsWritten old new (a ++ b)
more_written old mid new a b going one two = record {
  taken = a ++ two.taken;
  left = two.left;
  is_part = ap (λ t. a ++ t) two.is_part ∙ sym (append_assoc a two.taken two.left);
  appended = appends_twice old.contents mid.contents new.contents a two.taken
      (subst (λ t. Appends old.contents mid.contents t)
      (all_taken a one.taken one.left one.is_part (one.whole going)) one.appended)
      two.appended;
  whole = two.whole;
  not_again = λ failed.
      let same : old.failed ≡ mid.failed =
      ap (λ (s : SinkState). s.failed) (sym (one.not_again failed)) in
      cc;
}

-- of two texts, one behind the other
pub written_twice : (old mid new : SinkState) (a b : List ℕ) → IsWritten old mid a
    → IsWritten mid new b → IsWritten old new (a ++ b)
written_twice old mid new a b one two =
    let P : Bool → Type 0 = λ failed. mid.failed ≡ failed → IsWritten old new (a ++ b) in
    let cases : P mid.failed = elim mid.failed as P [
      | true ↦ λ is. subst (λ s. IsWritten old s (a ++ b)) (sym (two.not_again is))
          (cut_short old mid a b one is)
      | false ↦ λ is. more_written old mid new a b is one two
    ] in
    cases refl

-- a sink that takes a text, of which this rest is left, and has not failed
pub record IsGoing (old now : SinkState) (text rest : List ℕ) : Type 0 where
  pub taken : List ℕ
  pub is_part : text ≡ taken ++ rest
  pub appended : Appends old.contents now.contents taken
  pub going : now.failed ≡ false
  pub went : old.failed ≡ false

-- it has not begun
pub not_begun : (s : SinkState) (text : List ℕ) → s.failed ≡ false → IsGoing s s text text
not_begun s text going = record {
  taken = [];
  is_part = refl;
  appended = appends_none s.contents;
  going = going;
  went = going;
}

-- a count that is not 0 is no refusal
not_refused : (n : ℕ) (b : Bool) → (n ≡ 0 → ⊥) → ((n == 0) && b) ≡ false
not_refused n b some = grind arith

-- it goes on by the bytes that a write has taken
pub went_on : {E : Type 0} (old now new : SinkState) (text rest : List ℕ) (answer : Result ℕ E)
    (count : ℕ) → count ≡ taken_count answer → (count ≡ 0 → ⊥) → IsGoing old now text rest
    → IsTaken now new rest answer → IsGoing old new text (drop count rest)
went_on old now new text rest (Err error) count is some so_far more = absurd (some is)
went_on old now new text rest (Ok n) count is some so_far more = record {
  taken = so_far.taken ++ take count rest;
  is_part = so_far.is_part
      ∙ (ap (λ t. so_far.taken ++ t) (sym (take-append-drop count rest))
      ∙ sym (append_assoc so_far.taken (take count rest) (drop count rest)));
  appended = appends_twice old.contents now.contents new.contents so_far.taken (take count rest)
      so_far.appended
      (subst (λ k. Appends now.contents new.contents (take k rest)) (sym is) more.appended);
  going = more.failed
      ∙ rw (so_far.going) (not_refused n (nat_lt 0 (length rest)) (λ none. some (is ∙ none)));
  went = so_far.went;
}

-- the rest of a list is all that is behind its front
pub behind : (k : ℕ) (rest : List ℕ) → take (length rest - k) (drop k rest) ≡ drop k rest
behind k rest = take_all (length rest - k) (drop k rest) (omega (arith, length-drop k rest))

-- a count, or none
pub count_is : {E : Type 0} (answer : Result ℕ E) → result_unwrap_or answer 0 ≡ taken_count answer
count_is (Ok n) = refl
count_is (Err error) = refl
