-- Texts that are sent on, one behind the other.
use Rattle.std.proofs.Common.{◌≡◌, ℕ, ◌+◌, ◌-◌, ◌<◌, false, List, [], ◌∷◌, ◌++◌, length, take, drop, get_or, refl, sym, ap, ◌∙◌, subst, arith, add-one, append_assoc, length-append, Result, Ok, Err}
use Rattle.std.specs.List.{flat_map, range_with_len}
use Rattle.std.proofs.lemmas.List.{append-nil, take_more, take-append-drop}
use Rattle.std.proofs.lemmas.List.Concat.{flat_map-append}
use Rattle.report_sink.specs.Sinks.{SinkState, IsWritten}
use Rattle.report_sink.proofs.ItemLaws.{range_split}
use Rattle.cert_text.proofs.RowLists.{range-more}
use Rattle.report_sink.proofs.WriteLaws.{written_twice, cut_short, nothing_written}
use Rattle.cert_writer.specs.declared.pending.Pending.{Pending}
use Rattle.cert_writer.specs.declared.stop.CertStop.{CertStop}
use Rattle.cert_writer.specs.declared.stop.CertStop.TheVariants.{OutOfMemory, CutShort, WriteFailed}
use Rattle.cert_writer.specs.Sending.{IsSent, IsOutOfMemory, IsStoppedSending, IsSentOn, capped}

-- ---- counts

count-twice : (a b c : ℕ) (xs ys : List ℕ) → capped b ≡ capped (a + length xs)
    → capped c ≡ capped (b + length ys) → capped c ≡ capped (a + length (xs ++ ys))
count-twice a b c xs ys one two = omega (arith, length-append xs ys)

-- ---- nothing more

pub none_sent : (s : SinkState) (p : Pending) → s.failed ≡ false → IsSent s s p p []
none_sent s p going = record {
  part = [];
  is_part = append-nil p.text.items;
  written = nothing_written s;
  going = going;
  counted = omega arith;
  untouched = λ _. refl;
}

-- ---- more, and then more

-- what is behind two texts
behind_both : (a x y d e m b : List ℕ) → a ++ x ≡ d ++ m → m ++ y ≡ e ++ b
    → a ++ (x ++ y) ≡ (d ++ e) ++ b
behind_both a x y d e m b one two =
    sym (append_assoc a x y) ∙ ap (λ t. t ++ y) one ∙ append_assoc d m y
    ∙ ap (λ t. d ++ t) two ∙ sym (append_assoc d e b)

module _ (a b : SinkState) (p q : Pending) (x y : List ℕ) (first : IsSent a b p q x) where
  pub sent_twice : (c : SinkState) (r : Pending) → IsSent b c q r y → IsSent a c p r (x ++ y)
  sent_twice c r second = record {
    part = first.part ++ second.part;
    is_part = behind_both p.text.items x y first.part second.part q.text.items r.text.items
        first.is_part second.is_part;
    written = written_twice a b c first.part second.part first.written second.written;
    going = second.going;
    counted = count-twice p.sent q.sent r.sent first.part second.part first.counted second.counted;
    untouched = λ none.
        let before : q.sent ≡ 0 = omega (arith, second.counted, none) in
        second.untouched none ∙ first.untouched before;
  }

  -- stopped in the second
  pub stopped_behind : (c : SinkState) (stop : CertStop) → IsStoppedSending b c q y stop
      → IsStoppedSending a c p (x ++ y) stop
  stopped_behind c OutOfMemory is = (
    omega (arith, first.counted, is.0),
    is.1 ∙ first.untouched is.0,
  )
  stopped_behind c CutShort is = record {
    part = first.part ++ is.part;
    left = is.left;
    is_part = behind_both p.text.items x y first.part is.part q.text.items is.left first.is_part
        is.is_part;
    written = written_twice a b c first.part is.part first.written is.written;
    going = is.going;
  }
  stopped_behind c WriteFailed is = (
    subst (IsWritten a c)
        (sym (append_assoc first.part q.text.items y)
        ∙ ap (λ t. t ++ y) (sym first.is_part)
        ∙ append_assoc p.text.items x y)
        (written_twice a b c first.part (q.text.items ++ y) first.written is.0),
    is.1,
  )

  pub sent_on : (c : SinkState) (r : Pending) (answer : Result Unit CertStop)
      → IsSentOn b c q r y answer → IsSentOn a c p r (x ++ y) answer
  sent_on c r (Ok done) is = sent_twice c r is
  sent_on c r (Err stop) is = stopped_behind c stop is

-- stopped, ahead of more
pub stopped_more : (a b : SinkState) (p : Pending) (x y : List ℕ) (stop : CertStop)
    → IsStoppedSending a b p x stop → IsStoppedSending a b p (x ++ y) stop
stopped_more a b p x y OutOfMemory is = is
stopped_more a b p x y CutShort is = record {
  part = is.part;
  left = is.left ++ y;
  is_part = sym (append_assoc p.text.items x y) ∙ ap (λ t. t ++ y) is.is_part
      ∙ append_assoc is.part is.left y;
  written = is.written;
  going = is.going;
}
stopped_more a b p x y WriteFailed is = (
  subst (IsWritten a b) (append_assoc p.text.items x y)
      (cut_short a b (p.text.items ++ x) y is.0 is.1),
  is.1,
)

-- stopped in the second, ahead of more
pub stopped_within : (a b c : SinkState) (p q : Pending) (x y z whole : List ℕ) (stop : CertStop)
    → whole ≡ (x ++ y) ++ z → IsSent a b p q x → IsStoppedSending b c q y stop
    → IsStoppedSending a c p whole stop
stopped_within a b c p q x y z whole stop is first second =
    subst (λ t. IsStoppedSending a c p t stop) (sym is)
    (stopped_more a c p (x ++ y) z stop (stopped_behind a b p q x y first c stop second))

-- ---- item by item

-- so many numbers, one more, and the rest
module _ (f : ℕ → List ℕ) (i : ℕ) where
  numbers_next : flat_map f (range_with_len 0 (i + 1)) ≡ flat_map f (range_with_len 0 i) ++ f i
  numbers_next =
      ap (λ k. flat_map f (range_with_len 0 k)) (add-one i)
      ∙ ap (flat_map f) (range-more i 0 i (omega arith))
      ∙ flat_map-append f (range_with_len 0 i) (i ∷ [])
      ∙ ap (λ t. flat_map f (range_with_len 0 i) ++ t) (append-nil (f i))

  numbers_split : (n : ℕ) → i < n → flat_map f (range_with_len 0 n)
      ≡ (flat_map f (range_with_len 0 i) ++ f i)
      ++ flat_map f (range_with_len (i + 1) (n - (i + 1)))
  numbers_split n lt =
      ap (λ k. flat_map f (range_with_len 0 k)) all
      ∙ ap (flat_map f) (range_split 0 (i + 1) (n - (i + 1)))
      ∙ flat_map-append f (range_with_len 0 (i + 1)) (range_with_len (0 + (i + 1)) (n - (i + 1)))
      ∙ ap (λ k. flat_map f (range_with_len 0 (i + 1))
      ++ flat_map f (range_with_len k (n - (i + 1)))) zero_first
      ∙ ap (λ t. t ++ flat_map f (range_with_len (i + 1) (n - (i + 1)))) numbers_next
    where
      all : n ≡ (i + 1) + (n - (i + 1))
      all = omega (arith, lt)

      zero_first : 0 + (i + 1) ≡ i + 1
      zero_first = omega arith

  module _ (a b c : SinkState) (p q : Pending)
      (so_far : IsSent a b p q (flat_map f (range_with_len 0 i))) where
    pub next_number : (r : Pending) → IsSent b c q r (f i)
        → IsSent a c p r (flat_map f (range_with_len 0 (i + 1)))
    next_number r more =
        subst (IsSent a c p r) (sym numbers_next) (sent_twice a b p q _ (f i) so_far c r more)

    pub stopped_number : (n : ℕ) (stop : CertStop) → i < n → IsStoppedSending b c q (f i) stop
        → IsStoppedSending a c p (flat_map f (range_with_len 0 n)) stop
    stopped_number n stop lt is =
        stopped_within a b c p q _ (f i) _ _ stop (numbers_split n lt) so_far is

-- so many items, one more, and the rest
module _ {X : Type 0} (f : X → List ℕ) (xs : List X) (i : ℕ) (d : X) (lt : i < length xs) where
  items_next : flat_map f (take (i + 1) xs) ≡ flat_map f (take i xs) ++ f (get_or xs i d)
  items_next =
      ap (flat_map f) (take_more xs i d lt)
      ∙ flat_map-append f (take i xs) (get_or xs i d ∷ [])
      ∙ ap (λ t. flat_map f (take i xs) ++ t) (append-nil (f (get_or xs i d)))

  items_split : flat_map f xs
      ≡ (flat_map f (take i xs) ++ f (get_or xs i d)) ++ flat_map f (drop (i + 1) xs)
  items_split =
      ap (flat_map f) (sym (take-append-drop (i + 1) xs))
      ∙ flat_map-append f (take (i + 1) xs) (drop (i + 1) xs)
      ∙ ap (λ t. t ++ flat_map f (drop (i + 1) xs)) items_next

  module _ (a b c : SinkState) (p q : Pending) (so_far : IsSent a b p q (flat_map f (take i xs)))
    where
      pub next_item : (r : Pending) → IsSent b c q r (f (get_or xs i d))
          → IsSent a c p r (flat_map f (take (i + 1) xs))
      next_item r more =
          subst (IsSent a c p r) (sym items_next)
          (sent_twice a b p q _ (f (get_or xs i d)) so_far c r more)

      pub stopped_item : (stop : CertStop) → IsStoppedSending b c q (f (get_or xs i d)) stop
          → IsStoppedSending a c p (flat_map f xs) stop
      stopped_item stop is =
          stopped_within a b c p q _ (f (get_or xs i d)) _ _ stop items_split so_far is

-- ---- one step

-- a text is put behind what is not written, and what is not written is sent on
pub put_on : (a b : SinkState) (before mid after : Pending) (x : List ℕ)
    (answer : Result Unit CertStop)
    → mid.text.items ≡ before.text.items ++ x → mid.sent ≡ before.sent
    → IsSentOn a b mid after [] answer
    → IsSentOn a b before after x answer
put_on a b before mid after x (Ok done) put same is = record {
  part = is.part;
  is_part = sym put ∙ sym (append-nil mid.text.items) ∙ is.is_part;
  written = is.written;
  going = is.going;
  counted = is.counted ∙ ap (λ n. capped (n + length is.part)) same;
  untouched = is.untouched;
}
put_on a b before mid after x (Err OutOfMemory) put same is = (sym same ∙ is.0, is.1)
put_on a b before mid after x (Err CutShort) put same is = record {
  part = is.part;
  left = is.left;
  is_part = sym put ∙ sym (append-nil mid.text.items) ∙ is.is_part;
  written = is.written;
  going = is.going;
}
put_on a b before mid after x (Err WriteFailed) put same is = (
  subst (IsWritten a b) (append-nil mid.text.items ∙ put) is.0,
  is.1,
)

-- memory was refused for it
pub refused : (s : SinkState) (before : Pending) (sent : ℕ) (x : List ℕ) (stop : CertStop)
    → s.failed ≡ false → sent ≡ before.sent → IsOutOfMemory sent stop
    → IsStoppedSending s s before x stop
refused s before sent x OutOfMemory going same is = (sym same ∙ is, refl)
refused s before sent x CutShort going same is = record {
  part = [];
  left = before.text.items ++ x;
  is_part = refl;
  written = nothing_written s;
  going = going;
}
refused s before sent x WriteFailed going same is = absurd is
