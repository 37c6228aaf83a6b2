-- The archive at its beginning.
use Rattle.std.proofs.lemmas.Bool.{false≢true}
use Rattle.std.proofs.Common.{List, Some, [], ap, arith, false, get_or, inr, length, length-append, map, refl, slice_get, subst, suc, sym, take, true, zero, ℕ, ⊎_elim, ◌++◌, ◌+◌, ◌<◌, ◌∙◌, ◌∷◌, ◌≡◌, ◌≤◌}
use Rattle.std.proofs.lemmas.Bool.Decides.{nat_tests}
use Rattle.std.proofs.lemmas.List.{length-map}
use Rattle.std.specs.Int.{bit_at}
use Rattle.std.specs.Prelude.{slice_index_or}
use mathlib.Core.Option.{some, some-injective, some-ne-none}
use lib.ListN.{get_elem?}
use Rattle.atomic_table.specs.Table.{opening}
use Rattle.farm_model.specs.Common.{names, Universe}
use Rattle.plan_model.specs.Common.{Plan, no_lane, IsSound, LaneState, start_lane}
use Rattle.archive_laws.proofs.Turns.{start_is_reached}
use Rattle.archive_laws.specs.Shown.{IsReached}
use Rattle.archive_laws.specs.Records.{Record, blank}
use Rattle.plan_verifier.specs.Accepted.{AcceptedPlan}
use Rattle.word_archive.specs.Rule.{Fits, HasHalted, Keeps, KeepsRule}
use Rattle.word_archive.specs.Serials.{AreFew, drawn, draws, made_by, once_below}
use Rattle.word_archive.specs.Views.{SeatView, base_view}

-- at the start each lane's record is blank
abbrev blanks : Universe → Plan → List Record
blanks u ofs = map (blank u) ofs

-- each lane has a blank record
blank_at : (u : Universe) (ofs : Plan) (l : ℕ) → l < length ofs
    → slice_get (blanks u ofs) l ≡ Some (blank u (slice_index_or ofs l no_lane))
blank_at u [] l h = absurd (omega arith)
blank_at u (c ∷ cs) zero h = refl
blank_at u (c ∷ cs) (suc l) h = blank_at u cs l (omega arith)

-- and no other
is_blank : (u : Universe) (ofs : Plan) (l : ℕ) (r : Record) → slice_get (blanks u ofs) l ≡ Some r
    → blank u (slice_index_or ofs l no_lane) ≡ r
is_blank u [] l r e = absurd (cc)
is_blank u (c ∷ cs) zero r e = cc
is_blank u (c ∷ cs) (suc l) r e = is_blank u cs l r e

-- no serial was drawn
none_drawn : (u : Universe) (ofs : Plan) (x : ℕ) → drawn x (blanks u ofs) ≡ 0
none_drawn u [] x = refl
none_drawn u (c ∷ cs) x = let r = none_drawn u cs x in omega arith

-- none at all
no_draws : (u : Universe) (ofs : Plan) → draws (blanks u ofs) ≡ 0
no_draws u [] = refl
no_draws u (c ∷ cs) = let r = no_draws u cs in omega arith

-- so none has too many
few_blanks : (u : Universe) (ofs : Plan) → AreFew u (blanks u ofs) ofs
few_blanks u [] = tt
few_blanks u (c ∷ cs) = (omega arith, few_blanks u cs)

-- a word of the first list
front_index : (xs ys : List ℕ) (n : ℕ) → n < length xs → get_or (xs ++ ys) n 0 ≡ get_or xs n 0
front_index [] ys n h = absurd (omega arith)
front_index (x ∷ xs) ys zero h = refl
front_index (x ∷ xs) ys (suc n) h = front_index xs ys n (omega arith)

-- the two words behind it
tail_index : (xs : List ℕ) (a b : ℕ) → (get_or (xs ++ a ∷ b ∷ []) (length xs) 0 ≡ a)
    × (get_or (xs ++ a ∷ b ∷ []) (length xs + 1) 0 ≡ b)
tail_index [] a b = (refl, refl)
tail_index (x ∷ xs) a b =
    let r = tail_index xs a b in
    let e : suc (length xs) + 1 ≡ suc (length xs + 1) = omega arith in
    (r.0, ap (λ n. get_or (x ∷ xs ++ a ∷ b ∷ []) n 0) e ∙ r.1)

-- the first list itself
take_front : (xs ys : List ℕ) → take (length xs) (xs ++ ys) ≡ xs
take_front [] ys = refl
take_front (x ∷ xs) ys = ap (λ l. x ∷ l) (take_front xs ys)

-- blank records stand at the lanes' beginnings
begun : (u : Universe) (ofs : Plan)
    → map (λ (r : Record). r.at) (blanks u ofs) ≡ map (start_lane u) ofs
begun u [] = refl
begun u (c ∷ cs) = ap (λ l. start_lane u c ∷ l) (begun u cs)

-- no number is below 0
once_zero : (x : ℕ) → once_below x 0 ≡ 0
once_zero x = grind (arith, nat_tests)

-- the initial archive has a word for each name
pub long_initial : (a : AcceptedPlan) → IsSound a.universe a.plan
    → length a.universe.initial ≡ names a.universe
unfolding names
long_initial a sound = sound.universe.words

-- the rule holds of the initial words
pub opens : (S : Type 0) (a : AcceptedPlan) (words : List ℕ) → IsSound a.universe a.plan
    → words ≡ a.universe.initial ++ 0 ∷ 0 ∷ []
    → KeepsRule {S = S} a (opening words [] (base_view a 0 false []))
opens S a words sound is =
    subst (λ ws. Keeps a ws (base_view a 0 false [] ∷ [])) (sym is) (record {
      records = blanks u a.plan;
      owner = λ _. 0;
      stopped = false;
      stands = record {
        long = let e = length-append u.initial (0 ∷ 0 ∷ []) in omega (arith, e, len);
        lanes = length-map a.plan (blank u);
        loads = λ l r e n lt k one. ap (λ x. bit_at x k)
            (front_index u.initial (0 ∷ 0 ∷ []) n (omega (arith, len)))
            ∙ (ap (λ (q : Record). bit_at (get_or q.loaded n 0) k) (is_blank u a.plan l r e)
            ∙ one);
        serials = record {
          once = λ x. none_drawn u a.plan x ∙ sym (ap (once_below x) at_serial ∙ once_zero x);
          count = no_draws u a.plan ∙ sym at_serial;
          few = few_blanks u a.plan;
          owed = λ l r e. subst (λ (q : Record). (made_by a l q.at ≤ length q.serials)
              × (length q.serials ≤ suc (made_by a l q.at))) (is_blank u a.plan l r e)
              (omega arith, omega arith);
          above = λ l k j x r v e there of known new.
              let none : slice_get [] j ≡ Some x =
              subst (λ (q : Record). slice_get q.serials j ≡ Some x)
              (sym (is_blank u a.plan l r e)) there in
              absurd (cc);
        };
        halts = record {
          set = (
            (λ ne. absurd (ne at_halt)),
            (λ s. ⊎_elim (λ (t : false ≡ true). absurd (false≢true t))
                (λ (t : HasHalted (blanks u a.plan)). absurd
                (false≢true (ap (λ (q : Record). q.halted) (is_blank u a.plan t.0 t.1 t.2)
                ∙ t.3))) s),
          );
          sights = λ l r e saw. absurd
              (false≢true (ap (λ (q : Record). q.saw) (is_blank u a.plan l r e) ∙ saw));
        };
        reached = subst (λ (y : List ℕ × List LaneState). IsReached u a.plan
            (record { words = y.0; lanes = y.1 }))
            (λ i. (sym names_part i, sym (begun u a.plan) i))
            (start_is_reached u a.plan sound);
      };
      fits = one;
      placed = λ l lt. (base_view a 0 false [], refl, inr (refl, omega arith));
    })
  where
    u : Universe
    u = a.universe

    len : length u.initial ≡ names u
    len = long_initial a sound

    at_serial : get_or (u.initial ++ 0 ∷ 0 ∷ []) (names u) 0 ≡ 0
    at_serial = ap (λ n. get_or (u.initial ++ 0 ∷ 0 ∷ []) n 0) (sym len)
        ∙ (tail_index u.initial 0 0).0

    at_halt : get_or (u.initial ++ 0 ∷ 0 ∷ []) (names u + 1) 0 ≡ 0
    at_halt =
        ap (λ n. get_or (u.initial ++ 0 ∷ 0 ∷ []) (n + 1) 0) (sym len)
        ∙ (tail_index u.initial 0 0).1

    names_part : take (names u) (u.initial ++ 0 ∷ 0 ∷ []) ≡ u.initial
    names_part =
        ap (λ n. take n (u.initial ++ 0 ∷ 0 ∷ [])) (sym len) ∙ take_front u.initial (0 ∷ 0 ∷ [])

    one : (id : ℕ) (v : SeatView) → get_elem? (base_view a 0 false [] ∷ []) id ≡ some v
        → Fits a (λ _. 0) (blanks u a.plan) false id v
    one zero v e =
        subst (Fits a (λ _. 0) (blanks u a.plan) false 0) (some-injective _ _ e)
        (record {
          entries = tt;
          spare = λ _. (
            refl,
            refl,
            tt,
            λ l ge lt. (refl, blank_at u a.plan l (omega (arith, length-map a.plan (blank u)))),
          );
          first = λ _. refl;
        })
    one (suc id) v e = absurd (some-ne-none v (sym e))
