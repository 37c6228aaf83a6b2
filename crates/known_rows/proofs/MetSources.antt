-- The sources that a point of a lane may meet, of those of what it looks for.
use Rattle.std.proofs.Common.{◌≡◌, inl, inr, ℕ, zero, suc, ◌<◌, ◌≤◌, Bool, true, false, nat_le, cond, List, [], ◌∷◌, length, Some, slice_get, refl, sym, ap, ◌∙◌, arith}
use Rattle.std.specs.List.{filter}
use Rattle.std.proofs.lemmas.Option.{none-some, same_Some}
use Rattle.std.proofs.lemmas.Bool.{cases_eq, cases_lt, eq-eqb, ne_eqb, le-leb, leb-true, false≢true}
use Rattle.farm_model.specs.Common.{Universe, outputs}
use Rattle.farm_model.specs.declared.types.Variant.{Variant}
use Rattle.plan_model.specs.Plan.{Plan, lane, outputs_before}
use Rattle.plan_model.specs.declared.instructions.Instruction.TheVariants.{Publish}
use Rattle.verdict_laws.proofs.Sets.{some_below_length}
use Rattle.known_rows.specs.declared.column.Source.{Source}
use Rattle.known_rows.specs.declared.marks.Mark.{Mark}
use Rattle.known_rows.specs.Points.{IsSource, AreSources}
use Rattle.known_rows.specs.Hits.{may_meet}
use Rattle.known_rows.proofs.Numbering.{count-next, count-mono}

-- the item stands in the list
pub record IsAt {X : Type 0} (xs : List X) (x : X) : Type 0 where
  pub index : ℕ
  pub at : slice_get xs index ≡ Some x

module _ {X : Type 0} (f : X → Bool) where
  later : (xs : List X) (y x : X) → IsAt xs x → IsAt (y ∷ xs) x
  later xs y x a = record { index = suc a.index; at = a.at }

  kept_step : (ys : List X) (y x : X) (b : Bool) → f y ≡ b
      → ((k : ℕ) → slice_get (filter f ys) k ≡ Some x → IsAt ys x × (f x ≡ true)) → (k : ℕ)
      → slice_get (cond b (y ∷ filter f ys) (filter f ys)) k ≡ Some x
      → IsAt (y ∷ ys) x × (f x ≡ true)
  kept_step ys y x true is rest zero e =
      (record { index = 0; at = e }, ap f (sym (same_Some y x e)) ∙ is)
  kept_step ys y x true is rest (suc k) e = let r = rest k e in (later ys y x r.0, r.1)
  kept_step ys y x false is rest k e = let r = rest k e in (later ys y x r.0, r.1)

  -- what is kept was there, and passes
  pub kept_there : (xs : List X) (k : ℕ) (x : X) → slice_get (filter f xs) k ≡ Some x
      → IsAt xs x × (f x ≡ true)
  kept_there [] k x e = absurd (none-some x e)
  kept_there (y ∷ ys) k x e = kept_step ys y x (f y) refl (λ j at. kept_there ys j x at) k e

  there_first : (zs : List X) (y x : X) (b : Bool) → b ≡ true → Some y ≡ Some x
      → IsAt (cond b (y ∷ zs) zs) x
  there_first zs y x true is e = record { index = 0; at = e }
  there_first zs y x false is e = absurd (false≢true is)

  there_step : (zs : List X) (y x : X) (b : Bool) → IsAt zs x → IsAt (cond b (y ∷ zs) zs) x
  there_step zs y x true a = later zs y x a
  there_step zs y x false a = a

  -- what was there and passes is kept
  pub there_kept : (xs : List X) (k : ℕ) (x : X) → slice_get xs k ≡ Some x → f x ≡ true
      → IsAt (filter f xs) x
  there_kept [] k x e t = absurd (none-some x e)
  there_kept (y ∷ ys) zero x e t =
      there_first (filter f ys) y x (f y) (ap f (same_Some y x e) ∙ t) e
  there_kept (y ∷ ys) (suc k) x e t =
      there_step (filter f ys) y x (f y) (there_kept ys k x e t)

module _ (u : Universe) (p : Plan) (test : Variant → Bool) (mark : Mark) (lt : mark.lane < length p)
    (own : mark.own ≡ outputs_before u (lane p mark.lane) mark.place 0) where
  meets_own : (s : Source) → s.lane ≡ mark.lane → may_meet mark s ≡ nat_le s.count mark.own
  meets_own s same = rw (eq-eqb s.lane mark.lane same) refl

  meets_other : (s : Source) → (s.lane ≡ mark.lane → ⊥) → may_meet mark s ≡ true
  meets_other s other = rw (ne_eqb s.lane mark.lane other) refl

  meets_few : (s : Source) → s.count ≤ mark.own → may_meet mark s ≡ true
  meets_few s few = elim (cases_eq s.lane mark.lane) [
    | inl same ↦ meets_own s same ∙ le-leb s.count mark.own few
    | inr other ↦ meets_other s other
  ]

  before : (s : Source) (k : ℕ) → s.lane ≡ mark.lane → s.count ≤ mark.own
      → suc (outputs_before u (lane p s.lane) k 0) ≤ s.count → k < mark.place
  before s k same few more = elim (cases_lt k mark.place) [
    | inl early ↦ early
    | inr late ↦
        let le = count-mono u p mark.lane mark.place k late in
        let here = ap (λ h. outputs_before u (lane p h) k 0) same in
        absurd (omega (arith, le, here, few, more, own))
  ]

  of_lane : (s : Source) → may_meet mark s ≡ true → IsSource u p (length p) 0 test s
      → IsSource u p mark.lane mark.place test s
  of_lane s meets f =
      record {
        place = f.place;
        recipe = f.recipe;
        number = f.number;
        variant = f.variant;
        below = f.below;
        publish = f.publish;
        output = f.output;
        satisfies = f.satisfies;
        own = λ same. before s f.place same
            (leb-true s.count mark.own (sym (meets_own s same) ∙ meets))
            (let n = f.count in omega (arith, n));
        count = f.count;
        point = f.point;
      }

  pub met_are : (all : List Source) → AreSources u p (length p) 0 test all
      → AreSources u p mark.lane mark.place test (filter (may_meet mark) all)
  met_are all are =
      record {
        sound = λ k s at.
            let old = kept_there (may_meet mark) all k s at in
            elim (are.sound old.0.index s old.0.at) [
              | inl nothing ↦ inl nothing
              | inr source ↦ inr (of_lane s old.1 source)
            ];
        nothing = λ c is sat.
            let z = are.nothing c is sat in
            let few : z.source.count ≤ mark.own = (let n = z.count in omega (arith, n)) in
            let new = there_kept (may_meet mark) all z.index z.source z.at
            (meets_few z.source few) in
            record {
              index = new.index;
              source = z.source;
              at = new.at;
              count = z.count;
              point = z.point;
            };
        outputs = λ h k r m c h_lt at out sat may.
            let f = are.outputs h k r m c h_lt at out sat
            (λ same. absurd (omega (arith, same, h_lt))) in
            let meets : may_meet mark f.source ≡ true =
            elim (cases_eq h mark.lane) [
              | inl same ↦
                  let next = count-next u p h k (Publish r) at in
                  let long = some_below_length (outputs u r) m c out in
                  let mono = count-mono u p h (suc k) mark.place (may same) in
                  let here = ap (λ g. outputs_before u (lane p g) mark.place 0) same in
                  let early = f.early in
                  meets_few f.source (omega (arith, next, long, mono, here, early, own))
              | inr other ↦
                  meets_other f.source (λ same. other (sym f.of_lane ∙ same))
            ] in
            let new = there_kept (may_meet mark) all f.index f.source f.at meets in
            record {
              index = new.index;
              source = f.source;
              at = new.at;
              is = of_lane f.source meets f.is;
              of_lane = f.of_lane;
              early = f.early;
            };
      }
