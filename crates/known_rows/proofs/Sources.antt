-- The sources of a point, lane by lane.
use Rattle.std.proofs.Common.{◌≡◌, ◌⊎◌, inl, inr, ℕ, zero, suc, ◌+◌, ◌<◌, ◌≤◌, Bool, true, ◌==◌, nat_lt, List, [], ◌∷◌, ◌++◌, length, map, get_or, Some, slice_get, refl, sym, ap, subst, ◌∙◌, arith}
use Rattle.std.specs.Prelude.{if◌then◌else◌}
use Rattle.std.proofs.lemmas.Option.{none-some, same_Some, slice_get-get_or, slice_get_within, get_or_from_slice_get}
use Rattle.std.proofs.lemmas.List.{take_all}
use Rattle.std.proofs.lemmas.Bool.{cases_eq, cases_lt, and_parts, and_from, lt-ltb, both_ways, eq-eqb, ne_eqb}
use Rattle.farm_model.specs.Common.{Universe, variants, initial, outputs, IsKnown, IsUniverse}
use Rattle.farm_model.specs.declared.types.Variant.{Variant}
use Rattle.plan_model.specs.Plan.{Plan, lane, instruction_at, lane_outputs, outputs_before}
use Rattle.plan_model.specs.declared.instructions.Instruction.TheVariants.{Publish}
use Rattle.verdict_laws.proofs.Made.{made}
use Rattle.verdict_laws.proofs.Sets.{some_below_length}
use Rattle.verdict_laws.proofs.Unique.{output_at}
use Rattle.sat_rows.specs.Rows.{IsRowOf}
use Rattle.sat_rows.proofs.WantedLaws.{front_at}
use Rattle.known_rows.specs.declared.column.Source.{Source}
use Rattle.known_rows.specs.declared.marks.Output.{Output}
use Rattle.known_rows.specs.Marks.{output_with, outputs_at, outputs_with_points}
use Rattle.known_rows.specs.Points.{last_point, IsNothing, IsSource, HasNothing, AreSources}
use Rattle.known_rows.specs.Hits.{HasNoHit, IsHitSource, IsPushed, AreSourcesBelow}
use Rattle.known_rows.proofs.Numbering.{count-next, count-mono, count-few}
use Rattle.known_rows.proofs.MarkLaws.{get-then, outputs_with_points-long}

slice_get-map : {A B : Type 0} (f : A → B) (xs : List A) (k : ℕ) (x : A) → slice_get xs k ≡ Some x
    → slice_get (map f xs) k ≡ Some (f x)
slice_get-map f [] k x e = absurd (none-some x e)
slice_get-map f (y ∷ ys) zero x e = ap (λ z. Some (f z)) (same_Some y x e)
slice_get-map f (y ∷ ys) (suc k) x e = slice_get-map f ys k x e

-- output m of the publish at place k
pub output-get : (u : Universe) (p : Plan) (l n k r m : ℕ) (c : Variant)
    → n ≤ length (lane p l).instructions → k < n → instruction_at p l k ≡ Some (Publish r)
    → slice_get (outputs u r) m ≡ Some c
    → slice_get (outputs_with_points u p l n) (outputs_before u (lane p l) k m) ≡ Some
    (output_with (last_point p l k) c)
output-get u p l zero k r m c le lt at out = absurd (omega (arith, lt))
output-get u p l (suc n) k r m c le lt at out =
    elim (cases_eq k n) [
      | inl here ↦
          get-then (outputs_with_points u p l n) (outputs_at u p l n (instruction_at p l n))
          (outputs_before u (lane p l) k m) m
          (let a = outputs_with_points-long u p l n (omega (arith, le)) in
          let b = ap (λ i. outputs_before u (lane p l) i 0) here in omega (arith, a, b))
          ∙ ap (λ o. slice_get (outputs_at u p l n o) m) (ap (instruction_at p l) (sym here) ∙ at)
          ∙ slice_get-map (output_with (last_point p l n)) (outputs u r) m c out
          ∙ ap (λ j. Some (output_with (last_point p l j) c)) (sym here)
      | inr other ↦
          front_at (outputs_with_points u p l n) (outputs_at u p l n (instruction_at p l n))
          (outputs_before u (lane p l) k m)
          (output_with (last_point p l k) c)
          (output-get u p l n k r m c (omega (arith, le)) (omega (arith, lt, other)) at out)
    ]

-- where an output of the lane comes from
pub record ComesFrom (u : Universe) (p : Plan) (l n : ℕ) (o : Output) : Type 0 where
  pub place : ℕ
  pub recipe : ℕ
  pub number : ℕ
  pub publish : instruction_at p l place ≡ Some (Publish recipe)
  pub output : slice_get (outputs u recipe) number ≡ Some o.variant
  pub counted : n ≡ outputs_before u (lane p l) place number
  pub point : o.point ≡ last_point p l place

module _ (u : Universe) (p : Plan) (h : ℕ) (outs : List Output)
    (outs_are : outs ≡ outputs_with_points u p h (length (lane p h).instructions)) where
  pub outs-long : length outs ≡ length (lane_outputs u (lane p h))
  outs-long =
      let is = (lane p h).instructions in
      let long = ap length outs_are ∙ outputs_with_points-long u p h (length is) (omega arith) in
      let whole = ap (λ xs. length (made u xs)) (take_all (length is) is (omega arith)) in
      omega (arith, long, whole)

  pub comes_from : (n : ℕ) (o : Output) → slice_get outs n ≡ Some o → ComesFrom u p h n o
  comes_from n o at =
      let lt = slice_get_within outs n o at in
      let v = get_or (lane_outputs u (lane p h)) n o.variant in
      let a = output_at u (lane p h).instructions n v
      (slice_get-get_or (lane_outputs u (lane p h)) n o.variant (omega (arith, lt, outs-long))) in
      let k_lt = slice_get_within (lane p h).instructions a.place (Publish a.recipe) a.publish in
      let got =
      output-get u p h (length (lane p h).instructions) a.place a.recipe a.number v (omega arith)
      k_lt a.publish a.output in
      let same : o ≡ output_with (last_point p h a.place) v =
      same_Some o (output_with (last_point p h a.place) v)
      (sym at ∙ ap (λ os. slice_get os n) outs_are
      ∙ ap (slice_get (outputs_with_points u p h (length (lane p h).instructions))) a.counted ∙ got)
      in
      record {
        place = a.place;
        recipe = a.recipe;
        number = a.number;
        publish = a.publish;
        output = a.output ∙ ap (λ (w : Output). Some w.variant) (sym same);
        counted = a.counted;
        point = ap (λ (w : Output). w.point) same;
      }

  module _ (sound : IsUniverse u) (l i : ℕ) (test : Variant → Bool) (row : List ℕ)
      (row_is : IsRowOf u test row) (lt : h < length p) (limit : ℕ)
      (limit_is : limit ≡ (if h == l then outputs_before u (lane p l) i 0 else length outs)) where
    known_out : (r m : ℕ) (c : Variant) → slice_get (outputs u r) m ≡ Some c → IsKnown u c
    known_out r m c out =
        subst (IsKnown u) (get_or_from_slice_get (outputs u r) m c c out)
        (sound.outputs_known r m c (slice_get_within (outputs u r) m c out))

    own-limit : (h ≡ l) → limit ≡ outputs_before u (lane p h) i 0
    own-limit same = limit_is ∙ (rw (eq-eqb h l same) refl)
        ∙ ap (λ g. outputs_before u (lane p g) i 0) (sym same)

    other-limit : ((h ≡ l) → ⊥) → limit ≡ length outs
    other-limit other = limit_is ∙ (rw (ne_eqb h l other) refl)

    is_source : (s : Source) → IsHitSource row outs limit h s → IsSource u p l i test s
    is_source s hit =
        let f = comes_from hit.number hit.output hit.at in
        let sat = and_parts (nat_lt hit.output.variant.bit (variants u hit.output.variant.name))
        (test hit.output.variant)
        (sym (row_is.set hit.output.variant.name hit.output.variant.bit)
        ∙ hit.first.hit hit.output hit.at) in
        subst (IsSource u p l i test) (sym hit.is) (record {
          place = f.place;
          recipe = f.recipe;
          number = f.number;
          variant = hit.output.variant;
          below = lt;
          publish = f.publish;
          output = f.output;
          satisfies = sat.1;
          own = λ same. elim (cases_lt f.place i) [
            | inl early ↦ early
            | inr late ↦ absurd (omega (
              arith,
              own-limit same,
              hit.first.below,
              f.counted,
              count-mono u p h i f.place
                  late,
            ))
          ];
          count = omega (arith, f.counted);
          point = f.point;
        })

    -- the first hit is no later than any output that is looked for
    number_below : (k r m : ℕ) (c : Variant) → instruction_at p h k ≡ Some (Publish r)
        → slice_get (outputs u r) m ≡ Some c → (h ≡ l → k < i)
        → outputs_before u (lane p h) k m < limit
    number_below k r m c at out own =
        let next = count-next u p h k (Publish r) at in
        let long = some_below_length (outputs u r) m c out in
        elim (cases_eq h l) [
          | inl same ↦ omega (
            arith,
            next,
            long,
            own-limit same,
            count-mono u p h (suc k) i
                (own same),
          )
          | inr other ↦ omega (
            arith,
            next,
            long,
            other-limit other,
            outs-long,
            count-few u p h
                (suc k),
          )
        ]

    hit_at : (k r m : ℕ) (c : Variant) → instruction_at p h k ≡ Some (Publish r)
        → slice_get (outputs u r) m ≡ Some c → test c ≡ true
        → (n : ℕ) → HasNoHit row outs n → n ≤ outputs_before u (lane p h) k m
    hit_at k r m c at out sat n none =
        elim (cases_lt (outputs_before u (lane p h) k m) n) [
          | inl below ↦
              let k_lt = slice_get_within (lane p h).instructions k (Publish r) at in
              let got = ap (λ os. slice_get os (outputs_before u (lane p h) k m)) outs_are
              ∙ output-get u p h (length (lane p h).instructions) k r m c (omega arith) k_lt at
              out in
              let miss = none (outputs_before u (lane p h) k m) (output_with (last_point p h k) c)
              below
              got in
              let has = row_is.set c.name c.bit
              ∙ and_from _ _ (lt-ltb c.bit (variants u c.name) (known_out r m c out)) sat in
              absurd (both_ways _ miss has)
          | inr le ↦ le
        ]

    push-get : (ss : List Source) (s : Source) (k : ℕ) (t : Source) → slice_get (ss ++ s ∷ []) k
        ≡ Some t
        → (slice_get ss k ≡ Some t) ⊎ (s ≡ t)
    push-get [] s zero t g = inr (same_Some s t g)
    push-get [] s (suc k) t g = absurd (none-some t g)
    push-get (x ∷ ss) s zero t g = inl g
    push-get (x ∷ ss) s (suc k) t g = push-get ss s k t g

    last-get : (ss : List Source) (s : Source) → slice_get (ss ++ s ∷ []) (length ss) ≡ Some s
    last-get ss s = get-then ss (s ∷ []) (length ss) 0 (omega arith)

    pub pushed : (ss next : List Source) → AreSourcesBelow u p l i test ss h
        → IsPushed row outs limit h ss next → AreSourcesBelow u p l i test next (h + 1)
    pushed ss next so_far (inl (none, same)) =
        subst (λ xs. AreSourcesBelow u p l i test xs (h + 1)) (sym same) (record {
          sound = so_far.sound;
          nothing = so_far.nothing;
          outputs = λ g k r m c g_lt at out sat own. elim (cases_eq g h) [
            | inl here ↦
                let at1 = subst (λ z. instruction_at p z k ≡ Some (Publish r)) here at in
                absurd (omega (
                  arith,
                  number_below k r m c at1 out (λ z. own (here ∙ z)),
                  hit_at k r m c at1 out sat limit none,
                ))
            | inr other ↦ so_far.outputs g k r m c (omega (arith, g_lt, other)) at out sat own
          ];
        })
    pushed ss next so_far (inr (s, hit, same)) =
        subst (λ xs. AreSourcesBelow u p l i test xs (h + 1)) (sym same) (record {
          sound = λ k t at. elim (push-get ss s k t at) [
            | inl old ↦ so_far.sound k t old
            | inr new ↦ inr (subst (IsSource u p l i test) new (is_source s hit))
          ];
          nothing = λ c is sat.
              let z = so_far.nothing c is sat in
              record {
                index = z.index;
                source = z.source;
                at = front_at ss (s ∷ []) z.index z.source z.at;
                count = z.count;
                point = z.point;
              };
          outputs = λ g k r m c g_lt at out sat own. elim (cases_eq g h) [
            | inl here ↦
                let at1 = subst (λ z. instruction_at p z k ≡ Some (Publish r)) here at in
                let early = hit_at k r m c at1 out sat hit.number hit.first.none in
                let g_is = ap (λ z. outputs_before u (lane p z) k 0) here in
                let count = ap (λ (z : Source). z.count) hit.is in
                record {
                  index = length ss;
                  source = s;
                  at = last-get ss s;
                  is = is_source s hit;
                  of_lane = ap (λ (z : Source). z.lane) hit.is ∙ sym here;
                  early = omega (arith, early, g_is, count);
                }
            | inr other ↦
                let f = so_far.outputs g k r m c (omega (arith, g_lt, other)) at out sat own in
                record {
                  index = f.index;
                  source = f.source;
                  at = front_at ss (s ∷ []) f.index f.source f.at;
                  is = f.is;
                  of_lane = f.of_lane;
                  early = f.early;
                }
          ];
        })

pub all_sources : (u : Universe) (p : Plan) (l i n : ℕ) (test : Variant → Bool) (ss : List Source)
    → length p ≤ n → AreSourcesBelow u p l i test ss n → AreSources u p l i test ss
all_sources u p l i n test ss le below =
    record {
      sound = below.sound;
      nothing = below.nothing;
      outputs = λ h k r m c lt at out sat own. below.outputs h k r m c (omega (arith, lt, le)) at
          out sat own;
    }

-- with an initial variant that is looked for nothing is known
pub start_sources : (u : Universe) (p : Plan) (l i : ℕ) (test : Variant → Bool) (ss : List Source)
    → ((c : Variant) → initial u c ≡ true → test c ≡ true → HasNothing ss)
    → ((k : ℕ) (s : Source) → slice_get ss k ≡ Some s → IsNothing u test s)
    → AreSourcesBelow u p l i test ss 0
start_sources u p l i test ss nothing sound =
    record {
      sound = λ k s at. inl (sound k s at);
      nothing = nothing;
      outputs = λ h k r m c lt. absurd (omega (arith, lt));
    }
