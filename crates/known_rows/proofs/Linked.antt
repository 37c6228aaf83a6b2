-- The greatest columns of the points are the greatest clocks.
use Rattle.std.proofs.Common.{◌≡◌, ◌⊎◌, inl, inr, ℕ, suc, ◌<◌, ◌≤◌, max, Bool, true, ◌==◌, List, length, Option, Some, None, slice_get, refl, sym, ap, subst, ◌∙◌, arith}
use Rattle.std.specs.Prelude.{if◌then◌else◌}
use Rattle.std.proofs.lemmas.Bool.{cases_eq, cases_lt, eq-eqb, ne_eqb}
use Rattle.std.proofs.lemmas.Option.{slice_get_within}
use Rattle.farm_model.specs.Common.{Universe, outputs}
use Rattle.farm_model.specs.declared.types.Variant.{Variant}
use Rattle.plan_model.specs.Common.{side_at, home, Plan, lane, instruction_at, outputs_of, lane_outputs, outputs_before, possible, row_before, IsGreatest, IsSound}
use Rattle.plan_model.specs.declared.instructions.Instruction.{Instruction}
use Rattle.plan_model.specs.declared.instructions.Instruction.TheVariants.{Publish, Otherwise, EndWhen}
use Rattle.verdict_laws.proofs.Unions.{there}
use Rattle.verdict_laws.proofs.RowBefore.{row_before-le, each_place}
use Rattle.verdict_laws.specs.Clocks.{Clocks, clock_rows, Leads, LeadsAll, ClockAdds, KeepsClocks, AreKnown, AreWithinClocks}
use Rattle.verdict_laws.proofs.OwnCounts.{made-home}
use Rattle.verdict_laws.proofs.Sets.{some_below_length}
use Rattle.verdict_laws.proofs.Greatest.{greatest_clocks_are_greatest}
use Rattle.known_rows.specs.declared.column.Source.{Source}
use Rattle.known_rows.specs.declared.column.Point.{Point}
use Rattle.known_rows.specs.Column.{Counts, of_list, count_at, known, least, bound, IsPointBelow, AreKnownCounts, IsGreatestColumn}
use Rattle.known_rows.specs.Points.{one_point, point_number, last_point, IsNothing, IsSource, HasFirst, AreSources, ArePoints, clock_of}
use Rattle.known_rows.proofs.Numbering.{count-next, count-start, count-mono}
use Rattle.known_rows.proofs.Asked.{Asks, quiet_or_asks, asks-one, asks-row, asks-makes, learns-asked, adds-asked, learns-quiet}
use Rattle.known_rows.proofs.Carried.{last-here}
use Rattle.known_rows.proofs.Growing.{last-there, quiet-last, at_point, publish_grows}
use Rattle.known_rows.proofs.Possibly.{own_before, output_possible, initial_possible}
use Rattle.known_rows.proofs.Bounds.{known-own, known-other, known-nothing, least-known, least-above, bound-own, bound-other, le-from}

module _ (u : Universe) (p : Plan) (sound : IsSound u p) (ps : List Point)
    (points : ArePoints u p ps) where
  module _ (columns : ℕ → List ℕ)
      (greatest : (j : ℕ) → j < length p
      → IsGreatestColumn j (length (lane_outputs u (lane p j))) ps (columns j)) where
    abbrev counts : ℕ → Counts
    counts j = of_list (columns j)

    abbrev pub x : Clocks
    x = clock_of u p counts

    abbrev total : ℕ → ℕ
    total j = length (lane_outputs u (lane p j))

    -- how many outputs of lane j count where lane l stands
    abbrev at_last : ℕ → ℕ → ℕ → ℕ
    at_last j l i = count_at (counts j) (last_point p l i)

    x-own : (l i : ℕ) → x l i l ≡ outputs_before u (lane p l) i 0
    x-own l i = rw (eq-eqb l l refl) refl

    x-other : (l i j : ℕ) → ((j ≡ l) → ⊥) → x l i j ≡ at_last j l i
    x-other l i j ne = rw (ne_eqb j l ne) refl

    leads : (l i j n : ℕ) (test : Variant → Bool) (c : Variant) → l < length p → j < length p
        → (ss : List Source) → AreSources u p l i test ss → n < least j (counts j) (total j) ss
        → possible u p l i c ≡ true → test c ≡ true → Leads u p x c j n
    leads l i j n test c lt j_lt ss sources n_lt may sat =
        record {
          not_initial = λ is.
              let z = sources.nothing c is sat in
              let a = least-known j (counts j) (total j) ss z.index z.source z.at in
              let b = known-nothing j (counts j) z.source z.count z.point in
              absurd (omega (arith, n_lt, a, b));
          before = λ h k r m h_lt at out. before h k r m h_lt at out (cases_eq h j);
        }
      where
        before : (h k r m : ℕ) → h < length p → instruction_at p h k ≡ Some (Publish r)
            → slice_get (outputs u r) m ≡ Some c → (h ≡ j) ⊎ ((h ≡ j) → ⊥)
            → n < (if h == j then outputs_before u (lane p j) k (suc m) else x h k j)
        before h k r m h_lt at out which =
            let own : h ≡ l → k < i = λ same.
            own_before u p sound l i k r m c lt
            (subst (λ g. instruction_at p g k ≡ Some (Publish r)) same at) out may in
            let first = sources.outputs h k r m c h_lt at out sat own in
            let a = least-known j (counts j) (total j) ss first.index first.source first.at in
            by first a which
          where
            by : (first : HasFirst u p l i test ss h (outputs_before u (lane p h) k (suc m)))
                → least j (counts j) (total j) ss ≤ known j (counts j) first.source
                → (h ≡ j) ⊎ ((h ≡ j) → ⊥)
                → n < (if h == j then outputs_before u (lane p j) k (suc m) else x h k j)
            by first a (inl here) =
                let b = known-own j (counts j) first.source (first.of_lane ∙ here) in
                let d = ap (λ g. outputs_before u (lane p g) k 0) here in
                rw (eq-eqb h j here) (omega (arith, n_lt, a, b, first.early, d))
            by first a (inr other) =
                let s = first.source in
                let b = known-other j (counts j) s (λ g. other (sym first.of_lane ∙ g)) in
                let d = ap (count_at (counts j)) first.is.point in
                let f = ap (λ g. at_last j g first.is.place) first.of_lane in
                let long = some_below_length (outputs u r) m c out in
                let early : first.is.place ≤ k =
                elim (cases_lt k first.is.place) [
                  | inl later ↦
                      let next = count-next u p h k (Publish r) at in
                      let up = count-mono u p h (suc k) first.is.place later in
                      let g = ap (λ z. outputs_before u (lane p z) first.is.place 0) first.of_lane
                      in
                      absurd (omega (arith, next, up, g, first.is.count, first.early, long))
                  | inr fine ↦ fine
                ] in
                let there_too =
                subst (λ g. instruction_at p g first.is.place ≡ Some (Publish first.is.recipe))
                first.of_lane first.is.publish in
                let up = publish_grows u p sound ps points columns greatest h first.is.place k
                first.is.recipe r j h_lt j_lt there_too at
                (λ g. other (sym g)) early in
                let here = x-other h k j (λ g. other (sym g)) in
                rw (ne_eqb h j other) (omega (arith, n_lt, a, b, d, f, up, here))

    keeps : KeepsClocks u p x
    keeps = record { at_start = at_start; own = λ l i y lt at. x-own l i; after = after }
      where
        at_start : (l j : ℕ) → l < length p → x l 0 j ≡ 0
        at_start l j lt =
            elim (cases_eq j l) [
              | inl same ↦ (rw (eq-eqb j l same) refl) ∙ count-start u p l
              | inr other ↦ rw (ne_eqb j l other) refl
            ]

        own_quiet : (l i n : ℕ) (y : Instruction) → instruction_at p l i ≡ Some y
            → length (outputs_of u y) ≡ 0 → n < outputs_before u (lane p l) (suc i) 0
            → n < outputs_before u (lane p l) i 0
        own_quiet l i n y at none n_lt = omega (arith, count-next u p l i y at, none, n_lt)

        own_home : (l i n : ℕ) (y : Instruction) → l < length p → instruction_at p l i ≡ Some y
            → n < outputs_before u (lane p l) i 0
            → n < outputs_before u (lane p l) (home (side_at (lane p l).instructions i) i) 0
        own_home l i n y lt at n_lt =
            let i_lt = slice_get_within (lane p l).instructions i y at in
            let e = made-home u (lane p l).instructions (sound.plan.branched l lt) i
            (omega (arith, i_lt)) in
            omega (arith, e, n_lt)

        own_after : (l i n : ℕ) (y : Instruction) → l < length p → instruction_at p l i ≡ Some y
            → n < outputs_before u (lane p l) (suc i) 0
            → (n < outputs_before u (lane p l) (row_before p l i y) 0) ⊎ ClockAdds u p x l i l n y
        own_after l i n (Publish r) lt at n_lt = inr (refl, n_lt)
        own_after l i n Otherwise lt at n_lt =
            inl (own_home l i n Otherwise lt at (own_quiet l i n Otherwise at refl n_lt))
        own_after l i n EndWhen lt at n_lt =
            inl (own_home l i n EndWhen lt at (own_quiet l i n EndWhen at refl n_lt))
        own_after l i n y lt at n_lt = inl (own_quiet l i n y at refl n_lt)

        other_after : (l i j n : ℕ) (y : Instruction) → l < length p → j < length p → ((j ≡ l) → ⊥)
            → instruction_at p l i ≡ Some y → n < at_last j l (suc i)
            → (one_point y ≡ 0) ⊎ Asks u y
            → (n < at_last j l (row_before p l i y)) ⊎ ClockAdds u p x l i j n y
        other_after l i j n y lt j_lt ne at n_lt (inl none) =
            let e = ap (count_at (counts j)) (quiet-last u p sound ps points l i y lt at none) in
            inl (omega (arith, e, n_lt))
        other_after l i j n y lt j_lt ne at n_lt (inr asks) =
            let has = points.each l i y asks.test lt at asks.is in
            let up = at_point u p sound ps points columns greatest l i j y asks.test j_lt at asks.is
            ne has in
            elim (cases_lt n (at_last j l i)) [
              | inl old ↦
                  inl (subst (λ k. n < at_last j l k) (sym (asks-row u asks.test p l i y asks.is))
                  old)
              | inr new ↦
                  let below : n < least j (counts j) (total j) has.point.sources.items = omega
                  (arith, up, new, n_lt) in
                  inr (adds-asked u asks.test p x l i j n y asks.is ne
                  (λ c may sat. leads l i j n asks.test c lt j_lt has.point.sources.items
                  has.is.sources below may sat))
            ]

        after : (l i j n : ℕ) (y : Instruction) → l < length p → j < length p
            → instruction_at p l i ≡ Some y → n < x l (suc i) j
            → (n < x l (row_before p l i y) j) ⊎ ClockAdds u p x l i j n y
        after l i j n y lt j_lt at n_lt =
            let from = row_before p l i y in
            elim (cases_eq j l) [
              | inl same ↦
                  subst (λ g. (n < x l from g) ⊎ ClockAdds u p x l i g n y) (sym same)
                  (elim (own_after l i n y lt at (let e = ap (x l (suc i)) same in omega
                  (arith, n_lt, e, x-own l (suc i)))) [
                    | inl old ↦ inl (omega (arith, old, x-own l from))
                    | inr new ↦ inr new
                  ])
              | inr other ↦
                  elim (other_after l i j n y lt j_lt other at
                  (omega (arith, n_lt, x-other l (suc i) j other)) (quiet_or_asks u y)) [
                    | inl old ↦ inl (omega (arith, old, x-other l from j other))
                    | inr new ↦ inr new
                  ]
            ]

    -- any clocks that keep to the inclusions lie within these
    module _ (y : Clocks) (are : AreKnown u p y) where
      value : ℕ → Option Point → ℕ
      value j None = 0
      value j (Some of) = y of.lane (suc of.place) j

      theirs : ℕ → Counts
      theirs j w = value j (slice_get ps w)

      theirs-at : (j w : ℕ) (of : Point) (l i : ℕ) → slice_get ps w ≡ Some of → of.lane ≡ l
          → of.place ≡ i
          → theirs j w ≡ y l (suc i) j
      unfolding theirs value
      theirs-at j w of l i at in_lane in_place =
          ap (value j) at ∙ ap (λ k. y k (suc of.place) j) in_lane
          ∙ ap (λ k. y l (suc k) j) in_place

      -- what is known was known at the point whose counts hold
      abbrev IsWithin : ℕ → ℕ → ℕ → Type 0
      IsWithin l j i =
          i ≤ length (lane p l).instructions → y l i j ≤ count_at (theirs j) (last_point p l i)

      since : (l j : ℕ) → l < length p → j < length p → ((j ≡ l) → ⊥) → (i : ℕ)
          → i ≤ length (lane p l).instructions → y l i j ≤ count_at (theirs j) (last_point p l i)
      since l j lt j_lt ne = each_place (IsWithin l j) (λ le. omega (arith, are.none l j lt j_lt))
          next
        where
          by : (i : ℕ) (z : Instruction) → instruction_at p l i ≡ Some z
              → suc i ≤ length (lane p l).instructions → ((k : ℕ) → k ≤ i → IsWithin l j k)
              → (one_point z ≡ 0) ⊎ Asks u z
              → y l (suc i) j ≤ count_at (theirs j) (last_point p l (suc i))
          by i z at le so_far (inl none) =
              let k = row_before p l i z in
              let from = row_before-le p l i z in
              let e = ap (count_at (theirs j)) (quiet-last u p sound ps points l i z lt at none) in
              let few = so_far k from (omega (arith, from, le)) in
              let up = le-from (y l (suc i) j) (y l k j)
              (λ n n_lt. elim (are.after l i j n z lt j_lt ne at n_lt) [
                | inl old ↦ old
                | inr new ↦ absurd (learns-quiet u p y l i j n z none new)
              ]) in
              omega (arith, e, few, up)
          by i z at le so_far (inr asks) =
              let has = points.each l i z asks.test lt at asks.is in
              let here = ap (count_at (theirs j)) (last-here p l i z at
              (asks-one u asks.test z asks.is)) in
              let is = theirs-at j (point_number p l i) has.point l i has.at has.is.lane
              has.is.place in
              omega (arith, here, is)

          next : (i : ℕ) → ((k : ℕ) → k ≤ i → IsWithin l j k) → IsWithin l j (suc i)
          next i so_far le =
              let z = there p l i (omega (arith, le)) in
              by i z.0 z.1 le so_far (quiet_or_asks u z.0)

      learned : (l i j n k : ℕ) (test : Variant → Bool) (s : Source) → j < length p
          → LeadsAll u p y l i j n test → IsNothing u test s ⊎ IsSource u p l i test s
          → n < known j (theirs j) s
      learned l i j n k test s j_lt learns (inl none) =
          absurd ((learns none.variant (initial_possible u p l i none.variant none.is_initial)
          none.satisfies).not_initial none.is_initial)
      learned l i j n k test s j_lt learns (inr one) =
          let may = output_possible u p l i s.lane one.place one.recipe one.number one.variant
          one.below one.publish one.output one.own in
          let ahead = (learns one.variant may one.satisfies).before s.lane one.place one.recipe
          one.number one.below one.publish one.output in
          by ahead (cases_eq s.lane j)
        where
          by : n < (if s.lane == j then outputs_before u (lane p j) one.place (suc one.number)
              else y s.lane one.place j)
              → (s.lane ≡ j) ⊎ ((s.lane ≡ j) → ⊥) → n < known j (theirs j) s
          by ahead (inl here) =
              let a : n < outputs_before u (lane p j) one.place (suc one.number) =
              rw (eq-eqb s.lane j here) at ahead in
              let b = known-own j (theirs j) s here in
              let d = ap (λ g. outputs_before u (lane p g) one.place 0) here in
              omega (arith, a, b, d, one.count)
          by ahead (inr other) =
              let a : n < y s.lane one.place j = rw (ne_eqb s.lane j other) at ahead in
              let b = known-other j (theirs j) s other in
              let d = ap (count_at (theirs j)) one.point in
              let k_lt = slice_get_within (lane p s.lane).instructions one.place
              (Publish one.recipe) one.publish in
              let f = since s.lane j one.below j_lt (λ g. other (sym g)) one.place
              (omega (arith, k_lt)) in
              omega (arith, a, b, d, f)

      theirs-known : (j : ℕ) → j < length p → AreKnownCounts j (total j) ps (theirs j)
      unfolding theirs value
      theirs-known j j_lt = record { few = λ w. few (slice_get ps w); bounded = bounded }
        where
          few : (o : Option Point) → value j o ≤ total j
          few None = omega arith
          few (Some of) = are.few of.lane (suc of.place) j

          bounded : (w : ℕ) (of : Point) → slice_get ps w ≡ Some of
              → theirs j w ≤ bound j (total j) (theirs j) of
          bounded w of at =
              let is = points.back w of at in
              let here = theirs-at j w of is.lane is.place at is.is.lane is.is.place in
              let below = slice_get_within (lane p is.lane).instructions is.place is.instruction
              is.there in
              elim (cases_eq is.lane j) [
                | inl same ↦
                    let a = bound-own j (total j) (theirs j) of (is.is.lane ∙ same) in
                    let b = are.own is.lane (suc is.place) is.below (omega (arith, below)) in
                    let d = ap (λ g. y is.lane (suc is.place) g) same in
                    let f = count-next u p is.lane is.place is.instruction is.there in
                    let none = ap length (asks-makes u is.test is.instruction is.asks) in
                    omega (arith, here, a, b, d, f, none, is.is.own)
                | inr other ↦
                    let a = bound-other j (total j) (theirs j) of
                    (λ g. other (sym is.is.lane ∙ g)) in
                    let b = ap (count_at (theirs j)) is.is.before in
                    let ne : (j ≡ is.lane) → ⊥ = λ g. other (sym g) in
                    let so_far = since is.lane j is.below j_lt ne is.place (omega (arith, below)) in
                    let row = ap (λ k. y is.lane k j) (asks-row u is.test p is.lane is.place
                    is.instruction is.asks) in
                    let up = le-from (y is.lane (suc is.place) j)
                    (max (count_at (theirs j) of.before)
                    (least j (theirs j) (total j) of.sources.items))
                    (λ n n_lt. elim (are.after is.lane is.place j n is.instruction is.below j_lt ne
                    is.there n_lt) [
                      | inl old ↦ omega (arith, old, row, so_far, b)
                      | inr new ↦
                          let learns = learns-asked u is.test p y is.lane is.place j n
                          is.instruction is.asks new in
                          let under : n < total j = omega
                          (arith, n_lt, are.few is.lane (suc is.place) j) in
                          let ahead = least-above j (theirs j) (total j) n of.sources.items under
                          (λ k s e. learned is.lane is.place j n k is.test s j_lt learns
                          (is.is.sources.sound k s e)) in
                          omega (arith, ahead)
                    ]) in
                    omega (arith, here, a, up)
              ]

      within : AreWithinClocks p y x
      within l i j lt le j_lt =
          elim (cases_eq j l) [
            | inl same ↦
                let a = are.own l i lt le in
                let b = ap (y l i) same in
                let d = ap (x l i) same in omega (arith, a, b, d, x-own l i)
            | inr other ↦
                let a = since l j lt j_lt other i le in
                let b = within_last (last_point p l i) (last-there u p sound ps points l i lt) in
                omega (arith, a, b, x-other l i j other)
          ]
        where
          within_last : (o : Option ℕ) → IsPointBelow (length ps) o
              → count_at (theirs j) o ≤ count_at (counts j) o
          within_last None placed = omega arith
          within_last (Some w) placed = (greatest j j_lt).above (theirs j) (theirs-known j j_lt) w
              placed

    pub rows_are_greatest : IsGreatest u p (clock_rows u p x)
    rows_are_greatest = greatest_clocks_are_greatest u p x sound keeps (λ y are. within y are)
