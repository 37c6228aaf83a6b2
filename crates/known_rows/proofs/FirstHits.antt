-- The numbers of the first outputs that a row has, as more outputs are looked at.
use Rattle.std.proofs.Common.{◌≡◌, ℕ, ◌+◌, ◌<◌, ◌≤◌, Bool, true, List, [], length, get_or, Some, slice_get, slice_set, inl, inr, refl, sym, ap, subst, ◌∙◌, arith, length-set, get_or-set_same, get_or-set_other}
use Rattle.std.proofs.lemmas.Bool.{cases_eq, cases_lt, cases_Bool, both_ways}
use Rattle.std.proofs.lemmas.Option.{slice_get_within, slice_get-get_or, get_or_from_slice_get}
use Rattle.bit_rows.specs.Sets.{variants_of, HasNoneFrom}
use Rattle.farm_model.specs.Common.{Universe, names, IsKnown}
use Rattle.farm_universe.proofs.PlaceLaws.{named}
use Rattle.known_rows.specs.declared.by_name.OutputPlace.{OutputPlace}
use Rattle.known_rows.specs.declared.marks.LaneOutputs.{LaneOutputs}
use Rattle.known_rows.specs.declared.marks.Output.{Output}
use Rattle.known_rows.specs.Hits.{HasNoHit, AreKnownOutputs}
use Rattle.known_rows.proofs.HitLaws.{out_known}
use Rattle.known_rows.specs.ByName.{IsOutput, AreKnownLanes, AreListedByName, place, has, AreHits, IsEarliest, AreMoved, AreFirsts}

module _ (row : List ℕ) (lanes : List LaneOutputs) where
  pub moved_not : (firsts : List ℕ) → AreMoved row lanes firsts firsts
  moved_not firsts = record { long = refl; hits = λ are. are; earlier = λ l. omega arith }

  pub moved_more : (a b c : List ℕ) → AreMoved row lanes a b → AreMoved row lanes b c
      → AreMoved row lanes a c
  moved_more a b c first next =
      record {
        long = next.long ∙ first.long;
        hits = λ are. next.hits (first.hits are);
        earlier = λ l. omega (arith, first.earlier l, next.earlier l);
      }

  -- the number of one lane becomes that of an earlier output that the row has
  module _ (firsts : List ℕ) (l n : ℕ) (lt : l < length firsts) (less : n < get_or firsts l 0)
      (hit : (o : Output) → IsOutput lanes l n o → has row o ≡ true) where
    here : get_or (slice_set firsts l n) l 0 ≡ n
    here = get_or-set_same firsts l n 0 lt

    other_lane : (k : ℕ) → (k ≡ l → ⊥) → get_or (slice_set firsts l n) k 0 ≡ get_or firsts k 0
    other_lane k differs = get_or-set_other firsts l k n 0 differs

    hits : AreHits row lanes firsts → AreHits row lanes (slice_set firsts l n)
    hits are k o is =
        elim (cases_eq k l) [
          | inl same ↦
              hit o (subst (λ m. IsOutput lanes l m o) here
              (subst (λ h. IsOutput lanes h (get_or (slice_set firsts l n) h 0) o) same is))
          | inr differs ↦
              are k o (subst (λ m. IsOutput lanes k m o) (other_lane k differs) is)
        ]

    earlier : (k : ℕ) → get_or (slice_set firsts l n) k 0 ≤ get_or firsts k 0
    earlier k =
        elim (cases_eq k l) [
          | inl same ↦
              let there = ap (λ h. get_or (slice_set firsts l n) h 0) same in
              let before = ap (λ h. get_or firsts h 0) same in
              omega (arith, here, there, before, less)
          | inr differs ↦ let is = other_lane k differs in omega (arith, is)
        ]

    pub moved_to : AreMoved row lanes firsts (slice_set firsts l n)
    moved_to = record { long = length-set firsts l n; hits = hits; earlier = earlier }

  -- of each name looked at
  pub still_earliest : (old new : List ℕ) (name : ℕ) → AreMoved row lanes old new
      → IsEarliest row lanes old name → IsEarliest row lanes new name
  still_earliest old new name moved so_far l n o is named hit =
      let before = so_far l n o is named hit in omega (arith, before, moved.earlier l)

  -- the outputs of the first k places of a list are no earlier
  abbrev pub AreEarly : List OutputPlace → ℕ → List ℕ → Type 0
  AreEarly places k firsts =
      (l n j : ℕ) (o : Output) → j < k → slice_get places j ≡ Some (place l n)
      → IsOutput lanes l n o
      → has row o ≡ true → get_or firsts l 0 ≤ n

  pub early_next : (old new : List ℕ) (places : List OutputPlace) (k : ℕ) (d : OutputPlace)
      → AreMoved row lanes old new → AreEarly places k old
      → ((o : Output) → IsOutput lanes (get_or places k d).lane (get_or places k d).number o
      → has row o ≡ true → get_or new (get_or places k d).lane 0 ≤ (get_or places k d).number)
      → AreEarly places (k + 1) new
  early_next old new places k d moved so_far now l n j o lt at is hit =
      elim (cases_eq j k) [
        | inl same ↦
            let found : get_or places k d ≡ place l n =
            get_or_from_slice_get places k (place l n) d (ap (slice_get places) (sym same) ∙ at) in
            subst (λ (p : OutputPlace). (w : Output) → IsOutput lanes p.lane p.number w
            → has row w ≡ true → get_or new p.lane 0 ≤ p.number) found now o is hit
        | inr other ↦
            let before = so_far l n j o (omega (arith, lt, other)) at is hit in
            omega (arith, before, moved.earlier l)
      ]

  -- once the list of a name was gone over
  pub name_done : (lists : List (List OutputPlace)) (places : List OutputPlace) (firsts : List ℕ)
      (name k : ℕ) → AreListedByName lists lanes (length lanes) → places ≡ get_or lists name []
      → length places ≤ k → AreEarly places k firsts → IsEarliest row lanes firsts name
  name_done lists places firsts name k listed are end so_far l n o is named hit =
      let within = slice_get_within lanes l is.of is.lane in
      let there = listed l is.of within is.lane n o
      (slice_get_within is.of.outputs.items n o is.output) is.output in
      let at : slice_get places there.0 ≡ Some (place l n) =
      subst (λ xs. slice_get xs there.0 ≡ Some (place l n))
      (ap (λ m. get_or lists m []) named ∙ sym are) there.1 in
      so_far l n there.0 o (omega (arith, slice_get_within places there.0 (place l n) at, end)) at
      is
      hit

  -- each name below this one was looked at
  pub record IsSoFar (firsts : List ℕ) (name : ℕ) : Type 0 where
    pub inside : name ≤ length row
    pub long : length firsts ≡ length lanes
    pub hits : AreHits row lanes firsts
    pub early : (m : ℕ) → m < name → IsEarliest row lanes firsts m

  none_early : (firsts : List ℕ) (from to m : ℕ) → HasNoneFrom (variants_of row) from to → from ≤ m
      → m < to → IsEarliest row lanes firsts m
  none_early firsts from to m none le lt l n o is named hit =
      absurd (both_ways (has row o) (none o.variant.name o.variant.bit (omega (arith, le, named))
      (omega (arith, lt, named))) hit)

  pub so_far_start : (ends : List ℕ) (name : ℕ) → length ends ≡ length lanes
      → ((l : ℕ) (of : LaneOutputs) → slice_get lanes l ≡ Some of
      → get_or ends l 0 ≡ length of.outputs.items) → name ≤ length row
      → HasNoneFrom (variants_of row) 0 name → IsSoFar ends name
  so_far_start ends name long are inside none =
      record {
        inside = inside;
        long = long;
        hits = λ l o is.
            let end = are l is.of is.lane in
            let within = slice_get_within is.of.outputs.items (get_or ends l 0) o is.output in
            absurd (omega (arith, end, within));
        early = λ m lt. none_early ends 0 name m none (omega arith) lt;
      }

  pub so_far_next : (old new : List ℕ) (name next : ℕ) → IsSoFar old name
      → AreMoved row lanes old new → IsEarliest row lanes new name → next ≤ length row
      → HasNoneFrom (variants_of row) (name + 1) next → IsSoFar new next
  so_far_next old new name next so_far moved here inside none =
      record {
        inside = inside;
        long = moved.long ∙ so_far.long;
        hits = moved.hits so_far.hits;
        early = early;
      }
    where
      early : (m : ℕ) → m < next → IsEarliest row lanes new m
      early m lt =
          elim (cases_lt m name) [
            | inl before ↦ still_earliest old new m moved (so_far.early m before)
            | inr from ↦ elim (cases_eq m name) [
              | inl same ↦ subst (IsEarliest row lanes new) (sym same) here
              | inr other ↦ none_early new (name + 1) next m none (omega (arith, from, other)) lt
            ]
          ]

  -- once each name was looked at
  module _ (firsts : List ℕ) (long : length firsts ≡ length lanes) (hits : AreHits row lanes firsts)
      (early : (l n : ℕ) (o : Output) → IsOutput lanes l n o → has row o ≡ true
      → get_or firsts l 0 ≤ n) where
    none_before : (l : ℕ) (of : LaneOutputs) → slice_get lanes l ≡ Some of → (m : ℕ)
        → m ≤ get_or firsts l 0 → HasNoHit row of.outputs.items m
    none_before l of at m le k o lt is =
        elim (cases_Bool (has row o)) [
          | inl hit ↦
              absurd (omega (
                arith,
                le,
                lt,
                early l k o (record { of = of; lane = at; output = is }) hit,
              ))
          | inr miss ↦ miss
        ]

    pub are_firsts : AreFirsts row lanes firsts
    are_firsts =
        record {
          long = long;
          each = λ l of at. record {
            hit = λ lt. record {
              below = lt;
              hit = λ o is. hits l o (record { of = of; lane = at; output = is });
              none = none_before l of at (get_or firsts l 0) (omega arith);
            };
            none = λ le. none_before l of at (length of.outputs.items) le;
          };
        }

  -- each output has one of the names
  pub all_looked_at : (u : Universe) (firsts : List ℕ) (name : ℕ) → AreKnownLanes u lanes
      → length row ≡ names u → length row ≤ name → IsSoFar firsts name → AreFirsts row lanes firsts
  all_looked_at u firsts name known long end so_far =
      are_firsts firsts so_far.long so_far.hits (λ l n o is hit.
      let is_known = known l is.of is.lane n o is.output in
      let there = named u o.variant.name o.variant.bit is_known in
      so_far.early o.variant.name (omega (arith, there, long, end)) l n o is refl hit)

-- an output of a lane
module _ (lanes : List LaneOutputs) (l n : ℕ) (of : LaneOutputs) (outs : List Output) (d : Output)
    (is : outs ≡ (get_or lanes l of).outputs.items) (lt : l < length lanes) where
  pub known_at : (u : Universe) → AreKnownLanes u lanes → n < length outs
      → IsKnown u (get_or outs n d).variant
  known_at u known lt_n =
      out_known u outs n d
      (subst (AreKnownOutputs u) (sym is)
      (known l (get_or lanes l of) (slice_get-get_or lanes l of lt))) lt_n

  pub hit_at : (row : List ℕ) (hit : Bool) → hit ≡ has row (get_or outs n d) → (o : Output)
      → IsOutput lanes l n o → hit ≡ has row o
  hit_at row hit hit_is o at =
      let found = get_or_from_slice_get lanes l at.of of at.lane in
      let same : outs ≡ at.of.outputs.items = is
      ∙ ap (λ (w : LaneOutputs). w.outputs.items) found in
      let there : slice_get outs n ≡ Some o =
      subst (λ xs. slice_get xs n ≡ Some o) (sym same) at.output in
      hit_is ∙ ap (has row) (get_or_from_slice_get outs n o d there)
