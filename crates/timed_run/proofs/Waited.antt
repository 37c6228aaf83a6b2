-- An event that waited began when an output ended that let it pass.
use Rattle.std.proofs.Common.{◌≡◌, ℕ, suc, ◌-◌, ◌<◌, Bool, true, false, inl, inr, List, [], ◌∷◌, take, Option, Some, None, slice_get, refl, sym, ap, ◌∙◌, subst, arith}
use Rattle.std.specs.Prelude.{◌||◌, ◌&&◌, nat_le}
use Rattle.std.specs.List.{list_any}
use Rattle.std.proofs.lemmas.Bool.{cases_Bool, false≢true, or_cases, or_left, or_right, and_parts, and_from, leb-true, leb-false}
use Rattle.deb_relation.specs.Relations.{Entry}
use Rattle.farm_model.specs.Common.{Universe, variant, names, variants, satisfies_entry}
use Rattle.farm_model.specs.declared.types.Variant.{Variant}
use Rattle.farm_model.proofs.BelowLaws.{some_below-found, some_below-at}
use Rattle.farm_model.proofs.VariantLaws.{same-true}
use Rattle.plan_model.specs.Common.{Lane, Plan, lane, instruction_at, LaneState, Turn, Goes, Gives, Waits, Ends, Fails, turn_of, passes, lane_state, archive}
use Rattle.plan_model.specs.declared.instructions.Instruction.{Instruction}
use Rattle.plan_model.specs.declared.instructions.Instruction.TheVariants.{Unpack, Configure, Deconfigure, Remove, Build, Publish, Wait, When, Otherwise, EndWhen}
use Rattle.farm_laws.proofs.Progress.{turn_ready}
use Rattle.timed_run.specs.Beginning.{Beginning}
use Rattle.timed_run.specs.declared.event.Event.{Event}
use Rattle.timed_run.specs.Timed.{is_given, archive_at, turn_over, rests, Takes, IsTimed}
use Rattle.timed_run.specs.Path.{LetsPass}
use Rattle.timed_run.proofs.Archives.{not_stuck}

-- an event takes what its lane does, so its lane does not rest
pub takes-moves : (e : Event) (st : LaneState) (turn : Turn) → Takes e st turn → rests turn ≡ true → ⊥
takes-moves e st (Goes next) t r = false≢true r
takes-moves e st (Gives next v) t r = false≢true r
takes-moves e st Waits t r = t
takes-moves e st Ends t r = t
takes-moves e st (Fails trap) t r = t

-- a lane that rests over one archive and not over another is at a wait that passes over this one
pub record Passed (u : Universe) (less there : Variant → Bool) (x : Option Instruction)
    : Type 0 where
  pub entry : Entry
  pub is : x ≡ Some (Wait entry)
  pub before : passes u less entry ≡ false
  pub now : passes u there entry ≡ true

passed : (u : Universe) (less there : Variant → Bool) (of : Lane) (st : LaneState)
    (x : Option Instruction) → rests (turn_of u less of st x) ≡ true
    → (rests (turn_of u there of st x) ≡ true → ⊥) → Passed u less there x
passed u less there of st None r m = absurd (m refl)
passed u less there of st (Some (Unpack name wanted)) r m =
    absurd (not_stuck _ (turn_ready u less of st (Unpack name wanted) tt) r)
passed u less there of st (Some (When name wanted)) r m = absurd (false≢true r)
passed u less there of st (Some (Configure members)) r m = absurd (m r)
passed u less there of st (Some (Deconfigure members)) r m = absurd (m r)
passed u less there of st (Some (Remove members)) r m = absurd (m r)
passed u less there of st (Some (Build recipe)) r m = absurd (m r)
passed u less there of st (Some (Publish recipe)) r m = absurd (m r)
passed u less there of st (Some Otherwise) r m = absurd (m r)
passed u less there of st (Some EndWhen) r m = absurd (m r)
passed u less there of st (Some (Wait e)) r m = record {
  entry = e;
  is = refl;
  before = elim (cases_Bool (passes u less e)) [
    | inl early ↦ absurd (not_stuck _ (turn_ready u less of st (Wait e) early) r)
    | inr late ↦ late
  ];
  now = elim (cases_Bool (passes u there e)) [
    | inl passing ↦ passing
    | inr waits ↦ absurd (m (still waits))
  ];
}
  where
    still : passes u there e ≡ false → rests (turn_of u there of st (Some (Wait e))) ≡ true
    still waits = rw waits refl

-- by a variant that came
came : (u : Universe) (less there : Variant → Bool) (e : Entry) → passes u less e ≡ false
    → passes u there e ≡ true
    → (v : Variant) × (there v ≡ true) × (less v ≡ false) × (satisfies_entry u e v ≡ true)
came u less there e before now =
    let a = some_below-found (names u) _ now in
    let b = some_below-found (variants u a.0) _ a.2 in
    let v = variant a.0 b.0 in
    let parts = and_parts (there v) (satisfies_entry u e v) b.2 in (
      v,
      parts.0,
      elim (cases_Bool (less v)) [
        | inl early ↦ absurd (false≢true (sym before
            ∙ some_below-at (names u) _ a.0 a.1 (some_below-at (variants u a.0) _ b.0 b.1
            (and_from (less v) (satisfies_entry u e v) early parts.1))))
        | inr late ↦ late
      ],
      parts.1,
    )

-- it is the output of an event that has ended since
ended : (m : ℕ) (v : Variant) (events : List Event)
    → list_any (λ (e : Event). nat_le e.end (suc m) && is_given e.output v) events ≡ true
    → list_any (λ (e : Event). nat_le e.end m && is_given e.output v) events ≡ false
    → (j : ℕ) × (a : Event) × (slice_get events j ≡ Some a) × (a.end ≡ suc m)
    × (is_given a.output v ≡ true)
ended m v [] now before = absurd (false≢true now)
ended m v (x ∷ xs) now before =
    elim (or_cases (nat_le x.end (suc m) && is_given x.output v) _ now) [
      | inl here ↦
          let parts = and_parts (nat_le x.end (suc m)) (is_given x.output v) here in
          let within = leb-true x.end (suc m) parts.0 in (
            0,
            x,
            refl,
            elim (cases_Bool (nat_le x.end m)) [
              | inl early ↦ absurd (false≢true (sym before
                  ∙ or_left (nat_le x.end m && is_given x.output v) _
                  (and_from (nat_le x.end m) (is_given x.output v) early parts.1)))
              | inr late ↦ let after = leb-false x.end m late in omega (arith, within, after)
            ],
            parts.1,
          )
      | inr there ↦
          let r = ended m v xs there (rest before) in (suc r.0, r.1, r.2, r.3, r.4)
    ]
  where
    rest : ((nat_le x.end m && is_given x.output v)
        || list_any (λ (e : Event). nat_le e.end m && is_given e.output v) xs) ≡ false
        → list_any (λ (e : Event). nat_le e.end m && is_given e.output v) xs ≡ false
    rest none = elim (cases_Bool
        (list_any (λ (e : Event). nat_le e.end m && is_given e.output v) xs)) [
          | inl some ↦ absurd (false≢true (sym none
              ∙ or_right (nat_le x.end m && is_given x.output v) _ some))
          | inr other ↦ other
        ]

given-is : (o : Option Variant) (v : Variant) → is_given o v ≡ true → o ≡ Some v
given-is None v h = absurd (false≢true h)
given-is (Some w) v h = ap Some (same-true w v h)

ended_at : (u : Universe) (b : Beginning) (m : ℕ) (v : Variant) (events : List Event)
    → archive_at u b events (suc m) v ≡ true → archive_at u b events m v ≡ false
    → (j : ℕ) × (a : Event) × (slice_get events j ≡ Some a) × (a.end ≡ suc m)
    × (is_given a.output v ≡ true)
unfolding archive_at
ended_at u b m v events now before = elim (cases_Bool (archive u b.state.published v)) [
  | inl first ↦ absurd (false≢true (sym before ∙ or_left (archive u b.state.published v) _ first))
  | inr none ↦ ended m v events (rw none at now) (rw none at before)
]

pub waited-for : (u : Universe) (p : Plan) (b : Beginning) (events : List Event) (k : ℕ) (e : Event)
    → IsTimed u p b events (take k events) e → e.free < e.begin
    → (j : ℕ) × (a : Event) × (slice_get events j ≡ Some a) × (a.end ≡ e.begin)
    × LetsPass u p a e
waited-for u p b events k e t lt =
    let m = e.begin - 1 in
    let next : suc m ≡ e.begin = omega (arith, lt) in
    let st = lane_state t.state e.lane in
    let moves : rests (turn_over u p t.state e.lane (archive_at u b events e.begin)) ≡ true → ⊥ =
    takes-moves e st (turn_over u p t.state e.lane (archive_at u b events e.begin)) t.takes in
    let wait = passed u (archive_at u b events m) (archive_at u b events e.begin) (lane p e.lane) st
    (instruction_at p e.lane st.done) (t.rested m (omega (arith, lt)) (omega (arith, lt))) moves in
    let v = came u (archive_at u b events m) (archive_at u b events e.begin) wait.entry wait.before
    wait.now in
    let by = ended_at u b m v.0 events
    (subst (λ n. archive_at u b events n v.0 ≡ true) (sym next) v.1) v.2 in (
      by.0,
      by.1,
      by.2,
      by.3 ∙ next,
      record {
        output = v.0;
        gives = given-is by.1.output v.0 by.4;
        waits = record {
          entry = wait.entry;
          waits = ap (instruction_at p e.lane) t.place ∙ wait.is;
          meets = v.3;
        };
      },
    )
