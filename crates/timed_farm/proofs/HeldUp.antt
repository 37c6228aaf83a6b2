-- A wait that none of the names passes that may have a variant for it.
use Rattle.std.proofs.Common.{◌≡◌, ℕ, ◌<◌, Bool, true, false, ◌&&◌, List, length, Some, slice_get, inl, inr, refl, sym, ap, ◌∙◌, subst, true≢false}
use Rattle.std.specs.Option.{is_none}
use Rattle.std.specs.Prelude.{not, nat_lt}
use Rattle.std.specs.Str.{bytes_eq}
use Rattle.std.proofs.lemmas.Bool.{or_cases, and_parts, cond-true, cond-false, cases_Bool, not-true}
use Rattle.deb_text.proofs.ListLaws.{bytes-same}
use Rattle.deb_relation.specs.Common.{Atom, Entry, is_its_own, provides_it}
use Rattle.farm_model.specs.Common.{some_below, Universe, names, variant, variants, package_of, facts, satisfies, satisfies_entry}
use Rattle.farm_model.specs.declared.types.Variant.{Variant}
use Rattle.farm_model.proofs.BelowLaws.{some_below-found}
use Rattle.farm_universe.proofs.PlaceLaws.{named}
use Rattle.item_index.specs.declared.item.Item.{Item}
use Rattle.item_index.specs.Items.{item, listed, IsIn}
use Rattle.item_index.proofs.ItemLaws.{any-found, any_atom-found}
use Rattle.plan_model.specs.Common.{Plan, lane, instruction_at, State, archive, lane_state, outcome, step, turn_of, passes}
use Rattle.plan_model.specs.declared.instructions.Instruction.{Instruction}
use Rattle.plan_model.specs.declared.instructions.Instruction.TheVariants.{Wait}
use Rattle.plan_model.specs.Run as run
use Rattle.plan_model.specs.Turn as turn
use Rattle.farm_lookup.specs.Candidates.{HasAll}
use Rattle.timed_farm.specs.Held.{NoneOf, NoneAmong, NoneBy}

-- no name that may satisfy the alternative
pub none_by : (u known : Universe) (there : Variant → Bool) (e : Entry) (a : Atom)
    (items : List (Item ℕ)) → known ≡ u → HasAll known a.name items
    → NoneAmong u there e items → NoneBy u there e a
none_by u known there e a items same all none n b lt sat =
    let at = all a refl n b (subst (λ k. b < variants k n) (sym same) lt)
    (subst (λ k. satisfies k a (variant n b) ≡ true) (sym same) sat) in
    subst (NoneOf u there e) at.3
    (none at.0 at.1 at.2 (subst (λ k. k < names u) (sym at.3) (named u n b lt)))

-- no alternative
pub none-passes : (u : Universe) (there : Variant → Bool) (e : Entry)
    → ((j : ℕ) (a : Atom) → slice_get e j ≡ Some a → NoneBy u there e a)
    → passes u there e ≡ false
none-passes u there e none = elim (cases_Bool (passes u there e)) [
  | inl some ↦ absurd (never some)
  | inr nothing ↦ nothing
]
  where
    both : ℕ → ℕ → Bool
    both n b = there (variant n b) && satisfies_entry u e (variant n b)

    never : passes u there e ≡ true → ⊥
    never some =
        let n = some_below-found (names u) (λ n. some_below (variants u n) (both n)) some in
        let b = some_below-found (variants u n.0) (both n.0) n.2 in
        let parts = and_parts (there (variant n.0 b.0)) _ b.2 in
        let a = any-found (λ a. satisfies u a (variant n.0 b.0)) e parts.1 in
        true≢false (sym n.2 ∙ none a.0 a.1 a.2 n.0 b.0 b.1 a.3)

-- a lane that waits for what is not there does not move
pub held : (u : Universe) (p : Plan) (s : State) (l : ℕ) (e : Entry)
    → instruction_at p l (lane_state s l).done ≡ Some (Wait e)
    → passes u (archive u s.published) e ≡ false → (next : State)
    → step u p s l ≡ run.Moved next → ⊥
unfolding step
held u p s l e is none next moves =
    let has = archive u s.published in
    let turns : turn_of u has (lane p l) (lane_state s l)
    (instruction_at p l (lane_state s l).done) ≡ turn.Waits =
    ap (turn_of u has (lane p l) (lane_state s l)) is
    ∙ cond-false (passes u has e) _ turn.Waits none in
    elim (cases_Bool (nat_lt l (length p))) [
      | inl there ↦
          let blocked : run.Blocked ≡ run.Moved next =
          sym (ap (outcome s l) turns) ∙ (sym (cond-true (nat_lt l (length p)) _ run.Unknown there)
          ∙ moves) in absurd cc
      | inr past ↦
          let unknown : run.Unknown ≡ run.Moved next =
          sym (cond-false (nat_lt l (length p)) _ run.Unknown past) ∙ moves in absurd cc
    ]

-- the same of what was read of the lane
pub held_at : (u : Universe) (p read : Plan) (s : State) (l k : ℕ) (x : Instruction) (e : Entry)
    (may : Bool) → read ≡ p → k ≡ (lane_state s l).done → Some x ≡ instruction_at read l k
    → x ≡ Wait e → (may ≡ false → passes u (archive u s.published) e ≡ false)
    → not may ≡ true → (next : State) → step u p s l ≡ run.Moved next → ⊥
held_at u p read s l k x e may is_p is_k at waits none never =
    held u p s l e
    (sym (ap (λ q. instruction_at q l k) is_p ∙ ap (instruction_at p l) is_k)
    ∙ (sym at ∙ ap Some waits))
    (none (not-true may never))
