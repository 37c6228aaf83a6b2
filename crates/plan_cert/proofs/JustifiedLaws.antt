-- Rows behind instructions, by subsets of rows.
use Rattle.std.proofs.Common.{◌≡◌, ℕ, zero, suc, ◌<◌, ◌≤◌, Bool, true, false, not, ◌||◌, nat_lt, List, [], length, take, Some, None, inl, inr, refl, sym, ap, subst, ◌∙◌, arith}
use Rattle.std.specs.Prelude.{◌↔◌, IsTrue}
use Rattle.std.proofs.lemmas.Bool.{cases_Bool, or_cases, or_left, or_right, or_parts, and_parts, and_from, both_ways, lt-ltb, not-true, not_from_false, false≢true}
use Rattle.std.proofs.lemmas.List.{take_all}
use Rattle.std.proofs.lemmas.Option.{none-some, same_Some, slice_get_within}
use Rattle.bit_rows.specs.Sets.{variants_of, IsSubset, IsDifference, IsIntersection}
use Rattle.cert_text.specs.Certificates.{IsNewRow}
use Rattle.farm_model.specs.Common.{Universe, variant, variants, contains, outputs, initial, satisfies_entry, IsUniverse}
use Rattle.farm_model.specs.declared.types.Variant.{Variant}
use Rattle.plan_model.specs.Common.{Rows, published_by, is_of, possible, Follows, Adds, row_before, KeepsRows, Plan, lane, instruction_at}
use Rattle.plan_model.specs.declared.instructions.Instruction.{Instruction}
use Rattle.plan_model.specs.declared.instructions.Instruction.TheVariants.{Publish, Wait, When}
use Rattle.verdict_laws.specs.Places.{IsJustified, IsFirstUnjustified}
use Rattle.sat_rows.specs.Rows.{IsRowOf}
use Rattle.verdict_laws.proofs.Inclusions.{possible-known}
use Rattle.known_rows.specs.Points.{asked}
use Rattle.plan_cert.specs.Facts.{AreFacts}
use Rattle.plan_cert.specs.Stated.{in_row}
use Rattle.plan_cert.specs.Checked.{IsLaneFault}
use Rattle.plan_cert.proofs.StatedLaws.{new-known, row-has}
use Rattle.plan_cert.proofs.FactLaws.{with-known}

-- what a wait or a `when` adds is what follows from what it looks for
module _ (u : Universe) (p : Plan) (rows : Rows) (l i : ℕ) (v : Variant) where
  pub asked-adds : (test : Variant → Bool) (x : Instruction) → asked u x ≡ Some test
      → Follows u p rows l i v test → Adds u p rows l i v x
  asked-adds test (Wait e) is follows =
      subst (Follows u p rows l i v) (sym (same_Some (satisfies_entry u e) test is)) follows
  asked-adds test (When name wanted) is follows =
      subst (Follows u p rows l i v) (sym (same_Some (is_of u name wanted) test is)) follows
  asked-adds test _ is follows = absurd (none-some test is)

  pub asked-follows : (test : Variant → Bool) (x : Instruction) → asked u x ≡ Some test
      → Adds u p rows l i v x → Follows u p rows l i v test
  asked-follows test (Wait e) is adds =
      subst (Follows u p rows l i v) (same_Some (satisfies_entry u e) test is) adds
  asked-follows test (When name wanted) is adds =
      subst (Follows u p rows l i v) (same_Some (is_of u name wanted) test is) adds
  asked-follows test _ is adds = absurd (none-some test is)

  -- an instruction that neither publishes nor looks for something adds nothing
  pub adds-nothing : (x : Instruction) → published_by x ≡ [] → asked u x ≡ None
      → Adds u p rows l i v x → ⊥
  adds-nothing (Publish r) no_publish quiet add = cc
  adds-nothing (Wait e) no_publish quiet add = none-some _ (sym quiet)
  adds-nothing (When name wanted) no_publish quiet add = none-some _ (sym quiet)
  adds-nothing _ no_publish quiet add = add

module _ (u : Universe) (p : Plan) (rows : Rows) (sound : IsUniverse u) (l i : ℕ)
    (new : List ℕ) (there : List ℕ) (there_is : IsRowOf u (possible u p l i) there)
    (test : Variant → Bool) where
  abbrev pub AllFollow : Type 0
  AllFollow = (v : Variant) → in_row new v ≡ true → Follows u p rows l i v test

  there-has : (v : Variant) → in_row there v ≡ possible u p l i v
  there-has = row-has u (possible u p l i) there there_is (λ v e. possible-known u sound p l i v e)

  pub follow-none : (answer : Bool)
      → (IsTrue answer ↔ IsSubset (variants_of new) (variants_of there)) → answer ≡ false
      → IsTrue false ↔ AllFollow
  follow-none answer subset miss = (
    λ f. absurd (false≢true f),
    λ h. absurd (both_ways answer miss
        (subset.1 (λ n b some. there-has (variant n b) ∙ (h (variant n b) some).0))),
  )

  module _ (sat sources : List ℕ) (sat_is : IsRowOf u test sat)
      (both : IsIntersection (variants_of sat) (variants_of there) (variants_of sources)) where
    source-has : (c : Variant) → possible u p l i c ≡ true → test c ≡ true
        → in_row sources c ≡ true
    source-has c may hit =
        both c.name c.bit
        ∙ and_from _ _ (sat_is.set c.name c.bit ∙ and_from _ _ (lt-known c may) hit)
        (there-has c ∙ may)
      where
        lt-known : (c : Variant) → possible u p l i c ≡ true → nat_lt c.bit (variants u c.name)
            ≡ true
        lt-known c may = lt-ltb c.bit (variants u c.name) (possible-known u sound p l i c may)

    source-of : (c : Variant) → in_row sources c ≡ true
        → (possible u p l i c ≡ true) × (test c ≡ true)
    source-of c h =
        let parts = and_parts (in_row sat c) (in_row there c) (sym (both c.name c.bit) ∙ h) in (
          sym (there-has c) ∙ parts.1,
          (and_parts (nat_lt c.bit (variants u c.name)) _
              (sym (sat_is.set c.name c.bit) ∙ parts.0)).1,
        )

    pub follow-facts : (inside : Bool)
        → (IsTrue inside ↔ IsSubset (variants_of new) (variants_of there)) → inside ≡ true
        → (answer : Bool) → (IsTrue answer ↔ AreFacts u p rows (in_row sources) (in_row new))
        → IsTrue answer ↔ AllFollow
    follow-facts inside subset within answer facts = (
      λ t v some. (
        sym (there-has v) ∙ subset.0 within v.name v.bit some,
        λ c may hit. facts.0 t c v (source-has c may hit) some,
      ),
      λ h. facts.1 (λ c v source some. let s = source-of c source in (h v some).1 c s.0 s.1),
    )

-- what is known at one place is known at the other
abbrev pub IsWithin : Rows → ℕ → ℕ → ℕ → Type 0
IsWithin rows l i k = (v : Variant) → rows l i v ≡ true → rows l k v ≡ true

-- by what is known at the two places alone
module _ (u : Universe) (p : Plan) (rows : Rows) (l i : ℕ) (x : Instruction)
    (at : instruction_at p l i ≡ Some x) where
  -- no more than was known
  pub within-justified : IsWithin rows l (suc i) (row_before p l i x)
      → IsTrue true ↔ IsJustified u p rows l (suc i)
  within-justified within = (
    λ t y v there e. inl (subst (λ z. rows l (row_before p l i z) v ≡ true)
        (same_Some x y (sym at ∙ there)) (within v e)),
    λ j. refl,
  )

  -- more, behind an instruction that adds nothing
  pub more-unjustified : (answer : Bool)
      → IsTrue answer ↔ IsWithin rows l (suc i) (row_before p l i x) → answer ≡ false
      → ((v : Variant) → Adds u p rows l i v x → ⊥)
      → IsTrue false ↔ IsJustified u p rows l (suc i)
  more-unjustified answer within miss none = (
    λ f. absurd (false≢true f),
    λ j. absurd (both_ways answer miss (within.1 (λ v e.
        elim (j x v at e) [
          | inl old ↦ old
          | inr new ↦ absurd (none v new)
        ]))),
  )

-- the row behind an instruction, by what is listed ahead of it and behind it
module _ (u : Universe) (p : Plan) (rows : Rows) (l i : ℕ) (x : Instruction)
    (at : instruction_at p l i ≡ Some x) (before after : List ℕ)
    (before_holds : (v : Variant)
    → rows l (row_before p l i x) v ≡ (initial u v || in_row before v))
    (after_holds : (v : Variant) → rows l (suc i) v ≡ (initial u v || in_row after v))
    (fresh : IsNewRow u after) where
  abbrev Old : Instruction → Variant → Type 0
  Old y v = rows l (row_before p l i y) v ≡ true

  is-there : (y : Instruction) → instruction_at p l i ≡ Some y → x ≡ y
  is-there y there = same_Some x y (sym at ∙ there)

  -- what is listed behind it, and known ahead of it, is listed ahead of it
  old-listed : (v : Variant) → in_row after v ≡ true → Old x v → in_row before v ≡ true
  old-listed v some old =
      elim (or_cases (initial u v) (in_row before v) (sym (before_holds v) ∙ old)) [
        | inl first ↦ absurd (both_ways (initial u v) (fresh.new v.name v.bit some) first)
        | inr here ↦ here
      ]

  -- what is known behind it, and not ahead of it, is listed behind it
  new-listed : (v : Variant) → rows l (suc i) v ≡ true → rows l (row_before p l i x) v ≡ false
      → in_row after v ≡ true
  new-listed v here none =
      elim (or_cases (initial u v) (in_row after v) (sym (after_holds v) ∙ here)) [
        | inl first ↦
            absurd (both_ways (rows l (row_before p l i x) v) none
            (before_holds v ∙ or_left (initial u v) _ first))
        | inr some ↦ some
      ]

  -- one that looks for something
  pub asked-justified : (test : Variant → Bool) → asked u x ≡ Some test → (new : List ℕ)
      → IsDifference (variants_of after) (variants_of before) (variants_of new) → (answer : Bool)
      → (IsTrue answer ↔ ((v : Variant) → in_row new v ≡ true → Follows u p rows l i v test))
      → IsTrue answer ↔ IsJustified u p rows l (suc i)
  asked-justified test asks new less answer follows = (
    λ t y v there here.
        elim (cases_Bool (rows l (row_before p l i x) v)) [
          | inl old ↦ inl (subst (λ z. Old z v) (is-there y there) old)
          | inr none ↦
              let unlisted : in_row before v ≡ false =
              (or_parts (initial u v) (in_row before v) (sym (before_holds v) ∙ none)).1 in
              inr (subst (Adds u p rows l i v) (is-there y there)
              (asked-adds u p rows l i v test x asks (follows.0 t v
              (less v.name v.bit ∙ and_from _ _ (new-listed v here none)
              (not_from_false _ unlisted)))))
        ],
    λ j. follows.1 (λ v some.
        let parts = and_parts (in_row after v) (not (in_row before v))
        (sym (less v.name v.bit) ∙ some) in
        elim (j x v at (after_holds v ∙ or_right (initial u v) _ parts.0)) [
          | inl old ↦
              absurd (both_ways (in_row before v) (not-true _ parts.1) (old-listed v parts.0 old))
          | inr new ↦ asked-follows u p rows l i v test x asks new
        ]),
  )

  -- one that publishes
  pub publish-justified : (r n : ℕ) → x ≡ Publish r → IsUniverse u → IsNewRow u before
      → n ≡ length (outputs u r) → (row : List ℕ)
      → IsRowOf u (λ v. in_row before v || contains (take n (outputs u r)) v) row
      → (answer : Bool) → (IsTrue answer ↔ IsSubset (variants_of after) (variants_of row))
      → IsTrue answer ↔ IsJustified u p rows l (suc i)
  publish-justified r n publish sound first is row row_is answer subset = (
    λ t y v there here.
        elim (cases_Bool (rows l (row_before p l i x) v)) [
          | inl old ↦ inl (subst (λ z. Old z v) (is-there y there) old)
          | inr none ↦
              elim (or_cases (in_row before v) _
              (sym (row-holds v) ∙ subset.0 t v.name v.bit (new-listed v here none))) [
                | inl old ↦
                    absurd (both_ways (rows l (row_before p l i x) v) none
                    (before_holds v ∙ or_right (initial u v) _ old))
                | inr new ↦
                    inr (subst (Adds u p rows l i v) (is-there y there)
                    (subst (Adds u p rows l i v) (sym publish)
                    (sym (ap (λ vs. contains vs v) all) ∙ new)))
              ]
        ],
    λ j. subset.1 (λ m b some.
        let v = variant m b in
        row-holds v ∙ (elim (j x v at (after_holds v ∙ or_right (initial u v) _ some)) [
          | inl old ↦ or_left (in_row before v) _ (old-listed v some old)
          | inr new ↦
              or_right (in_row before v) _ (ap (λ vs. contains vs v) all
              ∙ subst (Adds u p rows l i v) publish new)
        ])),
  )
    where
      all : take n (outputs u r) ≡ outputs u r
      all = take_all n (outputs u r) (omega (arith, is))

      row-holds : (v : Variant)
          → in_row row v ≡ (in_row before v || contains (take n (outputs u r)) v)
      row-holds =
          row-has u (λ v. in_row before v || contains (take n (outputs u r)) v) row row_is
          (with-known u r n (in_row before) (new-known u before first) (sound.outputs_known r))

-- all places of a lane
pub past-justified : (u : Universe) (p : Plan) (rows : Rows) (l n : ℕ)
    → length (lane p l).instructions ≤ n
    → ((k : ℕ) → k < n → IsJustified u p rows l (suc k)) → (k : ℕ) → IsJustified u p rows l (suc k)
past-justified u p rows l n past all k x v at e =
    let lt = slice_get_within (lane p l).instructions k x at in all k (omega (arith, lt, past)) x v
    at e

-- all lanes
pub rows-keep : (u : Universe) (p : Plan) (rows : Rows)
    → ((l : ℕ) (v : Variant) → l < length p → rows l 0 v ≡ true → initial u v ≡ true)
    → ((l k : ℕ) → l < length p → IsJustified u p rows l (suc k)) → KeepsRows u p rows
rows-keep u p rows start all = record {
  at_start = start;
  after = λ l i x v lt at e. all l i lt x v at e;
}

pub first-fault : (u : Universe) (p : Plan) (rows : Rows) (l told number : ℕ) → l < length p
    → ((l : ℕ) (v : Variant) → l < length p → rows l 0 v ≡ true → initial u v ≡ true)
    → ((j k : ℕ) → j < l → IsJustified u p rows j (suc k))
    → IsLaneFault u p rows l told number → IsFirstUnjustified u p rows told number
first-fault u p rows l told number lt start earlier fault =
    subst (λ n. IsFirstUnjustified u p rows n number) (sym fault.of_lane)
    (subst (IsFirstUnjustified u p rows l) (sym fault.numbered) (record {
      in_plan = lt;
      here = fault.here;
      before = before;
      lanes_before = lanes_before;
    }))
  where
    before : (k : ℕ) → k < suc fault.place → IsJustified u p rows l k
    before zero k_lt = λ v e. start l v lt e
    before (suc k) k_lt = fault.before k (omega (arith, k_lt))

    lanes_before : (j k : ℕ) → j < l → IsJustified u p rows j k
    lanes_before j zero j_lt = λ v e. start j v (omega (arith, j_lt, lt)) e
    lanes_before j (suc k) j_lt = earlier j k j_lt
