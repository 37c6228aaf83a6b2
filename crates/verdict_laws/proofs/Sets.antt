-- The sets of clocks.
use Rattle.std.proofs.Common.{◌≡◌, ◌⊎◌, inl, inr, ℕ, zero, suc, ◌+◌, ◌<◌, ◌≤◌, true, ◌==◌, List, [], ◌∷◌, ◌++◌, length, take, drop, get_or, Some, slice_get, refl, sym, ap, subst, ◌∙◌, arith, append_assoc}
use Rattle.std.specs.Prelude.{if◌then◌else◌}
use Rattle.std.specs.List.{list_any}
use Rattle.std.proofs.Math.Seq.{take-append_seam, take-append-add}
use Rattle.std.proofs.lemmas.List.{take-append-drop, append-nil, take-append-le, length-append, take_all}
use Rattle.std.proofs.lemmas.Option.{none-some}
use Rattle.std.proofs.lemmas.List.Folds.{list_any-append, list_any_at}
use Rattle.std.proofs.lemmas.Grind.{flat_map-append}
use Rattle.std.proofs.lemmas.Bool.{or_cases, or_left, or_right, cases_eq, eq-eqb, ne_eqb, false≢true}
use Rattle.farm_model.specs.Common.{Universe, same, contains, initial, outputs}
use Rattle.farm_model.specs.declared.types.Variant.{Variant}
use Rattle.plan_model.specs.Common.{Plan, lane, instruction_at, outputs_of, lane_outputs, outputs_before, gives, within_reach, possible, IsFact, Adds, row_before, KeepsRows}
use Rattle.plan_model.specs.declared.instructions.Instruction.{Instruction}
use Rattle.plan_model.specs.declared.instructions.Instruction.TheVariants.{Publish, Wait, When}
use Rattle.farm_model.proofs.BelowLaws.{some_below-at, some_below-found}
use Rattle.farm_laws.proofs.Archive.{take_some}
use Rattle.verdict_laws.specs.Clocks.{Clocks, clock_rows, Leads, ClockAdds, KeepsClocks, ClocksKeepRows}
use Rattle.verdict_laws.proofs.Made.{made}

abbrev pub no_variant : Variant
no_variant = record { name = 0; bit = 0 }

-- a variant of a first part stands at a place
pub take-found : (k : ℕ) (xs : List Variant) (v : Variant) → contains (take k xs) v ≡ true
    → (n : ℕ) × (n < k) × (n < length xs) × (same (get_or xs n no_variant) v ≡ true)
take-found zero xs v e = absurd (false≢true e)
take-found (suc k) [] v e = absurd (false≢true e)
take-found (suc k) (x ∷ xs) v e =
    elim (or_cases (same x v) _ e) [
      | inl here ↦ (0, omega arith, omega arith, here)
      | inr there ↦ let r = take-found k xs v there in
          (suc r.0, omega (arith, r.1), omega (arith, r.2), r.3)
    ]

pub take-at : (k : ℕ) (xs : List Variant) (v : Variant) (n : ℕ) → n < k → n < length xs
    → same (get_or xs n no_variant) v ≡ true → contains (take k xs) v ≡ true
take-at zero xs v n lt in_xs e = absurd (omega arith)
take-at (suc k) [] v n lt in_xs e = absurd (omega arith)
take-at (suc k) (x ∷ xs) v zero lt in_xs e = or_left (same x v) _ e
take-at (suc k) (x ∷ xs) v (suc n) lt in_xs e = or_right (same x v) _ (take-at k xs v n
    (omega arith) (omega arith) e)

made-append : (u : Universe) (xs ys : List Instruction) → made u (xs ++ ys) ≡ made u xs ++ made u ys
made-append u xs ys = flat_map-append (outputs_of u) xs ys

pub made-take : (u : Universe) (is : List Instruction) (k : ℕ)
    → made u is ≡ made u (take k is) ++ made u (drop k is)
made-take u is k = ap (made u) (sym (take-append-drop k is)) ∙ made-append u (take k is) (drop k is)

-- the first outputs are those of the first instructions
pub take-made : (u : Universe) (is : List Instruction) (k : ℕ)
    → take (length (made u (take k is))) (made u is) ≡ made u (take k is)
take-made u is k = ap (take (length (made u (take k is)))) (made-take u is k)
    ∙ take-append_seam (made u (take k is)) (made u (drop k is))

made-one : (u : Universe) (r : ℕ) → made u (Publish r ∷ []) ≡ outputs u r ++ []
made-one u r = refl

pub made-publish : (u : Universe) (is : List Instruction) (k r : ℕ)
    → slice_get is k ≡ Some (Publish r)
    → made u (take (suc k) is) ≡ made u (take k is) ++ (outputs u r ++ [])
made-publish u is k r e = ap (made u) (take_some is k (Publish r) e)
    ∙ made-append u (take k is) (Publish r ∷ [])
    ∙ ap (λ xs. made u (take k is) ++ xs) (made-one u r)

-- what is made is given by an instruction
made-gives : (u : Universe) (v : Variant) (is : List Instruction) → contains (made u is) v ≡ true
    → list_any (gives u v) is ≡ true
made-gives u v [] e = absurd (false≢true e)
made-gives u v (x ∷ xs) e =
    elim (or_cases (contains (outputs_of u x) v) _ (sym (list_any-append (λ w. same w v)
    (outputs_of u x) (made u xs)) ∙ e)) [
      | inl here ↦ or_left (gives u v x) _ here
      | inr there ↦ or_right (gives u v x) _ (made-gives u v xs there)
    ]

-- the first outputs up to within a publish
pub take-into : (u : Universe) (is : List Instruction) (k r b : ℕ)
    → slice_get is k ≡ Some (Publish r) → b ≤ length (outputs u r)
    → take (length (made u (take k is)) + b) (made u is) ≡ made u (take k is) ++ take b
    (outputs u r)
take-into u is k r b at le =
    let rest = made u (drop (suc k) is) in
    let whole : made u is ≡ made u (take k is) ++ (outputs u r ++ rest) =
    made-take u is (suc k) ∙ ap (λ xs. xs ++ rest) (made-publish u is k r at
    ∙ ap (λ xs. made u (take k is) ++ xs) (append-nil (outputs u r)))
    ∙ append_assoc (made u (take k is)) (outputs u r) rest in
    ap (take (length (made u (take k is)) + b)) whole
    ∙ take-append-add (made u (take k is)) (outputs u r ++ rest) b
    ∙ ap (λ xs. made u (take k is) ++ xs) (take-append-le b (outputs u r) rest le)

pub some_below_length : {A : Type 0} (xs : List A) (m : ℕ) (c : A) → slice_get xs m ≡ Some c
    → suc m ≤ length xs
some_below_length [] m c e = absurd (none-some c e)
some_below_length (x ∷ xs) zero c e = omega arith
some_below_length (x ∷ xs) (suc m) c e = let r = some_below_length xs m c e in omega (arith, r)

module _ (u : Universe) (p : Plan) (x : Clocks) (keeps : KeepsClocks u p x) where
  in_rows : (l i j n : ℕ) (v : Variant) → j < length p → n < x l i j
      → n < length (lane_outputs u (lane p j))
      → same (get_or (lane_outputs u (lane p j)) n no_variant) v ≡ true
      → clock_rows u p x l i v ≡ true
  in_rows l i j n v lt n_lt in_made e =
      or_right (initial u v) _ (some_below-at (length p) (λ j. contains (take (x l i j)
      (lane_outputs u (lane p j))) v) j lt
      (take-at (x l i j) (lane_outputs u (lane p j)) v n n_lt in_made e))

  -- an output of the lane's own, up to the end of a publish: of an earlier one, or of this
  own_output : (j k r b n : ℕ) (v : Variant) → j < length p
      → instruction_at p j k ≡ Some (Publish r) → b ≤ length (outputs u r)
      → n < outputs_before u (lane p j) k b
      → n < length (lane_outputs u (lane p j))
      → same (get_or (lane_outputs u (lane p j)) n no_variant) v ≡ true
      → (clock_rows u p x j k v ≡ true) ⊎ (contains (take b (outputs u r)) v ≡ true)
  own_output j k r b n v lt at le n_lt in_made e =
      let is = (lane p j).instructions in
      let first : contains (made u (take k is) ++ take b (outputs u r)) v ≡ true = ap
      (λ xs. contains xs v) (sym (take-into u is k r b at le))
      ∙ take-at (outputs_before u (lane p j) k b) (made u is) v n n_lt in_made e in
      elim (or_cases (contains (made u (take k is)) v) _ (sym (list_any-append (λ w. same w v)
      (made u (take k is)) (take b (outputs u r))) ∙ first)) [
        | inl old ↦
            let t = take-found (length (made u (take k is))) (made u is) v (ap (λ xs. contains xs v)
            (take-made u is k) ∙ old) in
            inl (in_rows j k j t.0 v lt (omega (
              arith,
              t.1,
              keeps.own j k
                  (Publish r) lt at,
            )) t.2 t.3)
        | inr new ↦ inr new
      ]

  own_publish : (l i r n : ℕ) (v : Variant) → l < length p
      → instruction_at p l i ≡ Some (Publish r) → n < outputs_before u (lane p l) (suc i) 0
      → n < length (lane_outputs u (lane p l))
      → same (get_or (lane_outputs u (lane p l)) n no_variant) v ≡ true
      → (clock_rows u p x l i v ≡ true) ⊎ (contains (outputs u r) v ≡ true)
  own_publish l i r n v lt at n_lt in_made e =
      let is = (lane p l).instructions in
      let long : length (made u (take (suc i) is))
      ≡ length (made u (take i is)) + length (outputs u r) =
      ap length (made-publish u is i r at
      ∙ ap (λ xs. made u (take i is) ++ xs) (append-nil (outputs u r)))
      ∙ length-append (made u (take i is)) (outputs u r) in
      elim (own_output l i r (length (outputs u r)) n v lt at (omega arith) (omega
      (arith, long)) in_made e) [
        | inl old ↦ inl old
        | inr new ↦ inr (ap (λ xs. contains xs v) (sym (take_all (length (outputs u r))
            (outputs u r) (omega arith))) ∙ new)
      ]

  follows : (l i j n : ℕ) (c v : Variant) → j < length p → Leads u p x c j n
      → n < length (lane_outputs u (lane p j))
      → same (get_or (lane_outputs u (lane p j)) n no_variant) v ≡ true
      → IsFact u p (clock_rows u p x) c v
  follows l i j n c v lt leads in_made e =
      record {
        from_start = λ s. absurd
            (leads.not_initial s);
        from_output = λ h k r m h_lt at out. by h k r m h_lt at out
            (cases_eq h j) (leads.before h k r m h_lt at out);
      }
    where
      by : (h k r m : ℕ) → h < length p → instruction_at p h k ≡ Some (Publish r)
          → slice_get (outputs u r) m ≡ Some c → (h ≡ j) ⊎ (h ≡ j → ⊥)
          → n < (if h == j then outputs_before u (lane p j) k (suc m) else x h k j)
          → (clock_rows u p x h k v ≡ true) ⊎ (contains (take (suc m) (outputs u r)) v ≡ true)
      by h k r m h_lt at out (inl same_lane) n_lt =
          own_output h k r (suc m) n v h_lt at (some_below_length (outputs u r) m c out) (rw
          (eq-eqb h j same_lane, ← same_lane) at n_lt)
          (subst (λ g. n < length (lane_outputs u (lane p g))) (sym same_lane) in_made)
          (subst (λ g. same
          (get_or (lane_outputs u (lane p g)) n no_variant) v ≡ true) (sym same_lane) e)
      by h k r m h_lt at out (inr other) n_lt = inl (in_rows h k j n v lt (rw
          (ne_eqb h j other) at n_lt) in_made e)

  reached : (l i j n : ℕ) (v : Variant) → j < length p → (j ≡ l → ⊥)
      → n < length (lane_outputs u (lane p j))
      → same (get_or (lane_outputs u (lane p j)) n no_variant) v ≡ true
      → possible u p l i v ≡ true
  unfolding possible
  reached l i j n v lt ne in_made e =
      or_right (initial u v) _ (some_below-at (length p) (λ h. list_any (gives u v)
      (within_reach p l i h)) j lt
      (rw (ne_eqb j l ne) (made-gives u v (lane p j).instructions (list_any_at (λ w. same w v)
      (lane_outputs u (lane p j)) n no_variant in_made e))))

  adds : (l i j n : ℕ) (v : Variant) (y : Instruction) → l < length p → j < length p
      → instruction_at p l i ≡ Some y → ClockAdds u p x l i j n y
      → n < length (lane_outputs u (lane p j))
      → same (get_or (lane_outputs u (lane p j)) n no_variant) v ≡ true
      → (clock_rows u p x l (row_before p l i y) v ≡ true)
      ⊎ Adds u p (clock_rows u p x) l i v y
  adds l i j n v (Publish r) lt j_lt at a in_made e =
      own_publish l i r n v lt at a.1
      (subst (λ g. n < length (lane_outputs u (lane p g))) a.0 in_made)
      (subst (λ g. same (get_or (lane_outputs u (lane p g)) n no_variant) v ≡ true) a.0 e)
  adds l i j n v (Wait entry) lt j_lt at a in_made e = inr (
    reached l i j n v j_lt a.0 in_made e,
    λ c there sat. follows l i j n c v j_lt
        (a.1 c there sat) in_made e,
  )
  adds l i j n v (When name wanted) lt j_lt at a in_made e = inr (
    reached l i j n v j_lt a.0 in_made e,
    λ c there sat. follows l i j n c v j_lt
        (a.1 c there sat) in_made e,
  )
  adds l i j n v _ lt j_lt at a in_made e = absurd a

  keeps_rows : KeepsRows u p (clock_rows u p x)
  keeps_rows = record { at_start = at_start; after = after }
    where
      at_start : (l : ℕ) (v : Variant) → l < length p → clock_rows u p x l 0 v ≡ true
          → initial u v ≡ true
      at_start l v lt e =
          elim (or_cases (initial u v) _ e) [
            | inl is ↦ is
            | inr found ↦ let f = some_below-found (length p) (λ j. contains (take (x l 0 j)
                (lane_outputs u (lane p j))) v) found in
                let t = take-found (x l 0 f.0) (lane_outputs u (lane p f.0)) v f.2 in
                absurd (omega (arith, t.1, keeps.at_start l f.0 lt))
          ]

      after : (l i : ℕ) (y : Instruction) (v : Variant) → l < length p
          → instruction_at p l i ≡ Some y → clock_rows u p x l (suc i) v ≡ true
          → (clock_rows u p x l (row_before p l i y) v ≡ true)
          ⊎ Adds u p (clock_rows u p x) l i v y
      after l i y v lt at e =
          elim (or_cases (initial u v) _ e) [
            | inl is ↦ inl (or_left (initial u v) _ is)
            | inr found ↦ let f = some_below-found (length p) (λ j. contains (take (x l (suc i) j)
                (lane_outputs u (lane p j))) v) found in
                let t = take-found (x l (suc i) f.0) (lane_outputs u (lane p f.0)) v f.2 in
                elim (keeps.after l i f.0 t.0 y lt f.1 at t.1) [
                  | inl old ↦ inl (in_rows l (row_before p l i y) f.0 t.0 v f.1 old t.2 t.3)
                  | inr new ↦ adds l i f.0 t.0 v y lt f.1 at new t.2 t.3
                ]
          ]

pub clocks_keep_rows : ClocksKeepRows
clocks_keep_rows u p x keeps = keeps_rows u p x keeps
