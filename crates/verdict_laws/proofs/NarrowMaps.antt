-- A may map that allows less than another: what the other surely has it surely has too, and it
-- risks no more.
use Rattle.std.proofs.Common.{◌≡◌, ℕ, ◌≤◌, Bool, true, not, ◌&&◌, ◌||◌, ◌==◌, List, sym, ap, ◌∙◌, arith, le_refl}
use Rattle.std.specs.List.{list_any}
use Rattle.std.proofs.lemmas.Bool.{and_parts, and_from}
use Rattle.deb_relation.specs.Relations.{Entry}
use Rattle.farm_model.specs.Common.{Universe, Recipe, names, variant, variants, essential, satisfies_entry, satisfies_any, pre_depends, depends, breaks, conflict, member, unmet, entries}
use Rattle.farm_model.specs.declared.types.Variant.{Variant}
use Rattle.farm_model.proofs.BelowLaws.{some_below-mono, sum_below-mono}
use Rattle.plan_model.specs.Common.{Lane, capacity, was_built, Bits, MaySlot, May, some_name, may_hold, may_hold_configured, surely_holds, surely_configured, surely_met, surely_met_with, surely_pre_meets, surely_pre_met, may_size, may_use, is_surely_unpacked, greatest_cost, unpack_risks, some_may_member, configure_risks, surely_met_outside, may_meet, may_be_needed, deconfigure_risks, remove_risks, may_be_unsettled, build_risks, publish_risks}
use Rattle.farm_laws.proofs.Slots.{list_any-mono, not-mono, and-mono, or-mono}
use Rattle.farm_laws.proofs.MayMaps.{Covers, nil, cons, over-may, unmet-may}
use Rattle.verdict_laws.proofs.Narrower.{IsPart, NarrowsAll, some_of-mono, greatest_size-mono, may_hold-wider, may_hold_configured-wider, surely_holds-narrower, surely_configured-narrower, surely_pre_meets-narrower, may_size-wider, same_unpacked, same_configured, same_present}

module _ (u : Universe) (m w : May) (narrow : NarrowsAll u m w) where
  -- a test of some slot that holds of one slot where it holds of the other
  some_name-mono : (p q : ℕ → MaySlot → Bool)
      → ((n : ℕ) → p n (m.slots n) ≡ true → q n (w.slots n) ≡ true) → some_name u m p ≡ true
      → some_name u w q ≡ true
  some_name-mono p q h =
      some_below-mono (names u) (λ n. p n (m.slots n)) (λ n. q n (w.slots n)) (λ n lt. h n)

  some_name-back : (p q : ℕ → MaySlot → Bool)
      → ((n : ℕ) → q n (w.slots n) ≡ true → p n (m.slots n) ≡ true) → some_name u w q ≡ true
      → some_name u m p ≡ true
  some_name-back p q h =
      some_below-mono (names u) (λ n. q n (w.slots n)) (λ n. p n (m.slots n)) (λ n lt. h n)

  abbrev satisfying : Entry → ℕ → Bits
  satisfying e n b = satisfies_entry u e (variant n b)

  met-narrower : (e : Entry) → surely_met u w e ≡ true → surely_met u m e ≡ true
  unfolding surely_met
  met-narrower e =
      some_name-back (λ n s. surely_configured u n (satisfying e n) s)
      (λ n s. surely_configured u n (satisfying e n) s)
      (λ n. surely_configured-narrower u n (satisfying e n) (narrow.each n))

  met_with-narrower : (members : List ℕ) (e : Entry) → surely_met_with u members w e ≡ true
      → surely_met_with u members m e ≡ true
  unfolding surely_met_with
  met_with-narrower members e =
      let test : ℕ → MaySlot → Bool =
      λ n s. surely_configured u n (satisfying e n) s ||
      (member members n && surely_holds u n (satisfying e n) s) in
      some_name-back test test
      (λ n. or-mono _ _ _ _ (surely_configured-narrower u n (satisfying e n) (narrow.each n))
      (and-mono (member members n) _ _
      (surely_holds-narrower u n (satisfying e n) (narrow.each n))))

  pre_met-narrower : (name : ℕ) (e : Entry) → surely_pre_met u name w e ≡ true
      → surely_pre_met u name m e ≡ true
  unfolding surely_pre_met
  pre_met-narrower name e =
      let test : ℕ → MaySlot → Bool = λ n s. not (n == name) && surely_pre_meets u e n s in
      some_name-back test test (λ n. and-mono (not (n == name)) _ _
      (surely_pre_meets-narrower u n e (narrow.each n)))

  met_outside-narrower : (members : List ℕ) (e : Entry) → surely_met_outside u members w e ≡ true
      → surely_met_outside u members m e ≡ true
  unfolding surely_met_outside
  met_outside-narrower members e =
      let test : ℕ → MaySlot → Bool =
      λ n s. not (member members n) && surely_configured u n (satisfying e n) s in
      some_name-back test test (λ n. and-mono (not (member members n)) _ _
      (surely_configured-narrower u n (satisfying e n) (narrow.each n)))

  meet-wider : (members : List ℕ) (e : Entry) → may_meet u members m e ≡ true
      → may_meet u members w e ≡ true
  unfolding may_meet
  meet-wider members e =
      let test : ℕ → MaySlot → Bool =
      λ n s. member members n && may_hold_configured u n (satisfying e n) s in
      some_name-mono test test (λ n. and-mono (member members n) _ _
      (may_hold_configured-wider u n (satisfying e n) (satisfying e n) (λ b k. k)
      (narrow.each n)))

  use-wider : may_use u m ≤ may_use u w
  unfolding may_use
  use-wider =
      sum_below-mono (names u) (λ n. may_size u n (m.slots n)) (λ n. may_size u n (w.slots n))
      (λ n lt. may_size-wider u n (narrow.each n))

  member-wider : (members : List ℕ) (p q : Variant → Bool)
      → ((v : Variant) → p v ≡ true → q v ≡ true) → some_may_member u members m p ≡ true
      → some_may_member u members w q ≡ true
  member-wider members p q h =
      list_any-mono (λ k. may_hold u k (λ b. p (variant k b)) (m.slots k))
      (λ k. may_hold u k (λ b. q (variant k b)) (w.slots k)) members
      (λ k. may_hold-wider u k (λ b. p (variant k b)) (λ b. q (variant k b)) (λ b. h (variant k b))
      (narrow.each k))

  -- a present variant of another name
  other-wider : (name : ℕ) (p : ℕ → Bits)
      → some_name u m (λ n s. not (n == name) && may_hold u n (p n) s) ≡ true
      → some_name u w (λ n s. not (n == name) && may_hold u n (p n) s) ≡ true
  other-wider name p =
      let test : ℕ → MaySlot → Bool = λ n s. not (n == name) && may_hold u n (p n) s in
      some_name-mono test test (λ n. and-mono (not (n == name)) _ _
      (may_hold-wider u n (p n) (p n) (λ b k. k) (narrow.each n)))

  other_configured-wider : (name : ℕ) (p : ℕ → Bits)
      → some_name u m (λ n s. not (n == name) && may_hold_configured u n (p n) s) ≡ true
      → some_name u w (λ n s. not (n == name) && may_hold_configured u n (p n) s) ≡ true
  other_configured-wider name p =
      let test : ℕ → MaySlot → Bool = λ n s. not (n == name) && may_hold_configured u n (p n) s in
      some_name-mono test test (λ n. and-mono (not (n == name)) _ _
      (may_hold_configured-wider u n (p n) (p n) (λ b k. k) (narrow.each n)))

  needed-wider : (members : List ℕ) → may_be_needed u members m ≡ true
      → may_be_needed u members w ≡ true
  unfolding may_be_needed
  needed-wider members =
      let misses : May → ℕ → Bits =
      λ x n b. list_any (λ e. may_meet u members x e && not (surely_met_outside u members x e))
      (entries u (variant n b)) in
      some_name-mono (λ n s. not (member members n) && may_hold_configured u n (misses m n) s)
      (λ n s. not (member members n) && may_hold_configured u n (misses w n) s)
      (λ n. and-mono (not (member members n)) _ _
      (may_hold_configured-wider u n (misses m n) (misses w n)
      (λ b. list_any-mono _ _ (entries u (variant n b))
      (λ e k. let parts = and_parts _ _ k in
      and_from _ _ (meet-wider members e parts.0)
      (not-mono (surely_met_outside u members m e) (surely_met_outside u members w e)
      (met_outside-narrower members e) parts.1)))
      (narrow.each n)))

  unsettled-wider : may_be_unsettled u m ≡ true → may_be_unsettled u w ≡ true
  unfolding may_be_unsettled
  unsettled-wider =
      let misses : May → ℕ → Bits = λ x n b. unmet (surely_met u x) (entries u (variant n b)) in
      some_name-mono (λ n s. is_surely_unpacked s || may_hold u n (misses m n) s)
      (λ n s. is_surely_unpacked s || may_hold u n (misses w n) s)
      (λ n. or-mono _ _ _ _ (λ e. sym (same_unpacked (narrow.each n)) ∙ e)
      (may_hold-wider u n (misses m n) (misses w n)
      (λ b. unmet-may (surely_met u m) (surely_met u w) (entries u (variant n b)) met-narrower)
      (narrow.each n)))

  -- the risks of each instruction under the narrower map are among those under the other
  pub unpack_covers : (of : Lane) (name : ℕ) (part whole : Bits)
      → IsPart (variants u name) part whole
      → Covers (unpack_risks u of m name part) (unpack_risks u of w name whole)
  unpack_covers of name part whole is =
      let great = greatest_size-mono u name part whole is in
      let costs : greatest_cost u name part ≤ greatest_cost u name whole = omega (arith, great) in
      let some =
      λ (p q : Bits) (h : (b : ℕ) → p b ≡ true
      → q b ≡ true). some_of-mono u name part whole p q is h in
      cons (over-may of.budget _ _ _ _ narrow.cost costs)
      (cons
      (some (λ b. unmet (surely_pre_met u name m) (pre_depends u (variant name b)))
      (λ b. unmet (surely_pre_met u name w) (pre_depends u (variant name b)))
      (λ b. unmet-may (surely_pre_met u name m) (surely_pre_met u name w)
      (pre_depends u (variant name b)) (pre_met-narrower name)))
      (cons (some _ _ (λ b. other-wider name (λ n d. conflict u (variant name b) (variant n d))))
      (cons (some _ _ (λ b. other_configured-wider name
      (λ n d. breaks u (variant name b) (variant n d))))
      (cons (over-may (capacity u of) _ _ _ _ use-wider great) nil))))

  pub configure_covers : (of : Lane) (members : List ℕ)
      → Covers (configure_risks u of m members) (configure_risks u of w members)
  configure_covers of members =
      cons (over-may of.budget _ _ _ _ narrow.cost (le_refl _))
      (cons (list_any-mono _ _ members (λ k e. ap not (sym (same_unpacked (narrow.each k))) ∙ e))
      (cons (member-wider members _ _
      (λ v. unmet-may (surely_met u m) (surely_met u w) (pre_depends u v) met-narrower))
      (cons (member-wider members _ _
      (λ v. unmet-may (surely_met_with u members m) (surely_met_with u members w) (depends u v)
      (met_with-narrower members)))
      (cons (member-wider members _ _ (λ v. other-wider v.name (λ n b. breaks u (variant n b) v)))
      nil))))

  pub deconfigure_covers : (of : Lane) (members : List ℕ)
      → Covers (deconfigure_risks u of m members) (deconfigure_risks u of w members)
  deconfigure_covers of members =
      cons (over-may of.budget _ _ _ _ narrow.cost (le_refl _))
      (cons (list_any-mono _ _ members (λ k e. ap not (sym (same_configured (narrow.each k))) ∙ e))
      (cons (needed-wider members) nil))

  pub remove_covers : (of : Lane) (members : List ℕ)
      → Covers (remove_risks u of m members) (remove_risks u of w members)
  remove_covers of members =
      cons (over-may of.budget _ _ _ _ narrow.cost (le_refl _))
      (cons (list_any-mono _ _ members (λ k e. ap not (sym (same_present (narrow.each k))) ∙ e))
      (cons (member-wider members (essential u) (essential u) (λ v e. e))
      (cons (needed-wider members) nil)))

  pub build_covers : (of : Lane) (r : Recipe) → Covers (build_risks u of m r) (build_risks u of w r)
  build_covers of r =
      cons (over-may of.budget _ _ _ _ narrow.cost (le_refl _))
      (cons unsettled-wider
      (cons (unmet-may (surely_met u m) (surely_met u w) r.needs met-narrower)
      (cons
      (some_name-mono (λ n s. may_hold u n (λ b. satisfies_any u r.clashes (variant n b)) s)
      (λ n s. may_hold u n (λ b. satisfies_any u r.clashes (variant n b)) s)
      (λ n. may_hold-wider u n _ _ (λ b k. k) (narrow.each n)))
      (cons (over-may (capacity u of) _ _ _ _ use-wider (le_refl _)) nil))))

  pub publish_covers : (of : Lane) (r : ℕ)
      → Covers (publish_risks u of m r) (publish_risks u of w r)
  publish_covers of r =
      cons (over-may of.budget _ _ _ _ narrow.cost (le_refl _))
      (cons (λ e. ap (λ built. not (was_built built r)) (sym narrow.built) ∙ e) nil)
