-- A configure by the words.
use Rattle.std.proofs.Common.{◌≡◌, ◌⊎◌, inl, inr, ℕ, ◌<◌, Bool, true, false, not, ◌&&◌, ◌||◌, ◌==◌, List, [], ◌∷◌, ◌++◌, refl, ap, ◌∙◌, if◌then◌else◌}
use Rattle.std.proofs.Math.Bool.{or-false}
use Rattle.std.proofs.lemmas.Bool.{cases_Bool}
use Rattle.std.specs.List.{fold, list_any}
use Rattle.deb_relation.specs.Relations.{Entry, Relations}
use Rattle.farm_model.specs.Common.{member, unmet, Universe, variant, names, pre_depends, depends, breaks, satisfies_entry}
use Rattle.farm_model.specs.declared.types.Variant.{Variant}
use Rattle.farm_model.specs.declared.types.Trap.TheVariants.{WrongState, PreDepends, Depends, Broken, OverBudget}
use Rattle.farm_model.proofs.BelowLaws.{some_below-same}
use Rattle.plan_model.specs.Common.{Lane, set_cost, Bits, MaySlot, MayAbsent, MayUnpacked, MayConfigured, May, some_name, may_hold, surely_configured, surely_holds, surely_met, surely_met_with, is_surely_unpacked, may_be_configured, may_exceed, some_may_member, configure_risks, IsNameSet}
use Rattle.may_rows.specs.Words.{Words, slot_of, may_of, joined_word, AreOfName, AreWords, with_slot}
use Rattle.may_rows.specs.Configures.{name_configured, slots_after, risks_before, risks_after}
use Rattle.may_rows.proofs.MemberWords.{after-members}
use Rattle.may_rows.proofs.Writes.{map-written, are-written}
use Rattle.may_rows.proofs.MetAhead.{any-same}

-- ---- the words of one name, and of the members

pub configured-words : (count here ready last both : ℕ) → AreOfName count here ready last both
    → AreOfName count here here here (joined_word here here)
configured-words count here ready last both is = record {
  phase = inr (refl, refl);
  absent = λ none. none;
  here_known = is.here_known;
  last_known = is.here_known;
  joined = refl;
}

pub configured-slot : (count here ready last both : ℕ) → AreOfName count here ready last both
    → slot_of here here here ≡ may_be_configured (slot_of here ready last)
configured-slot count here ready last both is = by (cases_Bool (here == 0))
    (cases_Bool (ready == 0))
  where
    by : ((here == 0) ≡ true) ⊎ ((here == 0) ≡ false)
        → ((ready == 0) ≡ true) ⊎ ((ready == 0) ≡ false)
        → slot_of here here here ≡ may_be_configured (slot_of here ready last)
    by (inl z) r = rw z refl
    by (inr h) (inl r) = rw (h, r) refl
    by (inr h) (inr r) = rw (h, r) refl

configured-name : (u : Universe) (w : Words) (n : ℕ) → AreWords u w → n < names u
    → AreWords u (name_configured w n)
    × (may_of (name_configured w n)
    ≡ with_slot (may_of w) n (may_be_configured ((may_of w).slots n)))
configured-name u w n are lt = (
  are-written u w are n _ _ _ lt (configured-words _ _ _ _ _ (are.each n)) w.used refl,
  map-written u w are n _ _ _ lt
      ∙ ap (with_slot (may_of w) n) (configured-slot _ _ _ _ _ (are.each n)),
)

-- the members configured in turn: what the words keep, and their map
pub configured-members : (u : Universe) (w next : Words) (ms : List ℕ) → AreWords u w
    → IsNameSet u ms → next ≡ fold name_configured w ms
    → AreWords u next × (may_of next ≡ slots_after may_be_configured (may_of w) ms)
configured-members u w next ms are named =
    after-members u name_configured may_be_configured (configured-name u) w ms are named next

-- ---- the tests of the map where the members are configured

module _ (u : Universe) (ms : List ℕ) (m : May) where
  abbrev after : May
  after = slots_after may_be_configured m ms

  with_is_after : (e : Entry) → surely_met_with u ms m e ≡ surely_met u after e
  unfolding surely_met_with surely_met
  with_is_after e =
      some_below-same (names u) _ _
      (λ n lt. by n (λ b. satisfies_entry u e (variant n b)) (member ms n) (m.slots n))
    where
      twice : (b : Bool) → (b || b) ≡ b
      twice true = refl
      twice false = refl

      by : (n : ℕ) (p : Bits) (is : Bool) (s : MaySlot)
          → (surely_configured u n p s || (is && surely_holds u n p s))
          ≡ surely_configured u n p (if is then may_be_configured s else s)
      by n p true MayAbsent = refl
      by n p true (MayUnpacked current last) = refl
      by n p true (MayConfigured current) = twice _
      by n p false MayAbsent = refl
      by n p false (MayUnpacked current last) = refl
      by n p false (MayConfigured current) = or-false _

  pub unmet-after : (es : Relations) → unmet (surely_met_with u ms m) es
      ≡ unmet (surely_met u after) es
  unmet-after es = any-same _ _ es (λ e. ap not (with_is_after e))

  hold-after : (n : ℕ) (p : Bits) → may_hold u n p (m.slots n) ≡ may_hold u n p (after.slots n)
  hold-after n p = by (member ms n) (m.slots n)
    where
      by : (is : Bool) (s : MaySlot)
          → may_hold u n p s ≡ may_hold u n p (if is then may_be_configured s else s)
      by true MayAbsent = refl
      by true (MayUnpacked current last) = refl
      by true (MayConfigured current) = refl
      by false s = refl

  depends-after : some_may_member u ms m (λ v. unmet (surely_met_with u ms m) (depends u v))
      ≡ some_may_member u ms after (λ v. unmet (surely_met u after) (depends u v))
  depends-after =
      any-same _ _ ms (λ k.
      (λ i. may_hold u k (λ b. unmet-after (depends u (variant k b)) i) (m.slots k))
      ∙ hold-after k (λ b. unmet (surely_met u after) (depends u (variant k b))))

  broken-at : (v : Variant)
      → some_name u m (λ n s. not (n == v.name) && may_hold u n (λ b. breaks u (variant n b) v) s)
      ≡ some_name u after
      (λ n s. not (n == v.name) && may_hold u n (λ b. breaks u (variant n b) v) s)
  broken-at v =
      some_below-same (names u) _ _
      (λ n lt. ap (λ t. not (n == v.name) && t) (hold-after n (λ b. breaks u (variant n b) v)))

  broken-after : some_may_member u ms m (λ v. some_name u m
      (λ n s. not (n == v.name) && may_hold u n (λ b. breaks u (variant n b) v) s))
      ≡ some_may_member u ms after (λ v. some_name u after
      (λ n s. not (n == v.name) && may_hold u n (λ b. breaks u (variant n b) v) s))
  broken-after =
      any-same _ _ ms (λ k.
      (λ i. may_hold u k (λ b. broken-at (variant k b) i) (m.slots k))
      ∙ hold-after k (λ b. some_name u after
      (λ n s. not (n == k) && may_hold u n (λ d. breaks u (variant n d) (variant k b)) s)))

  pub configure_parts : (of : Lane)
      → configure_risks u of m ms ≡ risks_before u of m ms ++ risks_after u after ms
  configure_parts of = λ i.
      (may_exceed of m (set_cost ms), OverBudget)
      ∷ (list_any (λ k. not (is_surely_unpacked (m.slots k))) ms, WrongState)
      ∷ (some_may_member u ms m (λ v. unmet (surely_met u m) (pre_depends u v)), PreDepends)
      ∷ (depends-after i, Depends)
      ∷ (broken-after i, Broken)
      ∷ []
