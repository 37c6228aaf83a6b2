-- What may be missed of what a name satisfies, by the words.
use Rattle.std.proofs.Common.{◌≡◌, ◌↔◌, inl, inr, ℕ, ◌<◌, Bool, true, false, ◌&&◌, ◌==◌, None, refl, sym, ap, subst, ◌∙◌}
use Rattle.std.specs.Prelude.{slice_index}
use Rattle.std.proofs.lemmas.Bool.{cases_Bool, and_from, and_parts, both_ways, eq-eqb, eqb-true, lt-ltb}
use Rattle.clause_kernel.specs.Rows.{word_has}
use Rattle.deb_relation.specs.Relations.{Entry}
use Rattle.farm_model.specs.Common.{Universe, variant, variants, satisfies_entry, is_wanted}
use Rattle.farm_model.proofs.BelowLaws.{some_below-at, some_below-found}
use Rattle.plan_model.specs.May.{May, surely_met}
use Rattle.sat_rows.specs.Rows.{variant_passes, IsWordFor}
use Rattle.sat_rows.specs.Served.{IsMissed}
use Rattle.may_rows.specs.Met.{some_misses, MayMiss, may_serve}
use Rattle.may_rows.specs.Words.{Words, AreWords, may_of}
use Rattle.may_rows.proofs.Bridges.{configured-is, met_from, met_to}
use Rattle.may_rows.proofs.MetWords.{some_missed}

module _ (u : Universe) (w : Words) (are : AreWords u w) where
  abbrev m : May
  m = may_of w

  -- a variant of the word satisfies an entry that may be missed
  pub missed-from : (n b : ℕ) (e : Entry) → MayMiss u m n b e → (k word c : ℕ)
      → word_has word c ≡ true → variant_passes u (satisfies_entry u e) k c ≡ true
      → IsMissed u k word w.ready
  missed-from n b e is k word c has passing =
      let d = some_below-found (variants u n)
      (λ d. word_has (slice_index w.ready n) d && (d == b))
      (sym (configured-is u n (λ d. d == b) _ _ _ _ (are.each n)) ∙ is.held) in
      let parts = and_parts (word_has (slice_index w.ready n) d.0) (d.0 == b) d.2 in
      let same = eqb-true d.0 b parts.1 in
      record {
        owner = variant n b;
        known = subst (λ x. x < variants u n) same d.1;
        held = ap (word_has (slice_index w.ready n)) (sym same) ∙ parts.0;
        place = is.place;
        entry = e;
        has = is.has;
        bit = c;
        taken = has;
        satisfied = passing;
        unmet = λ inside. both_ways (surely_met u m e) is.missed (met_from u w are e inside);
      }

  pub missed-to : (k word : ℕ) → (is : IsMissed u k word w.ready)
      → MayMiss u m is.owner.name is.owner.bit is.entry
  missed-to k word is =
      let n = is.owner.name in
      let b = is.owner.bit in
      record {
        held = configured-is u n (λ d. d == b) _ _ _ _ (are.each n)
            ∙ some_below-at (variants u n) (λ d. word_has (slice_index w.ready n) d && (d == b)) b
            is.known (and_from _ _ is.held (eq-eqb b b refl));
        place = is.place;
        has = is.has;
        missed = elim (cases_Bool (surely_met u m is.entry)) [
          | inr out ↦ out
          | inl met ↦ absurd (is.unmet (met_to u w are is.entry met))
        ];
      }

  -- the word has all variants of the name
  module _ (k word : ℕ) (all : IsWordFor u (is_wanted u None) k word) (t : Bool)
      (told : (t ≡ true) ↔ IsMissed u k word w.ready) where
    pub over-some : t ≡ true → some_misses u m ≡ true
    over-some is =
        let missed = told.0 is in
        some_missed u m missed.owner.name missed.owner.bit missed.entry (missed-to k word missed)

    has_all : (c : ℕ) → c < variants u k → word_has word c ≡ true
    unfolding is_wanted
    has_all c lt = all c ∙ and_from _ _ (lt-ltb c (variants u k) lt) refl

    pub over-none : t ≡ false → (n b : ℕ) (e : Entry) → MayMiss u m n b e
        → may_serve u e k ≡ false
    over-none none n b e is = elim (cases_Bool (may_serve u e k)) [
      | inr out ↦ out
      | inl served ↦
          let c = some_below-found (variants u k) (λ c. satisfies_entry u e (variant k c)) served in
          absurd (both_ways t none (told.1 (missed-from n b e is k word c.0 (has_all c.0 c.1)
          (and_from _ _ (lt-ltb c.0 (variants u k) c.1) c.2))))
    ]
