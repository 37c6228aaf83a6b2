-- What is needed, member by member and name by name.
use Rattle.std.proofs.Common.{◌≡◌, ◌↔◌, ℕ, Bool, true, false, not, ◌&&◌, ◌==◌, nat_lt, List, [], ◌∷◌, refl, sym, ap, ◌∙◌}
use Rattle.std.specs.Cmp.{both_ways as same_tests}
use Rattle.std.specs.Prelude.{slice_index, slice_index_or}
use Rattle.std.specs.List.{list_any}
use Rattle.std.proofs.Math.Bool.{or-false}
use Rattle.std.proofs.lemmas.Bool.{and_from, and_parts, or_left, not-true, not_from_false, eq-eqb, ltb-true, lt-ltb}
use Rattle.std.proofs.lemmas.Option.{slice_get-get_or}
use Rattle.deb_relation.specs.Relations.{Entry}
use Rattle.farm_model.specs.Common.{some_below, entries, Universe, variant, names, variants, satisfies_entry}
use Rattle.farm_model.proofs.BelowLaws.{some_below-at, some_below-found}
use Rattle.farm_universe.proofs.PlaceLaws.{named}
use Rattle.plan_model.specs.Common.{Bits, May, some_of, surely_met, may_be_last}
use Rattle.sat_rows.specs.Served.{IsMissed}
use Rattle.may_rows.specs.Met.{MayMiss}
use Rattle.may_rows.specs.Words.{Words, AreWords, may_of}
use Rattle.may_rows.specs.Withdraws.{may_have_met, may_be_missed, needs_at}
use Rattle.may_rows.proofs.ByNumber.{any-found, any-at}
use Rattle.may_rows.proofs.MetAfter.{configured_found, entry_passing}
use Rattle.may_rows.proofs.MissedNames.{missed-from, missed-to}
use Rattle.may_rows.proofs.Unpacked.{last-word}

module _ (u : Universe) (m : May) where
  -- a member may have met the entry
  abbrev met_by : Entry → ℕ → Bool
  met_by e k = some_of u k (may_be_last (m.slots k)) (λ b. satisfies_entry u e (variant k b))

  abbrev missed : List ℕ → Entry → Bool
  missed ms e = may_have_met u ms m e && not (surely_met u m e)

  -- some member is needed where the set is
  pub needed_each : (ms : List ℕ)
      → some_below (names u) (needs_at u ms m)
      ≡ list_any (λ k. some_below (names u) (needs_at u (k ∷ []) m)) ms
  needed_each ms =
      same_tests _ _
      (λ some.
      let n = some_below-found (names u) (needs_at u ms m) some in
      let b = configured_found u n.0 (λ d. may_be_missed u ms m (entries u (variant n.0 d)))
      (m.slots n.0) n.2 in
      let es = entries u (variant n.0 b.0) in
      let i = any-found (missed ms) [] es b.1 in
      let e : Entry = slice_index_or es i.0 [] in
      let parts = and_parts (may_have_met u ms m e) (not (surely_met u m e)) i.2 in
      let j = any-found (met_by e) 0 ms parts.0 in
      let k : ℕ = slice_index_or ms j.0 0 in
      any-at (λ one. some_below (names u) (needs_at u (one ∷ []) m)) 0 ms j.0 j.1
      (some_below-at (names u) (needs_at u (k ∷ []) m) n.0 n.1
      (b.2 (λ d. may_be_missed u (k ∷ []) m (entries u (variant n.0 d)))
      (any-at (missed (k ∷ [])) [] es i.0 i.1
      (and_from _ _ (or_left (met_by e k) false j.2) parts.1)))))
      (λ some.
      let j = any-found (λ one. some_below (names u) (needs_at u (one ∷ []) m)) 0 ms some in
      let k : ℕ = slice_index_or ms j.0 0 in
      let n = some_below-found (names u) (needs_at u (k ∷ []) m) j.2 in
      let b = configured_found u n.0 (λ d. may_be_missed u (k ∷ []) m (entries u (variant n.0 d)))
      (m.slots n.0) n.2 in
      let es = entries u (variant n.0 b.0) in
      let i = any-found (missed (k ∷ [])) [] es b.1 in
      let e : Entry = slice_index_or es i.0 [] in
      let parts = and_parts (may_have_met u (k ∷ []) m e) (not (surely_met u m e)) i.2 in
      some_below-at (names u) (needs_at u ms m) n.0 n.1
      (b.2 (λ d. may_be_missed u ms m (entries u (variant n.0 d)))
      (any-at (missed ms) [] es i.0 i.1
      (and_from _ _
      (any-at (met_by e) 0 ms j.0 j.1 (sym (or-false (met_by e k)) ∙ parts.0)) parts.1))))

-- a name is needed where the words miss what satisfied an entry
module _ (u : Universe) (w : Words) (are : AreWords u w) (k : ℕ) where
  abbrev m : May
  m = may_of w

  abbrev needs : ℕ → Bool
  needs = needs_at u (k ∷ []) m

  -- one of the withdrawn ones that may have satisfied the entry
  abbrev may_have : Entry → Bits
  may_have e b = may_be_last (m.slots k) b && satisfies_entry u e (variant k b)

  needs_missed : some_below (names u) needs ≡ true → IsMissed u k (slice_index w.last k) w.ready
  needs_missed some =
      let n = some_below-found (names u) needs some in
      let b = configured_found u n.0 (λ d. may_be_missed u (k ∷ []) m (entries u (variant n.0 d)))
      (m.slots n.0) n.2 in
      let es = entries u (variant n.0 b.0) in
      let i = any-found (missed u m (k ∷ [])) [] es b.1 in
      let e : Entry = slice_index_or es i.0 [] in
      let parts = and_parts (may_have_met u (k ∷ []) m e) (not (surely_met u m e)) i.2 in
      let c = some_below-found (variants u k) (may_have e)
      (sym (or-false (met_by u m e k)) ∙ parts.0) in
      let met = and_parts _ _ c.2 in
      let missing : MayMiss u m n.0 b.0 e = record {
        held = b.2 (λ d. d == b.0) (eq-eqb b.0 b.0 refl);
        place = i.0;
        has = slice_get-get_or es i.0 [] i.1;
        missed = not-true _ parts.1;
      } in
      missed-from u w are n.0 b.0 e missing k (slice_index w.last k) c.0
      (ap (λ (bits : Bits). bits c.0) (last-word u w are k) ∙ met.0)
      (and_from _ _ (lt-ltb c.0 (variants u k) c.1) met.1)

  missed_needs : IsMissed u k (slice_index w.last k) w.ready → some_below (names u) needs ≡ true
  missed_needs is =
      let n = is.owner.name in
      let b = is.owner.bit in
      let e = is.entry in
      let missing = missed-to u w are k (slice_index w.last k) is in
      let passing = and_parts (nat_lt is.bit (variants u k)) _ is.satisfied in
      let met = some_below-at (variants u k) (may_have e) is.bit
      (ltb-true is.bit (variants u k) passing.0)
      (and_from _ _ (sym (ap (λ (bits : Bits). bits is.bit) (last-word u w are k)) ∙ is.taken)
      passing.1) in
      some_below-at (names u) needs n (named u n b is.known)
      (entry_passing u n b e (m.slots n) (missed u m (k ∷ [])) missing.held missing.place
      missing.has
      (and_from _ _ (or_left (met_by u m e k) false met) (not_from_false _ missing.missed)))

  pub needed_is : (t : Bool) → (t ≡ true) ↔ IsMissed u k (slice_index w.last k) w.ready
      → t ≡ some_below (names u) needs
  needed_is t told = same_tests t _ (λ missed. missed_needs (told.0 missed))
      (λ some. told.1 (needs_missed some))
