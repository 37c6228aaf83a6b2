-- What one word of the archive decides.
use Rattle.std.proofs.Common.{◌≡◌, ℕ, Bool, true, ◌&&◌, List, Option, ap}
use Rattle.std.proofs.lemmas.Bool.{and_from, cond-true}
use Rattle.deb_relation.specs.Relations.{Entry}
use Rattle.deb_relation.specs.declared.operator.Op.{Op}
use Rattle.farm_model.specs.Common.{some_below, highest_below, Universe, variant, names, variants, is_wanted, satisfies_entry, IsKnown}
use Rattle.farm_model.specs.declared.types.Variant.{Variant}
use Rattle.farm_model.proofs.BelowLaws.{some_below-at}
use Rattle.plan_model.specs.Turn.{newest, has_wanted, passes, Goes, Waits, past, past_when, unpacks}
use Rattle.farm_laws.proofs.Safe.{variants_name}
use Rattle.archive_laws.specs.Loads.{EachWordDecides}

newest-same : (u : Universe) (there other : Variant → Bool) (name : ℕ)
    (wanted : Option (Op × List ℕ)) → ((b : ℕ) → there (variant name b) ≡ other (variant name b))
    → newest u there name wanted ≡ newest u other name wanted
unfolding newest
newest-same u there other name wanted h =
    let word : ◌≡◌ {A = ℕ → Bool} (λ b. there (variant name b)) (λ b. other (variant name b)) =
    λ i b. h b i in
    ap (λ (bits : ℕ → Bool). highest_below (variants u name)
    (λ b. bits b && is_wanted u wanted (variant name b))) word

wanted-same : (u : Universe) (there other : Variant → Bool) (name : ℕ)
    (wanted : Option (Op × List ℕ)) → ((b : ℕ) → there (variant name b) ≡ other (variant name b))
    → has_wanted u there name wanted ≡ has_wanted u other name wanted
unfolding has_wanted
wanted-same u there other name wanted h =
    let word : ◌≡◌ {A = ℕ → Bool} (λ b. there (variant name b)) (λ b. other (variant name b)) =
    λ i b. h b i in
    ap (λ (bits : ℕ → Bool). some_below (variants u name)
    (λ b. bits b && is_wanted u wanted (variant name b))) word

passes-by : (u : Universe) (there : Variant → Bool) (entry : Entry) (v : Variant) → IsKnown u v
    → there v ≡ true → satisfies_entry u entry v ≡ true → passes u there entry ≡ true
passes-by u there entry v known here sat =
    some_below-at (names u) (λ n. some_below (variants u n)
    (λ b. there (variant n b) && satisfies_entry u entry (variant n b))) v.name
    (variants_name u v.name v.bit known)
    (some_below-at (variants u v.name)
    (λ b. there (variant v.name b) && satisfies_entry u entry (variant v.name b)) v.bit known
    (and_from (there v) (satisfies_entry u entry v) here sat))

pub each_word_decides : EachWordDecides
each_word_decides u of st there =
    record {
      unpack =
          λ name wanted other h. ap (unpacks u of st name)
          (newest-same u there other name wanted h);
      when =
          λ name wanted other h. ap (λ holds. Goes (past_when of st holds))
          (wanted-same u there other name wanted h);
      wait =
          λ entry v known here sat. cond-true (passes u there entry)
          (Goes (past of st 0 st.chroot)) Waits (passes-by u there entry v known here sat);
    }
