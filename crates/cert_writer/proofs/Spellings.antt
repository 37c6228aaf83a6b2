-- The variants of each name, as they are spelled.
use Rattle.std.proofs.Common.{◌≡◌, ℕ, zero, suc, ◌==◌, Bool, true, false, List, [], ◌∷◌, length, length-set, map, drop, set, Some, slice_get, refl, sym, ap, subst, ◌∙◌, arith}
use Rattle.std.specs.Prelude.{if◌then◌else◌}
use Rattle.std.proofs.lemmas.Bool.{ne_eqb}
use Rattle.std.proofs.lemmas.Option.{same_Some}
use Rattle.clause_kernel.proofs.Words.{word_has_zero}
use Rattle.cert_text.specs.Printed.{more_text}
use Rattle.farm_model.specs.Common.{variant, Universe}
use Rattle.farm_model.specs.declared.types.Variant.{Variant}
use Rattle.cert_writer.specs.declared.carried.Spelled.{Spelled}
use Rattle.cert_writer.specs.Carried.{IsSpelled, AreSpelled}
use Rattle.cert_writer.specs.Lines.{part_text, is_none, in_word}

-- ---- texts

-- without the comma ahead of the first, a list
pub placed-part : (u : Universe) (is_first : Bool) (vs : List Variant)
    → (if is_first then drop 1 (more_text u vs) else more_text u vs) ≡ part_text u is_first vs
placed-part u true [] = refl
placed-part u true (v ∷ vs) = refl
placed-part u false vs = refl

-- no text is that of no variants
pub none-text : (u : Universe) (vs : List Variant)
    → (length (more_text u vs) == 0) ≡ is_none vs
none-text u [] = refl
none-text u (v ∷ vs) = ne_eqb (length (more_text u (v ∷ vs))) 0 (λ e. omega (arith, e))

-- a word of no bits has no variants
none-in : (ks : List ℕ) (n : ℕ) → in_word 0 (map (variant n) ks) ≡ []
none-in [] n = refl
none-in (k ∷ ks) n = rw (word_has_zero k) (none-in ks n)

pub none-spelled : (u : Universe) (ks : List ℕ) (n : ℕ)
    → [] ≡ more_text u (in_word 0 (map (variant n) ks))
none-spelled u ks n = ap (more_text u) (sym (none-in ks n))

-- ---- a name is spelled anew

each-set : {X : Type 0} (P : ℕ → X → Type 0) (xs : List X) (n : ℕ) (y : X)
    → ((k : ℕ) (x : X) → slice_get xs k ≡ Some x → P k x) → P n y
    → (k : ℕ) (x : X) → slice_get (set xs n y) k ≡ Some x → P k x
each-set P [] n y each new k x e = each k x e
each-set P (z ∷ zs) zero y each new zero x e = subst (P zero) (same_Some y x e) new
each-set P (z ∷ zs) zero y each new (suc k) x e = each (suc k) x e
each-set P (z ∷ zs) (suc n) y each new zero x e = each zero x e
each-set P (z ∷ zs) (suc n) y each new (suc k) x e =
    each-set (λ j w. P (suc j) w) zs n y (λ j w at. each (suc j) w at) new k x e

pub spelled-set : (u : Universe) (all : List Spelled) (n : ℕ) (s : Spelled) → AreSpelled u all
    → IsSpelled u n s → AreSpelled u (set all n s)
spelled-set u all n s are new = record {
  long = length-set all n s ∙ are.long;
  each = each-set (IsSpelled u) all n s are.each new;
}
