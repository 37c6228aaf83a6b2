-- The entries that are left of a field that was judged, and a text without a byte.
use Rattle.std.proofs.Common.{◌≡◌, ℕ, List, [], ◌∷◌, Result, Ok, Err, refl}
use Rattle.deb_stanza.specs.Stanza.{paragraphs_at}
use Rattle.deb_text.specs.Common.{lines_of, judged, traverse, then_all}
use Rattle.deb_relation.specs.Common.{entry_at, only_judged, Entry}
use Rattle.deb_relation.specs.declared.kind.Kind.{Kind}
use Rattle.explain_faults.specs.Paragraphs.{entries_of, read_or_none}

-- behind the first of them
module _ (kind : Kind) (x : List ℕ) (xs all : List (List ℕ)) (y : Entry) (cut : all ≡ x ∷ xs)
    (is : entry_at kind x ≡ Ok y) (fine : only_judged (traverse (entry_at kind) all) ≡ Ok tt) where
  pub judged_behind : only_judged (traverse (entry_at kind) xs) ≡ Ok tt
  unfolding traverse
  judged_behind = by (traverse (entry_at kind) xs) (rw (cut, is) at fine) where
    by : (rest : Result (List Entry) ℕ) → only_judged (then_all (Ok y) rest) ≡ Ok tt
        → only_judged rest ≡ Ok tt
    by (Ok ys) e = refl
    by (Err code) e = absurd cc

  pub entries_behind : entries_of kind all ≡ y ∷ entries_of kind xs
  unfolding traverse
  entries_behind = rw (cut, is) (by (traverse (entry_at kind) xs) (rw (cut, is) at fine)) where
    by : (rest : Result (List Entry) ℕ) → only_judged (then_all (Ok y) rest) ≡ Ok tt
        → read_or_none (then_all (Ok y) rest) ≡ y ∷ read_or_none rest
    by (Ok ys) e = refl
    by (Err code) e = absurd cc

-- a field that is refused has none
pub none_read : {X : Type 0} (read : Result (List X) ℕ) (code : ℕ)
    → only_judged read ≡ Err code → read_or_none read ≡ []
none_read (Ok xs) code is = absurd cc
none_read (Err c) code is = refl

pub nothing_read : paragraphs_at [] ≡ Ok []
unfolding paragraphs_at lines_of judged
nothing_read = refl
