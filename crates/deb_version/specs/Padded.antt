-- Lists compared place by place, as if each went on with one element for ever.
use Rattle.std.specs.Prelude.{List, [], ◌∷◌}
use Rattle.std.specs.declared.cmp.Ordering.{Ordering}
use Rattle.std.specs.declared.cmp.Ordering.TheVariants.{Equal}
use Rattle.std.specs.Ordering.{ordering_then}

abbrev pub padded_cmp : {K : Type 0} → K → (K → K → Ordering) → List K → List K → Ordering
padded_cmp end cmp [] [] = Equal
padded_cmp end cmp [] (y ∷ ys) = ordering_then (cmp end y) (padded_cmp end cmp [] ys)
padded_cmp end cmp (x ∷ xs) [] = ordering_then (cmp x end) (padded_cmp end cmp xs [])
padded_cmp end cmp (x ∷ xs) (y ∷ ys) = ordering_then (cmp x y) (padded_cmp end cmp xs ys)
