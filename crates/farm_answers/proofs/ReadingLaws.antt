-- One reading behind another is one.
use Rattle.std.proofs.Common.{◌≡◌, ℕ, List, [], ◌++◌, Option, sym, ap, ◌∙◌, append-nil, append_assoc, IfSome}
use Rattle.std.specs.Io.KnownBytes.{IsAtEnd}
use Rattle.std.proofs.KnownBytes.{Consumes-nil, Consumes-trans, Consumes-all}
use Rattle.farm_answers.specs.Reading.{IsReadOn}

pub nothing_read : (left : Option (List ℕ)) (read : List ℕ) → IsReadOn left left read read
nothing_read left read = record {
  bytes = [];
  taken = Consumes-nil left;
  put = sym (append-nil read);
}

pub read_behind : (a b c : Option (List ℕ)) (x y z : List ℕ) → IsReadOn a b x y → IsReadOn b c y z
    → IsReadOn a c x z
read_behind a b c x y z first second = record {
  bytes = first.bytes ++ second.bytes;
  taken = Consumes-trans a b c first.bytes second.bytes first.taken second.taken;
  put = second.put ∙ ap (λ l. l ++ second.bytes) first.put
      ∙ append_assoc x first.bytes second.bytes;
}

-- a reader at its end gave all that it had
pub all_read : (a b : Option (List ℕ)) (x y : List ℕ) → IsReadOn a b x y → IsAtEnd b
    → IfSome a (λ bytes. y ≡ x ++ bytes)
all_read a b x y is end = Consumes-all a b is.bytes x y is.taken end is.put
