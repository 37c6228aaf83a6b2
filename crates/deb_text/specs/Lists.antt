-- The lists that vectors hold.
use Rattle.std.specs.Prelude.{List, map}
use Rattle.std.specs.Global.{Vec}

abbrev pub lists : {X : Type 0} → List (Vec X) → List (List X)
lists vs = map (λ v. v.items) vs
