-- A relation field that was judged before its text was kept.
use Rattle.std.proofs.Common.{◌≡◌, ℕ, List, [], take, Option, Some, None, MatchOption, Result, Ok, Err, refl, sym, ap, ◌∙◌}
use Rattle.deb_text.specs.Steps.{◌>>=◌, traverse}
use Rattle.deb_profile.specs.Reduction.{reduced, reduced_at}
use Rattle.deb_relation.specs.Common.{entries_left, only_judged, relations_at, Relations}
use Rattle.deb_relation.specs.declared.kind.Kind.{Kind}
use Rattle.farm_universe.specs.FieldView.{entries_or_none, entries_said}

-- what is judged well is read
pub judged-said : (kind : Kind) (text : List ℕ) → only_judged (relations_at kind text) ≡ Ok tt
    → relations_at kind text ≡ Ok (entries_said kind text)
unfolding entries_said
judged-said kind text = by (relations_at kind text) where
  by : (read : Result Relations ℕ) → only_judged read ≡ Ok tt → read ≡ Ok (entries_or_none read)
  by (Ok entries) is = refl
  by (Err code) is = absurd cc

-- a text without a byte spells no entry
nothing-spelled : (kind : Kind) → relations_at kind [] ≡ Ok []
unfolding relations_at entries_left traverse
nothing-spelled kind = refl

pub nothing-said : (kind : Kind) → entries_said kind [] ≡ []
unfolding entries_said
nothing-said kind = ap entries_or_none (nothing-spelled kind)

pub nothing-kept : (kind : Kind) → relations_at kind [] ≡ Ok (entries_said kind [])
nothing-kept kind = nothing-spelled kind ∙ ap Ok (sym (nothing-said kind))

pub reduced-said : (most : ℕ) (names active : List (List ℕ)) (kind : Kind) (text : List ℕ)
    → relations_at kind text ≡ Ok (entries_said kind text)
    → reduced_at most names active kind text
    ≡ Ok (take most (reduced names active (entries_said kind text)))
unfolding reduced_at
reduced-said most names active kind text is =
    ap (λ read. read >>= λ field. Ok (take most (reduced names active field))) is

-- what can be read is refused for memory alone
pub none-refused : {F Y : Type 0} (refusal : Option F) (read : Result Y F) (y : Y) → read ≡ Ok y
    → MatchOption refusal (Unit {0}) (λ fault. read ≡ Err fault) → refusal ≡ None
none-refused None read y is fails = refl
none-refused (Some fault) read y is fails = absurd (let h = sym is ∙ fails in cc)
