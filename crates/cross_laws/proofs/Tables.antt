-- What is encoded and what is meant agree at each side, Multi-Arch value and qualifier: tables that
-- compute.
use Rattle.std.proofs.Common.{◌≡◌, Bool, true, false, not, ◌&&◌, ◌||◌, List, refl, sym, subst}
use Rattle.std.proofs.lemmas.Bool.{and_parts, not-true}
use Rattle.std.specs.List.{list_any, list_all}
use Rattle.cross_laws.specs.declared.types.Side.{Side}
use Rattle.cross_laws.specs.declared.types.Side.TheVariants.{Build, Host}
use Rattle.cross_laws.specs.declared.types.MultiArch.{MultiArch}
use Rattle.cross_laws.specs.declared.types.MultiArch.TheVariants.{No, Same, Foreign, Allowed}
use Rattle.cross_laws.specs.Binary.{Standing, Asked, Unsaid, Any, Native, Named, Elsewhere}
use Rattle.cross_laws.specs.Meets.{Asker, counts}
use Rattle.cross_laws.specs.Excludes.{clashes}
use Rattle.cross_laws.specs.Names.{Sense, One}
use Rattle.cross_laws.specs.Encoding.{senses, need_senses, clash_senses}
use Rattle.cross_laws.specs.Clear.{takes_across}
use Rattle.cross_laws.proofs.NameLaws.{is_sense}

-- the offer has this sense; one of these senses
abbrev pub known : Standing → Sense → Bool
known o k = list_any (λ j. is_sense j k) (senses o)

abbrev pub known_as : Standing → List Sense → Bool
known_as o ks = list_any (λ k. known o k) ks

-- no sense of an offer is that of both sides
abbrev pub is_of_offers : Sense → Bool
is_of_offers k = not (is_sense One k)

abbrev agree : Bool → Bool → Bool
agree true b = b
agree false b = not b

agree-same : (a b : Bool) → agree a b ≡ true → a ≡ b
agree-same true b e = sym e
agree-same false true e = e
agree-same false false e = refl

-- ---- all values

abbrev every_bool : (Bool → Bool) → Bool
every_bool p = p true && p false

abbrev every_side : (Side → Bool) → Bool
every_side p = p Build && p Host

abbrev every_value : (MultiArch → Bool) → Bool
every_value p = (p No && p Same) && (p Foreign && p Allowed)

abbrev every_asked : (Asked → Bool) → Bool
every_asked p =
    ((p Unsaid && p Any) && (p Native && p Elsewhere)) && every_side (λ side. p (Named side))

bool-at : (p : Bool → Bool) → every_bool p ≡ true → (b : Bool) → p b ≡ true
bool-at p e true = (and_parts (p true) (p false) e).0
bool-at p e false = (and_parts (p true) (p false) e).1

side-at : (p : Side → Bool) → every_side p ≡ true → (x : Side) → p x ≡ true
side-at p e Build = (and_parts (p Build) (p Host) e).0
side-at p e Host = (and_parts (p Build) (p Host) e).1

value-at : (p : MultiArch → Bool) → every_value p ≡ true → (m : MultiArch) → p m ≡ true
value-at p e No =
    let h = and_parts (p No && p Same) (p Foreign && p Allowed) e in
    (and_parts (p No) (p Same) h.0).0
value-at p e Same =
    let h = and_parts (p No && p Same) (p Foreign && p Allowed) e in
    (and_parts (p No) (p Same) h.0).1
value-at p e Foreign =
    let h = and_parts (p No && p Same) (p Foreign && p Allowed) e in
    (and_parts (p Foreign) (p Allowed) h.1).0
value-at p e Allowed =
    let h = and_parts (p No && p Same) (p Foreign && p Allowed) e in
    (and_parts (p Foreign) (p Allowed) h.1).1

asked-parts : (p : Asked → Bool) → every_asked p ≡ true
    → ((p Unsaid && p Any) ≡ true) × ((p Native && p Elsewhere) ≡ true)
    × (every_side (λ side. p (Named side)) ≡ true)
asked-parts p e =
    let h = and_parts ((p Unsaid && p Any) && (p Native && p Elsewhere))
    (every_side (λ side. p (Named side))) e in
    let k = and_parts (p Unsaid && p Any) (p Native && p Elsewhere) h.0 in
    (k.0, k.1, h.1)

asked-at : (p : Asked → Bool) → every_asked p ≡ true → (a : Asked) → p a ≡ true
asked-at p e Unsaid = (and_parts (p Unsaid) (p Any) (asked-parts p e).0).0
asked-at p e Any = (and_parts (p Unsaid) (p Any) (asked-parts p e).0).1
asked-at p e Native = (and_parts (p Native) (p Elsewhere) (asked-parts p e).1).0
asked-at p e Elsewhere = (and_parts (p Native) (p Elsewhere) (asked-parts p e).1).1
asked-at p e (Named side) = side-at (λ side. p (Named side)) (asked-parts p e).2 side

-- of each standing
abbrev every_standing : (Standing → Bool) → Bool
every_standing p =
    every_side (λ x. every_value (λ m. p (record { side = x; multi_arch = m })))

standing-at : (p : Standing → Bool) → every_standing p ≡ true → (o : Standing) → p o ≡ true
standing-at p e o =
    value-at (λ m. p (record { side = o.side; multi_arch = m }))
    (side-at (λ x. every_value (λ m. p (record { side = x; multi_arch = m }))) e o.side)
    o.multi_arch

-- ---- the tables

-- unless it is taken across
abbrev need_row : Asker → Asked → Standing → Bool
need_row at asked o =
    takes_across asked o || agree (known_as o (need_senses at asked)) (counts at o asked)

abbrev clash_row : Bool → Asked → Standing → Bool
clash_row is_build asked o =
    takes_across asked o
    || agree (known_as o (clash_senses is_build asked)) (clashes is_build o asked)

abbrev asker_of : Side → Bool → Asker
asker_of side is_build = record { side = side; is_build = is_build }

need-rows : every_side (λ side. every_bool (λ b. every_asked (λ asked.
    every_standing (need_row (asker_of side b) asked)))) ≡ true
need-rows = refl

clash-rows : every_bool (λ b. every_asked (λ asked. every_standing (clash_row b asked))) ≡ true
clash-rows = refl

need-row : (at : Asker) (asked : Asked) (o : Standing) → need_row at asked o ≡ true
need-row at asked o =
    let sides = side-at (λ side. every_bool (λ b. every_asked (λ asked.
    every_standing (need_row (asker_of side b) asked)))) need-rows at.side in
    let askers = bool-at (λ b. every_asked (λ asked.
    every_standing (need_row (asker_of at.side b) asked))) sides at.is_build in
    standing-at (need_row at asked)
    (asked-at (λ asked. every_standing (need_row at asked)) askers asked) o

clash-row : (is_build : Bool) (asked : Asked) (o : Standing) → clash_row is_build asked o ≡ true
clash-row is_build asked o =
    standing-at (clash_row is_build asked)
    (asked-at (λ asked. every_standing (clash_row is_build asked))
    (bool-at (λ b. every_asked (λ asked. every_standing (clash_row b asked))) clash-rows is_build)
    asked) o

pub need-table : (at : Asker) (asked : Asked) (o : Standing) → takes_across asked o ≡ false
    → known_as o (need_senses at asked) ≡ counts at o asked
need-table at asked o stays =
    agree-same (known_as o (need_senses at asked)) (counts at o asked)
    (subst (λ b. (b || agree (known_as o (need_senses at asked)) (counts at o asked)) ≡ true) stays
    (need-row at asked o))

pub clash-table : (is_build : Bool) (asked : Asked) (o : Standing) → takes_across asked o ≡ false
    → known_as o (clash_senses is_build asked) ≡ clashes is_build o asked
clash-table is_build asked o stays =
    agree-same (known_as o (clash_senses is_build asked)) (clashes is_build o asked)
    (subst
    (λ b. (b || agree (known_as o (clash_senses is_build asked)) (clashes is_build o asked)) ≡ true)
    stays (clash-row is_build asked o))

-- ---- senses of needs, clashes and offers

abbrev pub are_of_offers : List Sense → Bool
are_of_offers ks = list_all is_of_offers ks

pub need-senses : (at : Asker) (asked : Asked) → are_of_offers (need_senses at asked) ≡ true
need-senses at asked =
    let sides = side-at (λ side. every_bool (λ b. every_asked
    (λ asked. are_of_offers (need_senses (asker_of side b) asked)))) refl at.side in
    let askers = bool-at (λ b. every_asked
    (λ asked. are_of_offers (need_senses (asker_of at.side b) asked))) sides at.is_build in
    asked-at (λ asked. are_of_offers (need_senses at asked)) askers asked

pub clash-senses : (is_build : Bool) (asked : Asked)
    → are_of_offers (clash_senses is_build asked) ≡ true
clash-senses is_build asked =
    asked-at (λ asked. are_of_offers (clash_senses is_build asked))
    (bool-at (λ b. every_asked (λ asked. are_of_offers (clash_senses b asked))) refl is_build)
    asked

pub never-one : (o : Standing) → known o One ≡ false
never-one o = not-true (known o One) (standing-at (λ o. not (known o One)) refl o)
