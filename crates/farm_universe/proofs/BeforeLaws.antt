-- What stands before what is refused of a farm.
use Rattle.std.proofs.Common.{◌≡◌, ℕ, ◌<◌, List, [], ◌∷◌, length, refl, sym, subst, ap, ◌∙◌, arith, Option, Some, None, MatchOption, Result, Ok, Err, IfErr, IsErrAnd}
use Rattle.deb_text.specs.Common.{Fails, refusal_of, ◌>>=◌, traverse, words}
use Rattle.deb_text.specs.declared.fault.Fault.{Fault}
use Rattle.deb_text.specs.declared.files.TheConstants.{FARM}
use Rattle.deb_profile.specs.WordList.{words_at}
use Rattle.deb_stanza.specs.Stanza.{Paragraph, paragraph_at}
use Rattle.farm_model.specs.Universe.{Universe}
use Rattle.farm_universe.specs.declared.refused.Refused.{Refused}
use Rattle.farm_universe.specs.Before.{Leaves, Refuses, bare_land, before_farm, before_of, before_text, land_before, refused_for, universe_on}
use Rattle.farm_universe.specs.FarmText.{Head, head_at, land_at, land_of}
use Rattle.farm_universe.specs.Land.{Land}
use Rattle.farm_universe.specs.PackagesText.{PackageTable}
use Rattle.farm_universe.specs.SourcesText.{SourceTable}
use Rattle.farm_universe.specs.Told.{told}
use Rattle.farm_universe.specs.UniverseText.{paragraphs_in, sources_at, table_at}

-- what stands before a part is known where it is known that the part is refused
pub fails-leaves : {Y : Type 0} (refused : Refused) (read : Result Y Fault)
    (before : Option Universe)
    → ((fault : Fault) → read ≡ Err fault → refused.before ≡ before)
    → Fails refused_for refused read → Leaves refused before
fails-leaves {Y} refused read before is fails = by (refused_for refused) fails where
  by : (r : Option Fault) → MatchOption r (Unit {0}) (λ fault. read ≡ Err fault)
      → MatchOption r (Unit {0}) (λ fault. refused.before ≡ before)
  by None fails = tt
  by (Some fault) fails = is fault fails

land-same : (one other : Land) → (let r : Result Land Fault = Ok one in r ≡ Ok other)
    → one ≡ other
land-same one other is = cc

-- behind a first paragraph that can be read stands what it says
pub before-land : (table : PackageTable) (sources : SourceTable) (ps : List Paragraph) (land : Land)
    → land_at table sources ps ≡ Ok land → before_farm table sources ps ≡ Some (universe_on land)
unfolding land_at before_farm
before-land table sources [] land is = absurd cc
before-land table sources (p ∷ ps) land is = by (head_at table p) is where
  by : (read : Result Head ℕ)
      → (told FARM p read >>= λ head. Ok (land_of table sources head)) ≡ Ok land
      → Some (universe_on (land_before table sources read)) ≡ Some (universe_on land)
  by (Ok head) is =
      ap (λ land. Some (universe_on land)) (land-same (land_of table sources head) land is)
  by (Err code) is = absurd cc

-- a farm text without a paragraph
pub leaves-empty : (table : PackageTable) (sources : SourceTable) (ps : List Paragraph)
    (refused : Refused) (fault : Fault) → refused ≡ record { fault = fault; before = None }
    → length ps ≡ 0 → Leaves refused (before_farm table sources ps)
unfolding before_farm
leaves-empty table sources [] refused fault is none = by (refused_for refused) where
  by : (told : Option Fault) → MatchOption told (Unit {0}) (λ _. refused.before ≡ None)
  by None = tt
  by (Some told) = ap (λ (r : Refused). r.before) is
leaves-empty table sources (p ∷ ps) refused fault is none = absurd (omega (arith, none))

-- no name of the architecture
pub no-names : (names : List (List ℕ)) → words_at [] ≡ Ok names → names ≡ []
unfolding words traverse
no-names names is = cc

module _ (refused : Refused) (fault : Fault) (land : Land) (refuses : Refuses refused fault land) where
  -- a refusal behind a land leaves it
  pub refuses-leaves : (before : Option Universe) → before ≡ Some (universe_on land)
      → Leaves refused before
  refuses-leaves before is = by (refused_for refused) refuses where
    by : (told : Option Fault) → MatchOption told (Unit {0})
        (λ _. refused ≡ record { fault = fault; before = Some (universe_on land) })
        → MatchOption told (Unit {0}) (λ _. refused.before ≡ before)
    by None refuses = tt
    by (Some told) refuses = ap (λ (r : Refused). r.before) refuses ∙ sym is

  -- and has the fault that a part is refused for
  pub refuses-fails : {Y : Type 0} (read : Result Y Fault) → Fails refusal_of fault read
      → Fails refused_for refused read
  refuses-fails {Y} read fails = by (refused_for refused) refl refuses where
    by : (told : Option Fault) → refused_for refused ≡ told → MatchOption told (Unit {0})
        (λ _. refused ≡ record { fault = fault; before = Some (universe_on land) })
        → MatchOption told (Unit {0}) (λ f. read ≡ Err f)
    by None e refuses = tt
    by (Some told) e refuses =
        let same : refusal_of fault ≡ Some told =
        ap (λ (r : Refused). refused_for r) (sym refuses) ∙ e in
        subst (λ r. MatchOption r (Unit {0}) (λ f. read ≡ Err f)) same fails

module _ (table : PackageTable) (sources : SourceTable) (ps : List Paragraph) where
  -- what is behind the first paragraph fails as it does
  pub land-fails : (refused : Refused) → 0 < length ps
      → Fails refused_for refused
      (told FARM (paragraph_at ps 0) (head_at table (paragraph_at ps 0)))
      → Fails refused_for refused (land_at table sources ps)
  unfolding land_at
  land-fails refused there fails = at ps there fails where
    at : (ps : List Paragraph) → 0 < length ps
        → Fails refused_for refused
        (told FARM (paragraph_at ps 0) (head_at table (paragraph_at ps 0)))
        → Fails refused_for refused (land_at table sources ps)
    at [] there fails = absurd (omega (arith, there))
    at (p ∷ ps) there fails = by (refused_for refused) fails where
      by : (r : Option Fault)
          → MatchOption r (Unit {0}) (λ f. told FARM p (head_at table p) ≡ Err f)
          → MatchOption r (Unit {0}) (λ f. (told FARM p (head_at table p)
          >>= λ head. Ok (land_of table sources head)) ≡ Err f)
      by None fails = tt
      by (Some f) fails = rw fails refl

  head-code : (p : Paragraph) (fault : Fault) (read : Result Head ℕ) → told FARM p read ≡ Err fault
      → land_before table sources read ≡ bare_land table sources
  head-code p fault (Ok head) is = absurd cc
  head-code p fault (Err code) is = refl

  -- and the packages alone stand before it
  pub bare-leaves : (refused : Refused) → 0 < length ps
      → Fails refused_for refused
      (told FARM (paragraph_at ps 0) (head_at table (paragraph_at ps 0)))
      → Leaves refused (Some (universe_on (bare_land table sources)))
      → Leaves refused (before_farm table sources ps)
  unfolding before_farm
  bare-leaves refused there fails leaves = at ps there fails where
    at : (ps : List Paragraph) → 0 < length ps
        → Fails refused_for refused
        (told FARM (paragraph_at ps 0) (head_at table (paragraph_at ps 0)))
        → Leaves refused (before_farm table sources ps)
    at [] there fails = absurd (omega (arith, there))
    at (p ∷ ps) there fails = by (refused_for refused) fails leaves where
      by : (r : Option Fault)
          → MatchOption r (Unit {0}) (λ f. told FARM p (head_at table p) ≡ Err f)
          → MatchOption r (Unit {0})
          (λ _. refused.before ≡ Some (universe_on (bare_land table sources)))
          → MatchOption r (Unit {0}) (λ _. refused.before
          ≡ Some (universe_on (land_before table sources (head_at table p))))
      by None fails leaves = tt
      by (Some f) fails leaves = rw (head-code p f (head_at table p) fails) leaves

-- ---- what is handed on

-- before a part that is refused stands nothing
pub told-leaves : {X Y : Type 0} (result : Result X Refused) (fault : Fault) (read : Result Y Fault)
    (before : Option Universe)
    → IsErrAnd result (λ refused. refused ≡ record { fault = fault; before = None })
    → Fails refusal_of fault read → ((f : Fault) → read ≡ Err f → None ≡ before)
    → IfErr result (λ refused. Leaves refused before)
told-leaves (Ok x) fault read before is fails none = tt
told-leaves {Y = Y} (Err refused) fault read before is fails none =
    rw is (by (refusal_of fault) fails)
  where
    by : (told : Option Fault) → MatchOption told (Unit {0}) (λ f. read ≡ Err f)
        → MatchOption told (Unit {0}) (λ _. None ≡ before)
    by None fails = tt
    by (Some f) fails = none f fails

-- the same stands before what is refused with a part
pub kept-leaves : {X : Type 0} (result : Result X Refused) (given : Refused)
    (part before : Option Universe) → IsErrAnd result (λ refused. refused ≡ given)
    → Leaves given part → part ≡ before → IfErr result (λ refused. Leaves refused before)
kept-leaves (Ok x) given part before is leaves same = tt
kept-leaves (Err refused) given part before is leaves same = rw (is, sym same) leaves

-- nothing in a farm text that is refused as a whole
pub none-in-text : (table : PackageTable) (sources : SourceTable) (farm : List ℕ) (fault : Fault)
    → paragraphs_in FARM farm ≡ Err fault → None ≡ before_text table sources farm
unfolding before_text
none-in-text table sources farm fault is = rw is refl

pub in-text : (table : PackageTable) (sources : SourceTable) (farm : List ℕ) (ps : List Paragraph)
    → paragraphs_in FARM farm ≡ Ok ps → before_farm table sources ps ≡ before_text table sources farm
unfolding before_text
in-text table sources farm ps is = rw is refl

module _ (packages sources farm : List ℕ) where
  -- nor behind packages or sources that are refused
  pub none-behind-table : (fault : Fault) → table_at packages ≡ Err fault
      → None ≡ before_of packages sources farm
  unfolding before_of
  none-behind-table fault is = rw is refl

  pub none-behind-sources : (table : PackageTable) → table_at packages ≡ Ok table
      → (fault : Fault) → sources_at sources ≡ Err fault → None ≡ before_of packages sources farm
  unfolding before_of
  none-behind-sources table is fault refused = rw (is, refused) refl

  pub behind-sources : (table : PackageTable) (listed : SourceTable)
      → table_at packages ≡ Ok table → sources_at sources ≡ Ok listed
      → before_text table listed farm ≡ before_of packages sources farm
  unfolding before_of
  behind-sources table listed is are = rw (is, are) refl
