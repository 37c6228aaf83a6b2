-- Names and versions in a universe that was read.
use Rattle.std.proofs.Common.{◌≡◌, ℕ, zero, suc, ◌<◌, List, [], ◌∷◌, map, drop, get_or, length, refl, sym, ap, subst, ◌∙◌, IfOk, All, arith}
use Rattle.std.specs.declared.cmp.Ordering.TheVariants.{Less}
use Rattle.std.specs.List.{list_all}
use Rattle.std.proofs.lemmas.Bool.{and_parts}
use Rattle.std.proofs.lemmas.List.{get_or-map, length-map}
use Rattle.std.proofs.lemmas.List.Elements.{All-nil, All-get_or}
use Rattle.deb_stanza.specs.Stanza.{Paragraph}
use Rattle.deb_text.proofs.CarriedLaws.{always, has-ok, then-has}
use Rattle.deb_text.specs.declared.files.TheConstants.{PACKAGES, FARM}
use Rattle.deb_version.specs.Grammar.{text_cmp}
use Rattle.farm_model.specs.Common.{variant, variants, no_package, package_of, Package, Universe}
use Rattle.farm_universe.specs.FarmText.{Head, Yard, head_at, land_at, land_of, yard_of, universe_with, farm_of}
use Rattle.farm_universe.specs.Land.{Land, reduced_package}
use Rattle.farm_universe.specs.PackagesText.{PackageTable, is_below, packages_of}
use Rattle.farm_universe.specs.SourcesText.{SourceTable}
use Rattle.farm_universe.specs.TableView.{Rises}
use Rattle.farm_universe.specs.Told.{told}
use Rattle.farm_universe.specs.UniverseText.{paragraphs_in, table_at, sources_at, farm_at, universe_of}
use Rattle.farm_universe.proofs.FitLaws.{lt-less}
use Rattle.text_laws.specs.CertLaws.{IsSpelled, UniverseIsSpelled}
use Rattle.text_laws.proofs.SpelledTables.{IsVersion, IsVersioned, IsSpelledTable, list-any, table-has}

-- ---- packages with their relations reduced

module _ (names : List (List ℕ)) where
  abbrev reduce : Package → Package
  reduce = reduced_package names

  abbrev reduced : List (List Package) → List (List Package)
  reduced vss = map (map reduce) vss

  length-reduced : (vss : List (List Package)) (n : ℕ)
      → length (get_or (reduced vss) n []) ≡ length (get_or vss n [])
  length-reduced [] n = refl
  length-reduced (vs ∷ vss) zero = length-map vs reduce
  length-reduced (vs ∷ vss) (suc n) = length-reduced vss n

  reduced-version : (v : Package) → (reduce v).version ≡ v.version
  unfolding reduced_package
  reduced-version v = refl

  version-stays : (vss : List (List Package)) (n b : ℕ) → b < length (get_or vss n [])
      → (get_or (get_or (reduced vss) n []) b no_package).version
      ≡ (get_or (get_or vss n []) b no_package).version
  version-stays [] n b lt = absurd (omega (arith, lt))
  version-stays (vs ∷ vss) zero b lt =
      ap (λ (v : Package). v.version) (get_or-map reduce vs b no_package no_package lt)
      ∙ reduced-version (get_or vs b no_package)
  version-stays (vs ∷ vss) (suc n) b lt = version-stays vss n b lt

-- ---- rising versions by place

rising-place : (vs : List Package) (b : ℕ) → Rises vs → suc b < length vs
    → text_cmp (get_or vs b no_package).version (get_or vs (suc b) no_package).version ≡ Less
rising-place [] b rises lt = absurd (omega (arith, lt))
rising-place (v ∷ []) b rises lt = absurd (omega (arith, lt))
rising-place (v ∷ w ∷ ws) zero rises lt =
    lt-less _ (and_parts (is_below v w) (list_all (is_below v) ws) rises.0).0
rising-place (v ∷ w ∷ ws) (suc b) rises lt =
    rising-place (w ∷ ws) b rises.1 (omega (arith, lt))

-- ---- the universe of a table

module _ (table : PackageTable) (is : IsSpelledTable table) (sources : SourceTable) (head : Head)
    (yard : Yard) where
  abbrev u : Universe
  u = universe_with (land_of table sources head) yard

  abbrev named : ℕ → List Package
  named n = get_or table.packages n []

  within : (n b : ℕ) → b < variants u n → b < length (named n)
  unfolding variants
  within n b lt = omega (arith, lt, length-reduced head.architectures table.packages n)

  same-version : (n b : ℕ) → b < length (named n)
      → (package_of u (variant n b)).version ≡ (get_or (named n) b no_package).version
  unfolding package_of
  same-version n b lt = version-stays head.architectures table.packages n b lt

  versions : (n b : ℕ) → b < variants u n → IsVersion (package_of u (variant n b)).version
  versions n b lt =
      let few = within n b lt in
      rw (same-version n b few)
      (All-get_or IsVersioned (named n) b no_package few
      (list-any (All IsVersioned) table.packages n (All-nil IsVersioned) is.versions))

  rises-at : (n : ℕ) → Rises (named n)
  rises-at n =
      list-any Rises table.packages n tt (λ k d lt. (is.fit.orderly k d lt).rises)

  rising : (n b : ℕ) → suc b < variants u n
      → text_cmp (package_of u (variant n b)).version (package_of u (variant n (suc b))).version
      ≡ Less
  rising n b lt =
      let few = within n (suc b) lt in
      rw (same-version n b (omega (arith, few)), same-version n (suc b) few)
      (rising-place (named n) b (rises-at n) few)

  universe-spelled : IsSpelled u
  universe-spelled = record {
    names = is.names;
    distinct = is.fit.distinct;
    listed = is.fit.paired ∙ sym (length-map table.packages (map (reduce head.architectures)));
    versions = versions;
    rising = rising;
  }

-- ---- the texts

-- what the first paragraph makes of the packages and the sources
IsLandOf : PackageTable → SourceTable → Land → Type 0
IsLandOf table sources land = (head : Head) × (land ≡ land_of table sources head)

land-has : (table : PackageTable) (sources : SourceTable) (ps : List Paragraph)
    → IfOk (land_at table sources ps) (IsLandOf table sources)
unfolding land_at IsLandOf
land-has table sources [] = tt
land-has table sources (p ∷ ps) =
    then-has (λ _. Unit {0}) (IsLandOf table sources) (told FARM p (head_at table p)) _ (always _)
    (λ head _. (head, refl))

farm-has : (table : PackageTable) (sources : SourceTable) (ps : List Paragraph)
    → IsSpelledTable table → IfOk (farm_of table sources ps) IsSpelled
unfolding farm_of IsLandOf
farm-has table sources ps is =
    then-has (IsLandOf table sources) IsSpelled (land_at table sources ps) _
    (land-has table sources ps)
    (λ land of. then-has (λ _. Unit {0}) IsSpelled (yard_of land (drop 1 ps)) _ (always _)
    (λ yard _. subst (λ l. IsSpelled (universe_with l yard)) (sym of.1)
    (universe-spelled table is sources of.0 yard)))

farm_text-has : (table : PackageTable) (sources : SourceTable) (farm : List ℕ)
    → IsSpelledTable table → IfOk (farm_at table sources farm) IsSpelled
unfolding farm_at
farm_text-has table sources farm is =
    then-has (λ _. Unit {0}) IsSpelled (paragraphs_in FARM farm) (farm_of table sources) (always _)
    (λ ps _. farm-has table sources ps is)

table_text-has : (packages : List ℕ) → IfOk (table_at packages) IsSpelledTable
unfolding table_at
table_text-has packages =
    then-has (λ _. Unit {0}) IsSpelledTable (paragraphs_in PACKAGES packages) packages_of (always _)
    (λ ps _. table-has ps)

universe-has : (packages sources farm : List ℕ) → IfOk (universe_of packages sources farm) IsSpelled
unfolding universe_of
universe-has packages sources farm =
    then-has IsSpelledTable IsSpelled (table_at packages) _ (table_text-has packages)
    (λ table is. then-has (λ _. Unit {0}) IsSpelled (sources_at sources) _ (always _)
    (λ listed _. farm_text-has table listed farm is))

pub universe_is_spelled : UniverseIsSpelled
universe_is_spelled packages sources farm u is =
    has-ok IsSpelled (universe_of packages sources farm) u (universe-has packages sources farm) is
