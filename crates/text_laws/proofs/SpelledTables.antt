-- Names and versions in a table of packages that was read.
use Rattle.std.proofs.Common.{◌≡◌, ℕ, ◌≤◌, Bool, true, false, List, [], ◌∷◌, get_or, length, refl, ap, subst, ◌∙◌, if◌then◌else◌, inl, inr, Option, Some, None, Result, Ok, Err, IfOk, All, arith}
use Rattle.std.specs.List.{list_all}
use Rattle.std.specs.Prelude.{codes, nat_lt}
use Rattle.std.specs.Result.{is_ok}
use Rattle.std.specs.Str.{bytes_eq}
use Rattle.std.proofs.lemmas.Bool.{cases_lt, ltb-false}
use Rattle.std.proofs.lemmas.List.{get_or_past}
use Rattle.std.proofs.lemmas.List.Elements.{All-nil, All-cons, All-head, All-tail, All-push, All-set, All-get_or}
use Rattle.std.proofs.lemmas.List.Folds.{list_all-append}
use Rattle.deb_stanza.specs.Stanza.{Paragraph, value_of}
use Rattle.deb_text.proofs.CarriedLaws.{always, if-has, placed-has, steps-keep, then-has}
use Rattle.deb_text.specs.Common.{in_order, place_in, number_at, ◌>>=◌, answer, is_name}
use Rattle.deb_text.specs.declared.files.TheConstants.{PACKAGES}
use Rattle.deb_version.specs.Grammar.{version_at}
use Rattle.deb_version.specs.Order.{Parts}
use Rattle.farm_model.specs.Universe.{Package}
use Rattle.farm_universe.specs.declared.limits.TheConstants.{MOST_SIZE}
use Rattle.farm_universe.specs.FieldView.{first_relations_in}
use Rattle.farm_universe.specs.Fields.{needed_at, package_name_at, version_text_at, up_to, size_at, flag_at}
use Rattle.farm_universe.specs.Keyed.{keys_with, groups_with}
use Rattle.farm_universe.specs.PackagesText.{Listed, PackageTable, package_by, package_relations_by, is_below, table_of, packages_of}
use Rattle.farm_universe.specs.TableSteps.{first_package_at, put_at, code_at, add, add_paragraph, tell_paragraph}
use Rattle.farm_universe.specs.TableView.{IsOrderly, IsFit}
use Rattle.farm_universe.proofs.FitLaws.{IsFit-put}
use Rattle.farm_universe.proofs.TableLaws.{steps-packages_of}

abbrev pub IsVersion : List ℕ → Type 0
IsVersion text = is_ok (version_at text) ≡ true

abbrev pub IsVersioned : Package → Type 0
IsVersioned v = IsVersion v.version

pub record IsSpelledTable (table : PackageTable) : Type 0 where
  pub fit : IsFit table
  pub names : list_all is_name table.names ≡ true
  pub versions : All (All IsVersioned) table.packages

-- what a paragraph says
record IsSpelledListed (p : Listed) : Type 0 where
  pub name : is_name p.name ≡ true
  pub version : IsVersioned p.binary
  pub small : p.binary.size ≤ MOST_SIZE

-- the list with this number, known or not
pub list-any : {X : Type 0} (P : List X → Type 0) (xss : List (List X)) (n : ℕ) → P [] → All P xss
    → P (get_or xss n [])
list-any P xss n none are =
    elim (cases_lt n (length xss)) [
      | inl lt ↦ All-get_or P xss n [] lt are
      | inr past ↦ rw (get_or_past xss n [] past) none
    ]

-- ---- a paragraph

name-has : (text : List ℕ) → IfOk (package_name_at text) (λ name. is_name name ≡ true)
name-has text = if-has (λ name. is_name name ≡ true) (is_name text) _ _ (λ is. is) (λ _. tt)

version-has : (text : List ℕ) → IfOk (version_text_at text) IsVersion
version-has text = by (version_at text) refl where
  by : (r : Result Parts ℕ) → version_at text ≡ r → IfOk (r >>= λ parts. Ok text) IsVersion
  by (Ok parts) e = ap is_ok e
  by (Err code) e = tt

up_to-has : (number : Option ℕ) → IfOk (up_to MOST_SIZE number) (λ n. n ≤ MOST_SIZE)
up_to-has None = tt
up_to-has (Some n) =
    if-has (λ n. n ≤ MOST_SIZE) (nat_lt MOST_SIZE n) _ _ (λ _. tt)
    (λ few. ltb-false MOST_SIZE n few)

size-has : (text : Option (List ℕ)) → IfOk (size_at text) (λ n. n ≤ MOST_SIZE)
size-has None = omega arith
size-has (Some text) = up_to-has (number_at text)

package-has : (p : Paragraph) → IfOk (first_package_at p) IsSpelledListed
unfolding package_by
package-has p =
    let field : (name : List ℕ) → IfOk (needed_at p name) (λ _. Unit {0}) =
    λ name. always (needed_at p name) in
    then-has (λ _. Unit {0}) IsSpelledListed (needed_at p (codes "Package")) _
    (field (codes "Package"))
    (λ given _. then-has (λ name. is_name name ≡ true) IsSpelledListed (package_name_at given) _
    (name-has given)
    (λ name named. then-has (λ _. Unit {0}) IsSpelledListed (needed_at p (codes "Version")) _
    (field (codes "Version"))
    (λ spelled _. then-has IsVersion IsSpelledListed (version_text_at spelled) _
    (version-has spelled)
    (λ version is. then-has (λ n. n ≤ MOST_SIZE) IsSpelledListed
    (size_at (value_of p (codes "Installed-Size"))) _
    (size-has (value_of p (codes "Installed-Size")))
    (λ size small. then-has (λ _. Unit {0}) IsSpelledListed
    (flag_at (value_of p (codes "Essential"))) _ (always _)
    (λ _ _. then-has (λ _. Unit {0}) IsSpelledListed (package_relations_by first_relations_in p) _ (always _)
    (λ _ _. record { name = named; version = is; small = small })))))))

-- ---- a table with one more package

all-in_order : (v : Package) (vs : List Package) → IsVersioned v → All IsVersioned vs
    → All IsVersioned (in_order is_below v vs)
all-in_order v [] is are = All-cons IsVersioned v [] is are
all-in_order v (w ∷ ws) is are =
    by (is_below v w) (all-in_order v ws is (All-tail IsVersioned w ws are))
  where
    by : (b : Bool) → All IsVersioned (in_order is_below v ws)
        → All IsVersioned (if b then v ∷ w ∷ ws else w ∷ in_order is_below v ws)
    by true later = All-cons IsVersioned v (w ∷ ws) is are
    by false later =
        All-cons IsVersioned w (in_order is_below v ws) (All-head IsVersioned w ws are) later

names-put : (names : List (List ℕ)) (at : Option ℕ) (name : List ℕ)
    → list_all is_name names ≡ true → is_name name ≡ true
    → list_all is_name (keys_with names at name) ≡ true
names-put names None name are is =
    list_all-append is_name names (name ∷ []) ∙ rw (are, is) refl
names-put names (Some i) name are is = are

versions-put : (vss : List (List Package)) (at : Option ℕ) (v : Package)
    → All (All IsVersioned) vss → IsVersioned v
    → All (All IsVersioned) (groups_with (in_order is_below v) vss at)
versions-put vss None v are is =
    All-push (All IsVersioned) vss (v ∷ []) are
    (All-cons IsVersioned v [] is (All-nil IsVersioned))
versions-put vss (Some i) v are is =
    let vs = get_or vss i [] in
    All-set (All IsVersioned) vss i (in_order is_below v vs)
    (all-in_order v vs is
    (list-any (All IsVersioned) vss i (All-nil IsVersioned) are)) are

answer-has : {A F : Type 0} (P : A → Type 0) (fault : Option F) (x : A) → (fault ≡ None → P x)
    → IfOk (answer fault x) P
answer-has P None x has = has refl
answer-has P (Some e) x has = tt

add-has : (table : PackageTable) (p : Listed) → IsSpelledTable table → IsSpelledListed p
    → IfOk (add table p) IsSpelledTable
unfolding add
add-has table p is listed =
    let at = place_in bytes_eq table.names p.name in
    answer-has IsSpelledTable (code_at table at p) (put_at table at p)
    (λ none. record {
      fit = IsFit-put table at p refl is.fit none listed.small;
      names = names-put table.names at p.name is.names listed.name;
      versions = versions-put table.packages at p.binary is.versions listed.version;
    })

paragraph-has : (table : PackageTable) (p : Paragraph) → IsSpelledTable table
    → IfOk (tell_paragraph table p) IsSpelledTable
unfolding add_paragraph
paragraph-has table p is =
    placed-has IsSpelledTable PACKAGES p.line _
    (then-has IsSpelledListed IsSpelledTable (first_package_at p) (add table) (package-has p)
    (λ listed fine. add-has table listed is fine))

empty-spelled : IsSpelledTable (table_of [])
empty-spelled = record {
  fit = record {
    paired = refl;
    few_names = omega arith;
    few_entries = omega arith;
    distinct = tt;
    orderly = All-nil IsOrderly;
  };
  names = refl;
  versions = All-nil (All IsVersioned);
}

-- every table that was read
pub table-has : (ps : List Paragraph) → IfOk (packages_of ps) IsSpelledTable
table-has ps =
    subst (λ r. IfOk r IsSpelledTable) (steps-packages_of ps)
    (steps-keep tell_paragraph IsSpelledTable paragraph-has ps (table_of []) empty-spelled)
