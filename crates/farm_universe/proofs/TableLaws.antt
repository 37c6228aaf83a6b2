-- The table of the packages so far is what the packages so far say.
use Rattle.std.proofs.Common.{◌≡◌, ℕ, ◌+◌, Bool, true, false, cond, List, [], ◌∷◌, ◌++◌, map, filter, refl, sym, ap, ◌∙◌, if◌then◌else◌, Option}
use Rattle.std.specs.Str.{bytes_eq}
use Rattle.std.proofs.lemmas.List.{map_push, append-nil}
use Rattle.std.proofs.lemmas.List.Elements.{filter-append}
use Rattle.std.proofs.lemmas.List.Sums.{fold-append}
use Rattle.deb_text.specs.Common.{place_in, in_order, sorted, answer, steps, goods, item_fault}
use Rattle.deb_text.specs.declared.files.TheConstants.{PACKAGES}
use Rattle.deb_stanza.specs.Stanza.{Paragraph}
use Rattle.farm_universe.specs.PackagesText.{Listed, PackageTable, package_at, is_below, entry_count, names_of, packages_named, entries_of, table_of, first_code, rules_of, package_fault, packages_of}
use Rattle.farm_universe.specs.TableSteps.{put_at, code_at, add, add_paragraph, tell_paragraph}
use Rattle.farm_model.specs.Universe.{Package}
use Rattle.farm_universe.proofs.FirstLaws.{read_step-first}
use Rattle.farm_universe.proofs.KeyedLaws.{keys_with-push, group_at-keys, groups_with-push}
use Rattle.farm_universe.proofs.ToldLaws.{steps-told, read_step-keeps}

entries_of-push : (ps : List Listed) (p : Listed)
    → entries_of (ps ++ p ∷ []) ≡ entries_of ps + entry_count p.binary
entries_of-push ps p =
    rw (map_push (λ (p : Listed). entry_count p.binary) ps p)
    (fold-append ◌+◌ 0 (map (λ (p : Listed). entry_count p.binary) ps) (entry_count p.binary ∷ []))

packages_named-push : (ps : List Listed) (p : Listed) (n : List ℕ)
    → packages_named (ps ++ p ∷ []) n
    ≡ (if bytes_eq n p.name then in_order is_below p.binary (packages_named ps n)
    else packages_named ps n)
packages_named-push ps p n =
    rw (filter-append (λ (p : Listed). bytes_eq n p.name) ps (p ∷ [])) (by (bytes_eq n p.name) refl)
  where
    kept : List Listed
    kept = filter (λ p. bytes_eq n p.name) ps

    by : (b : Bool) → bytes_eq n p.name ≡ b
        → sorted is_below (map (λ p. p.binary) (kept ++ cond (bytes_eq n p.name) (p ∷ []) []))
        ≡ (if bytes_eq n p.name then in_order is_below p.binary (packages_named ps n)
        else packages_named ps n)
    by true e =
        rw (e, map_push (λ (p : Listed). p.binary) kept p)
        (fold-append (λ done v. in_order is_below v done) [] (map (λ (p : Listed). p.binary) kept)
        (p.binary ∷ []))
    by false e =
        rw e (ap (λ qs. sorted is_below (map (λ (p : Listed). p.binary) qs)) (append-nil kept))

nothing : (ps : List Listed) (n : List ℕ) → filter (λ p. bytes_eq n p.name) ps ≡ []
    → packages_named ps n ≡ []
nothing ps n none = ap (λ qs. sorted is_below (map (λ (p : Listed). p.binary) qs)) none

abbrev the_table : List (List ℕ) → List (List Package) → ℕ → PackageTable
the_table names packages entries = record { names = names; packages = packages; entries = entries }

put_at-table_of : (ps : List Listed) (p : Listed)
    → put_at (table_of ps) (place_in bytes_eq (names_of ps) p.name) p ≡ table_of (ps ++ p ∷ [])
put_at-table_of ps p = λ j.
    the_table
    (keys_with-push (λ (p : Listed). p.name) (λ p vs. in_order is_below p.binary vs) packages_named
    packages_named-push nothing ps p j)
    (groups_with-push (λ (p : Listed). p.name) (λ p vs. in_order is_below p.binary vs)
    packages_named packages_named-push nothing ps p j)
    (sym (entries_of-push ps p) j)

add-keeps : (before : List Listed) (p : Listed)
    → add (table_of before) p ≡ answer (package_fault before p) (table_of (before ++ p ∷ []))
unfolding add code_at
add-keeps before p =
    ap (λ given. answer (first_code (rules_of p.binary given (put_at (table_of before) at p)))
    (put_at (table_of before) at p))
    (group_at-keys (λ (p : Listed). p.name) (λ p vs. in_order is_below p.binary vs) packages_named
    packages_named-push nothing before p.name)
    ∙ ap (λ table. answer (first_code (rules_of p.binary (packages_named before p.name) table))
    table)
    (put_at-table_of before p)
  where
    at : Option ℕ
    at = place_in bytes_eq (names_of before) p.name

-- paragraph by paragraph the reader gives what all of them say
pub steps-packages_of : (ps : List Paragraph)
    → steps tell_paragraph (table_of []) ps ≡ packages_of ps
unfolding packages_of add_paragraph
steps-packages_of ps =
    steps-told PACKAGES add_paragraph (item_fault package_at package_fault)
    (λ qs. table_of (goods package_at qs))
    (λ before p. read_step-first (table_of (goods package_at before)) p
    ∙ read_step-keeps package_at add package_fault table_of before p
    (λ x is. add-keeps (goods package_at before) x)) ps
