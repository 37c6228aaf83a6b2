-- The table of the sources so far is what the sources so far say.
use Rattle.std.proofs.Common.{◌≡◌, ℕ, ◌<◌, nat_le, arith, Option, Some, None, length-set, Bool, true, false, cond, List, [], ◌∷◌, ◌++◌, map, filter, length-append, refl, sym, ap, if◌then◌else◌}
use Rattle.std.specs.List.{list_any}
use Rattle.std.specs.Str.{bytes_eq}
use Rattle.std.proofs.lemmas.Bool.{leb-false}
use Rattle.std.proofs.lemmas.List.{map_push, append-nil}
use Rattle.std.proofs.lemmas.List.Elements.{filter-append}
use Rattle.deb_text.specs.Common.{place_in, answer, steps, goods, item_fault}
use Rattle.deb_text.specs.declared.files.TheConstants.{SOURCES}
use Rattle.deb_stanza.specs.Stanza.{Paragraph}
use Rattle.farm_universe.specs.declared.sources.Source.{Source}
use Rattle.farm_universe.specs.declared.limits.TheConstants.{MOST_SOURCES}
use Rattle.farm_universe.specs.Keyed.{group_at}
use Rattle.farm_universe.specs.PackagesText.{first_code}
use Rattle.farm_universe.specs.SourceView.{IsSourceTable}
use Rattle.farm_universe.specs.SourcesText.{is_of_version, ListedSource, SourceTable, source_at, source_names, sources_named, sources_said, source_fault, sources_of}
use Rattle.farm_universe.specs.SourceSteps.{behind_others, put_source, source_code, add_source, add_source_paragraph, tell_source}
use Rattle.farm_universe.proofs.KeyedLaws.{keys_with-push, group_at-keys, groups_with-push}
use Rattle.farm_universe.proofs.ToldLaws.{steps-told, read_step-keeps}

sources_named-push : (ps : List ListedSource) (p : ListedSource) (n : List ℕ)
    → sources_named (ps ++ p ∷ []) n
    ≡ (if bytes_eq n p.name then behind_others p.source (sources_named ps n)
    else sources_named ps n)
sources_named-push ps p n =
    rw (filter-append (λ (p : ListedSource). bytes_eq n p.name) ps (p ∷ []))
    (by (bytes_eq n p.name))
  where
    kept : List ListedSource
    kept = filter (λ p. bytes_eq n p.name) ps

    by : (b : Bool)
        → map (λ p. p.source) (kept ++ cond b (p ∷ []) [])
        ≡ (if b then behind_others p.source (sources_named ps n) else sources_named ps n)
    by true = map_push (λ (p : ListedSource). p.source) kept p
    by false = ap (map (λ (p : ListedSource). p.source)) (append-nil kept)

nothing : (ps : List ListedSource) (n : List ℕ) → filter (λ p. bytes_eq n p.name) ps ≡ []
    → sources_named ps n ≡ []
nothing ps n none = ap (map (λ (p : ListedSource). p.source)) none

abbrev the_table : List (List ℕ) → List (List Source) → ℕ → SourceTable
the_table names sources count = record { names = names; sources = sources; count = count }

put_source-said : (ps : List ListedSource) (p : ListedSource)
    → put_source (sources_said ps) (place_in bytes_eq (source_names ps) p.name) p
    ≡ sources_said (ps ++ p ∷ [])
put_source-said ps p = λ j.
    the_table
    (keys_with-push (λ (p : ListedSource). p.name) (λ p vs. behind_others p.source vs) sources_named
    sources_named-push nothing ps p j)
    (groups_with-push (λ (p : ListedSource). p.name) (λ p vs. behind_others p.source vs)
    sources_named sources_named-push nothing ps p j)
    (sym (length-append ps (p ∷ [])) j)

add-keeps : (before : List ListedSource) (p : ListedSource)
    → add_source (sources_said before) p
    ≡ answer (source_fault before p) (sources_said (before ++ p ∷ []))
unfolding add_source source_code
add-keeps before p =
    rw (
      group_at-keys (λ (p : ListedSource). p.name) (λ p vs. behind_others p.source vs)
          sources_named sources_named-push nothing before p.name,
      put_source-said before p,
    ) refl

no_code : (a b : Bool) (x y : ℕ) → first_code ((a, x) ∷ (b, y) ∷ []) ≡ None
    → (a ≡ false) × (b ≡ false)
no_code true b x y e = absurd cc
no_code false true x y e = absurd cc
no_code false false x y e = (refl, refl)

-- there is room for one more source
pub source_room : (table : SourceTable) (at : Option ℕ) (p : ListedSource)
    → source_code table at p ≡ None → table.count < MOST_SOURCES
unfolding source_code
source_room table at p none =
    leb-false _ _
    (no_code (list_any (is_of_version p.source.version) (group_at table.sources at))
    (nat_le MOST_SOURCES table.count) _ _ none).1

-- a source that no rule refuses keeps what is true of the table
pub IsSourceTable-put : (table : SourceTable) (at : Option ℕ) (p : ListedSource)
    → IsSourceTable table → source_code table at p ≡ None → IsSourceTable (put_source table at p)
IsSourceTable-put table None p is none = record {
  paired = rw (length-append table.names, length-append table.sources, is.paired) refl;
  few = omega (arith, source_room table None p none);
}
IsSourceTable-put table (Some i) p is none = record {
  paired = rw (length-set, is.paired) refl;
  few = omega (arith, source_room table (Some i) p none);
}

-- paragraph by paragraph the reader gives what all of them say
pub steps-sources_of : (ps : List Paragraph)
    → steps tell_source (sources_said []) ps ≡ sources_of ps
unfolding sources_of add_source_paragraph
steps-sources_of ps =
    steps-told SOURCES add_source_paragraph (item_fault source_at source_fault)
    (λ qs. sources_said (goods source_at qs))
    (λ before p. read_step-keeps source_at add_source source_fault sources_said before p
    (λ x is. add-keeps (goods source_at before) x)) ps
