use Rattle.std.proofs.Common.{◌≡◌, ◌∙◌, sym, ap, length, replicate}
use Rattle.std.proofs.lemmas.List.{length-map}
use Rattle.deb_text.specs.Lists.{lists}
use Rattle.farm_universe.specs.TableView.{table_view}
use Rattle.farm_universe.proofs.ArchiveLaws.{words_of-nil}
use Rattle.farm_universe.proofs.ListLaws.{AreListed-none, AreWords-listed}
use Rattle.farm_universe.proofs.list.empty_list.Goals as goal

pub returns-clause-listed : goal.returns-clause-listed
returns-clause-listed c =
    let keys = c.args.table.now.names.keys in
    let count : c.len.result ≡ length (lists keys) = rw length-map c.len.ensures.len in
    AreListed-none (table_view c.args.table.now)
    (record { variants = c.new.result; words = c.in_ok-vec.field-0 })
    c.new.ensures.items
    (c.in_ok-vec.ensures.items_if_clones_equal (λ y e. e) ∙ ap (λ n. replicate n 0) count
    ∙ sym (words_of-nil (length (lists keys))))

pub returns-clause-words : goal.returns-clause-words
returns-clause-words c =
    AreWords-listed (table_view c.args.table.now)
    (record { variants = c.new.result; words = c.in_ok-vec.field-0 }) (returns-clause-listed c)
