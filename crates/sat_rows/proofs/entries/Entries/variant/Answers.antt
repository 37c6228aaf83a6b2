use Rattle.std.proofs.Common.{subst}
use Rattle.std.specs.List.{AllZip}
use Rattle.sat_rows.specs.Entries.{IsNumberOf}
use Rattle.sat_rows.proofs.NumberLaws.{all_zip_weaker}
use Rattle.sat_rows.proofs.entries.Entries.variant.Goals as goal

pub returns-clause-numbers : goal.returns-clause-numbers
returns-clause-numbers c =
    let old = c.field.new.self in
    let new = c.field-2.new.self in
    let grown = c.in_ok-depends.ensures.grown in
    let pre = c.in_ok-pre_depends.pre_depends.items in
    record {
      pre_depends = subst (λ es. AllZip (IsNumberOf new) es pre)
          c.relations-relations.ensures.pre_depends
          (all_zip_weaker (IsNumberOf old) (IsNumberOf new) (λ e n. grown n e) _ pre
          c.in_ok-pre_depends.ensures.numbers);
      depends = subst (λ es. AllZip (IsNumberOf new) es c.in_ok-depends.depends.items)
          c.relations-relations.ensures.depends c.in_ok-depends.ensures.numbers;
    }
