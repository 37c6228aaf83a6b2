use Rattle.std.proofs.Common.{Some, true, false, sym, subst}
use Rattle.sat_rows.specs.Ranges.{IsRange}
use Rattle.sat_rows.proofs.RangeLaws.{up_to, on_from, between, as_earlier, as_earlier_or_equal, as_equal, as_later_or_equal, as_later}
use Rattle.deb_relation.specs.declared.operator.Op.TheVariants.{Earlier, EarlierOrEqual, Equal, LaterOrEqual, Later}
use Rattle.sat_rows.proofs.word.range_of.Goals as goal

pub returns-in-Earlier : goal.returns-in-Earlier
returns-in-Earlier c =
    let u = c.args.universe.now in
    let n = c.args.name in
    let bound = c.args.bound.now in
    subst (λ op. IsRange u n (Some (op, bound)) 0 c.count_before.result)
    (sym c.in-Earlier.is)
    (up_to u n bound Earlier false c.count_before.result as_earlier c.count_before.ensures)

pub returns-in-EarlierOrEqual : goal.returns-in-EarlierOrEqual
returns-in-EarlierOrEqual c =
    let u = c.args.universe.now in
    let n = c.args.name in
    let bound = c.args.bound.now in
    subst (λ op. IsRange u n (Some (op, bound)) 0 c.count_before-in-EarlierOrEqual.result)
    (sym c.in-EarlierOrEqual.is)
    (up_to u n bound EarlierOrEqual true c.count_before-in-EarlierOrEqual.result
    as_earlier_or_equal
    c.count_before-in-EarlierOrEqual.ensures)

pub returns-in-Equal : goal.returns-in-Equal
returns-in-Equal c =
    let u = c.args.universe.now in
    let n = c.args.name in
    let bound = c.args.bound.now in
    subst (λ op. IsRange u n (Some (op, bound)) c.equal_range.result.0 c.equal_range.result.1)
    (sym c.in-Equal.is) (between u n bound Equal c.equal_range.result.0 c.equal_range.result.1
    as_equal c.equal_range.ensures.earlier c.equal_range.ensures.or_equal)

pub returns-in-LaterOrEqual : goal.returns-in-LaterOrEqual
returns-in-LaterOrEqual c =
    let u = c.args.universe.now in
    let n = c.args.name in
    let bound = c.args.bound.now in
    subst (λ op. IsRange u n (Some (op, bound)) c.count_before-in-LaterOrEqual.result
    c.variant_count.result)
    (sym c.in-LaterOrEqual.is)
    (on_from u n bound LaterOrEqual false c.count_before-in-LaterOrEqual.result
    c.variant_count.result
    as_later_or_equal c.count_before-in-LaterOrEqual.ensures c.variant_count.ensures.number)

pub returns-in-Later : goal.returns-in-Later
returns-in-Later c =
    let u = c.args.universe.now in
    let n = c.args.name in
    let bound = c.args.bound.now in
    subst (λ op. IsRange u n (Some (op, bound)) c.count_before-in-Later.result
    c.variant_count-in-Later.result)
    (sym c.in-Later.is) (on_from u n bound Later true c.count_before-in-Later.result
    c.variant_count-in-Later.result
    as_later c.count_before-in-Later.ensures c.variant_count-in-Later.ensures.number)
