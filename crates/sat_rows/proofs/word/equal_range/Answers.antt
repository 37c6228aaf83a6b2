use Rattle.std.proofs.Common.{◌≡◌, ◌<◌, ◌≤◌, ◌+◌, ◌-◌, ◌/◌, true, false, ap, arith}
use Rattle.std.specs.declared.cmp.Ordering.TheVariants.{Less, Greater}
use Rattle.deb_version.specs.Grammar.{text_cmp}
use Rattle.farm_model.specs.Packages.{variant, package_of}
use Rattle.sat_rows.specs.Ranges.{is_before}
use Rattle.sat_rows.proofs.RangeLaws.{goes_up, goes_down, none_counted, equal_earlier, equal_or_earlier}
use Rattle.sat_rows.proofs.word.equal_range.Goals as goal

pub returns-then-name-names-clause-earlier : goal.returns-then-name-names-clause-earlier
returns-then-name-names-clause-earlier c =
    none_counted c.args.universe.now c.args.name c.args.bound.now false
    (omega (arith, c.if-name-names.true, c.names.ensures.number))

pub returns-then-name-names-clause-or_equal : goal.returns-then-name-names-clause-or_equal
returns-then-name-names-clause-or_equal c =
    none_counted c.args.universe.now c.args.name c.args.bound.now true
    (omega (arith, c.if-name-names.true, c.names.ensures.number))

pub loop-low-preserved-in-Less : goal.loop-low-preserved-in-Less
loop-low-preserved-in-Less c =
    let u = c.args.universe.now in
    let n = c.args.name in
    let bound = c.args.bound.now in
    let low = c.loop-low.low in
    let high = c.loop-low.high in
    let bit = low + (high - low) / 2 in
    let less : text_cmp (package_of u (variant n bit)).version bound ≡ Less =
    cc (c.compare.ensures.order, c.view.ensures, c.version-version.ensures, c.in-Less.is) in
    let from : low ≤ bit = omega arith in
    let to : bit < high = omega (arith, c.loop-low-test.true) in
    let order = c.names.ensures.kept.in_order in (
      goes_up u n bound false order low high bit c.loop-low.invariant.0 from to
          (ap (is_before false) less),
      goes_up u n bound true order low high bit c.loop-low.invariant.1 from to
          (ap (is_before true) less),
    )

pub returns-in-Equal-clause-earlier : goal.returns-in-Equal-clause-earlier
returns-in-Equal-clause-earlier c =
    let u = c.args.universe.now in
    let n = c.args.name in
    let bit = c.loop-low.low + (c.loop-low.high - c.loop-low.low) / 2 in
    let within = c.loop-low.invariant.0.within in
    equal_earlier u c.names.ensures.kept.in_order n c.args.bound.now bit
    (omega (arith, c.loop-low-test.true, within))
    (cc (c.compare.ensures.order, c.view.ensures, c.version-version.ensures, c.in-Equal.is))

pub returns-in-Equal-clause-or_equal : goal.returns-in-Equal-clause-or_equal
returns-in-Equal-clause-or_equal c =
    let u = c.args.universe.now in
    let n = c.args.name in
    let bit = c.loop-low.low + (c.loop-low.high - c.loop-low.low) / 2 in
    let within = c.loop-low.invariant.0.within in
    equal_or_earlier u c.names.ensures.kept.in_order n c.args.bound.now bit
    (omega (arith, c.loop-low-test.true, within))
    (cc (c.compare.ensures.order, c.view.ensures, c.version-version.ensures, c.in-Equal.is))

pub loop-low-preserved : goal.loop-low-preserved
loop-low-preserved c =
    let u = c.args.universe.now in
    let n = c.args.name in
    let bound = c.args.bound.now in
    let low = c.loop-low.low in
    let high = c.loop-low.high in
    let bit = low + (high - low) / 2 in
    let greater : text_cmp (package_of u (variant n bit)).version bound ≡ Greater =
    cc (c.compare.ensures.order, c.view.ensures, c.version-version.ensures, c.in-Greater.is) in
    let from : low ≤ bit = omega arith in
    let to : bit < high = omega (arith, c.loop-low-test.true) in
    let order = c.names.ensures.kept.in_order in (
      goes_down u n bound false order low high bit c.loop-low.invariant.0 from to
          (ap (is_before false) greater),
      goes_down u n bound true order low high bit c.loop-low.invariant.1 from to
          (ap (is_before true) greater),
    )
