use Rattle.std.proofs.Common.{◌≡◌, ◌==◌, ◌<◌, ◌≤◌, length, get_or, refl, sym, subst, ◌∙◌, arith}
use Rattle.plan_model.specs.Plan.{lane, outputs_before}
use Rattle.std.proofs.lemmas.Bool.{ne_eqb}
use Rattle.std.proofs.lemmas.List.{get_or_default}
use Rattle.std.specs.Prelude.{if◌then◌else◌}
use Rattle.std.proofs.lemmas.Option.{slice_get-get_or}
use Rattle.known_rows.specs.Hits.{IsFirst}
use Rattle.known_rows.proofs.HitLaws.{lanes_known}
use Rattle.known_rows.proofs.Sources.{pushed, all_sources}
use Rattle.known_rows.proofs.supply.sources_of.Goals as goal

pub invariant_of-known : goal.invariant_of-known
invariant_of-known c =
    record {
      sound = c.requires.supply.sound.universe;
      known = lanes_known c.args.supply.universe.now c.args.supply.plan.now.lanes
          c.args.supply.lanes.now c.requires.supply.lanes_are c.requires.supply.sound.universe;
    }

pub loop-number-preserved : goal.loop-number-preserved
loop-number-preserved c =
    let u = c.args.supply.universe.now in
    let p = c.args.supply.plan.now.lanes in
    let h = c.loop-number.number in
    let lanes = c.args.supply.lanes.now in
    let of = get_or lanes h c.index-lanes-number.result in
    let outs = c.as_slice-outputs.result.now in
    let firsts = c.in_ok-firsts.firsts.items in
    let within : h < length firsts =
    omega (arith, c.loop-number-test.true, c.in_ok-firsts.ensures.long) in
    let first = c.index.ensures ∙ get_or_default firsts h c.index.result.now 0 within in
    let hit : IsFirst c.args.row.now outs c.index.result.now =
    subst (IsFirst c.args.row.now outs) (sym first)
    (subst (λ os. IsFirst c.args.row.now os (get_or firsts h 0))
    (sym c.as_slice-outputs.ensures.value)
    (c.in_ok-firsts.ensures.each h of
    (slice_get-get_or lanes h c.index-lanes-number.result c.loop-number-test.true))) in
    let are =
    c.as_slice-outputs.ensures.value ∙ c.requires.supply.lanes_are.each h of
    (slice_get-get_or lanes h c.index-lanes-number.result c.loop-number-test.true) in
    let lt : h < length p = omega
    (arith, c.loop-number-test.true, c.requires.supply.lanes_are.long) in
    let limit : length outs
    ≡ (if h == length p then outputs_before u (lane p (length p)) 0 0 else length outs) =
    rw (ne_eqb h (length p) (λ same. absurd (omega (arith, same, lt)))) refl in
    λ test row_is. pushed u p h outs are c.requires.supply.sound.universe (length p) 0 test
    c.args.row.now
    row_is lt (length outs) limit c.loop-number.sources.items c.push_hit.new.sources.items
    (c.loop-number.invariant test row_is) (c.in_ok-push_hit.ensures c.args.row.now hit)

pub returns : goal.returns
returns c =
    let u = c.args.supply.universe.now in
    let p = c.args.supply.plan.now.lanes in
    let n = c.loop-number.number in
    let le : length p ≤ n = omega
    (arith, c.loop-number-test.false, c.requires.supply.lanes_are.long) in
    λ test row_is. all_sources u p (length p) 0 n test c.loop-number.sources.items le
    (c.loop-number.invariant test row_is)
