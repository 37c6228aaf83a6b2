use Rattle.std.proofs.Common.{◌≡◌, ◌<◌, inl, inr, [], length, get_or, None, refl, sym, ap, subst, ◌∙◌}
use Rattle.std.specs.List.{filter}
use Rattle.std.proofs.lemmas.Option.{none-some, same_Some}
use Rattle.farm_model.specs.Packages.{satisfies_entry}
use Rattle.known_rows.specs.Points.{asked, AreSources}
use Rattle.known_rows.specs.Hits.{may_meet, IsPointOf}
use Rattle.known_rows.proofs.MetSources.{met_are}
use Rattle.known_rows.proofs.PointLaws.{read_here, asked_here, when_named}
use Rattle.known_rows.proofs.points.point_of.Goals as goal

pub found_at-requires : goal.found_at-requires
found_at-requires c =
    let p = c.args.supply.plan.now.lanes in
    let xs = c.instructions.ensures ∙ ap (λ of. of.instructions) c.lane.ensures in
    let lt = subst (λ ys. c.args.mark.place < length ys) (sym xs) c.requires.mark.place_there in
    let here =
    read_here p c.args.mark.lane c.args.mark.place c.instructions.result.now
    c.index-instructions-mark.result _ xs lt (sym c.index-instructions-mark.is ∙ c.in-Wait.is) in
    (c.requires.sources c.in-Wait.field-0 here).there

pub returns-in_ok-sources-in-Wait : goal.returns-in_ok-sources-in-Wait
returns-in_ok-sources-in-Wait c =
    let u = c.args.supply.universe.now in
    let p = c.args.supply.plan.now.lanes in
    let mark = c.args.mark in
    let e = c.in-Wait.field-0 in
    let xs = c.instructions.ensures ∙ ap (λ of. of.instructions) c.lane.ensures in
    let lt = subst (λ ys. mark.place < length ys) (sym xs) c.requires.mark.place_there in
    let here =
    read_here p mark.lane mark.place c.instructions.result.now
    c.index-instructions-mark.result _ xs lt (sym c.index-instructions-mark.is ∙ c.in-Wait.is) in
    let has = c.requires.sources e here in
    let got = c.found_at.ensures in
    let are =
    subst (AreSources u p mark.lane mark.place (satisfies_entry u e))
    (sym (c.in_ok-sources-in-Wait.ensures ∙ ap (filter (may_meet mark)) got))
    (met_are u p (satisfies_entry u e) mark c.requires.mark.lane_there c.requires.mark.own_is
    (get_or c.args.all.now c.args.number []) has.are) in
    subst (IsPointOf u p mark) (sym c.point_with.ensures) (record {
      lane = refl;
      place = refl;
      own = refl;
      before = refl;
      sources = λ y test at asks. subst
          (λ t. AreSources u p mark.lane mark.place t c.in_ok-sources-in-Wait.sources.items)
          (same_Some _ test (asked_here u p mark.lane mark.place c.instructions.result.now
          c.index-instructions-mark.result _ y test xs lt
          (sym c.index-instructions-mark.is ∙ c.in-Wait.is) at asks)) are;
    })

pub returns-in_ok-sources-in-When : goal.returns-in_ok-sources-in-When
returns-in_ok-sources-in-When c =
    let u = c.args.supply.universe.now in
    let p = c.args.supply.plan.now.lanes in
    let xs = c.instructions.ensures ∙ ap (λ of. of.instructions) c.lane.ensures in
    let lt = subst (λ ys. c.args.mark.place < length ys) (sym xs) c.requires.mark.place_there in
    subst (IsPointOf u p c.args.mark) (sym c.point_with-in-When.ensures) (record {
      lane = refl;
      place = refl;
      own = refl;
      before = refl;
      sources = λ y test at asks. subst
          (λ t. AreSources u p c.args.mark.lane c.args.mark.place t
          c.in_ok-sources-in-When.sources.items)
          (same_Some _ test (asked_here u p c.args.mark.lane c.args.mark.place
          c.instructions.result.now
          c.index-instructions-mark.result _ y test xs lt
          (sym c.index-instructions-mark.is ∙ c.in-When.is) at asks))
          c.in_ok-sources-in-When.ensures;
    })

pub when_sources-requires-clause-name : goal.when_sources-requires-clause-name
when_sources-requires-clause-name c =
    let u = c.args.supply.universe.now in
    let p = c.args.supply.plan.now.lanes in
    let xs = c.instructions.ensures ∙ ap (λ of. of.instructions) c.lane.ensures in
    let lt = subst (λ ys. c.args.mark.place < length ys) (sym xs) c.requires.mark.place_there in
    when_named u p c.args.mark.lane c.args.mark.place c.in-When.name c.in-When.relation
    c.requires.supply.sound c.requires.mark.lane_there
    (read_here p c.args.mark.lane c.args.mark.place c.instructions.result.now
    c.index-instructions-mark.result _ xs lt (sym c.index-instructions-mark.is ∙ c.in-When.is))

pub returns-in-Unpack : goal.returns-in-Unpack
returns-in-Unpack c =
    let u = c.args.supply.universe.now in
    let p = c.args.supply.plan.now.lanes in
    let x = c.index-instructions-mark.result in
    let xs = c.instructions.ensures ∙ ap (λ of. of.instructions) c.lane.ensures in
    let lt = subst (λ ys. c.args.mark.place < length ys) (sym xs) c.requires.mark.place_there in
    let none : asked u x ≡ None =
    elim c.in-Unpack.is [
      | inl a ↦ ap (asked u) a.2
      | inr b ↦ elim b [
        | inl a ↦ ap (asked u) a.1
        | inr b ↦ elim b [
          | inl a ↦ ap (asked u) a.1
          | inr b ↦ elim b [
            | inl a ↦ ap (asked u) a.1
            | inr b ↦ elim b [
              | inl a ↦ ap (asked u) a.1
              | inr b ↦ elim b [
                | inl a ↦ ap (asked u) a.1
                | inr b ↦ elim b [
                  | inl a ↦ ap (asked u) a
                  | inr a ↦ ap (asked u) a
                ]
              ]
            ]
          ]
        ]
      ]
    ] in
    subst (IsPointOf u p c.args.mark) (sym c.point_with-in-Unpack.ensures) (record {
      lane = refl;
      place = refl;
      own = refl;
      before = refl;
      sources = λ y test at asks. absurd (none-some test (sym none
          ∙ asked_here u p c.args.mark.lane c.args.mark.place c.instructions.result.now x x y test
          xs lt
          (sym c.index-instructions-mark.is) at asks));
    })
