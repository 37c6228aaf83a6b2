use Rattle.std.proofs.Common.{◌≡◌, true, inl, inr, sym, subst}
use Rattle.std.proofs.lemmas.Bool.{or_cases, or_left, or_right, both_ways}
use Rattle.farm_model.specs.Packages.{variant, initial}
use Rattle.plan_cert.specs.Stated.{in_row}
use Rattle.plan_cert.specs.PlaceRows.{listed_at}
use Rattle.plan_cert.proofs.stated_rows.StatedRows.knows_within.Goals as goal

pub returns : goal.returns
returns c =
    let known = c.args.self.now in
    let u = known.universe in
    let l = c.args.number in (
      λ is v e. elim (or_cases (initial u v) (in_row (listed_at known l c.args.place) v) e) [
        | inl first ↦ or_left (initial u v) _ first
        | inr some ↦
            or_right (initial u v) _
            (subst (λ row. in_row row v ≡ true) c.listed-there.ensures.row
            (c.within.ensures.set.0 is v.name v.bit
            (subst (λ row. in_row row v ≡ true) (sym c.listed-here.ensures.row) some)))
      ],
      λ all. c.within.ensures.set.1 (λ n b e.
          let v = variant n b in
          elim (or_cases (initial u v) (in_row (listed_at known l c.args.other) v)
          (all v (or_right (initial u v) _
          (subst (λ row. in_row row v ≡ true) c.listed-here.ensures.row e)))) [
            | inl first ↦ absurd (both_ways (initial u v) (c.listed-here.ensures.new.new n b e) first)
            | inr some ↦ subst (λ row. in_row row v ≡ true) (sym c.listed-there.ensures.row) some
          ]),
    )
