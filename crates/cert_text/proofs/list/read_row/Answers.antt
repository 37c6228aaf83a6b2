use Rattle.std.proofs.Common.{◌≡◌, sym, ap, ◌∙◌, ◌++◌, ◌∷◌, [], refl, true, false, Some, None}
use Rattle.std.specs.Option.{option_map}
use Rattle.deb_relation.specs.Field.{entries_left}
use Rattle.farm_model.specs.Packages.{names}
use Rattle.farm_universe.specs.ListText.{variant_words}
use Rattle.cert_text.specs.Rows.{comes_behind}
use Rattle.cert_text.proofs.RowsSoFar.{so_far-nil, left-begins, so_far-push, so_far-words, left-none, left-stops, left-goes, left-ends, variants_said, row-said}
use Rattle.cert_text.proofs.list.read_row.Goals.{then-not-is_behind-via-then-not-is_behind, then-not-is_behind-via-else-not-is_behind+then-is_initial}
use Rattle.cert_text.proofs.list.read_row.Goals as goal

pub returns-in_default-2-clause-row : goal.returns-in_default-2-clause-row
returns-in_default-2-clause-row c =
    let u = c.args.spelled.universe.now in
    let none : variants_said u None (entries_left (Some c.args.text.now)) ≡ None =
    left-none u c.loop-item.invariant.variants c.loop-item.last c.in-Some.item.now _ _ _
    c.in-Some.ensures.entry c.loop-item.invariant.left
    (sym c.in_ok-variant.ensures.said ∙ c.in_default-2.is) in
    sym (row-said u c.args.text.now ∙ ap (option_map (variant_words (names u))) none)

pub returns-then-not-is_behind-clause-row : goal.returns-then-not-is_behind-clause-row
returns-then-not-is_behind-clause-row c =
    let u = c.args.spelled.universe.now in
    let last = c.loop-item.last in
    let v = c.in-Some-2.variant in
    let stops = λ (not : comes_behind u last v ≡ false).
    sym (row-said u c.args.text.now ∙ ap (option_map (variant_words (names u)))
    (left-stops u c.loop-item.invariant.variants last c.in-Some.item.now _ _ _
    c.in-Some.ensures.entry c.loop-item.invariant.left v
    (sym c.in_ok-variant.ensures.said ∙ c.in-Some-2.is) not)) in
    elim c.then-not-is_behind.branch [
      | then-not-is_behind-via-then-not-is_behind w ↦
          stops (rw (sym c.is_behind.ensures ∙ w.if-not-is_behind.true) refl)
      | then-not-is_behind-via-else-not-is_behind+then-is_initial w ↦
          stops (rw (
            sym c.is_behind.ensures ∙ w.if-not-is_behind.false,
            sym w.is_initial.ensures ∙ w.if-is_initial.true,
          ) refl)
    ]

pub loop-item-init : goal.loop-item-init
loop-item-init c =
    let u = c.args.spelled.universe.now in
    record {
      variants = [];
      row = so_far-nil (names u) c.in_ok-row.row (c.in_ok-row.ensures.len ∙ c.names.ensures.number)
          c.in_ok-row.ensures.set;
      left = left-begins u (entries_left (Some c.args.text.now));
      kept = c.begin_line.ensures u c.requires;
    }

pub loop-item-preserved : goal.loop-item-preserved
loop-item-preserved c =
    let u = c.args.spelled.universe.now in
    let vs = c.loop-item.invariant.variants in
    let v = c.in-Some-2.variant in
    let fine : comes_behind u c.loop-item.last v ≡ true =
    rw (
      sym c.is_behind.ensures ∙ c.if-not-is_behind.false,
      sym c.is_initial.ensures ∙ c.if-is_initial.false,
    ) refl in
    record {
      variants = vs ++ v ∷ [];
      row = so_far-push (names u) c.loop-item.row c.set_bit.new.self vs v c.loop-item.invariant.row
          c.in_ok-set_bit.ensures.len c.in_ok-set_bit.ensures.set;
      left = left-goes u vs c.loop-item.last c.in-Some.item.now _ _ _ c.in-Some.ensures.entry
          c.loop-item.invariant.left v (sym c.in_ok-variant.ensures.said ∙ c.in-Some-2.is) fine;
      kept = c.in_ok-variant.ensures.kept;
    }

pub returns-clause-row : goal.returns-clause-row
returns-clause-row c =
    let u = c.args.spelled.universe.now in
    let vs = c.loop-item.invariant.variants in
    let total : variants_said u None (entries_left (Some c.args.text.now)) ≡ Some vs =
    left-ends u vs c.loop-item.last _ _ c.in_default.ensures.none c.loop-item.invariant.left in
    ap Some (so_far-words (names u) c.loop-item.row vs c.loop-item.invariant.row)
    ∙ sym (row-said u c.args.text.now ∙ ap (option_map (variant_words (names u))) total)
