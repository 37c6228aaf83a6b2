use Rattle.word_archive.proofs.shared.SharedArchive.close.Goals as goal
use Rattle.std.proofs.Common.{IsPermutation, List, Option, Some, [], ap, arith, length, map, subst, sym, take, ℕ, ◌++◌, ◌∙◌, ◌∷◌, ◌≡◌}
use Rattle.std.proofs.lemmas.List.{length-map}
use Rattle.farm_model.specs.Packages.{names}
use Rattle.archive_laws.specs.Records.{Record}
use Rattle.plan_verifier.specs.Accepted.{AcceptedPlan, IsAccepted}
use Rattle.word_archive.specs.History.{IsClosed, lanes_published}
use Rattle.word_archive.specs.Seats.{LaneSeatOf, log_of}
use Rattle.word_archive.specs.Views.{base_view}
use Rattle.word_archive.proofs.AtTheEnd.{is_closed}
use Rattle.word_archive.proofs.Backs.{back_all}
use Rattle.word_archive.proofs.Closes.{closes_as, take_elem}
use Rattle.word_archive.proofs.Histories.{history_is}

pub loop-n-preserved : goal.loop-n-preserved
loop-n-preserved c =
    let inv = c.loop-n.invariant in
    let more = c.push_reserved.ensures in
    let at = take_elem c.close_with-closed.result.words.items c.loop-n.n c.word.result
    c.word.ensures in (
      more.items ∙ (ap (λ l. l ++ c.word.result ∷ []) inv.0 ∙ sym at),
      omega (arith, more.capacity, inv.1),
      omega (arith, more.len, inv.2),
    )

pub returns : goal.returns
returns c records e =
    let v = c.seats.inside.base.me.0 in
    let a = c.args.seats.about in
    let items = c.seats.inside.seats.items in
    let words = c.close_with-closed.result.words.items in
    let key = c.args.self.of_plan in
    let about : a ≡ c.args.self.table.shared.key = c.requires.about ∙ sym key in
    let logs : map log_of items ≡ map (λ (r : Record). Some r) records =
    ap (λ s. s.logs) c.seats.view_is ∙ e in
    let lanes : length records ≡ length a.plan =
    sym (length-map records (λ r. Some r))
    ∙ (sym (ap length logs)
    ∙ (length-map items log_of
    ∙ (c.seats.invariant.2 ∙ ap (λ s. length s.about.plan) c.seats.view_is))) in
    let base = ap (λ m. m.0) c.join_all.ensures.1
    ∙ (λ i. base_view (sym key i) v.next v.stopped (back_all 0 items records logs i)) in
    let stands = closes_as _ c.args.self.table.shared.key a _ v.next v.stopped records words
    c.close_with-closed.result.slots.items c.join_all.new.base.me.0 base about lanes
    c.close_with-closed.ensures.values.2 in
    let all : c.loop-n.n ≡ names a.universe =
    omega (
      arith,
      ap (λ p. names p.universe) c.requires.about,
      c.names-names.ensures.number,
      ap names c.universe.ensures,
    ) in
    let given = c.as_slice.ensures.value in
    let long : length c.as_slice.result.now ≡ length (map log_of items) =
    ap length given ∙ sym (length-map items log_of) in
    let same : IsPermutation (lanes_published a (map log_of items) (length (map log_of items)))
    c.in_ok-history.history.items =
    subst (λ (y : AcceptedPlan × List (Option LaneSeatOf) × ℕ).
    IsPermutation (lanes_published y.0 (map log_of y.1) y.2) c.in_ok-history.history.items)
    (λ i. (sym c.requires.about i, given i, long i)) c.in_ok-history.ensures.same in
    let accepted = subst IsAccepted (sym c.requires.about) c.keeps.ensures in
    let told = history_is a accepted words records v.stopped stands (map log_of items) logs
    c.in_ok-history.history.items same c.in_ok-history.ensures.order in (
      words,
      c.loop-n.invariant.0 ∙ ap (λ n. take n words) all,
      subst (λ b. IsClosed a words records b c.in_ok-history.history.items)
          (ap (λ s. s.stopped) c.seats.view_is)
          (is_closed a accepted words records v.stopped stands c.in_ok-history.history.items
          told),
    )
