use Rattle.std.proofs.Common.{◌≡◌, List, ℕ, length, sym, ap, subst, ◌∙◌}
use Rattle.cert_text.specs.Certificates.{Certificate, IsCertificate}
use Rattle.deb_text.specs.Lists.{lists}
use Rattle.plan_verifier.specs.Accepted.{AcceptedPlan, known_rows}
use Rattle.known_rows.specs.KnownRows.{KnownRows, rows_of}
use Rattle.plan_cert.proofs.MadeLaws.{accepted-shape, accepted-exact, accepted-certifies}
use Rattle.plan_cert.specs.Certified.{Certifies}
use Rattle.plan_cert.specs.Made.{IsCertificateOf, AreNewLanes}
use Rattle.plan_cert.proofs.maker.certificate.Goals as goal

abbrev Rows : Type 0
Rows = List (List (List ℕ))

abbrev AreOf : KnownRows → Rows → Type 0
AreOf k rows = AreNewLanes k.universe k.plan (rows_of k) (length k.plan) rows

-- what holds of these rows and the accepted order holds of what is returned
holds : (P : Certificate → Type 0) (a : AcceptedPlan) (rows : Rows) (order : List ℕ)
    (made : Certificate) → made ≡ record { rows = rows; order = order } → order ≡ a.order
    → P (record { rows = rows; order = a.order }) → P made
holds P a rows order made is same here =
    subst P (sym (is ∙ ap (λ (o : List ℕ). record { rows = rows; order = o }) same)) here

pub returns-clause-shape : goal.returns-clause-shape
returns-clause-shape c =
    let a = c.args.accepted.now in
    let rows = lists c.in_ok-rows.rows.items in
    holds (IsCertificate a.universe a.plan) a rows c.in_ok-order.order.items c.new.result
    c.new.ensures (c.in_ok-order.ensures.items ∙ c.order.ensures)
    (accepted-shape a c.keeps.ensures rows
    (subst (λ k. AreOf k rows) c.known.ensures c.in_ok-rows.ensures))

pub returns-clause-exact : goal.returns-clause-exact
returns-clause-exact c =
    let a = c.args.accepted.now in
    let rows = lists c.in_ok-rows.rows.items in
    holds (IsCertificateOf a.universe a.plan (known_rows a) a.order) a rows
    c.in_ok-order.order.items c.new.result c.new.ensures
    (c.in_ok-order.ensures.items ∙ c.order.ensures)
    (accepted-exact a c.keeps.ensures rows
    (subst (λ k. AreOf k rows) c.known.ensures c.in_ok-rows.ensures))

pub returns-clause-certifies : goal.returns-clause-certifies
returns-clause-certifies c =
    let a = c.args.accepted.now in
    let rows = lists c.in_ok-rows.rows.items in
    holds (Certifies a.universe a.plan) a rows c.in_ok-order.order.items c.new.result
    c.new.ensures (c.in_ok-order.ensures.items ∙ c.order.ensures)
    (accepted-certifies a c.keeps.ensures rows
    (subst (λ k. AreOf k rows) c.known.ensures c.in_ok-rows.ensures))
