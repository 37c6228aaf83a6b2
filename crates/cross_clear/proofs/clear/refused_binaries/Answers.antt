use Rattle.std.proofs.Common.{ℕ, ◌<◌, IfNone, length, get_or, arith, subst, sym}
use Rattle.cross_clear.specs.Guard.{IsPackageKept}
use Rattle.cross_laws.specs.Binary.{Binary}
use Rattle.cross_clear.proofs.GuardLaws.{needs-at, needs-more}
use Rattle.cross_clear.proofs.clear.refused_binaries.Goals.{then-at-members+in_ok-lines+in_default, else-at-members}
use Rattle.cross_clear.proofs.clear.refused_binaries.Goals as goal

pub loop-at-preserved : goal.loop-at-preserved
loop-at-preserved c =
    let s = c.args.members.sides.now in
    let all = c.args.members.all.now in
    let paragraphs = c.args.members.paragraphs.now in
    elim c.if-at-members.branch [
      | then-at-members+in_ok-lines+in_default w ↦
          needs-more s all paragraphs c.loop-at.at c.loop-at.invariant
          (needs-at s all paragraphs c.loop-at.at w.index-members-at.result w.new-paragraph.result
          w.index-members-at.is w.new-paragraph.ensures
          (subst (λ b. IsPackageKept s all b w.new-paragraph.result) (sym w.index-members-at.is)
          (subst (λ told. IfNone told (IsPackageKept s all
          (get_or all c.loop-at.at w.index-members-at.result) w.new-paragraph.result))
          w.in_default.is w.in_ok-lines.ensures)))
      | else-at-members w ↦
          needs-more s all paragraphs c.loop-at.at c.loop-at.invariant
          (λ p within. absurd (omega (arith, w.if-at-members.false, within)))
    ]

pub returns : goal.returns
returns c =
    λ k p lt within.
    c.loop-at.invariant k p (omega (arith, c.loop-at-test.false, c.count-at-end.ensures, lt)) within
