-- A failure is noted, or the journal may lose what it has taken.
use Rattle.std.proofs.Common.{◌≡◌, ℕ, inl, inr, Bool, false, List, Option, Some, None, sym, ap, subst, ◌∙◌}
use Rattle.std.specs.Prelude.{IfSome, is_none}
use Rattle.drive_journal.specs.Entries.{Noted, HasFailed}
use Rattle.drive_run.specs.Replies.{IsKept, IsNotedOrLost, may_lose, reply_to}
use Rattle.drive_run.specs.declared.desk.Request.{Request}
use Rattle.drive_run.specs.declared.desk.Request.TheVariants.{Answered}
use Rattle.drive_run.specs.declared.office.Kept.{Kept}
use Rattle.drive_run.specs.declared.office.Reply.{Reply}
use Rattle.drive_run.specs.declared.office.Reply.TheVariants.{Failed}
use Rattle.report_sink.specs.Sinks.{SinkState}

pub noted_or_lost : (o : Option Kept) (old new : SinkState) (kept : Bool) (e : Noted)
    → IfSome o (λ _. IsKept old new kept e) → is_none o ≡ may_lose new kept
    → IsNotedOrLost old new kept e
noted_or_lost (Some k) old new kept e is told = inr is
noted_or_lost None old new kept e is told = inl (sym told)

-- what a lane reads of an answer that it failed
pub failed_reply : (l n : ℕ) (r : Request) (ended : Bool) (told : Reply) → r ≡ Answered n false
    → told ≡ reply_to l r ended → told ≡ Failed n
failed_reply l n r ended told is e = e ∙ ap (λ x. reply_to l x ended) is

abbrev failure : List ℕ → ℕ → Noted
failure name n = record { lane = name; number = n; note = HasFailed }

pub failure_noted : (l n m : ℕ) (r : Request) (ended : Bool) (name name' : List ℕ)
    (old mid new : SinkState) (kept : Bool) → r ≡ Answered n false → Failed m ≡ reply_to l r ended
    → mid ≡ old → name' ≡ name → IsNotedOrLost mid new kept (failure name' m)
    → IsNotedOrLost old new kept (failure name n)
failure_noted l n m r ended name name' old mid new kept is told same named noted =
    let e : Failed m ≡ Failed n = failed_reply l n r ended (Failed m) is told in
    let number : m ≡ n = cc in
    subst (λ (s : SinkState). IsNotedOrLost s new kept (failure name n)) same
    (subst (λ k. IsNotedOrLost mid new kept (failure name k)) number
    (subst (λ ws. IsNotedOrLost mid new kept (failure ws m)) named noted))
