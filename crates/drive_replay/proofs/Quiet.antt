-- Turns of a lane at which it does not come to the archive: they lead on, in one way.
use Rattle.std.proofs.Common.{◌≡◌, ℕ, zero, suc, Bool, true, false, ◌∷◌, Option, Some, None, refl, sym, subst, ◌∙◌}
use Rattle.std.specs.Prelude.{if◌then◌else◌}
use Rattle.drive_replay.specs.Orders.{at_archive}
use Rattle.farm_model.specs.Common.{recipe, first_trap, configure_traps, configured, deconfigure_traps, deconfigured, remove_traps, removed, build_traps, Universe}
use Rattle.farm_model.specs.declared.types.Trap.{Trap}
use Rattle.farm_model.specs.declared.types.Trap.TheVariants.{OverBudget}
use Rattle.farm_model.specs.declared.types.Variant.{Variant}
use Rattle.plan_model.specs.Common.{Lane, Plan, lane, instruction_at, capacity, set_cost, build_cost, wait_cost, LaneState, Turn, Goes, Gives, Waits, Ends, Fails, over_budget, passes, past, past_build, turn_of, unless}
use Rattle.plan_model.specs.declared.instructions.Instruction.{Instruction}
use Rattle.plan_model.specs.declared.instructions.Instruction.TheVariants.{Unpack, Configure, Deconfigure, Remove, Build, Publish, Wait, When, Otherwise, EndWhen}

-- where such a turn leads, if it does
abbrev pub quiet_next : Lane → LaneState → Universe → Option Instruction → LaneState
quiet_next of st u (Some (Configure members)) =
    past of st (set_cost members) (configured st.chroot members)
quiet_next of st u (Some (Deconfigure members)) =
    past of st (set_cost members) (deconfigured st.chroot members)
quiet_next of st u (Some (Remove members)) =
    past of st (set_cost members) (removed st.chroot members)
quiet_next of st u (Some (Build r)) = past_build of st (build_cost (recipe u r)) r
quiet_next of st u (Some (Wait e)) = past of st wait_cost st.chroot
quiet_next of st u (Some (Unpack name wanted)) = st
quiet_next of st u (Some (When name wanted)) = st
quiet_next of st u (Some (Publish r)) = st
quiet_next of st u (Some Otherwise) = st
quiet_next of st u (Some EndWhen) = st
quiet_next of st u None = st

-- a turn that leads there, if it leads on, and publishes nothing
abbrev pub IsQuiet : LaneState → Turn → Type 0
IsQuiet there (Goes next) = next ≡ there
IsQuiet there (Gives next v) = ⊥
IsQuiet there Waits = Unit {0}
IsQuiet there Ends = Unit {0}
IsQuiet there (Fails t) = Unit {0}

if_keeps : (P : Turn → Type 0) (b : Bool) (m n : Turn) → P m → P n → P (if b then m else n)
if_keeps P true m n x y = x
if_keeps P false m n x y = y

unless_quiet : (next : LaneState) (o : Option Trap) → IsQuiet next (unless o (Goes next))
unless_quiet next None = refl
unless_quiet next (Some trap) = tt

true_false : true ≡ false → ⊥
true_false e = cc

module _ (u : Universe) (there : Variant → Bool) (of : Lane) (st : LaneState) where
  pub quiet_turn : (x : Option Instruction) → at_archive x ≡ false
      → IsQuiet (quiet_next of st u x) (turn_of u there of st x)
  quiet_turn None off = tt
  quiet_turn (Some (Unpack name wanted)) off = absurd (true_false off)
  quiet_turn (Some (When name wanted)) off = absurd (true_false off)
  quiet_turn (Some (Publish r)) off = absurd (true_false off)
  quiet_turn (Some (Configure members)) off =
      unless_quiet (past of st (set_cost members) (configured st.chroot members))
      (first_trap ((over_budget of st (set_cost members), OverBudget)
      ∷ configure_traps u st.chroot members))
  quiet_turn (Some (Deconfigure members)) off =
      unless_quiet (past of st (set_cost members) (deconfigured st.chroot members))
      (first_trap ((over_budget of st (set_cost members), OverBudget)
      ∷ deconfigure_traps u st.chroot members))
  quiet_turn (Some (Remove members)) off =
      unless_quiet (past of st (set_cost members) (removed st.chroot members))
      (first_trap ((over_budget of st (set_cost members), OverBudget)
      ∷ remove_traps u st.chroot members))
  quiet_turn (Some (Build r)) off =
      unless_quiet (past_build of st (build_cost (recipe u r)) r)
      (first_trap ((over_budget of st (build_cost (recipe u r)), OverBudget)
      ∷ build_traps u (capacity u of) st.chroot (recipe u r)))
  quiet_turn (Some (Wait e)) off =
      if_keeps (IsQuiet (past of st wait_cost st.chroot)) (passes u there e)
      (Goes (past of st wait_cost st.chroot)) Waits refl tt
  quiet_turn (Some Otherwise) off = tt
  quiet_turn (Some EndWhen) off = tt

module _ (u : Universe) (p : Plan) (l : ℕ) where
  -- whether lane l comes to the archive from here, and where it is led if not
  abbrev pub comes : LaneState → Bool
  comes st = at_archive (instruction_at p l st.done)

  abbrev pub led : LaneState → LaneState
  led st = quiet_next (lane p l) st u (instruction_at p l st.done)

  -- so many such turns lead from one state of the lane to another
  abbrev pub Leads : ℕ → LaneState → LaneState → Type 0
  Leads zero a b = a ≡ b
  Leads (suc n) a b = (comes a ≡ false) × Leads n (led a) b

  pub leads_on : (n : ℕ) (a b : LaneState) → Leads n a b → comes b ≡ false
      → Leads (suc n) a (led b)
  leads_on zero a b is off =
      subst (λ x. (comes a ≡ false) × (led a ≡ led x)) is
      (subst (λ x. comes x ≡ false) (sym is) off, refl)
  leads_on (suc n) a b is off = (is.0, leads_on n (led a) b is.1 off)

  -- they lead to one place where it comes to the archive
  pub one_end : (n m : ℕ) (a b c : LaneState) → Leads n a b → Leads m a c → comes b ≡ true
      → comes c ≡ true → b ≡ c
  one_end zero zero a b c one other on there = sym one ∙ other
  one_end zero (suc m) a b c one other on there =
      absurd (true_false (sym on ∙ subst (λ x. comes x ≡ false) one other.0))
  one_end (suc n) zero a b c one other on there =
      absurd (true_false (sym there ∙ subst (λ x. comes x ≡ false) other one.0))
  one_end (suc n) (suc m) a b c one other on there =
      one_end n m (led a) b c one.1 other.1 on there
