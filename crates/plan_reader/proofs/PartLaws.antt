-- Lines that are read in parts.
use Rattle.std.proofs.Common.{◌≡◌, ℕ, zero, suc, ◌+◌, ◌*◌, ◌<◌, ◌≤◌, Bool, true, false, List, [], ◌∷◌, ◌++◌, length, drop, get_or, Result, Ok, Err, refl, sym, ap, subst, ◌∙◌, arith}
use Rattle.std.specs.Prelude.{codes, if◌then◌else◌}
use Rattle.std.specs.List.{AllZip, range_with_len}
use Rattle.std.specs.declared.alloc.AllocError.{AllocError}
use Rattle.std.proofs.lemmas.List.{drop-drop, get_or-drop}
use Rattle.deb_text.specs.Common.{fault_at, Line, ◌>>=◌, is_head}
use Rattle.farm_model.specs.Universe.{Universe}
use Rattle.plan_reader.specs.declared.error.LineError.{LineError}
use Rattle.plan_reader.specs.declared.said.Said.{Said}
use Rattle.plan_reader.specs.declared.said.Said.TheVariants as said
use Rattle.plan_reader.specs.declared.said.Standing.{Standing}
use Rattle.plan_reader.specs.declared.error.TheConstants.{FILE, NO_PLAN}
use Rattle.plan_reader.specs.Drafts.{Reading}
use Rattle.plan_reader.specs.Parts.{Says, AreSaidByLines, IsPartSaid, ArePartsSaid, behind_head}
use Rattle.plan_reader.specs.PlanText.{reading_of, end_of, plan_in}
use Rattle.plan_reader.specs.Said.{InstructionSaid, said_at}
use Rattle.plan_model.specs.declared.instructions.Instruction.{Instruction}

module _ (u : Universe) where
  abbrev Answer : Type 0
  Answer = Result Said LineError

  -- the first of the lines from a place on is said, and so are those behind it
  pub first-said : (ls : List Line) (at : ℕ) (r : Answer) (rs : List Answer)
      → AreSaidByLines u (drop at ls) (r ∷ rs)
      → (at < length ls) × Says u (get_or ls at (0, [])) r × AreSaidByLines u (drop (at + 1) ls) rs
  first-said [] zero r rs all = absurd all
  first-said [] (suc at) r rs all = absurd all
  first-said (line ∷ ls) zero r rs all = (omega arith, all.0, all.1)
  first-said (line ∷ ls) (suc at) r rs all =
      let rest = first-said ls at r rs all in
      let lt = rest.0 in
      let more : suc (at + 1) ≡ suc at + 1 = omega arith in (
        omega (arith, lt),
        rest.1,
        subst (λ n. AreSaidByLines u (drop n (line ∷ ls)) rs) more rest.2,
      )

  -- one more line is said behind the others
  pub next-said : (ls : List Line) (rs : List Answer) (r : Answer) → length rs < length ls
      → AreSaidByLines u ls rs → Says u (get_or ls (length rs) (0, [])) r
      → AreSaidByLines u ls (rs ++ r ∷ [])
  next-said [] [] r lt all says = absurd (omega (arith, lt))
  next-said [] (s ∷ rs) r lt all says = absurd all
  next-said (line ∷ ls) [] r lt all says = (says, tt)
  next-said (line ∷ ls) (s ∷ rs) r lt all says =
      (all.0, next-said ls rs r (omega (arith, lt)) all.1 says)

  -- what a line says of those that are said
  pub said-there : (ls : List Line) (rs : List Answer) (k : ℕ) (d : Answer) → k < length rs
      → AreSaidByLines u ls rs → Says u (get_or ls k (0, [])) (get_or rs k d)
  said-there ls [] k d lt all = absurd (omega (arith, lt))
  said-there [] (r ∷ rs) k d lt all = absurd all
  said-there (line ∷ ls) (r ∷ rs) zero d lt all = all.0
  said-there (line ∷ ls) (r ∷ rs) (suc k) d lt all =
      said-there ls rs k d (omega (arith, lt)) all.1

  -- a line that is the same as one of these says the same instruction
  pub says-again : (ls : List Line) (first : ℕ) (rs : List Answer) (k : ℕ) (r : Answer)
      (text : List ℕ) (standing : Standing) (x : Instruction) → k < length rs → r ≡ get_or rs k r
      → r ≡ Ok (said.Instruction standing (Ok x)) → (get_or ls (first + k) (0, [])).1 ≡ text
      → AreSaidByLines u (drop first ls) rs → said_at u text ≡ Ok (InstructionSaid standing (Ok x))
  says-again ls first rs k r text standing x lt here is same all =
      let there = said-there (drop first ls) rs k r lt all in
      let says : Says u (get_or ls (first + k) (0, [])) r =
      rw (← get_or-drop first ls k (0, []), here) there in
      subst (λ t. said_at u t ≡ Ok (InstructionSaid standing (Ok x))) same
      (subst (Says u (get_or ls (first + k) (0, []))) is says)

  -- the parts that several threads read, by their numbers
  parts-from : (n a count : ℕ) (ls : List Line) (parts : List (Result (List Answer) AllocError))
      → AllZip (λ k part. IsPartSaid u n (drop (1 + k * n) ls) part) (range_with_len a count) parts
      → ArePartsSaid u n (drop (1 + a * n) ls) parts
  parts-from n a zero ls [] all = tt
  parts-from n a zero ls (part ∷ parts) all = absurd all
  parts-from n a (suc count) ls [] all = absurd all
  parts-from n a (suc count) ls (part ∷ parts) all =
      let more : 1 + a * n + n ≡ 1 + (a + 1) * n = omega arith in (
        all.0,
        subst (λ rest. ArePartsSaid u n rest parts)
            (sym (drop-drop n (1 + a * n) ls ∙ ap (λ m. drop m ls) more))
            (parts-from n (a + 1) count ls parts all.1),
      )

  pub are-parts : (n count : ℕ) (ls : List Line)
      (parts : List (Result (List Answer) AllocError)) (places : List ℕ)
      → places ≡ range_with_len 0 count
      → AllZip (λ k part. IsPartSaid u n (drop (1 + k * n) ls) part) places parts
      → ArePartsSaid u n (drop 1 ls) parts
  are-parts n count ls parts places at all =
      let first : 1 + 0 * n ≡ 1 = omega arith in
      subst (λ m. ArePartsSaid u n (drop m ls) parts) first
      (parts-from n 0 count ls parts
      (subst (λ l. AllZip (λ k part. IsPartSaid u n (drop (1 + k * n) ls) part) l parts) at all))

  -- the lines behind a part
  pub behind-part : (n next at : ℕ) (ls : List Line)
      (parts : List (Result (List Answer) AllocError)) → next ≡ at + n
      → ArePartsSaid u n (drop n (drop at ls)) parts → ArePartsSaid u n (drop next ls) parts
  behind-part n next at ls parts is all =
      subst (λ rest. ArePartsSaid u n rest parts) (drop-drop n at ls ∙ ap (λ m. drop m ls) (sym is))
      all

  -- the plan where the first line is `plan 1`
  pub plan-goes : (ls : List Line) (r : Reading) → behind_head ls ≡ Ok (drop 1 ls)
      → reading_of u (drop 1 ls) ≡ Ok r → plan_in u ls ≡ end_of r
  plan-goes [] r head read = absurd cc
  plan-goes ((number, line) ∷ ls) r head read = by (is_head (codes "plan") line) head
    where
      by : (b : Bool)
          → (if b then Ok ls else Err (fault_at FILE number NO_PLAN)) ≡ Ok ls
          → (if b then (reading_of u ls >>= end_of) else Err (fault_at FILE number NO_PLAN))
          ≡ end_of r
      by true is = rw read refl
      by false is = absurd cc

-- a part of the lines ends before they do
pub part-within : (k parts n : ℕ) → k < parts → k * n + n ≤ parts * n
part-within k zero n lt = absurd (omega (arith, lt))
part-within zero (suc parts) n lt = omega arith
part-within (suc k) (suc parts) n lt =
    let rest = part-within k parts n (omega (arith, lt)) in omega (arith, rest)
