use Rattle.std.proofs.Common.{◌≡◌, ◌∙◌, ℕ, suc, ◌<◌, ◌-◌, List, Bool, true, false, length, map, drop, length-set, get_or, sym, ap, subst, arith}
use Rattle.std.proofs.lemmas.List.{get_or_default}
use Rattle.std.proofs.lemmas.List.Elements.{All-get_or}
use Rattle.farm_model.specs.declared.types.Variant.{Variant}
use Rattle.farm_universe.specs.BaseText.{member_of, one_of_each}
use Rattle.farm_universe.specs.FarmView.{IsPlace}
use Rattle.farm_universe.specs.PackagesText.{PackageTable}
use Rattle.farm_universe.specs.TableView.{table_view}
use Rattle.farm_universe.proofs.OnceLaws.{is_seen, once-seen, once-next, seen-next}
use Rattle.farm_universe.proofs.settled.one_of_each.Goals as goal

-- what is read past the last variant
abbrev past : Variant
past = record { name = 0; bit = 0 }

-- the mark of a name that is within the list of marks
marked : (table : PackageTable) (vs : List Variant) (seen : List Bool) (left i : ℕ)
    → left ≡ suc i → (v : Variant) (r : Bool) → v.name < length seen
    → r ≡ get_or seen v.name r
    → ((n : ℕ) → get_or seen n false ≡ is_seen table (drop left vs) n)
    → r ≡ is_seen table (drop (suc i) vs) v.name
marked table vs seen left i e v r lt is all =
    is ∙ get_or_default seen v.name r false lt ∙ all v.name
    ∙ ap (λ k. is_seen table (drop k vs) v.name) e

pub returns-then-index : goal.returns-then-index
returns-then-index c =
    let table = table_view c.args.table.now in
    let vs = c.args.variants.now in
    let left = c.loop-left.left in
    let i = left - 1 in
    let so_far = c.loop-left.invariant in
    let e : left ≡ suc i = omega arith in
    let lt : i < length vs = omega (arith, so_far.within) in
    let v = get_or vs i past in
    let here =
    subst (λ k. v.name < k) (sym so_far.long)
    (All-get_or (IsPlace table) vs i past lt c.requires).name in
    sym (once-seen table vs i past lt
    (sym (marked table vs c.loop-left.seen.items left i e v c.index.result.now here
    c.index.ensures so_far.seen)
    ∙ c.if-index.true))

pub loop-left-preserved : goal.loop-left-preserved
loop-left-preserved c =
    let table = table_view c.args.table.now in
    let vs = c.args.variants.now in
    let seen = c.loop-left.seen.items in
    let left = c.loop-left.left in
    let i = left - 1 in
    let so_far = c.loop-left.invariant in
    let e : left ≡ suc i = omega arith in
    let lt : i < length vs = omega (arith, so_far.within) in
    let v = get_or vs i past in
    let is = get_or_default vs i past v lt in
    let here =
    subst (λ k. v.name < k) (sym so_far.long)
    (All-get_or (IsPlace table) vs i past lt c.requires).name in
    let other =
    sym (marked table vs seen left i e v c.index.result.now here c.index.ensures so_far.seen)
    ∙ c.if-index.false in
    record {
      within = omega (arith, so_far.within);
      long = length-set seen v.name true ∙ so_far.long;
      once = once-next table vs i v lt is
          (subst (λ k. one_of_each (map (member_of table) (drop k vs)) ≡ true) e so_far.once) other;
      seen = seen-next table vs i v lt is seen here
          (λ n. so_far.seen n ∙ ap (λ k. is_seen table (drop k vs) n) e);
    }
