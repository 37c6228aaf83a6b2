use Rattle.std.proofs.Common.{refl}
use Rattle.farm_model.specs.Packages.{is_wanted}
use Rattle.may_rows.proofs.Candidates.{pick-none, pick-some, pick-known, pick-nonzero}
use Rattle.may_rows.proofs.pick.pick.Goals as goal

pub returns-in-Some-clause-some : goal.returns-in-Some-clause-some
returns-in-Some-clause-some c =
    pick-nonzero c.args.universe.now (is_wanted c.args.universe.now c.args.relation.now) c.args.name
    c.args.known c.args.there c.wanted_word-wanted.result c.in-Some.highest c.from_bit.result
    c.wanted_word-wanted.ensures c.from_bit.ensures c.requires.known_there c.in-Some.ensures.newest

pub returns-in-Some-clause-of_name : goal.returns-in-Some-clause-of_name
returns-in-Some-clause-of_name c =
    pick-known c.args.universe.now (is_wanted c.args.universe.now c.args.relation.now) c.args.name
    c.args.known c.args.there c.wanted_word-wanted.result c.in-Some.highest c.from_bit.result
    c.wanted_word-wanted.ensures c.from_bit.ensures

pub returns-in-Some-clause-pick : goal.returns-in-Some-clause-pick
returns-in-Some-clause-pick c known there of is_known is_there =
    pick-some c.args.universe.now known there c.args.name c.args.relation.now of c.args.known
    c.args.there c.wanted_word-wanted.result is_known is_there c.wanted_word-wanted.ensures
    c.in-Some.highest c.from_bit.result c.in-Some.ensures.newest c.from_bit.ensures

pub returns-in-None-clause-pick : goal.returns-in-None-clause-pick
returns-in-None-clause-pick c known there of is_known is_there =
    pick-none c.args.universe.now known there c.args.name c.args.relation.now of c.args.known
    c.args.there c.wanted_word-wanted.result is_known is_there c.wanted_word-wanted.ensures
    (c.in-None.ensures.none.0 refl)
