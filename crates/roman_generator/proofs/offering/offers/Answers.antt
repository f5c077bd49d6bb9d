use Rattle.roman_generator.proofs.Common.{system_of, sizes_of, pair_at, allowed_in_range}
use Rattle.roman_generator.proofs.OfferLemmas.{mask_offers, offers_set}
use Rattle.roman_generator.proofs.offering.offers.Goals as goal

pub mask-requires-clause-action : goal.mask-requires-clause-action
mask-requires-clause-action c =
    let s = system_of c.args.relation.now.joint in
    allowed_in_range s (pair_at (sizes_of s) c.args.p) c.args.a c.known.ensures.system c.requires.allowed

pub returns : goal.returns
returns c =
    let relation = c.args.relation.now in
    let has = mask_offers relation.joint relation.order c.args.p c.args.a c.mask.result c.known.ensures c.requires.complete c.known-2.ensures.in_range c.requires.pair c.mask.ensures in
    record { offers = has; some = offers_set relation.joint c.args.p c.args.a c.mask.result c.known.ensures c.requires.pair c.requires.related c.requires.allowed has }
