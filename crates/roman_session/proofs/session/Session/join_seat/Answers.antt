use Rattle.roman_session.proofs.Common.{◌≤◌, Err, vec_capacity, ap, sym, subst, arith, IsNewcomer, NamedSys}
use Rattle.roman_session.proofs.ChangedLemmas.{changed, growing, joined_pair, has_place, has_room, is_within, joins_by, full_by, limit_by}
use Rattle.roman_session.proofs.SituationLemmas.{parts_shown}
use Rattle.roman_session.proofs.session.Session.join_seat.Goals as goal

pub push_reserved-requires : goal.push_reserved-requires
push_reserved-requires g c = grind (arith, has_place, has_room)

pub number_of-self-inside-requires : goal.number_of-self-inside-requires
number_of-self-inside-requires g c = grind (arith, joined_pair, parts_shown)

pub invariant_of-self : goal.invariant_of-self
invariant_of-self g c =
    let a = c.self.inside in
    let can = subst (λ (n : NamedSys). IsNewcomer n c.args.joining) (sym (parts_shown a c.args.self.now c.self.view_is)) c.requires.can in
    let made = c.in-Ok.ensures in
    let pushed = c.push_reserved in
    let pair = joined_pair a c.join.new.relation pushed.new.self.items c.args.joining c.in-Ok.tally c.self.invariant can made.repaired pushed.ensures.items in
    let room : vec_capacity a.states ≤ vec_capacity pushed.new.self = omega (arith, pushed.ensures.capacity) in
    (changed a c.args.self.now (growing c.args.joining) c.join.new.relation pushed.new.self _ _ c.in-Ok.tally _ c.self.invariant c.self.view_is c.requires.idle made.joint made.repaired c.known.ensures pair pushed.ensures.items
    c.deref.ensures.value c.number_of-self-inside.ensures room c.kept.ensures).session

pub returns-in-Ok : goal.returns-in-Ok
returns-in-Ok g c =
    let a = c.self.inside in
    let can = subst (λ (n : NamedSys). IsNewcomer n c.args.joining) (sym (parts_shown a c.args.self.now c.self.view_is)) c.requires.can in
    let made = c.in-Ok.ensures in
    let pushed = c.push_reserved in
    let pair = joined_pair a c.join.new.relation pushed.new.self.items c.args.joining c.in-Ok.tally c.self.invariant can made.repaired pushed.ensures.items in
    let room : vec_capacity a.states ≤ vec_capacity pushed.new.self = omega (arith, pushed.ensures.capacity) in
    let few = has_place a c.self.invariant (λ full. absurd (cc (made.full.1 full))) in
    let fits = is_within _ a.relation.joint.limit (λ past. absurd (cc (made.limit.1 (few, past)))) in
    joins_by a _ c.args.self.now c.args.joining c.kept.result c.self.view_is few fits
    (changed a c.args.self.now (growing c.args.joining) c.join.new.relation pushed.new.self _ _ c.in-Ok.tally _ c.self.invariant c.self.view_is c.requires.idle made.joint made.repaired c.known.ensures pair pushed.ensures.items
    c.deref.ensures.value c.number_of-self-inside.ensures room c.kept.ensures)

pub returns-in-Err-Limit : goal.returns-in-Err-Limit
returns-in-Err-Limit g c =
    let (few, past) = c.in-Err-Limit.ensures.limit.0 (ap Err c.in-Err-Limit.field-0-is) in
    limit_by c.self.inside c.join.new.relation c.args.self.now c.args.joining c.self.view_is few past c.in-Err-Limit.ensures.refused.0

pub returns-in-Err-Full : goal.returns-in-Err-Full
returns-in-Err-Full g c =
    full_by c.self.inside c.join.new.relation c.args.self.now c.args.joining c.self.view_is (c.in-Err-Full.ensures.full.0 (ap Err c.in-Err-Full.field-0-is)) c.in-Err-Full.ensures.refused.0
