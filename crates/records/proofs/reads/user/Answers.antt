use Rattle.records.proofs.Users.{user_read, user_unlike}
use Rattle.records.proofs.reads.user.Goals as goal

pub returns-then-user_map-head : goal.returns-then-user_map-head
returns-then-user_map-head c =
    user_unlike c.args.head.map c.args.head.number c.in_ok-groups.ensures c.in_ok-allow.ensures c.in_ok-floor.ensures c.in_ok-top.ensures c.has.ensures c.user_map.ensures c.first.result c.first.ensures c.if-user_map-head.true

pub returns : goal.returns
returns c =
    user_read c.args.head.map c.args.head.number c.in_ok-groups.ensures c.in_ok-allow.ensures c.in_ok-floor.ensures c.in_ok-top.ensures c.has.ensures c.user_map.ensures c.if-user_map-head.false
