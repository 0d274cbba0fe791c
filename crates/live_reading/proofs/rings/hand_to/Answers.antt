use Rattle.std.proofs.Common.{subst, ◌≡◌, false, nat_eq}
use Rattle.live_reading.proofs.Sending.{open_still, room_left}
use Rattle.live_reading.proofs.rings.hand_to.Goals as goal

pub returns-clause-open : goal.returns-clause-open
returns-clause-open c = λ more.
    open_still c.args.ring.now c.push_reserved.new.self c.args.line c.args.pool c.args.act c.requires.open c.push_reserved.ensures.sent.0 c.push_reserved.ensures.sent.1
    (subst (λ n. nat_eq n 1 ≡ false) c.cached_slots.ensures more)

pub returns-clause-room : goal.returns-clause-room
returns-clause-room c = room_left c.args.ring.now c.push_reserved.new.self c.args.line c.args.pool c.args.act c.requires.open c.push_reserved.ensures.sent.0 c.push_reserved.ensures.sent.1
