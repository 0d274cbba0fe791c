use Rattle.std.proofs.Common.{arith}
use Rattle.act_bodies.proofs.Lengths.{length_law}
use Rattle.act_bodies.proofs.Keepable.{act_valid, pool_named}
use Rattle.group_loader.proofs.loader.hold.Goals as goal

pub push-requires : goal.push-requires
push-requires c = record {
  short = omega (arith, c.deref.ensures.len, c.encode.ensures.len, (length_law c.args.call.now (act_valid c.args.call.now c.requires.keepable) (pool_named c.args.call.now c.requires.keepable)).2);
}
