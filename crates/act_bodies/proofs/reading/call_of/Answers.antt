use Rattle.std.proofs.Common.{rules}
use Rattle.act_bodies.specs.Bodies.{HasPublishTag}
use Rattle.act_bodies.proofs.Tags.{on_err, publish_tag}
use Rattle.act_bodies.proofs.reading.call_of.Goals as goal

pub returns-in_err-act-clause-memory : goal.returns-in_err-act-clause-memory
returns-in_err-act-clause-memory c =
    on_err c.from_residual.result (HasPublishTag c.args.body.now) (publish_tag c.args.body.now c.in-Some.caller c.in-Some.rest.now c.in-Some-take_pool.pool c.in-Some-take_pool.rest.now (search rules) (search rules) (search rules))
