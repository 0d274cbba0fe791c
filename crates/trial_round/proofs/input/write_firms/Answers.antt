use Rattle.std.proofs.Common.{◌∙◌, ◌++◌, List, ℕ, ap}
use Rattle.claim_history.specs.declared.act.Act.TheVariants as act
use Rattle.claim_history.specs.Pools.{main_pool}
use Rattle.request_text.specs.Grammar.{request_line}
use Rattle.trial_round.proofs.Texts.{firms_none, firms_more}
use Rattle.trial_round.proofs.input.write_firms.Goals as goal

pub loop-registered-init : goal.loop-registered-init
loop-registered-init c = record { room = c.requires.room; written = firms_none c.args.text.now.items }

pub loop-registered-preserved : goal.loop-registered-preserved
loop-registered-preserved c =
    let old = c.loop-registered.text.items in
    record {
      room = c.numbered_name-firm.ensures.room;
      written = c.in_ok-write_line.ensures
          ∙ ap (λ (name : List ℕ). old ++ request_line 1 main_pool (act.Firm name)) c.numbered_name-firm.ensures.name
          ∙ firms_more c.args.text.now.items old c.loop-registered.registered c.loop-registered.invariant.written;
    }
