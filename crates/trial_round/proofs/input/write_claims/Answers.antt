use Rattle.std.proofs.Common.{◌∙◌, ◌+◌, ◌++◌, ℕ, ap}
use Rattle.trial_round.specs.Input.{filed_and_confirmed, text_of_acts}
use Rattle.trial_round.proofs.Texts.{claims_none, claims_more}
use Rattle.trial_round.proofs.input.write_claims.Goals as goal

pub loop-filed-init : goal.loop-filed-init
loop-filed-init c = record { room = c.requires.room; made = c.new-draws.ensures.made; seed = c.new-draws.ensures.seed; written = claims_none c.args.text.now.items c.args.firms c.args.seed }

pub loop-filed-preserved : goal.loop-filed-preserved
loop-filed-preserved c =
    let old = c.loop-filed.text.items in
    record {
      room = c.write_claim.ensures.room;
      made = c.write_claim.ensures.draws;
      seed = c.write_claim.ensures.seed ∙ c.loop-filed.invariant.seed;
      written = c.in_ok-write_claim.ensures.text
          ∙ ap (λ (seed : ℕ). old ++ text_of_acts (filed_and_confirmed c.args.firms seed (c.loop-filed.filed + 1))) c.loop-filed.invariant.seed
          ∙ claims_more c.args.text.now.items old c.args.firms c.args.seed c.loop-filed.filed c.loop-filed.invariant.written;
    }
