use Rattle.std.proofs.Common.{length, ap}
use Rattle.setoff_model.specs.CutView.{obligations}
use Rattle.trial_round.proofs.round.sums_of.Goals as goal

pub returns : goal.returns
returns c =
    record {
      claims_are = ap length c.claims.ensures;
      parties_are = ap length c.parties.ensures;
      greatest = record {
        discharges = c.args.outcome.now.discharges;
        greatest = c.weak_duality.ensures.laws.proved_is_greatest (obligations c.args.cut.now) c.args.outcome.now.discharges c.args.outcome.now.prices c.requires.proved;
        total_is = c.in-Greatest.ensures.verdict.1;
      };
    }
