use Rattle.std.proofs.Common.{◌≡◌, ◌+◌, ◌-◌, ◌∙◌, sym, ap, subst, true, true≢false}
use Rattle.std.specs.Prelude.{if◌then◌else◌}
use Rattle.setoff_model.specs.Same.{same_name}
use Rattle.setoff_model.proofs.Lists.{position_none}
use Rattle.fact_tables.specs.Sums.{SumsView, sum_of, has_sum}
use Rattle.fact_tables.proofs.Summed.{sum_changed}
use Rattle.fact_tables.proofs.firm_sums.FirmSums.change.Goals as goal

pub returns-in-Some-clause-sums : goal.returns-in-Some-clause-sums
returns-in-Some-clause-sums c =
    λ other.
    sum_changed c.self.inside.firms.names c.self.inside.sums.items c.args.firm.now other c.in-Some.place c.index-sum.result.now c.args.less c.args.more c.self.invariant (sym c.place_near.ensures ∙ c.in-Some.is) c.index-sum.ensures
    ∙ ap (λ (v : SumsView). if same_name c.args.firm.now other then sum_of v other - c.args.less + c.args.more else sum_of v other) c.self.view_is

pub returns-in-None-clause-sums : goal.returns-in-None-clause-sums
returns-in-None-clause-sums c =
    let known = subst (λ (v : SumsView). has_sum v c.args.firm.now ≡ true) (sym c.self.view_is) c.requires.known in
    absurd (true≢false (sym known ∙ position_none (same_name c.args.firm.now) c.self.inside.firms.names (sym c.place_near.ensures ∙ c.in-None.is)))
