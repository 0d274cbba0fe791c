use Rattle.std.specs.Prelude.{map, take, is_some}
use Rattle.std.proofs.Common.{Bool, ◌<◌, ◌≤◌, ◌||◌, List, length, get_or, sym, ◌∙◌, ap, subst, arith}
use Rattle.setoff_model.specs.declared.cut.Party.{Party}
use Rattle.setoff_model.specs.Same.{same_name}
use Rattle.claim_history.specs.Facts.{party_place}
use Rattle.claim_history.specs.declared.fact.AccountFact.{AccountFact}
use Rattle.fact_tables.specs.Marks.{accounts_in}
use Rattle.fact_tables.proofs.Marking.{next_are, all_are}
use Rattle.fact_tables.proofs.Names.{name_flip}
use Rattle.fact_tables.proofs.account_table.AccountTable.mark.Goals as goal

pub loop-party-preserved : goal.loop-party-preserved
loop-party-preserved c =
    let parties = c.args.cut.now.parties in
    let i = c.loop-party.party-index in
    let x = c.party-item.result in
    let rows = c.unmark.new.self.facts in
    let lt = subst (λ (cs : List Party). i < length cs) c.parties-party-items.ensures c.loop-party-test.true in
    let is = c.party-item.is ∙ ap (λ (cs : List Party). get_or cs i x) c.parties-party-items.ensures in
    let test : AccountFact → Bool = λ r. is_some (party_place (take i parties) r.firm) in
    record {
      facts = c.mark_account.ensures.facts ∙ c.loop-party.invariant.facts;
      marks = c.mark_account.ensures.marks test (c.loop-party.invariant.marks ∙ ap (map test) (sym c.loop-party.invariant.facts))
          ∙ ap (map (λ (r : AccountFact). same_name x.firm r.firm || test r)) c.loop-party.invariant.facts
          ∙ next_are (λ (r : AccountFact). r.firm) (λ (y : Party). y.firm) same_name name_flip parties rows i x lt is;
      room = c.mark_account.ensures.room ∙ c.loop-party.invariant.room;
    }

pub returns-clause-marks : goal.returns-clause-marks
returns-clause-marks c =
    c.loop-party.invariant.marks
    ∙ all_are (λ (r : AccountFact). r.firm) (λ (y : Party). y.firm) same_name name_flip c.args.cut.now.parties c.unmark.new.self.facts c.loop-party.party-index (subst (λ (cs : List Party). length cs ≤ c.loop-party.party-index) c.parties-party-items.ensures (omega arith))
    ∙ ap (accounts_in c.args.cut.now) c.unmark.ensures.facts
