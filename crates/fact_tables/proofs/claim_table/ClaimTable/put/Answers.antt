use Rattle.std.specs.Prelude.{set}
use Rattle.std.proofs.Common.{sym, ◌∙◌}
use Rattle.std.proofs.Math.Seq.{map-set_same}
use Rattle.std.proofs.lemmas.List.{length-set}
use Rattle.claim_history.specs.declared.fact.ClaimFact.{ClaimFact}
use Rattle.fact_tables.proofs.Keyed.{keys_once}
use Rattle.fact_tables.proofs.Putting.{put_for}
use Rattle.fact_tables.proofs.Summed.{enough, fits, sums_follow}
use Rattle.fact_tables.proofs.claim_table.ClaimTable.put.Goals as goal

pub change-creditor-requires-clause-enough : goal.change-creditor-requires-clause-enough
change-creditor-requires-clause-enough c =
    let facts = c.self.inside.facts.items in
    let x = c.index.result.now in
    let y = c.args.claim in
    let place = c.args.place in
    let put = put_for _ _ c.args.place c.index.result.now c.args.claim c.self.view_is c.requires.within c.requires.key c.requires.debtor
    c.requires.small c.index.ensures in
    enough (λ (r : ClaimFact). r.key.creditor) facts c.self.inside.receivables place x y c.self.invariant.owed_to put.within c.index.ensures put.creditor

pub change-creditor-requires-clause-fits : goal.change-creditor-requires-clause-fits
change-creditor-requires-clause-fits c =
    let facts = c.self.inside.facts.items in
    let x = c.index.result.now in
    let y = c.args.claim in
    let place = c.args.place in
    let put = put_for _ _ c.args.place c.index.result.now c.args.claim c.self.view_is c.requires.within c.requires.key c.requires.debtor
    c.requires.small c.index.ensures in
    fits (λ (r : ClaimFact). r.key.creditor) facts c.self.inside.receivables place x y c.self.invariant.owed_to put.within c.index.ensures
    put.creditor put.small

pub change-debtor-requires-clause-enough : goal.change-debtor-requires-clause-enough
change-debtor-requires-clause-enough c =
    let facts = c.self.inside.facts.items in
    let x = c.index.result.now in
    let y = c.args.claim in
    let place = c.args.place in
    let put = put_for _ _ c.args.place c.index.result.now c.args.claim c.self.view_is c.requires.within c.requires.key c.requires.debtor
    c.requires.small c.index.ensures in
    enough (λ (r : ClaimFact). r.debtor) facts c.self.inside.payables place x y c.self.invariant.owed_by put.within c.index.ensures put.debtor

pub change-debtor-requires-clause-fits : goal.change-debtor-requires-clause-fits
change-debtor-requires-clause-fits c =
    let facts = c.self.inside.facts.items in
    let x = c.index.result.now in
    let y = c.args.claim in
    let place = c.args.place in
    let put = put_for _ _ c.args.place c.index.result.now c.args.claim c.self.view_is c.requires.within c.requires.key c.requires.debtor
    c.requires.small c.index.ensures in
    fits (λ (r : ClaimFact). r.debtor) facts c.self.inside.payables place x y c.self.invariant.owed_by put.within c.index.ensures
    put.debtor put.small

pub invariant_of-self : goal.invariant_of-self
invariant_of-self c =
    let facts = c.self.inside.facts.items in
    let x = c.index.result.now in
    let y = c.args.claim in
    let place = c.args.place in
    let put = put_for _ _ c.args.place c.index.result.now c.args.claim c.self.view_is c.requires.within c.requires.key c.requires.debtor
    c.requires.small c.index.ensures in
    let keys = map-set_same (λ (r : ClaimFact). r.key) facts place y y put.key in
    record {
      keys_are = c.self.invariant.keys_are ∙ sym keys;
      one_each = c.self.invariant.one_each ∙ sym (length-set facts place y);
      stand = record {
        once = keys_once facts (set facts place y) (sym keys) c.self.invariant.stand.once;
        small = put.small;
      };
      owed_to = sums_follow (λ (r : ClaimFact). r.key.creditor) facts c.self.inside.receivables place x y c.self.invariant.owed_to put.within
          c.index.ensures put.creditor c.change-creditor.new.self c.change-creditor.ensures.known c.change-creditor.ensures.sums;
      owed_by = sums_follow (λ (r : ClaimFact). r.debtor) facts c.self.inside.payables place x y c.self.invariant.owed_by put.within
          c.index.ensures put.debtor c.change-debtor.new.self c.change-debtor.ensures.known c.change-debtor.ensures.sums;
    }
