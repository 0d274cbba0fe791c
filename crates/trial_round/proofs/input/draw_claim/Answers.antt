use Rattle.std.proofs.Common.{◌∙◌, ◌+◌, ap, ℕ}
use Rattle.trial_round.specs.Input.{firm_name}
use Rattle.trial_round.proofs.Claims.{key_is, debtor_is, cents_are}
use Rattle.trial_round.proofs.input.draw_claim.Goals as goal

pub returns-clause-key : goal.returns-clause-key
returns-clause-key c =
    key_is c.args.firms c.args.draws.now.seed c.args.number c.args.draws.now.made c.next.result c.next-2.result c.next-3.result c.next.new.self.seed c.next.new.self.made c.next-2.new.self.seed c.next-2.new.self.made
    c.requires.draws c.next.ensures.drawn c.next.ensures.seed c.next.ensures.made c.next-2.ensures.drawn c.next-2.ensures.seed c.next-2.ensures.made c.next-3.ensures.drawn
    c.numbered_name.result c.numbered_name-2.result c.other_than-creditor.result c.other_than-creditor.ensures c.numbered_name.ensures.name c.numbered_name-2.ensures.name

pub returns-clause-debtor : goal.returns-clause-debtor
returns-clause-debtor c =
    c.numbered_name-3.ensures.name
    ∙ ap (λ (n : ℕ). firm_name (n + 1))
    (debtor_is c.args.firms c.args.draws.now.seed c.args.number c.args.draws.now.made c.next.result c.next-2.result c.next-3.result c.next.new.self.seed c.next.new.self.made c.next-2.new.self.seed c.next-2.new.self.made
    c.requires.draws c.next.ensures.drawn c.next.ensures.seed c.next.ensures.made c.next-2.ensures.drawn c.next-2.ensures.seed c.next-2.ensures.made c.next-3.ensures.drawn)

pub returns-clause-amount : goal.returns-clause-amount
returns-clause-amount c =
    ap (λ (n : ℕ). n + 1) c.from-amount.ensures
    ∙ cents_are c.args.firms c.args.draws.now.seed c.args.number c.args.draws.now.made c.next.result c.next-2.result c.next-3.result c.next.new.self.seed c.next.new.self.made c.next-2.new.self.seed c.next-2.new.self.made
    c.requires.draws c.next.ensures.drawn c.next.ensures.seed c.next.ensures.made c.next-2.ensures.drawn c.next-2.ensures.seed c.next-2.ensures.made c.next-3.ensures.drawn
