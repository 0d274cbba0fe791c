use Rattle.std.proofs.Common.{◌≡◌, sym, subst}
use Rattle.round_cut.specs.claim_history.specs.History.{MayFollowInPool}
use Rattle.std.proofs.Common.{ℕ, ◌+◌}
use Rattle.setoff_model.specs.declared.kind.Kind.{Kind}
use Rattle.round_cut.specs.claim_history.specs.declared.act.Act.TheVariants as act
use Rattle.round_cut.specs.claim_history.specs.Cut.{cut_of}
use Rattle.round_cut.specs.claim_history.specs.States.{state_of}
use Rattle.claim_book.specs.Book.{BookView, ledger_of}
use Rattle.claim_book.proofs.Parts.{is_close, close_grows}
use Rattle.claim_book.proofs.book.Book.apply_close.Goals as goal

pub horizon_of-horizon-requires : goal.horizon_of-horizon-requires
horizon_of-horizon-requires c = is_close c.args.self.now.history c.args.entry c.requires.opens c.requires.next

pub invariant_of-self : goal.invariant_of-self
invariant_of-self c =
    let next = subst (λ (b : BookView). MayFollowInPool b.history c.args.entry) (sym c.self.view_is) c.requires.next in
    let cut = subst (λ (b : BookView). (kind : Kind) (horizon : ℕ) → c.args.entry.act ≡ act.Close kind horizon → c.args.cut ≡ cut_of ((state_of b.history).openings + 1) (ledger_of b.history) kind horizon) (sym c.self.view_is) c.requires.cut in
    rw (c.put_entry.ensures.items, c.mark.ensures.facts, c.mark.ensures.marks, c.mark-2.ensures.facts, c.mark-2.ensures.marks, c.keep_round.ensures)
    (close_grows _ c.args.entry c.args.cut c.horizon_of-horizon.ensures.0 c.horizon_of-horizon.result c.self.invariant c.requires.valid c.requires.opens next c.horizon_of-horizon.ensures.1 cut)
