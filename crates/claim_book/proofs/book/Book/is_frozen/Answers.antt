use Rattle.std.specs.Prelude.{position}
use Rattle.std.proofs.Common.{Bool, List, ◌∙◌, ap, ap₂}
use Rattle.setoff_model.specs.Same.{same_key}
use Rattle.round_cut.specs.claim_history.specs.declared.fact.ClaimFact.{ClaimFact}
use Rattle.round_cut.specs.claim_history.specs.States.{is_in_cut, state_of}
use Rattle.fact_tables.specs.Marks.{mark_at}
use Rattle.claim_book.specs.Book.{BookView}
use Rattle.claim_book.proofs.Marks.{claim_mark}
use Rattle.claim_book.proofs.book.Book.is_frozen.Goals as goal

pub returns : goal.returns
returns c =
    c.is_marked.ensures
    ∙ ap₂ (λ (ms : List Bool) (cs : List ClaimFact). mark_at ms (position (λ (r : ClaimFact). same_key c.args.key.now r.key) cs)) c.self.invariant.frozen_are c.self.invariant.claims_are
    ∙ claim_mark c.self.inside.entries.items c.self.invariant.legal c.args.key.now
    ∙ ap (λ (b : BookView). is_in_cut (state_of b.history).open_round c.args.key.now) c.self.view_is
