use Rattle.std.proofs.Common.{◌∙◌, sym}
use Rattle.journal_summaries.proofs.Registers.{text_is}
use Rattle.journal_summaries.proofs.firm_account.Register.into_text.Goals as goal

pub returns-then-is_known : goal.returns-then-is_known
returns-then-is_known c =
    text_is c.args.self c.args.books.now.members c.text_of.result (sym c.is_known.ensures ∙ c.if-is_known.true) c.text_of.ensures
