use Rattle.std.specs.Prelude.{IfErr, IfOk}
use Rattle.std.proofs.Common.{◌≡◌, refl, sym, subst}
use mir.Syntax.{w64}
use Rattle.std.proofs.lemmas.Int.{to_z-of_z, fits_signed_from_abs}
use Rattle.setoff_model.proofs.Sizes.{abs_price}
use Rattle.statement_text.specs.Lines.{IsInRange}
use Rattle.statement_text.specs.declared.line.Line.{Line}
use Rattle.statement_text.specs.Statements.{OnBadLine}
use Rattle.statement_text.specs.Drafts.{IsNoNext}
use Rattle.statement_text.specs.Steps.{IsTaken}
use Rattle.statement_text.proofs.Next.{head_refused}
use Rattle.statement_text.proofs.reading.take_line.Goals as goal

pub returns-in-Party-clause-found : goal.returns-in-Party-clause-found
returns-in-Party-clause-found c =
    let range = subst IsInRange c.in-Party.is c.requires.range in
    let fits = fits_signed_from_abs w64 c.in-Party.price (abs_price c.in-Party.price range.3) in
    let found = simp to_z-of_z at c.take_party.ensures.found in
    subst (λ (l : Line). IfOk c.take_party.result (IsTaken c.args.draft l)) (sym c.in-Party.is) found

pub returns-in-Party-clause-bad : goal.returns-in-Party-clause-bad
returns-in-Party-clause-bad c =
    let range = subst IsInRange c.in-Party.is c.requires.range in
    let fits = fits_signed_from_abs w64 c.in-Party.price (abs_price c.in-Party.price range.3) in
    let bad = simp to_z-of_z at c.take_party.ensures.bad in
    subst (λ (l : Line). IfErr c.take_party.result (OnBadLine (λ n. (n ≡ c.args.number) × IsNoNext c.args.draft l))) (sym c.in-Party.is) bad

pub returns-in-Head-clause-bad : goal.returns-in-Head-clause-bad
returns-in-Head-clause-bad c = (refl, subst (IsNoNext c.args.draft) (sym c.in-Head.is) (head_refused c.args.draft c.in-Head.round c.in-Head.kind c.requires.stated))
