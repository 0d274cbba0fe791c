-- One more line of a statement.
use Rattle.std.specs.Prelude.{◌≡◌, ℕ, List, [], ◌∷◌, ◌++◌}
use Rattle.setoff_model.specs.declared.kind.Kind.{Kind}
use Rattle.statement_text.specs.declared.line.Line.{Line}
use Rattle.statement_text.specs.declared.line.Line.TheVariants as line
use Rattle.statement_text.specs.declared.reading.Step.{Step}
use Rattle.statement_text.specs.declared.reading.Step.TheVariants as step
use Rattle.statement_text.specs.Lines.{line_text}
use Rattle.statement_text.specs.Statements.{CanBeStated}
use Rattle.statement_text.specs.Drafts.{Drafted, texts_of, IsNext}

-- the line is no first line
abbrev pub IsNoHead : Line → Type 0
IsNoHead l = (round : ℕ) (kind : Kind) → l ≡ line.Head round kind → ⊥

-- the line is one more line of the draft, or ends it
abbrev pub IsTaken : Drafted → Line → Step → Type 0
IsTaken d l (step.More e) = IsNext d l e
IsTaken d l (step.Last e) = (e ≡ d) × (l ≡ line.End)

-- the text is one more line of the draft, or ends it
abbrev pub IsStep : Drafted → List ℕ → Step → Type 0
IsStep d text (step.More e) = CanBeStated e.cut e.outcome × (texts_of e ≡ texts_of d ++ text ∷ [])
IsStep d text (step.Last e) = (e ≡ d) × (text ≡ line_text line.End)
