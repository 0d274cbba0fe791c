-- Lines state at most one cut and one outcome.
use Rattle.std.specs.Prelude.{ℤ}
use Rattle.std.proofs.Common.{◌≡◌, ℕ, List, [], ◌∷◌, ◌++◌, length, map, sym, ap, ◌∙◌, refl, arith}
use Rattle.std.proofs.lemmas.List.{append-nil}
use Rattle.setoff_model.specs.declared.kind.Kind.{Kind}
use Rattle.setoff_model.specs.declared.cut.Party.{Party}
use Rattle.setoff_model.specs.declared.cut.CutClaim.{CutClaim}
use Rattle.setoff_model.specs.CutView.{CutView, OutcomeView}
use Rattle.statement_text.specs.declared.line.Line.{Line}
use Rattle.statement_text.specs.declared.line.Line.TheVariants as line
use Rattle.statement_text.specs.Lines.{line_text}
use Rattle.statement_text.specs.Statements.{IsStatement, OneReadingLaw, front_of, claim_lines}
use Rattle.statement_text.specs.Drafts.{Drafted}
use Rattle.statement_text.proofs.Lines.{begins, statement_in_range}
use Rattle.statement_text.proofs.Structure.{ClaimsGoOn, claims_go_on, free_claims}

-- the lines of two statements of one text are one list
same_lines : (ls : List (List ℕ)) (a b : CutView) (p q : OutcomeView) → IsStatement ls a p → IsStatement ls b q → front_of a p ++ line.End ∷ [] ≡ front_of b q ++ line.End ∷ []
same_lines ls a b p q sa sb =
    let texts : map line_text (front_of a p ++ line.End ∷ []) ≡ map line_text (front_of b q ++ line.End ∷ []) ++ [] = sym sa.spelled ∙ sb.spelled ∙ sym (append-nil _) in
    let s = begins (front_of b q ++ line.End ∷ []) (front_of a p ++ line.End ∷ []) [] (statement_in_range b q sb.stated) (statement_in_range a p sa.stated) texts in
    s.whole ∙ ap (λ (rest : List Line). (front_of b q ++ line.End ∷ []) ++ rest) (none s.rest s.spelled) ∙ append-nil _
  where
    none : (rest : List Line) → [] ≡ map line_text rest → rest ≡ []
    none [] e = refl
    none (l ∷ rest) e = absurd cc

abbrev drafted : CutView → OutcomeView → Drafted
drafted cut outcome = record { cut = cut; outcome = outcome }

goes_on_to_end : (ls : List (List ℕ)) (a b : CutView) (p q : OutcomeView) → IsStatement ls a p → IsStatement ls b q → ClaimsGoOn (drafted b q) (line.End ∷ []) a p
goes_on_to_end ls a b p q sa sb =
    claims_go_on (drafted b q) (line.End ∷ []) a p sb.stated sa.stated (same_lines ls a b p q sa sb) (free_claims b.parties b.claims q.discharges (line.End ∷ []) tt)

no_claims : (parties : List Party) (more : List CutClaim) (ds : List ℕ) → length ds ≡ length more → claim_lines parties more ds ++ line.End ∷ [] ≡ line.End ∷ [] → (more ≡ []) × (ds ≡ [])
no_claims parties [] [] l e = (refl, refl)
no_claims parties [] (d ∷ ds) l e = absurd (omega arith)
no_claims parties (c ∷ more) [] l e = absurd (omega arith)
no_claims parties (c ∷ more) (d ∷ ds) l e = absurd cc

abbrev cut_of : ℕ → Kind → List Party → List CutClaim → CutView
cut_of round kind parties claims = record { round = round; kind = kind; parties = parties; claims = claims }

abbrev outcome_of : List ℕ → List ℤ → OutcomeView
outcome_of discharges prices = record { discharges = discharges; prices = prices }

same_cut : (ls : List (List ℕ)) (a b : CutView) (p q : OutcomeView) → IsStatement ls a p → IsStatement ls b q → a ≡ b
same_cut ls a b p q sa sb =
    let g = goes_on_to_end ls a b p q sa sb in
    let m = g.claims in
    let claims : a.claims ≡ b.claims = m.claims_are ∙ ap (λ (cs : List CutClaim). b.claims ++ cs) (no_claims b.parties m.more m.discharges m.each m.rest_is).0 ∙ append-nil b.claims in
    ap (λ (r : ℕ). cut_of r a.kind a.parties a.claims) g.round_is ∙ ap (λ (k : Kind). cut_of b.round k a.parties a.claims) g.kind_is
    ∙ ap (λ (fs : List Party). cut_of b.round b.kind fs a.claims) g.parties_are ∙ ap (cut_of b.round b.kind b.parties) claims

same_outcome : (ls : List (List ℕ)) (a b : CutView) (p q : OutcomeView) → IsStatement ls a p → IsStatement ls b q → p ≡ q
same_outcome ls a b p q sa sb =
    let g = goes_on_to_end ls a b p q sa sb in
    let m = g.claims in
    let discharges : p.discharges ≡ q.discharges = m.discharges_are ∙ ap (λ (ds : List ℕ). q.discharges ++ ds) (no_claims b.parties m.more m.discharges m.each m.rest_is).1 ∙ append-nil q.discharges in
    ap (λ (ds : List ℕ). outcome_of ds p.prices) discharges ∙ ap (outcome_of q.discharges) g.prices_are

pub one_reading_law : OneReadingLaw
one_reading_law = record { cuts = same_cut; outcomes = same_outcome }
