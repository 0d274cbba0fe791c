-- Causes of lines that may not stand next.
use Rattle.std.specs.Prelude.{◌≢◌, All, Result, Ok, Err, IfErr}
use Rattle.std.proofs.Common.{◌≡◌, ℕ, ◌+◌, List, [], ◌∷◌, ◌++◌, length, get_or, sym, ap, subst, ◌∙◌, arith, append_assoc, length-append}
use Rattle.std.proofs.lemmas.List.{append-nil, map-append}
use Rattle.std.proofs.lemmas.List.Elements.{All-map}
use Rattle.setoff_model.specs.declared.name.Key.{Key}
use Rattle.setoff_model.specs.declared.cut.Party.{Party}
use Rattle.setoff_model.specs.declared.cut.CutClaim.{CutClaim}
use Rattle.setoff_model.specs.CutView.{CutView, OutcomeView}
use Rattle.setoff_model.specs.declared.kind.Kind.{Kind}
use Rattle.statement_text.specs.declared.line.Line.{Line}
use Rattle.statement_text.specs.declared.line.Line.TheVariants as line
use Rattle.statement_text.specs.declared.error.StatementCause.TheVariants as causes
use Rattle.statement_text.specs.declared.error.StatementError.{StatementError}
use Rattle.statement_text.specs.declared.error.StatementError.TheVariants as errors
use Rattle.statement_text.specs.Lines.{IsInRange, IsLine, line_text}
use Rattle.statement_text.specs.Statements.{OnBadLine, statement_lines}
use Rattle.statement_text.specs.Drafts.{Drafted, IsDraft, lines_of, texts_of}
use Rattle.statement_text.specs.Steps.{IsNoHead}
use Rattle.statement_text.specs.Causes.{IsNoFirm, IsNoKey, IsNoHeadText, HasTextCause, HasCause, OnCause, no_head, after_end, not_next, no_end}
use Rattle.statement_text.proofs.Lines.{same_line}
use Rattle.statement_text.proofs.Texts.{ReadUpTo, IsNotEmpty, texts_long}
use Rattle.statement_text.proofs.Places.{from_map}

-- the index and the lines so far have the same firms and the same keys
pub no_firm : (firms : List (List ℕ)) (keys : List Key) (d : Drafted) (firm : List ℕ) → IsDraft firms keys d.cut d.outcome → All (λ f. f ≢ firm) firms → IsNoFirm d firm
no_firm firms keys d firm i new = from_map (λ g. g ≢ firm) (λ (g : Party). g.firm) d.cut.parties (subst (All (λ g. g ≢ firm)) i.firms_are new)

pub firm_is_new : (firms : List (List ℕ)) (keys : List Key) (d : Drafted) (firm : List ℕ) → IsDraft firms keys d.cut d.outcome → IsNoFirm d firm → All (λ f. f ≢ firm) firms
firm_is_new firms keys d firm i none = subst (All (λ g. g ≢ firm)) (sym i.firms_are) (All-map (λ g. g ≢ firm) (λ (g : Party). g.firm) d.cut.parties none)

pub no_key : (firms : List (List ℕ)) (keys : List Key) (d : Drafted) (key : Key) → IsDraft firms keys d.cut d.outcome → All (λ k. k ≢ key) keys → IsNoKey d key
no_key firms keys d key i new = from_map (λ k. k ≢ key) (λ (c : CutClaim). c.key) d.cut.claims (subst (All (λ k. k ≢ key)) i.keys_are new)

pub key_is_new : (firms : List (List ℕ)) (keys : List Key) (d : Drafted) (key : Key) → IsDraft firms keys d.cut d.outcome → IsNoKey d key → All (λ k. k ≢ key) keys
key_is_new firms keys d key i none = subst (All (λ k. k ≢ key)) (sym i.keys_are) (All-map (λ k. k ≢ key) (λ (c : CutClaim). c.key) d.cut.claims none)

-- ---- the cause of a line, of the whole

pub first_cause : (text : List ℕ) (l : Line) (r : Result Drafted StatementError) → IsLine text l → IfErr r (OnBadLine (λ n. (n ≡ 1) × IsNoHead l)) → IfErr r (OnCause (λ n cause. cause ≡ causes.Round))
    → IfErr r (OnCause (λ n cause. (n ≡ 1) × (cause ≡ causes.Round) × IsNoHeadText text))
first_cause text l (Ok head) is bad h = tt
first_cause text l (Err errors.Memory) is bad h = tt
first_cause text l (Err (errors.BadLine n cause)) is bad h =
    (bad.0, h, λ round kind range e. bad.1 round kind (same_line l (line.Head round kind) is.0 range (sym is.1 ∙ e)))

first_text_of : (a b : List ℕ) (x y : List (List ℕ)) → a ∷ x ≡ b ∷ y → a ≡ b
first_text_of a b x y e = ap (λ (ls : List (List ℕ)). get_or ls 0 []) e

nothing_first : (b : List ℕ) (y : List (List ℕ)) → [] ≡ b ∷ y → ⊥
nothing_first b y e = absurd cc

pub round_cause : (ls : List (List ℕ)) (this : List ℕ) (after : List (List ℕ)) (e : StatementError) → ls ≡ this ∷ after → OnCause (λ n cause. (n ≡ 1) × (cause ≡ causes.Round) × IsNoHeadText this) e → OnCause (HasCause ls) e
round_cause ls this after errors.Memory cut h = tt
round_cause ls this after (errors.BadLine n cause) cut h =
    let none : (round : ℕ) (kind : Kind) (others : List (List ℕ)) → IsInRange (line.Head round kind) → ls ≡ line_text (line.Head round kind) ∷ others → ⊥ =
    λ round kind others range e. h.2 round kind range (first_text_of this (line_text (line.Head round kind)) after others (sym cut ∙ e)) in
    subst (λ (m : ℕ). HasCause ls m cause) (sym h.0) (subst (HasCause ls 1) (sym h.1) (no_head none))

pub empty_cause : (ls : List (List ℕ)) → ls ≡ [] → HasCause ls 1 causes.Round
empty_cause ls e = no_head (λ round kind others range f. nothing_first (line_text (line.Head round kind)) others (sym e ∙ f))

pub line_cause : (ls : List (List ℕ)) (d : Drafted) (this : List ℕ) (after : List (List ℕ)) (number : ℕ) (e : StatementError) → ReadUpTo ls d (this ∷ after) number → OnCause (λ n cause. (n ≡ number) × HasTextCause d this cause) e
    → OnCause (HasCause ls) e
line_cause ls d this after number errors.Memory so_far h = tt
line_cause ls d this after number (errors.BadLine n cause) so_far h =
    let place : length (texts_of d) + 1 ≡ n = omega (arith, so_far.numbered, texts_long d, h.0) in
    subst (λ (m : ℕ). HasCause ls m cause) place (not_next d this after cause so_far.stated so_far.read h.1)

after_cause : (ls : List (List ℕ)) (d : Drafted) (this text : List ℕ) (others : List (List ℕ)) (number n : ℕ) → ReadUpTo ls d (this ∷ text ∷ others) number → this ≡ line_text line.End → n ≡ number + 1 → HasCause ls n causes.After
after_cause ls d this text others number n so_far last e =
    let whole : statement_lines d.cut d.outcome ≡ texts_of d ++ line_text line.End ∷ [] = map-append line_text (lines_of d) (line.End ∷ []) in
    let same : texts_of d ++ this ∷ [] ≡ statement_lines d.cut d.outcome = ap (λ (t : List ℕ). texts_of d ++ t ∷ []) last ∙ sym whole in
    let cut : ls ≡ statement_lines d.cut d.outcome ++ text ∷ others =
    so_far.read ∙ sym (append_assoc (texts_of d) (this ∷ []) (text ∷ others)) ∙ ap (λ (ts : List (List ℕ)). ts ++ text ∷ others) same in
    let long : length (texts_of d ++ this ∷ []) ≡ length (texts_of d) + 1 = length-append (texts_of d) (this ∷ []) in
    let place : length (statement_lines d.cut d.outcome) + 1 ≡ n = omega (arith, so_far.numbered, texts_long d, e, long, ap length same) in
    subst (λ (m : ℕ). HasCause ls m causes.After) place (after_end d.cut d.outcome text others so_far.stated cut)

pub finish_cause : (ls : List (List ℕ)) (d : Drafted) (this : List ℕ) (after : List (List ℕ)) (number next : ℕ) (r : Result (CutView × OutcomeView) StatementError) → ReadUpTo ls d (this ∷ after) number → this ≡ line_text line.End → next ≡ number + 1
    → IfErr r (OnBadLine (λ n. (n ≡ next) × IsNotEmpty after)) → IfErr r (OnCause (λ n cause. cause ≡ causes.After)) → IfErr r (OnCause (HasCause ls))
finish_cause ls d this after number next (Ok read) so_far last e bad h = tt
finish_cause ls d this after number next (Err errors.Memory) so_far last e bad h = tt
finish_cause ls d this after number next (Err (errors.BadLine n cause)) so_far last e bad h =
    let some = bad.1 in
    let up : ReadUpTo ls d (this ∷ some.0 ∷ some.1) number = subst (λ (ts : List (List ℕ)). ReadUpTo ls d (this ∷ ts) number) some.2 so_far in
    subst (HasCause ls n) (sym h) (after_cause ls d this some.0 some.1 number n up last (bad.0 ∙ e))

pub end_cause : (ls : List (List ℕ)) (d : Drafted) (rest : List (List ℕ)) (number : ℕ) → ReadUpTo ls d rest number → rest ≡ [] → HasCause ls number causes.NoEnd
end_cause ls d rest number so_far e =
    let lines_are : ls ≡ texts_of d = so_far.read ∙ ap (λ (ts : List (List ℕ)). texts_of d ++ ts) e ∙ append-nil (texts_of d) in
    let place : length ls + 1 ≡ number = omega (arith, so_far.numbered, texts_long d, ap length lines_are) in
    subst (λ (m : ℕ). HasCause ls m causes.NoEnd) place (no_end d so_far.stated lines_are)
