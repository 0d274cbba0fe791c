-- The text of a run, piece by piece.
use Rattle.std.specs.Prelude.{slice_get, codes, Option, Some, None, option_map, ℤ, pos, unsigned_abs}
use Rattle.std.proofs.Common.{◌≡◌, ℕ, ◌+◌, ◌<◌, ◌≤◌, ◌^◌, List, [], ◌∷◌, ◌++◌, length, get_or, drop, All, refl, sym, ◌∙◌, ap, ap₂, subst, append_assoc, add-one, drop-cons, arith}
use Rattle.std.proofs.lemmas.Option.{get_or_from_slice_get, slice_get-map, slice_get_read, slice_get_within}
use Rattle.std.proofs.lemmas.List.{append-nil, length-map}
use Rattle.std.proofs.lemmas.List.FromFn.{get_or-map-range_with_len, length-map-range_with_len}
use Rattle.std.proofs.lemmas.List.Folds.{flat_map-map}
use Rattle.std.proofs.lemmas.List.Concat.{flat_map-append}
use Rattle.std.proofs.lemmas.List.Elements.{All-from_get_or, All-weaker}
use Rattle.setoff_model.specs.declared.cut.Party.{Party}
use Rattle.setoff_model.specs.declared.cut.CutClaim.{CutClaim}
use Rattle.setoff_model.specs.declared.limits.TheConstants.{SUM_LIMIT, MOST_AMOUNT, MOST_WINDOW}
use Rattle.setoff_model.specs.CutView.{CutView, OutcomeView, WellFormed, obligations}
use Rattle.setoff_model.specs.Setoff.{IsLawful}
use Rattle.setoff_model.proofs.Columns.{claims_long, lawful_fits, limit_small, parties_long}
use Rattle.served_lines.specs.claim_history.specs.declared.act.Act.{Act}
use Rattle.served_lines.specs.claim_history.specs.declared.act.Act.TheVariants as act
use Rattle.served_lines.specs.claim_history.specs.declared.entry.Reply.{Reply}
use Rattle.served_lines.specs.claim_history.specs.declared.entry.Reply.TheVariants as reply
use Rattle.served_lines.specs.request_text.specs.declared.request.Request.{Request}
use Rattle.served_lines.specs.declared.answer.Answer.{Answer}
use Rattle.statement_text.specs.declared.line.Line.{Line}
use Rattle.statement_text.specs.declared.line.Line.TheVariants as line
use Rattle.statement_text.specs.Lines.{line_text}
use Rattle.statement_text.specs.Statements.{party_lines, claim_line, claim_lines, front_of, statement_bytes}
use Rattle.printed_text.specs.declared.batch_answers.BatchAnswers.{BatchAnswers}
use Rattle.printed_text.specs.Printing.{IsPrintable, IsPrintableAt, answers_in, end_text, ends_text, line_bytes, lines_bytes, rounds_in, statement_of, unanswered, unanswered_lines, without_memory}

-- ---- lines that were not replied to

-- the text of the lines from a place on
pub ends_from : (answers : List Answer) (i : ℕ) (answer : Answer) → slice_get answers i ≡ Some answer
    → ends_text (drop i answers) ≡ end_text answer.line answer.end ++ ends_text (drop (i + 1) answers)
ends_from answers i answer is =
    let lt : i < length answers = slice_get_within answers i answer is in
    let cut : ends_text (drop i answers) ≡ end_text (get_or answers i answer).line (get_or answers i answer).end ++ ends_text (drop (i + 1) answers) = rw (add-one, drop-cons answers i answer) refl in
    cut ∙ ap (λ (a : Answer). end_text a.line a.end ++ ends_text (drop (i + 1) answers)) (get_or_from_slice_get answers i answer answer is)

-- what came of a line of a batch
pub one_of : (told : BatchAnswers) (answers : List Answer) (i : ℕ) (answer : Answer) → answers_in told ≡ answers → i < length (answers_in told) → answer ≡ get_or answers i answer
    → slice_get (answers_in told) i ≡ Some answer
one_of told answers i answer is lt read =
    ap (λ (l : List Answer). slice_get l i) is ∙ slice_get_read answers (length answers) i answer refl (omega (arith, lt, ap (λ (l : List Answer). length l) is)) read

pub one_unasked : (told : BatchAnswers) (requests : List Request) (i : ℕ) (request : Request) → answers_in told ≡ unanswered requests → i < length (answers_in told) → request ≡ get_or requests i request
    → slice_get (answers_in told) i ≡ Some (without_memory request.line)
one_unasked told requests i request is lt read =
    let same : length (answers_in told) ≡ length requests = ap (λ (l : List Answer). length l) is ∙ length-map requests (λ (r : Request). without_memory r.line) in
    ap (λ (l : List Answer). slice_get l i) is ∙ slice_get-map (λ (r : Request). without_memory r.line) requests i
    ∙ ap (option_map (λ (r : Request). without_memory r.line)) (slice_get_read requests (length requests) i request refl (omega (arith, lt, same)) read)

pub one_numbered : (told : BatchAnswers) (first count i : ℕ) → answers_in told ≡ unanswered_lines first count → i < length (answers_in told) → slice_get (answers_in told) i ≡ Some (without_memory (first + i))
one_numbered told first count i is lt =
    let within : i < count = omega (arith, lt, ap (λ (l : List Answer). length l) is, length-map-range_with_len without_memory first count) in
    ap (λ (l : List Answer). slice_get l i) is
    ∙ slice_get_read (unanswered_lines first count) count i (without_memory (first + i)) (sym (length-map-range_with_len without_memory first count)) within
    (sym (get_or-map-range_with_len without_memory first count i (first + i) (without_memory (first + i)) within refl))

-- ---- statements

-- the lines of the parties from a place on
pub parties_from : (parties : List Party) (prices : List ℤ) (i : ℕ) (party : Party) (price : ℤ) → i < length parties → i < length prices
    → lines_bytes (party_lines (drop i parties) (drop i prices)) ≡ line_bytes (line.Party (get_or parties i party) (get_or prices i price)) ++ lines_bytes (party_lines (drop (i + 1) parties) (drop (i + 1) prices))
parties_from parties prices i party price lf lp = rw (add-one, drop-cons parties i party, drop-cons prices i price) refl

-- the lines of the claims from a place on
pub claims_from : (parties : List Party) (claims : List CutClaim) (discharges : List ℕ) (i : ℕ) (claim : CutClaim) (discharge : ℕ) → i < length claims → i < length discharges
    → lines_bytes (claim_lines parties (drop i claims) (drop i discharges)) ≡ line_bytes (claim_line parties (get_or claims i claim) (get_or discharges i discharge)) ++ lines_bytes (claim_lines parties (drop (i + 1) claims) (drop (i + 1) discharges))
claims_from parties claims discharges i claim discharge lc ld = rw (add-one, drop-cons claims i claim, drop-cons discharges i discharge) refl

-- a statement is its head, its parties, its claims and its end
statement_parts : (cut : CutView) (outcome : OutcomeView)
    → statement_bytes cut outcome ≡ line_bytes (line.Head cut.round cut.kind) ++ (lines_bytes (party_lines cut.parties outcome.prices) ++ (lines_bytes (claim_lines cut.parties cut.claims outcome.discharges) ++ line_bytes line.End))
statement_parts cut outcome =
    let head = line_bytes (line.Head cut.round cut.kind) in
    let parties = party_lines cut.parties outcome.prices in
    let claims = claim_lines cut.parties cut.claims outcome.discharges in
    let last : List Line = line.End ∷ [] in
    flat_map-map (λ (text : List ℕ). text ++ codes "\n") line_text (front_of cut outcome ++ last)
    ∙ ap (λ (t : List ℕ). head ++ t)
    (flat_map-append line_bytes (parties ++ claims) last
    ∙ ap (λ (t : List ℕ). t ++ lines_bytes last) (flat_map-append line_bytes parties claims)
    ∙ append_assoc (lines_bytes parties) (lines_bytes claims) (lines_bytes last)
    ∙ ap (λ (t : List ℕ). lines_bytes parties ++ (lines_bytes claims ++ t)) (append-nil (line_bytes line.End)))

-- the same with lists that equal those of the cut and the outcome
pub statement_of_lists : (cut : CutView) (outcome : OutcomeView) (parties : List Party) (prices : List ℤ) (discharges : List ℕ) → parties ≡ cut.parties → prices ≡ outcome.prices → discharges ≡ outcome.discharges
    → statement_bytes cut outcome ≡ line_bytes (line.Head cut.round cut.kind) ++ (lines_bytes (party_lines parties prices) ++ (lines_bytes (claim_lines cut.parties cut.claims discharges) ++ line_bytes line.End))
statement_of_lists cut outcome parties prices discharges parties_are prices_are discharges_are =
    let head = line_bytes (line.Head cut.round cut.kind) in
    statement_parts cut outcome
    ∙ ap₂ (λ (fs : List Party) (ps : List ℤ). head ++ (lines_bytes (party_lines fs ps) ++ (lines_bytes (claim_lines cut.parties cut.claims outcome.discharges) ++ line_bytes line.End))) (sym parties_are) (sym prices_are)
    ∙ ap (λ (ds : List ℕ). head ++ (lines_bytes (party_lines parties prices) ++ (lines_bytes (claim_lines cut.parties cut.claims ds) ++ line_bytes line.End))) (sym discharges_are)

-- what the writers ask for
pub spends_fit : (cut : CutView) → WellFormed cut → All (λ f. f.spend ≤ MOST_WINDOW) cut.parties
spends_fit cut formed = λ k none within. omega (arith, limit_small cut.kind, (formed.windows k none within).0)

pub rooms_fit : (cut : CutView) → WellFormed cut → All (λ f. f.room ≤ MOST_WINDOW) cut.parties
rooms_fit cut formed = λ k none within. omega (arith, limit_small cut.kind, (formed.windows k none within).1)

pub prices_fit : (cut : CutView) (outcome : OutcomeView) → IsPrintable cut outcome → All (λ p. unsigned_abs p < 10 ^ 9) outcome.prices
prices_fit cut outcome is =
    let each : (k : ℕ) → k < length outcome.prices → unsigned_abs (get_or outcome.prices k (pos 0)) < 10 ^ 9 =
    λ k within. omega (arith, is.proved.price_each, parties_long cut, is.well_formed.few_parties, is.proved.in_range k (omega (arith, is.proved.price_each))) in
    All-from_get_or (λ p. unsigned_abs p < 10 ^ 9) outcome.prices (pos 0) each

pub price_each : (cut : CutView) (outcome : OutcomeView) → IsPrintable cut outcome → length outcome.prices ≡ length cut.parties
price_each cut outcome is = is.proved.price_each ∙ parties_long cut

pub discharges_fit : (cut : CutView) (d : List ℕ) → WellFormed cut → IsLawful (obligations cut) d → All (λ d. d < SUM_LIMIT) d
discharges_fit cut d formed lawful =
    All-weaker (λ d. d ≤ MOST_AMOUNT) (λ d. d < SUM_LIMIT) (λ d le. omega arith) d (lawful_fits.small cut d formed lawful)

pub discharge_each : (cut : CutView) (d : List ℕ) → IsLawful (obligations cut) d → length d ≡ length cut.claims
discharge_each cut d lawful = lawful.one_each ∙ claims_long cut

-- ---- one entry

-- what publishes nothing has no statement
pub none_stated : (o : Option CutView) (a : Act) (r : Reply) → rounds_in r ≡ 0 → statement_of o a r ≡ []
none_stated None a r e = refl
none_stated (Some cut) (act.Publish number outcome) (reply.Published total) e = absurd (omega (arith, e))
none_stated (Some cut) (act.Publish number outcome) r e = refl
none_stated (Some cut) a r e = refl

pub same_statement : (o q : Option CutView) (a : Act) (r : Reply) → ((total : ℕ) → r ≡ reply.Published total → o ≡ q) → statement_of o a r ≡ statement_of q a r
same_statement o q a (reply.Published total) same = ap (λ (c : Option CutView). statement_of c a (reply.Published total)) (same total refl)
same_statement o q a r same = none_stated o a r refl ∙ sym (none_stated q a r refl)

-- the statement that an entry's text has where the cut at the place is this one
pub statement_is : (rounds : List CutView) (next : ℕ) (cut : CutView) (a : Act) (r : Reply) (number total : ℕ) (outcome : OutcomeView) → next < length rounds → cut ≡ get_or rounds next cut
    → r ≡ reply.Published total → a ≡ act.Publish number outcome → statement_bytes cut outcome ≡ statement_of (slice_get rounds next) a r
statement_is rounds next cut a r number total outcome lt is replied asked =
    sym (ap (λ (o : Option CutView). statement_of o a r) (slice_get_read rounds (length rounds) next cut refl lt is) ∙ ap₂ (λ (b : Act) (q : Reply). statement_of (Some cut) b q) asked replied)

-- there is a cut at the place of a published round
pub within_rounds : (rounds : List CutView) (next : ℕ) (a : Act) → IsPrintableAt rounds next a → next < length rounds
within_rounds rounds next a is = slice_get_within rounds next is.cut is.cut_is

-- the statement of this cut and this outcome can be written
pub printable_is : (rounds : List CutView) (next : ℕ) (cut : CutView) (a : Act) (number : ℕ) (outcome : OutcomeView) → (p : IsPrintableAt rounds next a) → cut ≡ get_or rounds next cut → a ≡ act.Publish number outcome → IsPrintable cut outcome
printable_is rounds next cut a number outcome p is asked =
    let found : Some cut ≡ Some p.cut = sym (slice_get_read rounds (length rounds) next cut refl (within_rounds rounds next a p) is) ∙ p.cut_is in
    let same_cut : p.cut ≡ cut = cc in
    let same_act : act.Publish p.number p.outcome ≡ act.Publish number outcome = sym p.asks ∙ asked in
    let same_outcome : p.outcome ≡ outcome = cc in
    subst (λ (c : CutView). IsPrintable c outcome) same_cut (subst (IsPrintable p.cut) same_outcome p.printable)
