-- Texts that go on from those of a draft, and those that do not.
use Rattle.std.specs.Prelude.{Result, Ok, Err, IfOk, IfErr, Option, Some, None, IfSome, IfNone}
use Rattle.std.proofs.lemmas.List.Elements.{All-nil}
use Rattle.std.proofs.Common.{◌≡◌, ℕ, ◌+◌, List, [], ◌∷◌, ◌++◌, length, get_or, drop, map, refl, sym, ap, subst, ◌∙◌, arith, append_assoc, length-append, inl, inr}
use Rattle.std.specs.List.{AllByRecursion}
use Rattle.std.proofs.lemmas.List.{append-nil, length-map, map-append}
use Rattle.setoff_model.specs.declared.kind.Kind.{Kind}
use Rattle.setoff_model.specs.declared.kind.Kind.TheVariants.{Plain}
use Rattle.setoff_model.specs.CutView.{CutView, OutcomeView}
use Rattle.statement_text.specs.declared.line.Line.{Line}
use Rattle.statement_text.specs.declared.line.Line.TheVariants as line
use Rattle.statement_text.specs.declared.error.StatementError.{StatementError}
use Rattle.statement_text.specs.declared.error.StatementError.TheVariants as errors
use Rattle.statement_text.specs.declared.reading.Step.{Step}
use Rattle.statement_text.specs.declared.reading.Step.TheVariants as step
use Rattle.statement_text.specs.Lines.{line_text, IsInRange, IsLine, IsNoLine}
use Rattle.statement_text.specs.Statements.{CanBeStated, IsStatement, IsNoStatement, IsFront, IsNoFront, IsBadLine, IsFirstBadLine, OnBadLine, front_of}
use Rattle.statement_text.specs.Drafts.{Drafted, lines_of, texts_of, begun, IsNoNext}
use Rattle.statement_text.specs.Steps.{IsTaken, IsStep}
use Rattle.statement_text.proofs.Lines.{same_line, Begins, begins, statement_in_range, front_in_range}
use Rattle.statement_text.proofs.Next.{end_last, no_end}

-- ---- a text that is no next line

of_middle : (xs : List Line) (y : Line) (ys : List Line) → AllByRecursion IsInRange (xs ++ y ∷ ys) → IsInRange y
of_middle [] y ys h = h.0
of_middle (x ∷ xs) y ys h = of_middle xs y ys h.1

-- the lines of a statement that begins with the texts of a draft
begun_by : (d : Drafted) (later : List (List ℕ)) (cut : CutView) (outcome : OutcomeView) → CanBeStated d.cut d.outcome → IsStatement (texts_of d ++ later) cut outcome → Begins (lines_of d) (front_of cut outcome ++ line.End ∷ []) later
begun_by d later cut outcome ds st =
    begins (lines_of d) (front_of cut outcome ++ line.End ∷ []) later (front_in_range d.cut d.outcome ds) (statement_in_range cut outcome st.stated) (sym st.spelled)

-- the line of a text after those of a draft
record Follows (d : Drafted) (text : List ℕ) (cut : CutView) (outcome : OutcomeView) : Type 0 where
  next : Line
  later : List Line
  in_range : IsInRange next
  text_is : text ≡ line_text next
  whole : front_of cut outcome ++ line.End ∷ [] ≡ lines_of d ++ next ∷ later

follows : (d : Drafted) (text : List ℕ) (later : List (List ℕ)) (rest : List Line) (cut : CutView) (outcome : OutcomeView) → CanBeStated cut outcome → front_of cut outcome ++ line.End ∷ [] ≡ lines_of d ++ rest → text ∷ later ≡ map line_text rest → Follows d text cut outcome
follows d text later [] cut outcome s e t = absurd cc
follows d text later (l ∷ rest) cut outcome s e t = record {
  next = l;
  later = rest;
  in_range = of_middle (lines_of d) l rest (subst (AllByRecursion IsInRange) e (statement_in_range cut outcome s));
  text_is = ap (λ (ls : List (List ℕ)). get_or ls 0 []) t;
  whole = e;
}

followed : (d : Drafted) (text : List ℕ) (later : List (List ℕ)) (cut : CutView) (outcome : OutcomeView) → CanBeStated d.cut d.outcome → IsStatement ((texts_of d ++ text ∷ []) ++ later) cut outcome → Follows d text cut outcome
followed d text later cut outcome ds st =
    let b = begun_by d (text ∷ later) cut outcome ds (record { stated = st.stated; spelled = sym (append_assoc (texts_of d) (text ∷ []) later) ∙ st.spelled }) in
    follows d text later b.rest cut outcome st.stated b.whole b.spelled

pub no_line_next : (d : Drafted) (text : List ℕ) → CanBeStated d.cut d.outcome → IsNoLine text → IsNoFront (texts_of d ++ text ∷ [])
no_line_next d text ds bad later cut outcome st = let f = followed d text later cut outcome ds st in bad f.next f.in_range f.text_is

pub no_next : (d : Drafted) (text : List ℕ) (l : Line) → CanBeStated d.cut d.outcome → IsLine text l → IsNoNext d l → IsNoFront (texts_of d ++ text ∷ [])
no_next d text l ds is bad later cut outcome st =
    let f = followed d text later cut outcome ds st in
    let same : f.next ≡ l = same_line f.next l f.in_range is.0 (sym f.text_is ∙ is.1) in
    bad f.later cut outcome st.stated (f.whole ∙ ap (λ (n : Line). lines_of d ++ n ∷ f.later) same)

-- ---- the first line

pub no_head : (text : List ℕ) → ((round : ℕ) (kind : Kind) → IsInRange (line.Head round kind) → text ≡ line_text (line.Head round kind) → ⊥) → IsNoFront (text ∷ [])
no_head text bad later cut outcome st = bad cut.round cut.kind (st.stated.round_from, st.stated.round_below) (ap (λ (ls : List (List ℕ)). get_or ls 0 []) st.spelled)

-- ---- what a draft says is a statement

pub ends : (d : Drafted) → CanBeStated d.cut d.outcome → IsStatement (texts_of d ++ line_text line.End ∷ []) d.cut d.outcome
ends d ds = record { stated = ds; spelled = sym (map-append line_text (lines_of d) (line.End ∷ [])) }

pub is_front : (d : Drafted) → CanBeStated d.cut d.outcome → IsFront (texts_of d)
is_front d ds = record { later = line_text line.End ∷ []; cut = d.cut; outcome = d.outcome; whole = ends d ds }

-- a statement is a front
pub whole_front : (ls : List (List ℕ)) (cut : CutView) (outcome : OutcomeView) → IsStatement ls cut outcome → IsFront ls
whole_front ls cut outcome st = record { later = []; cut = cut; outcome = outcome; whole = record { stated = st.stated; spelled = append-nil ls ∙ st.spelled } }

-- and no line follows its END
pub no_after : (d : Drafted) (text : List ℕ) → CanBeStated d.cut d.outcome → IsNoFront ((texts_of d ++ line_text line.End ∷ []) ++ text ∷ [])
no_after d text ds later cut outcome st =
    let spelled = sym (append_assoc (texts_of d ++ line_text line.End ∷ []) (text ∷ []) later) ∙ st.spelled in
    let f = followed d (line_text line.End) (text ∷ later) cut outcome ds (record { stated = st.stated; spelled = spelled }) in
    let b = begun_by d (line_text line.End ∷ text ∷ later) cut outcome ds (record { stated = st.stated; spelled = sym (append_assoc (texts_of d) (line_text line.End ∷ []) (text ∷ later)) ∙ spelled }) in
    after d text later b.rest cut outcome ds st.stated b.whole b.spelled
  where
    after : (d : Drafted) (text : List ℕ) (later : List (List ℕ)) (rest : List Line) (cut : CutView) (outcome : OutcomeView) → CanBeStated d.cut d.outcome → CanBeStated cut outcome
        → front_of cut outcome ++ line.End ∷ [] ≡ lines_of d ++ rest → line_text line.End ∷ text ∷ later ≡ map line_text rest → ⊥
    after d text later [] cut outcome ds s e t = cc
    after d text later (l ∷ rest) cut outcome ds s e t =
        let range = of_middle (lines_of d) l rest (subst (AllByRecursion IsInRange) e (statement_in_range cut outcome s)) in
        let same : l ≡ line.End = same_line l line.End range tt (sym (ap (λ (ls : List (List ℕ)). get_or ls 0 []) t)) in
        let none : rest ≡ [] = end_last d rest cut outcome ds s (e ∙ ap (λ (n : Line). lines_of d ++ n ∷ rest) same) in
        let more : text ∷ later ≡ [] = ap (drop 1) t ∙ ap (map line_text) none in
        cc

-- the texts of a draft are no statement
pub not_ended : (d : Drafted) → CanBeStated d.cut d.outcome → IsNoStatement (texts_of d)
not_ended d ds cut outcome st =
    let b = begun_by d [] cut outcome ds (record { stated = st.stated; spelled = append-nil (texts_of d) ∙ st.spelled }) in
    early d b.rest cut outcome ds st.stated b.whole b.spelled
  where
    early : (d : Drafted) (rest : List Line) (cut : CutView) (outcome : OutcomeView) → CanBeStated d.cut d.outcome → CanBeStated cut outcome → front_of cut outcome ++ line.End ∷ [] ≡ lines_of d ++ rest → [] ≡ map line_text rest → ⊥
    early d [] cut outcome ds s e t = no_end d cut outcome ds s e
    early d (l ∷ rest) cut outcome ds s e t = cc

-- ---- steps

pub taken : (d : Drafted) (text : List ℕ) (l : Line) (r : Result Step StatementError) → IsLine text l → IfOk r (IsTaken d l) → IfOk r (IsStep d text)
taken d text l (Ok (step.More e)) is h = (h.stated, ap (map line_text) h.lines_are ∙ map-append line_text (lines_of d) (l ∷ []) ∙ ap (λ (t : List ℕ). texts_of d ++ t ∷ []) (sym is.1))
taken d text l (Ok (step.Last e)) is h = (h.0, is.1 ∙ ap line_text h.1)
taken d text l (Err e) is h = tt

pub refused : (d : Drafted) (text : List ℕ) (l : Line) (number : ℕ) (r : Result Step StatementError) → CanBeStated d.cut d.outcome → IsLine text l → IfErr r (OnBadLine (λ n. (n ≡ number) × IsNoNext d l))
    → IfErr r (OnBadLine (λ n. (n ≡ number) × IsNoFront (texts_of d ++ text ∷ [])))
refused d text l number (Ok s) ds is h = tt
refused d text l number (Err errors.Memory) ds is h = tt
refused d text l number (Err (errors.BadLine n cause)) ds is h = (h.0, no_next d text l ds is h.1)

pub no_line_first : (text : List ℕ) → IsNoLine text → IsNoFront (text ∷ [])
no_line_first text bad = no_head text (λ round kind range e. bad (line.Head round kind) range e)

-- ---- what is known in a branch

pub from_some : {A : Type 0} (P : A → Type 0) (r : Option A) (x : A) → r ≡ Some x → IfSome r P → P x
from_some P None x e h = absurd cc
from_some P (Some y) x e h = let same : y ≡ x = cc in subst P same h

pub from_none : {A : Type 0} (P : Type 0) (r : Option A) → r ≡ None → IfNone r P → P
from_none P None e h = h
from_none P (Some y) e h = absurd cc

-- ---- the lines of an input

-- the lines before a rest are those of a draft
pub record ReadUpTo (ls : List (List ℕ)) (d : Drafted) (rest : List (List ℕ)) (number : ℕ) : Type 0 where
  pub stated : CanBeStated d.cut d.outcome
  pub read : ls ≡ texts_of d ++ rest
  pub numbered : number ≡ length (lines_of d) + 1

pub texts_long : (d : Drafted) → length (texts_of d) ≡ length (lines_of d)
texts_long d = length-map (lines_of d) line_text

pub finish_found : (ls : List (List ℕ)) (d whole : Drafted) (this : List ℕ) (after : List (List ℕ)) (number : ℕ) (r : Result (CutView × OutcomeView) StatementError) → ReadUpTo ls d (this ∷ after) number → whole ≡ d → this ≡ line_text line.End
    → IfOk r (λ read. (read.0 ≡ whole.cut) × (read.1 ≡ whole.outcome) × (after ≡ [])) → IfOk r (λ read. IsStatement ls read.0 read.1)
finish_found ls d whole this after number (Ok read) so_far same last h =
    let cut : read.0 ≡ d.cut = h.0 ∙ ap (λ (w : Drafted). w.cut) same in
    let outcome : read.1 ≡ d.outcome = h.1 ∙ ap (λ (w : Drafted). w.outcome) same in
    let lines_are : ls ≡ texts_of d ++ line_text line.End ∷ [] = so_far.read ∙ ap (λ (t : List ℕ). texts_of d ++ t ∷ after) last ∙ ap (λ (ts : List (List ℕ)). texts_of d ++ line_text line.End ∷ ts) h.2 in
    let whole_is : IsStatement ls d.cut d.outcome = subst (λ (ts : List (List ℕ)). IsStatement ts d.cut d.outcome) (sym lines_are) (ends d so_far.stated) in
    subst (λ c. IsStatement ls c read.1) (sym cut) (subst (IsStatement ls d.cut) (sym outcome) whole_is)
finish_found ls d whole this after number (Err e) so_far same last h = tt

abbrev pub IsNotEmpty : List (List ℕ) → Type 0
IsNotEmpty ls = (text : List ℕ) × (others : List (List ℕ)) × (ls ≡ text ∷ others)

after_end : (ls : List (List ℕ)) (d : Drafted) (this text : List ℕ) (others : List (List ℕ)) (number n : ℕ) → ReadUpTo ls d (this ∷ text ∷ others) number → this ≡ line_text line.End → n ≡ number + 1 → IsBadLine ls n
after_end ls d this text others number n so_far last e =
    let front : IsFront (texts_of d ++ this ∷ []) = subst (λ (t : List ℕ). IsFront (texts_of d ++ t ∷ [])) (sym last) (whole_front _ d.cut d.outcome (ends d so_far.stated)) in
    let bad : IsNoFront ((texts_of d ++ this ∷ []) ++ text ∷ []) = subst (λ (t : List ℕ). IsNoFront ((texts_of d ++ t ∷ []) ++ text ∷ [])) (sym last) (no_after d text so_far.stated) in
    record {
      before = texts_of d ++ this ∷ [];
      line = text;
      after = others;
      cut = so_far.read ∙ sym (append_assoc (texts_of d) (this ∷ []) (text ∷ others));
      number_is = omega (arith, so_far.numbered, texts_long d, length-append (texts_of d) (this ∷ []));
      front = front;
      bad = bad;
    }

pub finish_bad : (ls : List (List ℕ)) (d : Drafted) (this : List ℕ) (after : List (List ℕ)) (number next : ℕ) (r : Result (CutView × OutcomeView) StatementError) → ReadUpTo ls d (this ∷ after) number → this ≡ line_text line.End → next ≡ number + 1
    → IfErr r (OnBadLine (λ n. (n ≡ next) × IsNotEmpty after)) → IfErr r (OnBadLine (IsFirstBadLine ls))
finish_bad ls d this after number next (Ok read) so_far last e h = tt
finish_bad ls d this after number next (Err errors.Memory) so_far last e h = tt
finish_bad ls d this after number next (Err (errors.BadLine n cause)) so_far last e h =
    let some = h.1 in
    let up : ReadUpTo ls d (this ∷ some.0 ∷ some.1) number = subst (λ (ts : List (List ℕ)). ReadUpTo ls d (this ∷ ts) number) some.2 so_far in
    inl (after_end ls d this some.0 some.1 number n up last (h.0 ∙ e))

pub line_bad : (ls : List (List ℕ)) (d : Drafted) (this : List ℕ) (after : List (List ℕ)) (number : ℕ) (e : StatementError) → ReadUpTo ls d (this ∷ after) number → OnBadLine (λ n. (n ≡ number) × IsNoFront (texts_of d ++ this ∷ [])) e → OnBadLine (IsFirstBadLine ls) e
line_bad ls d this after number errors.Memory so_far h = tt
line_bad ls d this after number (errors.BadLine n cause) so_far h = inl (record {
  before = texts_of d;
  line = this;
  after = after;
  cut = so_far.read;
  number_is = omega (arith, so_far.numbered, texts_long d, h.0);
  front = is_front d so_far.stated;
  bad = h.1;
})

pub ends_early : (ls : List (List ℕ)) (d : Drafted) (rest : List (List ℕ)) (number : ℕ) → ReadUpTo ls d rest number → rest ≡ [] → IsFirstBadLine ls number
ends_early ls d rest number so_far e =
    let lines_are : ls ≡ texts_of d = so_far.read ∙ ap (λ (ts : List (List ℕ)). texts_of d ++ ts) e ∙ append-nil (texts_of d) in
    inr (record {
      number_is = omega (arith, so_far.numbered, texts_long d, ap length lines_are);
      front = subst IsFront (sym lines_are) (is_front d so_far.stated);
      bad = subst IsNoStatement (sym lines_are) (not_ended d so_far.stated);
    })

pub one_more : (ls : List (List ℕ)) (d e : Drafted) (this : List ℕ) (after : List (List ℕ)) (number next : ℕ) → ReadUpTo ls d (this ∷ after) number → CanBeStated e.cut e.outcome → texts_of e ≡ texts_of d ++ this ∷ [] → next ≡ number + 1 → ReadUpTo ls e after next
one_more ls d e this after number next so_far stated texts count = record {
  stated = stated;
  read = so_far.read ∙ sym (append_assoc (texts_of d) (this ∷ []) after) ∙ ap (λ (ts : List (List ℕ)). ts ++ after) (sym texts);
  numbered = omega (arith, so_far.numbered, count, ap length texts, texts_long d, texts_long e, length-append (texts_of d) (this ∷ []));
}

-- ---- the whole input

begun_stated : CanBeStated (begun 1 Plain).cut (begun 1 Plain).outcome
begun_stated = record {
  well_formed = record {
    few_parties = omega arith;
    few_claims = omega arith;
    firms = λ i j d lt within. absurd (omega arith);
    keys = λ i j d lt within. absurd (omega arith);
    claims = All-nil _;
    windows = All-nil _;
  };
  round_from = omega arith;
  round_below = omega arith;
  firms = All-nil _;
  invoices = All-nil _;
  price_each = refl;
  discharge_each = refl;
  prices = All-nil _;
  discharges = All-nil _;
}

-- some statement begins with no lines
empty_front : IsFront []
empty_front =
    let d = begun 1 Plain in
    record { later = texts_of d ++ line_text line.End ∷ []; cut = d.cut; outcome = d.outcome; whole = ends d begun_stated }

pub none_from_bad : (ls : List (List ℕ)) (n : ℕ) → IsFirstBadLine ls n → IsNoStatement ls
none_from_bad ls n (inl b) cut outcome st =
    b.bad b.after cut outcome (subst (λ (ts : List (List ℕ)). IsStatement ts cut outcome) (b.cut ∙ sym (append_assoc b.before (b.line ∷ []) b.after)) st)
none_from_bad ls n (inr b) cut outcome st = b.bad cut outcome st

abbrev pub IsBad : List (List ℕ) → StatementError → Type 0
IsBad ls e = OnBadLine (λ n. IsFirstBadLine ls n × IsNoStatement ls) e

pub empty_bad : (ls : List (List ℕ)) → ls ≡ [] → IsFirstBadLine ls 1 × IsNoStatement ls
empty_bad ls e =
    let bad : IsNoStatement [] = λ cut outcome st. absurd (let h = st.spelled in cc) in
    let none = subst IsNoStatement (sym e) bad in
    (inr (record { number_is = omega (arith, ap length e); front = subst IsFront (sym e) empty_front; bad = none }), none)

pub first_bad : (ls : List (List ℕ)) (this : List ℕ) (after : List (List ℕ)) (e : StatementError) → ls ≡ this ∷ after → OnBadLine (λ n. (n ≡ 1) × IsNoFront (this ∷ [])) e → IsBad ls e
first_bad ls this after errors.Memory cut h = tt
first_bad ls this after (errors.BadLine n cause) cut h =
    let b : IsFirstBadLine ls n = inl (record { before = []; line = this; after = after; cut = cut; number_is = h.0; front = empty_front; bad = h.1 }) in
    (b, none_from_bad ls n b)

pub rest_bad : (ls others : List (List ℕ)) (r : Result (CutView × OutcomeView) StatementError) → others ≡ ls → IfErr r (OnBadLine (IsFirstBadLine others)) → IfErr r (IsBad ls)
rest_bad ls others (Ok read) e h = tt
rest_bad ls others (Err errors.Memory) e h = tt
rest_bad ls others (Err (errors.BadLine n cause)) e h = let b = subst (λ (ts : List (List ℕ)). IsFirstBadLine ts n) e h in (b, none_from_bad ls n b)
