-- A line and its fields.
use Rattle.std.specs.Prelude.{codes, ℤ, pos, negsuc, unsigned_abs, Option, Some, None, IfNone}
use Rattle.std.proofs.Common.{◌≡◌, ℕ, suc, ◌<◌, ◌≤◌, ◌^◌, List, [], ◌∷◌, get_or, refl, sym, ap, ◌∙◌, arith, decimal}
use Rattle.setoff_model.specs.declared.limits.TheConstants.{SUM_LIMIT, MOST_WINDOW}
use Rattle.setoff_model.specs.declared.kind.Kind.{Kind}
use Rattle.setoff_model.specs.declared.kind.Kind.TheVariants.{Plain, Funded}
use Rattle.setoff_model.specs.Texts.{cents_text, integer_text, kind_text}
use Rattle.setoff_model.proofs.Spelling.{spelling_law}
use Rattle.text_lines.specs.Fields.{fields, HasNoSpace, JoinLaw, NoSpaceLaw}
use Rattle.text_lines.proofs.Spaces.{known_no_space, append_no_space}
use Rattle.statement_text.specs.declared.line.Line.{Line}
use Rattle.statement_text.specs.declared.line.Line.TheVariants as line
use Rattle.statement_text.specs.Lines.{line_fields, line_text, IsInRange, AreNoFields, IsNoLine}

-- ---- one text is that of one value

pub same_number : (text : List ℕ) (a b : ℕ) → text ≡ decimal a → text ≡ decimal b → a < 2 ^ 64 → b < 2 ^ 32 → a ≡ b
same_number text a b e f la lb = spelling_law.whole a b la (omega arith) (sym e ∙ f)

pub same_cents : (text : List ℕ) (a b : ℕ) → text ≡ cents_text a → text ≡ cents_text b → a < SUM_LIMIT → b < SUM_LIMIT → a ≡ b
same_cents text a b e f la lb = spelling_law.cents a b la lb (sym e ∙ f)

-- ---- fields that are no line's

pub none : {A : Type 0} {P : Type 0} (r : Option A) → P → IfNone r P
none None h = h
none (Some x) h = tt

pub no_room : (firm spend room price : List ℕ) → ((c : ℕ) → c ≤ MOST_WINDOW → room ≡ cents_text c → ⊥) → AreNoFields (codes "PARTY" ∷ firm ∷ spend ∷ room ∷ price ∷ [])
no_room firm spend room price bad (line.Head round kind) r e = absurd cc
no_room firm spend room price bad (line.Party f p) r e = bad f.room r.2 (ap (λ (fs : List (List ℕ)). get_or fs 3 []) e)
no_room firm spend room price bad (line.Claim key debtor amount d) r e = absurd cc
no_room firm spend room price bad line.End r e = absurd cc

pub no_discharge : (creditor invoice debtor amount discharge : List ℕ) → ((c : ℕ) → c < SUM_LIMIT → discharge ≡ cents_text c → ⊥) → AreNoFields (codes "CLAIM" ∷ creditor ∷ invoice ∷ debtor ∷ amount ∷ discharge ∷ [])
no_discharge creditor invoice debtor amount discharge bad (line.Head round kind) r e = absurd cc
no_discharge creditor invoice debtor amount discharge bad (line.Party f p) r e = absurd cc
no_discharge creditor invoice debtor amount discharge bad (line.Claim key name cents d) r e = bad d r.5 (ap (λ (fs : List (List ℕ)). get_or fs 5 []) e)
no_discharge creditor invoice debtor amount discharge bad line.End r e = absurd cc

-- ---- the fields of a line have no space

kind_no_space : (kind : Kind) → HasNoSpace (kind_text kind)
kind_no_space Plain = known_no_space (codes "PLAIN") refl
kind_no_space Funded = known_no_space (codes "FUNDED") refl

price_no_space : NoSpaceLaw → (price : ℤ) → unsigned_abs price < 10 ^ 9 → HasNoSpace (integer_text price)
price_no_space law (pos n) h = law.whole n (omega arith)
price_no_space law (negsuc n) h = append_no_space (codes "-") (decimal (suc n)) (known_no_space (codes "-") refl) (law.whole (suc n) (omega arith))

-- a line is cut into its fields again
pub cut_again : JoinLaw → NoSpaceLaw → (l : Line) → IsInRange l → fields (line_text l) ≡ line_fields l
cut_again join law (line.Head round kind) h = join.cut (codes "ROUND") _ (known_no_space (codes "ROUND") refl) (law.whole round (omega (arith, h.1)), (kind_no_space kind, tt))
cut_again join law (line.Party f price) h = join.cut (codes "PARTY") _ (known_no_space (codes "PARTY") refl) (law.names f.firm h.0, (law.cents f.spend (omega (arith, h.1)), (law.cents f.room (omega (arith, h.2)), (price_no_space law price h.3, tt))))
cut_again join law (line.Claim key debtor amount d) h = join.cut (codes "CLAIM") _ (known_no_space (codes "CLAIM") refl) (law.names key.creditor h.0, (law.names key.invoice h.1, (law.names debtor h.2, (law.cents amount (omega (arith, h.4)), (law.cents d h.5, tt)))))
cut_again join law line.End h = join.cut (codes "END") [] (known_no_space (codes "END") refl) tt

pub no_line : JoinLaw → NoSpaceLaw → (text : List ℕ) (parts : List (List ℕ)) (r : Option Line) → parts ≡ fields text → IfNone r (AreNoFields parts) → IfNone r (IsNoLine text)
no_line join law text parts None e h = λ l range same. h l range (e ∙ ap fields same ∙ cut_again join law l range)
no_line join law text parts (Some l) e h = tt
