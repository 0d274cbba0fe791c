-- Lines and their texts: a list of lines is that of its texts.
use Rattle.std.specs.Prelude.{ℤ, unsigned_abs, All}
use Rattle.std.proofs.Common.{◌≡◌, ℕ, ◌<◌, ◌≤◌, ◌^◌, true, List, [], ◌∷◌, ◌++◌, get_or, drop, map, refl, sym, ap, subst, ◌∙◌, arith, append_assoc}
use Rattle.std.specs.List.{AllByRecursion}
use Rattle.setoff_model.specs.declared.limits.TheConstants.{SUM_LIMIT, MOST_WINDOW}
use Rattle.setoff_model.specs.declared.kind.Kind.{Kind}
use Rattle.setoff_model.specs.declared.kind.Kind.TheVariants.{Plain, Funded}
use Rattle.setoff_model.specs.declared.name.Key.{Key}
use Rattle.setoff_model.specs.declared.cut.Party.{Party}
use Rattle.setoff_model.specs.declared.cut.CutClaim.{CutClaim}
use Rattle.setoff_model.specs.Names.{is_name}
use Rattle.setoff_model.specs.CutView.{CutView, OutcomeView, IsWindowOf, IsClaimAmong}
use Rattle.setoff_model.proofs.Spelling.{spelling_law}
use Rattle.text_lines.specs.Fields.{fields}
use Rattle.text_lines.proofs.Joining.{join_law}
use Rattle.text_lines.proofs.Spaces.{no_space_law}
use Rattle.std.proofs.lemmas.List.Elements.{All-head, All-tail}
use Rattle.statement_text.specs.declared.line.Line.{Line}
use Rattle.statement_text.specs.declared.line.Line.TheVariants as line
use Rattle.statement_text.specs.Lines.{line_fields, line_text, IsInRange}
use Rattle.statement_text.specs.Statements.{CanBeStated, front_of, party_lines, claim_lines, firm_at}
use Rattle.statement_text.proofs.Words.{cut_again}
use Rattle.statement_text.proofs.Places.{no_party, firm_is}

-- ---- a text is that of one line

abbrev party_of : List ℕ → ℕ → ℕ → Party
party_of firm spend room = record { firm = firm; spend = spend; room = room }

abbrev key_of : List ℕ → List ℕ → Key
key_of creditor invoice = record { creditor = creditor; invoice = invoice }

same_head : (r s : ℕ) (k l : Kind) → IsInRange (line.Head r k) → IsInRange (line.Head s l) → line_fields (line.Head r k) ≡ line_fields (line.Head s l) → line.Head r k ≡ line.Head s l
same_head r s k l h i e =
    let round : r ≡ s = spelling_law.whole r s (omega (arith, h.1)) (omega (arith, i.1)) (ap (λ (fs : List (List ℕ)). get_or fs 1 []) e) in
    let kind : k ≡ l = spelling_law.kinds k l (ap (λ (fs : List (List ℕ)). get_or fs 2 []) e) in
    cc

same_party : (f g : Party) (p q : ℤ) → IsInRange (line.Party f p) → IsInRange (line.Party g q) → line_fields (line.Party f p) ≡ line_fields (line.Party g q) → line.Party f p ≡ line.Party g q
same_party f g p q h i e =
    let firm : f.firm ≡ g.firm = ap (λ (fs : List (List ℕ)). get_or fs 1 []) e in
    let spend : f.spend ≡ g.spend = spelling_law.cents f.spend g.spend (omega (arith, h.1)) (omega (arith, i.1)) (ap (λ (fs : List (List ℕ)). get_or fs 2 []) e) in
    let room : f.room ≡ g.room = spelling_law.cents f.room g.room (omega (arith, h.2)) (omega (arith, i.2)) (ap (λ (fs : List (List ℕ)). get_or fs 3 []) e) in
    let price : p ≡ q = spelling_law.prices p q h.3 i.3 (ap (λ (fs : List (List ℕ)). get_or fs 4 []) e) in
    let party : f ≡ g = ap (λ (x : List ℕ). party_of x f.spend f.room) firm ∙ ap (λ (x : ℕ). party_of g.firm x f.room) spend ∙ ap (party_of g.firm g.spend) room in
    cc

same_claim : (k l : Key) (n m : List ℕ) (a b c d : ℕ) → IsInRange (line.Claim k n a c) → IsInRange (line.Claim l m b d) → line_fields (line.Claim k n a c) ≡ line_fields (line.Claim l m b d) → line.Claim k n a c ≡ line.Claim l m b d
same_claim k l n m a b c d h i e =
    let creditor : k.creditor ≡ l.creditor = ap (λ (fs : List (List ℕ)). get_or fs 1 []) e in
    let invoice : k.invoice ≡ l.invoice = ap (λ (fs : List (List ℕ)). get_or fs 2 []) e in
    let debtor : n ≡ m = ap (λ (fs : List (List ℕ)). get_or fs 3 []) e in
    let amount : a ≡ b = spelling_law.cents a b (omega (arith, h.4)) (omega (arith, i.4)) (ap (λ (fs : List (List ℕ)). get_or fs 4 []) e) in
    let discharge : c ≡ d = spelling_law.cents c d h.5 i.5 (ap (λ (fs : List (List ℕ)). get_or fs 5 []) e) in
    let key : k ≡ l = ap (λ (x : List ℕ). key_of x k.invoice) creditor ∙ ap (key_of l.creditor) invoice in
    cc

same_fields : (a b : Line) → IsInRange a → IsInRange b → line_fields a ≡ line_fields b → a ≡ b
same_fields (line.Head r k) (line.Head s l) h i e = same_head r s k l h i e
same_fields (line.Head r k) (line.Party g q) h i e = absurd cc
same_fields (line.Head r k) (line.Claim l m b d) h i e = absurd cc
same_fields (line.Head r k) line.End h i e = absurd cc
same_fields (line.Party f p) (line.Head s l) h i e = absurd cc
same_fields (line.Party f p) (line.Party g q) h i e = same_party f g p q h i e
same_fields (line.Party f p) (line.Claim l m b d) h i e = absurd cc
same_fields (line.Party f p) line.End h i e = absurd cc
same_fields (line.Claim k n a c) (line.Head s l) h i e = absurd cc
same_fields (line.Claim k n a c) (line.Party g q) h i e = absurd cc
same_fields (line.Claim k n a c) (line.Claim l m b d) h i e = same_claim k l n m a b c d h i e
same_fields (line.Claim k n a c) line.End h i e = absurd cc
same_fields line.End (line.Head s l) h i e = absurd cc
same_fields line.End (line.Party g q) h i e = absurd cc
same_fields line.End (line.Claim l m b d) h i e = absurd cc
same_fields line.End line.End h i e = refl

pub same_line : (a b : Line) → IsInRange a → IsInRange b → line_text a ≡ line_text b → a ≡ b
same_line a b h i e = same_fields a b h i (sym (cut_again join_law no_space_law a h) ∙ ap fields e ∙ cut_again join_law no_space_law b i)

-- ---- lines that begin with the texts of others begin with those

pub record Begins (front all : List Line) (later : List (List ℕ)) : Type 0 where
  pub rest : List Line
  pub whole : all ≡ front ++ rest
  pub spelled : later ≡ map line_text rest

pub begins : (front all : List Line) (later : List (List ℕ)) → AllByRecursion IsInRange front → AllByRecursion IsInRange all → map line_text all ≡ map line_text front ++ later → Begins front all later
begins [] all later h i e = record { rest = all; whole = refl; spelled = sym e }
begins (x ∷ front) [] later h i e = absurd cc
begins (x ∷ front) (y ∷ all) later h i e =
    let first : y ≡ x = same_line y x i.0 h.0 (ap (λ (ls : List (List ℕ)). get_or ls 0 []) e) in
    let tail = begins front all later h.1 i.1 (ap (drop 1) e) in
    record { rest = tail.rest; whole = let w : all ≡ front ++ tail.rest = tail.whole in cc; spelled = tail.spelled }

-- ---- each line of a statement is in its range

plain_or_funded : (kind : Kind) (f : Party) → IsWindowOf kind f → (f.spend ≤ MOST_WINDOW) × (f.room ≤ MOST_WINDOW)
plain_or_funded Plain f h = (omega (arith, h.0), omega (arith, h.1))
plain_or_funded Funded f h = h

parties_in_range : (kind : Kind) (fs : List Party) (ps : List ℤ) (rest : List Line) → All (λ f. is_name f.firm ≡ true) fs → All (IsWindowOf kind) fs → All (λ p. unsigned_abs p < 10 ^ 9) ps → AllByRecursion IsInRange rest
    → AllByRecursion IsInRange (party_lines fs ps ++ rest)
parties_in_range kind [] ps rest n w p h = h
parties_in_range kind (f ∷ fs) [] rest n w p h = h
parties_in_range kind (f ∷ fs) (price ∷ ps) rest n w p h =
    let window = plain_or_funded kind f (All-head (IsWindowOf kind) f fs w) in (
      (All-head (λ f. is_name f.firm ≡ true) f fs n, window.0, window.1, All-head (λ p. unsigned_abs p < 10 ^ 9) price ps p),
      parties_in_range kind fs ps rest (All-tail (λ f. is_name f.firm ≡ true) f fs n) (All-tail (IsWindowOf kind) f fs w) (All-tail (λ p. unsigned_abs p < 10 ^ 9) price ps p) h,
    )

creditor_named : (parties : List Party) (c : CutClaim) → All (λ f. is_name f.firm ≡ true) parties → IsClaimAmong parties c → is_name c.key.creditor ≡ true
creditor_named parties c n h = ap is_name (sym (h.named no_party)) ∙ n c.creditor no_party h.creditor

debtor_named : (parties : List Party) (c : CutClaim) → All (λ f. is_name f.firm ≡ true) parties → IsClaimAmong parties c → is_name (firm_at parties c.debtor) ≡ true
debtor_named parties c n h = ap is_name (firm_is parties c.debtor no_party h.debtor) ∙ n c.debtor no_party h.debtor

claims_in_range : (parties : List Party) (cs : List CutClaim) (ds : List ℕ) (rest : List Line) → All (λ f. is_name f.firm ≡ true) parties → All (IsClaimAmong parties) cs → All (λ c. is_name c.key.invoice ≡ true) cs
    → All (λ d. d < SUM_LIMIT) ds → AllByRecursion IsInRange rest → AllByRecursion IsInRange (claim_lines parties cs ds ++ rest)
claims_in_range parties [] ds rest n a i s h = h
claims_in_range parties (c ∷ cs) [] rest n a i s h = h
claims_in_range parties (c ∷ cs) (d ∷ ds) rest n a i s h =
    let among = All-head (IsClaimAmong parties) c cs a in (
      (creditor_named parties c n among, All-head (λ c. is_name c.key.invoice ≡ true) c cs i, debtor_named parties c n among, among.some, omega (arith, among.limit), All-head (λ d. d < SUM_LIMIT) d ds s),
      claims_in_range parties cs ds rest n (All-tail (IsClaimAmong parties) c cs a) (All-tail (λ c. is_name c.key.invoice ≡ true) c cs i) (All-tail (λ d. d < SUM_LIMIT) d ds s) h,
    )

pub statement_in_range : (cut : CutView) (outcome : OutcomeView) → CanBeStated cut outcome → AllByRecursion IsInRange (front_of cut outcome ++ line.End ∷ [])
statement_in_range cut outcome s =
    let claims = claims_in_range cut.parties cut.claims outcome.discharges (line.End ∷ []) s.firms s.well_formed.claims s.invoices s.discharges (tt, tt) in
    let parties = parties_in_range cut.kind cut.parties outcome.prices _ s.firms s.well_formed.windows s.prices claims in
    ((s.round_from, s.round_below), subst (AllByRecursion IsInRange) (sym (append_assoc (party_lines cut.parties outcome.prices) (claim_lines cut.parties cut.claims outcome.discharges) (line.End ∷ []))) parties)

of_first : (xs ys : List Line) → AllByRecursion IsInRange (xs ++ ys) → AllByRecursion IsInRange xs
of_first [] ys h = tt
of_first (x ∷ xs) ys h = (h.0, of_first xs ys h.1)

pub front_in_range : (cut : CutView) (outcome : OutcomeView) → CanBeStated cut outcome → AllByRecursion IsInRange (front_of cut outcome)
front_in_range cut outcome s = of_first (front_of cut outcome) (line.End ∷ []) (statement_in_range cut outcome s)
