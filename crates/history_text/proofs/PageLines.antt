-- Pages, claim by claim and party by party.
use Rattle.std.specs.Prelude.{slice_get, slice_index, Option, Some, count_by, ℤ, if◌then◌else◌, ◌==◌, ◌||◌}
use Rattle.std.proofs.Common.{◌≡◌, ◌≢◌, ℕ, zero, suc, ◌+◌, ◌-◌, ◌*◌, ◌<◌, ◌≤◌, Bool, true, false, cond, List, [], ◌∷◌, ◌++◌, length, get_or, drop, All, refl, sym, ◌∙◌, ap, ap₂, true≢false, add-one, inl, inr, arith}
use Rattle.std.proofs.lemmas.Bool.{cases_eq, eq-eqb, ne_eqb}
use Rattle.std.proofs.lemmas.List.{drop_all, drop_more, get_or-map}
use Rattle.std.proofs.lemmas.List.Elements.{All-head, All-tail}
use Rattle.std.proofs.lemmas.Option.{slice_get_read}
use Rattle.std.proofs.lemmas.List.Sums.{sum_by-append}
use Rattle.setoff_model.specs.declared.cut.Party.{Party}
use Rattle.setoff_model.specs.declared.cut.CutClaim.{CutClaim}
use Rattle.setoff_model.specs.CutView.{CutView, IsClaimAmong, OutcomeView, WellFormed, creditors, debtors, obligations}
use Rattle.setoff_model.specs.Setoff.{flow_at}
use Rattle.setoff_model.specs.Sums.{sum_below}
use Rattle.setoff_model.proofs.Circulation.{sum_below-add, sum_below-none, sum_below-same, sum_below-zero}
use Rattle.setoff_model.proofs.Columns.{claims_long, creditor_in, debtor_in, no_claim}
use Rattle.setoff_model.proofs.Sums.{all_flow, choose_no, choose_yes, sum_below-only, sum_below-split}
use Rattle.claim_history.specs.declared.act.Act.{Act}
use Rattle.claim_history.specs.declared.act.Act.TheVariants as act
use Rattle.claim_history.specs.declared.entry.Reply.{Reply}
use Rattle.claim_history.specs.declared.entry.Reply.TheVariants as reply
use Rattle.printed_text.specs.statement_text.specs.declared.line.Line.{Line}
use Rattle.printed_text.specs.statement_text.specs.Statements.{claim_line, claim_lines}
use Rattle.printed_text.specs.Printing.{line_bytes, lines_bytes}
use Rattle.history_text.specs.Lists.{IsNext, names_at}
use Rattle.history_text.specs.Pages.{PagesLaw, names, page_claims, page_text, pages_from, pages_of, pages_text, pages_with}

-- ---- the lines of the claims that name a party

-- the claim at a place, by the columns of its parties
pub names_there : (cut : CutView) (party c : ℕ) → c < length cut.claims → names_at (obligations cut) party c ≡ names party (get_or cut.claims c no_claim)
names_there cut party c lt =
    ap₂ (λ (a b : ℕ). (a == party) || (b == party)) (get_or-map (λ (x : CutClaim). x.creditor) cut.claims c no_claim 0 lt) (get_or-map (λ (x : CutClaim). x.debtor) cut.claims c no_claim 0 lt)

module _ (cut : CutView) (discharges : List ℕ) (party : ℕ) (each : length discharges ≡ length cut.claims) where
  -- those from a place on
  abbrev pub named_from : ℕ → List ℕ
  named_from place = lines_bytes (page_claims cut.parties party (drop place cut.claims) (drop place discharges))

  abbrev with_line : ℕ → Bool → List ℕ
  with_line place b = lines_bytes ((if b then claim_line cut.parties (get_or cut.claims place no_claim) (get_or discharges place 0) ∷ [] else []) ++ page_claims cut.parties party (drop (place + 1) cut.claims) (drop (place + 1) discharges))

  named_step : (place : ℕ) → place < length cut.claims → named_from place ≡ with_line place (names party (get_or cut.claims place no_claim))
  named_step place lt =
      ap₂ (λ (cs : List CutClaim) (ds : List ℕ). lines_bytes (page_claims cut.parties party cs ds)) (drop_more cut.claims place no_claim lt) (drop_more discharges place 0 (omega (arith, each, lt)))

  pub named_here : (place : ℕ) → place < length cut.claims → names_at (obligations cut) party place ≡ true
      → named_from place ≡ line_bytes (claim_line cut.parties (get_or cut.claims place no_claim) (get_or discharges place 0)) ++ named_from (place + 1)
  named_here place lt named = named_step place lt ∙ ap (with_line place) (sym (names_there cut party place lt) ∙ named)

  named_past : (place : ℕ) → place < length cut.claims → names_at (obligations cut) party place ≡ false → named_from place ≡ named_from (place + 1)
  named_past place lt unnamed = named_step place lt ∙ ap (with_line place) (sym (names_there cut party place lt) ∙ unnamed)

  named_skip : (n place : ℕ) → place + n ≤ length cut.claims → ((c : ℕ) → place ≤ c → c < place + n → names_at (obligations cut) party c ≡ false) → named_from place ≡ named_from (place + n)
  named_skip zero place le none = let same : place ≡ place + 0 = omega arith in ap (λ (k : ℕ). named_from k) same
  named_skip (suc n) place le none =
      let same : place + n + 1 ≡ place + suc n = omega arith in
      named_skip n place (omega (arith, le)) (λ c from before. none c from (omega (arith, before)))
      ∙ named_past (place + n) (omega (arith, le)) (none (place + n) (omega arith) (omega arith))
      ∙ ap (λ (k : ℕ). named_from k) same

  -- up to the next claim there is none
  pub named_next : (from place : ℕ) → IsNext (obligations cut) party from place → named_from from ≡ named_from place
  named_next from place next =
      let n = place - from in
      let there : from + n ≡ place = omega (arith, next.low) in
      named_skip n from (omega (arith, there, next.high, claims_long cut)) (λ c low before. next.none c low (omega (arith, there, before)))
      ∙ ap (λ (k : ℕ). named_from k) there

-- behind the last there is none
pub named_ends : (cut : CutView) (discharges : List ℕ) (party place : ℕ) → length cut.claims ≤ place → lines_bytes (page_claims cut.parties party (drop place cut.claims) (drop place discharges)) ≡ []
named_ends cut discharges party place past = ap (λ (cs : List CutClaim). lines_bytes (page_claims cut.parties party cs (drop place discharges))) (drop_all place cut.claims past)

-- ---- what is discharged towards a party, or by it

left_no : (a b : Bool) → (a || b) ≡ false → a ≡ false
left_no true b e = absurd (true≢false e)
left_no false b e = refl

right_no : (a b : Bool) → (a || b) ≡ false → b ≡ false
right_no true b e = absurd (true≢false e)
right_no false b e = e

flow_step : (place : ℕ) (places d : List ℕ) (f : ℕ) → flow_at (place + 1) places d f ≡ flow_at place places d f + (if slice_index places place == f then slice_index d place else 0)
flow_step place places d f = ap (λ (n : ℕ). flow_at n places d f) (add-one place)

pub flow_own : (place : ℕ) (places d : List ℕ) (f : ℕ) → slice_index places place ≡ f → flow_at (place + 1) places d f ≡ flow_at place places d f + slice_index d place
flow_own place places d f own = flow_step place places d f ∙ ap (λ (x : ℕ). flow_at place places d f + x) (choose_yes (slice_index places place) f (slice_index d place) own)

pub flow_other : (place : ℕ) (places d : List ℕ) (f : ℕ) → slice_index places place ≢ f → flow_at (place + 1) places d f ≡ flow_at place places d f
flow_other place places d f other = omega (arith, flow_step place places d f, choose_no (slice_index places place) f (slice_index d place) other)

flow_skip : (m n : ℕ) (places d : List ℕ) (f : ℕ) → ((c : ℕ) → m ≤ c → c < m + n → (slice_index places c == f) ≡ false) → flow_at m places d f ≡ flow_at (m + n) places d f
flow_skip m n places d f none =
    let g : ℕ → ℕ = λ c. if slice_index places c == f then slice_index d c else 0 in
    let nothing = sum_below-none n (λ k. g (m + k)) (λ k lt. ap (λ (b : Bool). if b then slice_index d (m + k) else 0) (none (m + k) (omega arith) (omega (arith, lt)))) in
    omega (arith, sum_below-split m n g, nothing)

module _ (cut : CutView) (discharges : List ℕ) (party from place : ℕ) (next : IsNext (obligations cut) party from place) where
  there : from + (place - from) ≡ place
  there = omega (arith, next.low)

  pub received_next : flow_at from (creditors cut.claims) discharges party ≡ flow_at place (creditors cut.claims) discharges party
  received_next =
      flow_skip from (place - from) (creditors cut.claims) discharges party (λ c low before. left_no _ _ (next.none c low (omega (arith, there, before))))
      ∙ ap (λ (n : ℕ). flow_at n (creditors cut.claims) discharges party) there

  pub paid_next : flow_at from (debtors cut.claims) discharges party ≡ flow_at place (debtors cut.claims) discharges party
  paid_next =
      flow_skip from (place - from) (debtors cut.claims) discharges party (λ c low before. right_no _ _ (next.none c low (omega (arith, there, before))))
      ∙ ap (λ (n : ℕ). flow_at n (debtors cut.claims) discharges party) there

-- ---- the pages of parties

pub pages_step : (cut : CutView) (discharges : List ℕ) (parties : List Party) (prices : List ℤ) (i : ℕ) (party : Party) (price : ℤ) → i < length parties → i < length prices
    → pages_from cut discharges i (drop i parties) (drop i prices) ≡ page_text cut discharges i (get_or parties i party) (get_or prices i price) ++ pages_from cut discharges (i + 1) (drop (i + 1) parties) (drop (i + 1) prices)
pages_step cut discharges parties prices i party price lf lp =
    ap₂ (λ (fs : List Party) (ps : List ℤ). pages_from cut discharges i fs ps) (drop_more parties i party lf) (drop_more prices i price lp)

pub pages_end : (cut : CutView) (discharges : List ℕ) (parties : List Party) (prices : List ℤ) (i : ℕ) → length parties ≤ i → pages_from cut discharges i (drop i parties) (drop i prices) ≡ []
pages_end cut discharges parties prices i past = ap (λ (fs : List Party). pages_from cut discharges i fs (drop i prices)) (drop_all i parties past)

-- those of an entry that publishes the round of the cut at a place
pub pages_are : (rounds : List CutView) (next : ℕ) (cut : CutView) (a : Act) (r : Reply) (number total : ℕ) (outcome : OutcomeView) → next < length rounds → cut ≡ get_or rounds next cut
    → r ≡ reply.Published total → a ≡ act.Publish number outcome → pages_text cut outcome ≡ pages_of (slice_get rounds next) a r
pages_are rounds next cut a r number total outcome lt is replied asked =
    sym (ap (λ (o : Option CutView). pages_of o a r) (slice_get_read rounds (length rounds) next cut refl lt is) ∙ ap₂ (λ (b : Act) (q : Reply). pages_of (Some cut) b q) asked replied)

-- ---- what holds of pages

-- a number that counts at two places counts twice
at_either : (a b p w : ℕ) → a ≢ b → (if (a == p) || (b == p) then w else 0) ≡ (if a == p then w else 0) + (if b == p then w else 0)
at_either a b p w apart =
    elim (cases_eq a p) as (λ _. (if (a == p) || (b == p) then w else 0) ≡ (if a == p then w else 0) + (if b == p then w else 0)) [
      | inl here ↦
          let other : b ≢ p = λ e. apart (here ∙ sym e) in
          let no = choose_no b p w other in
          let yes = choose_yes a p w here in
          let both : (if (a == p) || (b == p) then w else 0) ≡ w = ap (λ (x : Bool). if x || (b == p) then w else 0) (eq-eqb a p here) in
          omega (arith, no, yes, both)
      | inr ne ↦
          let no = choose_no a p w ne in
          let rest : (if (a == p) || (b == p) then w else 0) ≡ (if b == p then w else 0) = ap (λ (x : Bool). if x || (b == p) then w else 0) (ne_eqb a p ne) in
          omega (arith, no, rest)
    ]

counted_once : (n a w : ℕ) → a < n → sum_below n (λ p. if a == p then w else 0) ≡ w
counted_once n a w within =
    sum_below-only n a (λ p. if a == p then w else 0) within (λ k lt ne. choose_no a k w (λ e. ne (sym e))) ∙ choose_yes a a w refl

counted_twice : (n a b w : ℕ) → a ≢ b → a < n → b < n → sum_below n (λ p. if (a == p) || (b == p) then w else 0) ≡ w + w
counted_twice n a b w apart a_in b_in =
    let parts = sum_below-same n (λ p. if (a == p) || (b == p) then w else 0) (λ p. (if a == p then w else 0) + (if b == p then w else 0)) (λ p lt. at_either a b p w apart) in
    let split = sum_below-add n (λ p. if a == p then w else 0) (λ p. if b == p then w else 0) in
    omega (arith, parts, split, counted_once n a w a_in, counted_once n b w b_in)

two_pages : (cut : CutView) → WellFormed cut → All (λ c. pages_with cut c ≡ 2) cut.claims
two_pages cut formed = λ k none within.
    let c = get_or cut.claims k none in
    let is = formed.claims k none within in
    counted_twice (length cut.parties) c.creditor c.debtor 1 (λ e. is.apart (sym e)) is.creditor is.debtor

count_some : (kind : Line → Bool) (b : Bool) (l : Line) (rest : List Line) → count_by kind ((if b then l ∷ [] else []) ++ rest) ≡ (if b then count_by kind (l ∷ []) else 0) + count_by kind rest
count_some kind true l rest = sum_by-append (λ x. cond (kind x) 1 0) (l ∷ []) rest
count_some kind false l rest = omega arith

lines_twice : (n : ℕ) (parties : List Party) (kind : Line → Bool) (claims : List CutClaim) (discharges : List ℕ) → n ≡ length parties → All (IsClaimAmong parties) claims
    → sum_below n (λ place. count_by kind (page_claims parties place claims discharges)) ≡ 2 * count_by kind (claim_lines parties claims discharges)
lines_twice n parties kind [] discharges many among = sum_below-zero n
lines_twice n parties kind (c ∷ cs) [] many among = sum_below-zero n
lines_twice n parties kind (c ∷ cs) (d ∷ discharges) many among =
    let l = claim_line parties c d in
    let w = count_by kind (l ∷ []) in
    let is = All-head (IsClaimAmong parties) c cs among in
    let parts = sum_below-same n (λ place. count_by kind (page_claims parties place (c ∷ cs) (d ∷ discharges))) (λ place. (if names place c then w else 0) + count_by kind (page_claims parties place cs discharges))
    (λ place lt. count_some kind (names place c) l (page_claims parties place cs discharges)) in
    let split = sum_below-add n (λ place. if names place c then w else 0) (λ place. count_by kind (page_claims parties place cs discharges)) in
    let here = counted_twice n c.creditor c.debtor w (λ e. is.apart (sym e)) (omega (arith, many, is.creditor)) (omega (arith, many, is.debtor)) in
    let rest = lines_twice n parties kind cs discharges many (All-tail (IsClaimAmong parties) c cs among) in
    let more : count_by kind (l ∷ claim_lines parties cs discharges) ≡ w + count_by kind (claim_lines parties cs discharges) = sum_by-append (λ x. cond (kind x) 1 0) (l ∷ []) (claim_lines parties cs discharges) in
    omega (arith, parts, split, here, rest, more)

pub pages_law : PagesLaw
pages_law = record {
  two = two_pages;
  twice = λ cut discharges kind formed. lines_twice (length cut.parties) cut.parties kind cut.claims discharges refl formed.claims;
  balanced = λ cut discharges formed.
      let m = length (obligations cut).amounts in
      all_flow m (length cut.parties) (λ c. slice_index (creditors cut.claims) c) (λ c. slice_index discharges c) (λ c lt. creditor_in cut c formed (omega (arith, lt, claims_long cut)))
      ∙ sym (all_flow m (length cut.parties) (λ c. slice_index (debtors cut.claims) c) (λ c. slice_index discharges c) (λ c lt. debtor_in cut c formed (omega (arith, lt, claims_long cut))));
}
