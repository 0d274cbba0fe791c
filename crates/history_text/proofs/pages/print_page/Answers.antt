use Rattle.std.specs.Prelude.{ℤ, pos, unsigned_abs}
use Rattle.std.proofs.Common.{◌≡◌, ◌<◌, ◌^◌, ◌∙◌, ◌++◌, ℕ, List, All, of_z, to_z, ap, ap₂, get_or, length, arith}
use Rattle.std.proofs.lemmas.Int.{to_z-of_z, fits_signed_from_abs}
use Rattle.std.proofs.lemmas.List.{get_or_default}
use mir.Syntax.{w64}
use Rattle.setoff_model.specs.declared.cut.Party.{Party}
use Rattle.setoff_model.specs.CutView.{CutView, OutcomeView, obligations}
use Rattle.setoff_model.specs.Setoff.{inflow, outflow, price_at}
use Rattle.setoff_model.proofs.Columns.{claims_long}
use Rattle.setoff_model.proofs.SumsBounded.{sums_are_bounded}
use Rattle.printed_text.specs.statement_text.specs.declared.line.Line.TheVariants as line
use Rattle.printed_text.specs.Printing.{IsPrintable, line_bytes, lines_bytes}
use Rattle.printed_text.proofs.Passing.{prints_as, prints_no_more, prints_then}
use Rattle.printed_text.proofs.Printing.{price_each, prices_fit}
use Rattle.history_text.specs.Pages.{net_of, net_text, page_claims}
use Rattle.history_text.proofs.pages.print_page.Goals as goal

price_read : (ps read : List ℤ) (i : ℕ) → read ≡ ps → All (λ p. unsigned_abs p < 10 ^ 9) ps → i < length ps → to_z w64 (of_z w64 (get_or read i (pos 0))) ≡ get_or ps i (pos 0)
price_read ps read i same fit lt =
    let here : get_or read i (pos 0) ≡ get_or ps i (pos 0) = ap (λ (l : List ℤ). get_or l i (pos 0)) same in
    to_z-of_z w64 (get_or read i (pos 0)) (fits_signed_from_abs w64 (get_or read i (pos 0)) (omega (arith, fit i (pos 0) lt, ap unsigned_abs here))) ∙ here

-- the line of the party and the price that were read
party_shown : (cut : CutView) (outcome : OutcomeView) (parties : List Party) (prices : List ℤ) (i : ℕ) (f none : Party) → IsPrintable cut outcome → parties ≡ cut.parties → prices ≡ outcome.prices → f ≡ get_or parties i f → i < length cut.parties
    → line_bytes (line.Party f (to_z w64 (of_z w64 (get_or prices i (pos 0))))) ≡ line_bytes (line.Party (get_or cut.parties i none) (price_at outcome.prices i))
party_shown cut outcome parties prices i f none printable same_parties same_prices is lt =
    ap₂ (λ (q : Party) (p : ℤ). line_bytes (line.Party q p))
    (is ∙ ap (λ (l : List Party). get_or l i f) same_parties ∙ get_or_default cut.parties i f none lt)
    (price_read outcome.prices prices i same_prices (prices_fit cut outcome printable) (omega (arith, lt, price_each cut outcome printable)))

pub returns-in_err-print_head : goal.returns-in_err-print_head
returns-in_err-print_head g c none =
    let cut = c.args.cut.now in
    let d = c.args.outcome.now.discharges in
    let i = c.args.place in
    let party = line_bytes (line.Party (get_or cut.parties i none) (price_at c.args.outcome.now.prices i)) in
    let claims = lines_bytes (page_claims cut.parties i cut.claims d) in
    let end = net_of cut d i ++ line_bytes line.End in
    prints_no_more (party ++ (claims ++ end)) c.from_residual.ensures.0 c.in_err-print_head.ensures

pub returns-in_err-print_party : goal.returns-in_err-print_party
returns-in_err-print_party g c none =
    let cut = c.args.cut.now in
    let d = c.args.outcome.now.discharges in
    let i = c.args.place in
    let claims = lines_bytes (page_claims cut.parties i cut.claims d) in
    let end = net_of cut d i ++ line_bytes line.End in
    let shown = party_shown cut c.args.outcome.now c.parties.result.now c.prices.result.now i c.index-parties-place.result none c.requires.printable c.parties.ensures c.prices.ensures c.index-parties-place.is c.requires.place in
    prints_then c.in_ok-print_head.ensures (prints_no_more (claims ++ end) c.from_residual-in_err-print_party.ensures.0 (prints_as shown c.in_err-print_party.ensures))

pub returns-in_err-net : goal.returns-in_err-net
returns-in_err-net g c none =
    let cut = c.args.cut.now in
    let i = c.args.place in
    let end = net_of cut c.args.outcome.now.discharges i ++ line_bytes line.End in
    let shown = party_shown cut c.args.outcome.now c.parties.result.now c.prices.result.now i c.index-parties-place.result none c.requires.printable c.parties.ensures c.prices.ensures c.index-parties-place.is c.requires.place in
    let named = ap (λ (ds : List ℕ). lines_bytes (page_claims cut.parties i cut.claims ds)) c.discharges.ensures in
    prints_then c.in_ok-print_head.ensures (prints_then (prints_as shown c.in_ok-print_party.ensures) (prints_no_more end c.from_residual-in_err-net.ensures.0 (prints_as named c.in_err-net.ensures.printed)))

pub print_page_end-requires-clause-received : goal.print_page_end-requires-clause-received
print_page_end-requires-clause-received g c =
    let cut = c.args.cut.now in
    let d = c.args.outcome.now.discharges in
    let formed = c.requires.printable.well_formed in
    let lawful = c.requires.printable.proved.lawful in
    omega (arith, c.in_ok-net.ensures.received, ap (λ (ds : List ℕ). inflow (obligations cut) ds c.args.place) c.discharges.ensures, sums_are_bounded.inflow cut d (length (obligations cut).amounts) c.args.place formed lawful (omega (arith, claims_long cut)))

pub print_page_end-requires-clause-paid : goal.print_page_end-requires-clause-paid
print_page_end-requires-clause-paid g c =
    let cut = c.args.cut.now in
    let d = c.args.outcome.now.discharges in
    let formed = c.requires.printable.well_formed in
    let lawful = c.requires.printable.proved.lawful in
    omega (arith, c.in_ok-net.ensures.paid, ap (λ (ds : List ℕ). outflow (obligations cut) ds c.args.place) c.discharges.ensures, sums_are_bounded.outflow cut d (length (obligations cut).amounts) c.args.place formed lawful (omega (arith, claims_long cut)))

pub returns : goal.returns
returns g c none =
    let cut = c.args.cut.now in
    let i = c.args.place in
    let shown = party_shown cut c.args.outcome.now c.parties.result.now c.prices.result.now i c.index-parties-place.result none c.requires.printable c.parties.ensures c.prices.ensures c.index-parties-place.is c.requires.place in
    let named = ap (λ (ds : List ℕ). lines_bytes (page_claims cut.parties i cut.claims ds)) c.discharges.ensures in
    let net : net_text c.in_ok-net.net.received c.in_ok-net.net.paid ≡ net_of cut c.args.outcome.now.discharges i =
    ap₂ net_text (c.in_ok-net.ensures.received ∙ ap (λ (ds : List ℕ). inflow (obligations cut) ds i) c.discharges.ensures) (c.in_ok-net.ensures.paid ∙ ap (λ (ds : List ℕ). outflow (obligations cut) ds i) c.discharges.ensures) in
    let end = ap (λ (t : List ℕ). t ++ line_bytes line.End) net in
    prints_then c.in_ok-print_head.ensures (prints_then (prints_as shown c.in_ok-print_party.ensures) (prints_then (prints_as named c.in_ok-net.ensures.printed) (prints_as end c.print_page_end.ensures)))
