use Rattle.std.proofs.Common.{◌++◌, codes, flat_map, sym}
use Rattle.printed_text.proofs.Passing.{prints_as, prints_no_more, prints_then}
use Rattle.chain_explain.specs.Chains.{chain_view}
use Rattle.chain_text.specs.Texts.{claim_name}
use Rattle.chain_text.proofs.Chained.{line_parts}
use Rattle.chain_text.proofs.line.print_chain.Goals as goal

pub returns-in_err-print_head : goal.returns-in_err-print_head
returns-in_err-print_head g c =
    let x = chain_view c.args.chain c.args.places.now in
    let names = flat_map (λ place. claim_name c.args.cut.now.claims place) x.claims in
    prints_as (sym (line_parts c.args.cut.now x)) (prints_no_more (names ++ codes "\n") c.from_residual.ensures.0 c.in_err-print_head.ensures)

pub returns-in_err-print_claim_names : goal.returns-in_err-print_claim_names
returns-in_err-print_claim_names g c =
    let x = chain_view c.args.chain c.args.places.now in
    prints_as (sym (line_parts c.args.cut.now x)) (prints_then c.in_ok-print_head.ensures (prints_no_more (codes "\n") c.from_residual-in_err-print_claim_names.ensures.0 c.in_err-print_claim_names.ensures))

pub returns : goal.returns
returns g c =
    let x = chain_view c.args.chain c.args.places.now in
    prints_as (sym (line_parts c.args.cut.now x)) (prints_then c.in_ok-print_head.ensures (prints_then c.in_ok-print_claim_names.ensures c.print_end.ensures))
