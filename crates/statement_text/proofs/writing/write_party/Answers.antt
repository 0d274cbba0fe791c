use mir.Syntax.{w128}
use Rattle.std.proofs.Common.{◌≡◌, ◌++◌, append_assoc, arith}
use Rattle.std.specs.Prelude.{codes}
use Rattle.std.proofs.lemmas.Grind.{common_steps}
use Rattle.std.proofs.lemmas.Int.{to_z-of_z, fits_signed_from_abs}
use Rattle.text_lines.specs.Fields.{line_of}
use Rattle.statement_text.specs.Lines.{party_fields}
use Rattle.statement_text.proofs.writing.write_party.Goals as goal

pub returns : goal.returns
returns c =
    let fits = c.ranges.price in
    let wide = fits_signed_from_abs w128 c.args.price (omega (arith, c.requires.price)) in
    let price = simp to_z-of_z at c.from.ensures in
    let number = simp to_z-of_z at (rw price at c.write_number.ensures.written.text) in
    let text : c.put-5.new.buffer.items ≡ c.args.buffer.now.items ++ (line_of (party_fields c.args.party.now c.args.price) ++ codes "\n") =
    rw (c.put-5.ensures.text, number, c.put-4.ensures.text, c.put_sums.ensures.text, c.put-3.ensures.text, c.put-2.ensures.text, c.bytes.ensures.bytes, c.put.ensures.text) (simp append_assoc) in
    record {
      text = text;
      len = grind (arith, common_steps);
      room = grind (arith, common_steps);
    }
