use Rattle.std.proofs.Common.{◌∙◌, sym, refl, inr}
use Rattle.csv.specs.Reading.{Reached, strip_bom}
use Rattle.firm_notices.proofs.rows.reader_of.Goals as goal

pub returns : goal.returns
unfolding Reached
returns c =
    let made = c.from_reader.ensures in
    let flexible = c.flexible.ensures in
    let named = c.has_headers.ensures in
    record {
      config = rw (flexible, named) at made.config ∙ c.new.ensures.config;
      untrimmed = rw (flexible, named) at made.trim ∙ c.new.ensures.trim;
      ready = inr (inr (rw (flexible, named) at made.has_headers, made.headers));
      rest = strip_bom c.args.bytes.now;
      known = made.source;
      given = (sym made.state, refl);
    }
