use Rattle.std.proofs.Common.{◌≡◌, ◌∙◌, List, ◌++◌, All, ap, sym, subst}
use Rattle.served_lines.specs.request_text.specs.declared.request.Request.{Request}
use Rattle.served_lines.specs.request_text.specs.Lanes.{IsLane}
use Rattle.live_reading.specs.Reading.{Ends, HaveSentAll}
use Rattle.live_reading.proofs.InReading.{all_handed}
use Rattle.live_reading.proofs.reading.read_segment.Goals as goal

pub returns : goal.returns
returns g c =
    let new = c.hand_lines-stop.new in
    let ensured = c.hand_lines-stop.ensures in
    let told = ensured.gone in
    let is : new.requests.items ≡ told.more = told.noted ∙ ap (λ (l : List Request). l ++ told.more) c.requires.ready.3 in
    record {
      handed = all_handed c.args.rings.now new.rings c.mark.new.rings new.requests.items (subst (HaveSentAll c.args.rings.now new.rings) (sym is) told.sent) c.mark.ensures;
      own = subst (λ (l : List Request). All (λ r. IsLane r.lane) l) (sym is) told.own;
      few = ensured.few.0;
      spare = ensured.few.1;
      taken = told.taken;
      ends = subst (λ (l : List Request). Ends (g.S.Source.left new.source) (g.S.Source.faults c.args.source.now) (g.S.Source.faults new.source) c.args.intake.now new.intake l c.hand_lines-stop.result) (sym is) told.ends;
      answers = ensured.answers;
    }
