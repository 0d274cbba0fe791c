use Rattle.std.specs.Prelude.{◌||◌, drop}
use Rattle.std.specs.List.{list_any}
use Rattle.std.proofs.Common.{◌∙◌, ◌+◌, Bool, sym, ap, arith}
use Rattle.served_lines.proofs.Devices.{first_tells, tells}
use Rattle.served_lines.proofs.ends.some_device.Goals as goal

pub returns-then-tells_of_device : goal.returns-then-tells_of_device
returns-then-tells_of_device c =
    let members = c.args.books.now.members in
    sym (c.loop-place.invariant.same ∙ first_tells members c.loop-place.place _ c.member.ensures
    ∙ ap (λ (b : Bool). b || list_any tells (drop (c.loop-place.place + 1) members)) (sym c.tells_of_device.ensures ∙ c.if-tells_of_device.true))

pub loop-place-preserved : goal.loop-place-preserved
loop-place-preserved c =
    let members = c.args.books.now.members in
    record {
      same = c.loop-place.invariant.same ∙ first_tells members c.loop-place.place _ c.member.ensures
          ∙ ap (λ (b : Bool). b || list_any tells (drop (c.loop-place.place + 1) members)) (sym c.tells_of_device.ensures ∙ c.if-tells_of_device.false);
      within = omega (arith, c.loop-place-test.true, c.loop-place.invariant.end);
      end = c.loop-place.invariant.end;
    }
