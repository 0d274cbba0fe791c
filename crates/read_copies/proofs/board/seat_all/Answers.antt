use Rattle.std.proofs.Common.{◌≡◌, [], ◌∷◌, length, length-append, All, sym, ◌∙◌, ap, subst, arith}
use Rattle.std.proofs.lemmas.List.Elements.{All-nil, All-cons, All-append}
use Rattle.read_copies.specs.Shown.{ToldView}
use Rattle.read_copies.proofs.board.seat_all.Goals as goal

pub loop-preserved : goal.loop-preserved
loop-preserved c =
    let P : ToldView → Type 0 = λ r. r ≡ c.args.told.now in
    let items = c.push_reserved.ensures.items in
    record {
      shown = c.seat.ensures.table.0 ∙ c.loop.invariant.shown;
      log = c.seat.ensures.table.1 ∙ c.loop.invariant.log;
      behind = c.seat.ensures.table.2 ∙ c.loop.invariant.behind;
      knows = c.seat.ensures.knows ∙ c.loop.invariant.knows;
      each = subst (All P) (sym items) (All-append P c.loop.list.items (c.in_ok-seat.field-0 ∷ []) c.loop.invariant.each (All-cons P c.in_ok-seat.field-0 [] c.in_ok-seat.ensures.reader (All-nil P)));
      count = ap length items ∙ (length-append c.loop.list.items (c.in_ok-seat.field-0 ∷ []) ∙ omega (arith, c.loop.invariant.count));
      room = omega (arith, c.push_reserved.ensures.capacity, c.loop.invariant.room);
    }
