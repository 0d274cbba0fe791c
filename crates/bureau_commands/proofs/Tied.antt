-- The disk that comes back is tied to the one that was handed in.
use Rattle.std.proofs.Common.{arith}
use Rattle.disk_model.specs.Calls.{Seen}
use Rattle.bureau_commands.specs.Laws.{CrashLaw}

pub crash_law : {D : Type 0} (seen : D → Seen) → CrashLaw seen
crash_law seen old new opened history s =
    let t = s.turned in let goes = s.stays in record {
      begins = t.begins;
      follows = t.ended;
      within = goes.later;
      no_more = λ m c le is. t.no_more m c le (goes.no_more m c (omega (arith, le, t.begins, t.ended)) is);
      no_fewer = λ m c le is. goes.no_fewer m c (omega (arith, le, t.begins, t.ended)) (t.no_fewer m c le is);
      early = λ m c after before is. t.early m c after before (goes.no_more m c (omega (arith, before, t.ended)) is);
      late = λ m c since until is. t.late m c since until (goes.no_more m c until is);
    }
