-- What a lane is handed may go to its thread, and so may the end of the ring by which it is.
use denote.RattleType.{RattleType}
use denote.Param.Send.{IsSend, Frees, sendable}
use Rattle.std.proofs.Crossing.{crosses}
use Rattle.lane_runner.specs.disk_model.specs.declared.disk.Disk.{Ghosts}
use Rattle.lane_runner.specs.shared_bureau.proofs.Threads.{seat_field_of_desk_is_sent}
use Rattle.lane_runner.specs.contracts.lane.Lane as lane
use Rattle.std.specs.declared.alloc.Allocator as alloc
use Rattle.rtrb.specs.declared.Protocol as protocol
use Rattle.rtrb.specs.contracts.end.End as end
use Rattle.rtrb.proofs.end.End.TheSendSync as sent
use Rattle.setoff_model.specs.contracts.name.Name as name
use Rattle.setoff_model.specs.contracts.name.Key as key
use Rattle.setoff_model.specs.contracts.outcome.Outcome as outcome
use Rattle.lane_runner.specs.claim_history.specs.contracts.day.Day as day
use Rattle.lane_runner.specs.claim_history.specs.contracts.act.Act as act
use Rattle.live_reading.specs.contracts.handed.Handed as handed

name_is_sent : IsSend (name.the_field).row
name_is_sent = search sendable depth 20

key_is_sent : IsSend (key.the_field).row
key_is_sent = search (name_is_sent, sendable) depth 20

day_is_sent : IsSend (day.the_field).row
day_is_sent = search sendable depth 20

outcome_is_sent : IsSend (outcome.the_field).row
outcome_is_sent = search (crosses, sendable) depth 20

act_is_sent : IsSend (act.the_field).row
act_is_sent = search (name_is_sent, key_is_sent, day_is_sent, outcome_is_sent, sendable) depth 20 fits 20000

pub handed_is_sent : IsSend handed.the_row
handed_is_sent = search (name_is_sent, act_is_sent, sendable) depth 20

-- an end of a ring, where its memory may be given back by any thread
pub end_at : {A : RattleType} {g : alloc.Ghosts A.Denot} → IsSend A → Frees g g.dealloc_token → (T P : RattleType) (gp : protocol.Ghosts P.Denot T.Denot) → IsSend T → IsSend (end.the_row T A P g gp)
end_at {A} {g} s f T P gp t = sent.the_send T A P g gp t s f

-- a lane, where what hands it its lines may
pub lane_is_sent : (D : RattleType) (g : Ghosts D.Denot) → IsSend D → (Q : RattleType) → IsSend Q → IsSend (lane.the_row D Q g)
lane_is_sent D g d Q q = let s = seat_field_of_desk_is_sent D g d in search (crosses, sendable) depth 20
