-- The rings by which lanes are handed their lines.
use Rattle.std.specs.Prelude.{◌≡◌, ◌+◌, ◌-◌, ◌<◌, ◌≤◌, ℕ, List, [], ◌∷◌, ◌++◌, All, length, slice_index_or}
use Rattle.live_reading.specs.declared.handed.TheConstants.{MOST_HANDED}
use Rattle.std.specs.declared.alloc.Global.{Global}
use Rattle.rtrb.specs.declared.producer.Producer.{Producer}
use Rattle.rtrb.specs.Ring.{sent, known_free, SameProducer}
use Rattle.turn_lock.specs.Turns.{EachOf}
use Rattle.served_lines.specs.request_text.specs.declared.request.Request.{Request}
use Rattle.served_lines.specs.Served.{of_lane}
use Rattle.live_reading.specs.declared.handed.Handed.{Handed}
use Rattle.live_reading.specs.declared.handed.Handed.TheVariants as handed
use Rattle.live_reading.specs.declared.handed.InSegments.{InSegments}
use Rattle.live_reading.specs.Handing.{handed_of, lines_since, segment_of}

abbrev pub Ring : Type 0
Ring = Producer Handed Global InSegments

-- there is a place for the mark, beside the lines that the lane was handed in this segment
pub record HasRoom (ring : Ring) : Type 0 where
  pub all : known_free ring + lines_since 0 (sent ring) ≡ MOST_HANDED + 1
  pub mark : 1 ≤ known_free ring

-- and one for a line
pub record IsOpen (ring : Ring) : Type 0 where
  pub all : known_free ring + lines_since 0 (sent ring) ≡ MOST_HANDED + 1
  pub line : 2 ≤ known_free ring

-- one was handed more
pub record HasSent (old new : Ring) (one : Handed) : Type 0 where
  pub same : SameProducer old new
  pub sent_is : sent new ≡ sent old ++ one ∷ []

-- the lane of the request was handed it, and no other anything
pub record HasHanded (old new : List Ring) (request : Request) : Type 0 where
  pub all : length new ≡ length old
  pub own : (none : Ring)
      → HasSent (slice_index_or old (request.lane - 1) none) (slice_index_or new (request.lane - 1) none) (handed_of request)
  pub others : (k : ℕ) (none : Ring) → (k + 1 ≡ request.lane → ⊥) → slice_index_or new k none ≡ slice_index_or old k none

-- each was handed the mark
pub record AreMarked (old new : List Ring) : Type 0 where
  pub all : length new ≡ length old
  pub each : EachOf (λ k ring. HasSent (slice_index_or old k ring) ring handed.End) new

-- each lane may be handed lines
abbrev pub AreOpen : List Ring → Type 0
AreOpen rings = All IsOpen rings

-- one lane was handed its requests among these, and the mark
pub record HasHandedSegment (old new : Ring) (requests : List Request) : Type 0 where
  pub same : SameProducer old new
  pub sent_is : sent new ≡ sent old ++ segment_of requests

-- each was
pub record HaveHanded (old new : List Ring) (requests : List Request) : Type 0 where
  pub all : length new ≡ length old
  pub each : (k : ℕ) (ring : Ring) → k < length old
      → HasHandedSegment (slice_index_or old k ring) (slice_index_or new k ring) (of_lane (k + 1) requests)
