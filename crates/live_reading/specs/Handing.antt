-- What a lane is handed: the lines of a segment, and a mark at its end.
use Rattle.std.specs.Prelude.{◌≡◌, ◌+◌, ◌<◌, ℕ, true, List, [], ◌∷◌, ◌++◌, map}
use Rattle.live_reading.specs.declared.handed.TheConstants.{MOST_HANDED}
use Rattle.served_lines.specs.claim_history.specs.Acts.{is_request}
use Rattle.served_lines.specs.request_text.specs.declared.request.Request.{Request}
use Rattle.live_reading.specs.declared.handed.Handed.{Handed}
use Rattle.live_reading.specs.declared.handed.Handed.TheVariants as handed

-- how many lines stand after the last mark, where so many stand before the list
abbrev pub lines_since : ℕ → List Handed → ℕ
lines_since n [] = n
lines_since n (handed.Line line pool act ∷ more) = lines_since (n + 1) more
lines_since n (handed.End ∷ more) = lines_since 0 more

-- a segment begins
abbrev pub IsMarked : List Handed → Type 0
IsMarked before = lines_since 0 before ≡ 0

-- what may be handed after this
abbrev pub MayHand : List Handed → Handed → Type 0
MayHand before (handed.Line line pool act) = (is_request act ≡ true) × (lines_since 0 before < MOST_HANDED)
MayHand before handed.End = Unit {0}

-- a request, as its lane is handed it
abbrev pub handed_of : Request → Handed
handed_of request = handed.Line request.line request.pool request.act

-- the requests of a segment, with its mark
abbrev pub segment_of : List Request → List Handed
segment_of requests = map handed_of requests ++ handed.End ∷ []
