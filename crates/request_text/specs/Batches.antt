-- What a batch keeps of its requests.
use Rattle.std.specs.Prelude.{◌≡◌, ◌<◌, true, List, All, AllPairs}
use Rattle.setoff_model.specs.Names.{is_name}
use Rattle.claim_history.specs.Acts.{is_request}
use Rattle.request_text.specs.declared.request.Request.{Request}
use Rattle.request_text.specs.Lanes.{IsLane}

-- the line numbers rise, each lane is one, each pool has a name, and each act is valid and no publication
pub record AreInOrder (requests : List Request) : Type 0 where
  pub rising : AllPairs (λ a b. a.line < b.line) requests
  pub lanes : All (λ r. IsLane r.lane) requests
  pub pools : All (λ r. is_name r.pool ≡ true) requests
  pub valid : All (λ r. is_request r.act ≡ true) requests
