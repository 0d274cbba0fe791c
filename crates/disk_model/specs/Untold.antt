-- A disk that tells no bytes: it has no images, and its clock stands still.
use Rattle.std.specs.Prelude.{ℕ, [], false, IsTrue}
use Rattle.disk_model.specs.Calls.{Seen}

-- all that is seen is how often it has failed
abbrev pub untold : ℕ → Seen
untold faults = record { tells = false; reads = []; moment = 0; image = λ _ _. ⊥; count = faults }

pub nothing_told : IsTrue false → ⊥
nothing_told told = cc
