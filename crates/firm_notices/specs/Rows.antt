-- The rows of a CSV text, as the reader of the `csv` crate cuts it with its defaults. A byte order mark at the start is left out.
use Rattle.std.specs.Prelude.{◌≡◌, ◌<◌, ℕ, Bool, true, false, List, [], ◌∷◌, ◌++◌, length, Option, Some, None}
use Rattle.std.specs.Borrow.{Bor}
use Rattle.csv.specs.declared.reader.Reader.{Reader}
use Rattle.csv.specs.declared.reader.Trim.TheVariants as trim
use Rattle.csv.specs.declared.parser.State.{State}
use Rattle.csv.specs.declared.parser.State.TheVariants as st
use Rattle.csv.specs.Reading.{AreRecords, Reached, Ready, default_config, source_of, strip_bom, reader_config, reader_state, reader_trim}

-- these are the first rows of a text, and behind them the reading goes on in this state with these bytes
abbrev pub LeadTo : List ℕ → List (List (List ℕ)) → State → List ℕ → Type 0
LeadTo bytes rows s rest = Reached default_config st.StartRecord (strip_bom bytes) rows s rest

-- these are the first rows of a text
abbrev pub AreFirstRows : List ℕ → List (List (List ℕ)) → Type 0
AreFirstRows bytes rows = (s : State) × (rest : List ℕ) × LeadTo bytes rows s rest

-- these are all the rows of a text
abbrev pub AreRows : List ℕ → List (List (List ℕ)) → Type 0
AreRows bytes rows = AreRecords default_config st.StartRecord (strip_bom bytes) rows

-- what a reader of bytes has yet to read
abbrev pub unread : Reader (Bor (List ℕ)) → Option (List ℕ)
unread reader = source_of (λ s. Some s.now) reader

abbrev pub bytes_of : Option (List ℕ) → List ℕ
bytes_of None = []
bytes_of (Some bytes) = bytes

-- how many bytes it has yet to read
abbrev pub bytes_left : Reader (Bor (List ℕ)) → ℕ
bytes_left reader = length (bytes_of (unread reader))

-- the reader has given these rows of a text
pub record StandsAt (reader : Reader (Bor (List ℕ))) (bytes : List ℕ) (rows : List (List (List ℕ))) : Type 0 where
  pub config : reader_config reader ≡ default_config
  pub untrimmed : reader_trim reader ≡ trim.None
  pub ready : Ready reader
  pub rest : List ℕ
  pub known : unread reader ≡ Some rest
  pub given : LeadTo bytes rows (reader_state reader) rest

-- the reader gave one more row and has fewer bytes left, or there was no more row
abbrev pub MovesOn : Reader (Bor (List ℕ)) → Reader (Bor (List ℕ)) → List ℕ → List (List (List ℕ)) → List (List ℕ) → Bool → Type 0
MovesOn old new bytes rows fields true = StandsAt new bytes (rows ++ fields ∷ []) × (bytes_left new < bytes_left old)
MovesOn old new bytes rows fields false = AreRows bytes rows
