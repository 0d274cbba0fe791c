-- A table, for what it stands, and what a step tells of it.
use Rattle.std.specs.Prelude.{◌≡◌, ◌≤◌, ◌+◌, ℕ, List, length, map, AllPairs, ◌≢◌, Option, Some, None}
use mathlib.Core.Option.{some}
use lib.ListN.{get_elem?}
use Rattle.logbook.specs.Pages.{Book}
use Rattle.setoff_model.specs.declared.limits.TheConstants.{MOST_FIRMS}
use Rattle.claim_history.specs.declared.entry.Entry.{Entry}
use Rattle.claim_book.specs.Book.{ledger_of}
use Rattle.read_copies.specs.declared.row.Row.{Row}
use Rattle.read_copies.specs.declared.table.Showing.{Showing}
use Rattle.read_copies.specs.Shown.{ToldView}
use Rattle.read_copies.specs.Rows.{firm_of, row_in, put_all, HasRows}

-- of which board it is, the history for which it stands, its number of entries, and its rows
pub record TableView : Type 0 where
  pub board : Book
  pub history : List Entry
  pub entries : ℕ
  pub rows : List Row

-- the rows have an index of their firms, none of them twice, and room for all firms that there may be
pub record IsTable (names : List (List ℕ)) (room capacity : ℕ) (rows : List Row) : Type 0 where
  pub names_are : names ≡ map firm_of rows
  pub once : AllPairs (λ (f g : List ℕ). f ≢ g) names
  pub room_is : MOST_FIRMS ≤ length rows + room
  pub capacity_is : MOST_FIRMS ≤ capacity

-- a table stands for a history: its number of entries is the length, and the row of each firm is that of the history
pub record Shows (history : List Entry) (entries : ℕ) (rows : List Row) : Type 0 where
  pub entries_are : entries ≡ length history
  pub rows_are : HasRows (ledger_of history) rows

abbrev pub IsShown : TableView → Type 0
IsShown t = Shows t.history t.entries t.rows

-- what a table tells
abbrev pub told_of : TableView → ToldView
told_of t = record { board = t.board; history = t.history }

-- the table after a showing
abbrev pub brought_up : TableView → Showing → TableView
brought_up t s = record { board = s.told.board; history = s.told.history; entries = s.entries; rows = put_all t.rows s.rows.items }

-- ---- what the readers and the writer know

-- it is known of which board the table is
abbrev pub KnowsBoard : Book → Option ToldView → Type 0
KnowsBoard board None = ⊥
KnowsBoard board (Some t) = t.board ≡ board

-- nothing else is known of the board
abbrev pub AgreesOn : Book → Option ToldView → Type 0
AgreesOn board None = Unit {0}
AgreesOn board (Some t) = t.board ≡ board

-- the table stands for its history, and each one who knows a board knows the table's
pub record IsKept (t : TableView) (views : List (Option ToldView)) : Type 0 where
  pub shown : IsShown t
  pub board : (seat : ℕ) (v : Option ToldView) → get_elem? views seat ≡ some v → AgreesOn t.board v

-- who reads has a table that stands for its history, of the board that it knows
abbrev pub HasRead : Option ToldView → TableView → TableView → Option ToldView → Type 0
HasRead v t u w = (w ≡ v) × IsShown t × AgreesOn t.board v

-- who shows knows the board
abbrev pub HasShown : Option ToldView → TableView → TableView → Option ToldView → Type 0
HasShown v t u w = w ≡ Some (told_of u)

-- what was found of a firm is what the history says that was told, of the board that is known
pub record HasLooked (v : Option ToldView) (firm : List ℕ) (told : ToldView) (entries : ℕ) (row : Option Row) : Type 0 where
  pub board : AgreesOn told.board v
  pub entries_are : entries ≡ length told.history
  pub row_is : row ≡ row_in (ledger_of told.history) firm
