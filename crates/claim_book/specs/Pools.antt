-- The books of all pools.
use Rattle.std.specs.Prelude.{◌≡◌, ◌<◌, ◌≤◌, ℕ, Bool, false, List, [], ◌∷◌, All, map, length}
use Rattle.std.specs.Prelude.{get_or, find, sum_by, Option, Some, None, if◌then◌else◌}
use Rattle.setoff_model.specs.Same.{same_name}
use Rattle.round_cut.specs.claim_history.specs.declared.act.Act.TheVariants as act
use Rattle.round_cut.specs.claim_history.specs.declared.entry.Entry.{Entry}
use Rattle.round_cut.specs.claim_history.specs.declared.call.PoolEntry.{PoolEntry}
use Rattle.round_cut.specs.claim_history.specs.declared.entry.Reply.TheVariants as reply
use Rattle.round_cut.specs.claim_history.specs.Pools.{IsLegal, AreValid, entries_in, member_of}
use Rattle.claim_book.specs.Book.{BookView}
use Rattle.claim_book.specs.declared.pool_book.PoolBook.{PoolBook}
use Rattle.claim_book.specs.declared.pool_book.Place.{Place}

-- ---- what contracts see

-- how many entries of a pool may be put at the end without taking memory
pub record PoolRoom : Type 0 where
  pub pool : List ℕ
  pub room : ℕ

-- the history of the bureau, and the room of each pool
pub record BooksView : Type 0 where
  pub members : List PoolEntry
  pub rooms : List PoolRoom

-- the room of a pool; 0 where nothing was reserved for it
abbrev pub room_in : List ℕ → List PoolRoom → ℕ
room_in pool [] = 0
room_in pool (r ∷ rooms) = if same_name pool r.pool then r.room else room_in pool rooms

-- no room of another pool is less
abbrev pub KeepsRooms : List ℕ → List PoolRoom → List PoolRoom → Type 0
KeepsRooms pool old new = (other : List ℕ) → same_name other pool ≡ false → room_in other old ≤ room_in other new

-- the entries of a pool, where it has some
abbrev pub told_entries : List Entry → Option (List Entry)
told_entries [] = None
told_entries (e ∷ entries) = Some (e ∷ entries)

-- ---- what the books are made of

-- the book is the one of the pool
abbrev pub is_book : List ℕ → PoolBook → Bool
is_book pool b = same_name pool b.pool

abbrev pub history_found : Option PoolBook → List Entry
history_found None = []
history_found (Some b) = b.book.history

-- the history of the book of a pool
abbrev pub history_in : List ℕ → List PoolBook → List Entry
history_in pool books = history_found (find (is_book pool) books)

abbrev pub no_book : PoolBook
no_book = record { pool = []; book = record { history = []; room = 0 }; room = 0 }

abbrev pub no_entry : Entry
no_entry = record { caller = 0; act = act.Abandon; reply = reply.Done }

-- the member whose entry stands at a place
abbrev pub member_at : List PoolBook → Place → PoolEntry
member_at books place =
    member_of (get_or books place.pool no_book).pool (get_or (get_or books place.pool no_book).book.history place.at no_entry)

abbrev pub members_at : List PoolBook → List Place → List PoolEntry
members_at books places = map (member_at books) places

abbrev pub rooms_of : List PoolBook → List PoolRoom
rooms_of books = map (λ b. record { pool = b.pool; room = b.room }) books

-- an entry stands there
pub record IsPlace (books : List PoolBook) (place : Place) : Type 0 where
  pub pool : place.pool < length books
  pub at : place.at < length (get_or books place.pool no_book).book.history

-- the names of the pools, their books, the place of each member, the sum of the rooms, how many places there is room for, and an
-- empty book
pub record BooksParts : Type 0 where
  pub names : List (List ℕ)
  pub books : List PoolBook
  pub places : List Place
  pub promised : ℕ
  pub spare : ℕ
  pub none : BookView

-- each pool has the book of its entries; there is a place for each entry that room was promised for; the history is legal
pub record AreBooks (parts : BooksParts) : Type 0 where
  pub names_are : parts.names ≡ map (λ b. b.pool) parts.books
  pub histories : (pool : List ℕ) → history_in pool parts.books ≡ entries_in pool (members_at parts.books parts.places)
  pub places_are : All (IsPlace parts.books) parts.places
  pub rooms_kept : All (λ b. b.room ≤ b.book.room) parts.books
  pub promised_is : parts.promised ≡ sum_by (λ b. b.room) parts.books
  pub promised_kept : parts.promised ≤ parts.spare
  pub none_is : parts.none.history ≡ []
  pub legal : IsLegal (members_at parts.books parts.places)
  pub valid : AreValid (members_at parts.books parts.places)
