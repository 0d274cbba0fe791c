-- The books of all pools, and what contracts see of them, as an entry is applied or room is made.
use Rattle.std.specs.Prelude.{set, position, Some, None, ◌-◌}
use Rattle.std.specs.List.{list_any}
use Rattle.std.proofs.Common.{◌≡◌, ℕ, zero, suc, ◌+◌, ◌<◌, ◌≤◌, true, List, [], ◌∷◌, ◌++◌, length, get_or, refl, sym, ◌∙◌, ap, subst, subst₂, arith, false}
use Rattle.std.proofs.lemmas.List.Quantifiers.{position-Some}
use Rattle.setoff_model.specs.Same.{same_name}
use Rattle.setoff_model.proofs.Lists.{position_none}
use Rattle.setoff_model.proofs.SameNames.{name_same}
use Rattle.round_cut.specs.name_index.proofs.Pushed.{pushed_here}
use Rattle.round_cut.specs.name_index.proofs.Rows.{no_row, row_place}
use Rattle.round_cut.specs.claim_history.specs.declared.entry.Entry.{Entry}
use Rattle.round_cut.specs.claim_history.specs.declared.call.PoolEntry.{PoolEntry}
use Rattle.round_cut.specs.claim_history.specs.Acts.{is_valid}
use Rattle.round_cut.specs.claim_history.specs.History as one
use Rattle.round_cut.specs.claim_history.specs.Pools.{MayFollow, entries_in, member_of}
use Rattle.round_cut.specs.claim_history.proofs.Pools.{pools_law}
use Rattle.claim_book.specs.Changes.{HasGrown, HasRoomMade, IsNew}
use Rattle.claim_book.specs.Pools.{AreBooks, BooksParts, BooksView, KeepsRooms, PoolRoom, is_book, members_at, no_book, room_in, rooms_of}
use Rattle.claim_book.specs.declared.pool_book.PoolBook.{PoolBook}
use Rattle.claim_book.specs.declared.pool_book.Place.{Place}
use Rattle.claim_book.proofs.Kept.{fits_same, one_left}
use Rattle.claim_book.proofs.Pools.{are_grown, are_pushed, are_roomy, entries_are, found_room, kept_room, members_grow, members_push, members_stay, no_history, no_room, promised_room, room_push, room_made, room_shrinks, rooms_grow, rooms_stay}

abbrev pub view_of : BooksParts → BooksView
view_of parts = record { members = members_at parts.books parts.places; rooms = rooms_of parts.books }

-- where a list has a member, no other is given
within_get : {X : Type 0} (xs : List X) (i : ℕ) (d e : X) → i < length xs → get_or xs i d ≡ get_or xs i e
within_get [] i d e lt = absurd (omega (arith, lt))
within_get (x ∷ xs) zero d e lt = refl
within_get (x ∷ xs) (suc i) d e lt = within_get xs i d e (omega (arith, lt))

pub kept_at : (pool : List ℕ) (books : List PoolBook) (i : ℕ) (kept : PoolBook) → position (is_book pool) books ≡ Some i → kept ≡ get_or books i kept → kept ≡ get_or books i no_book
kept_at pool books i kept found is = is ∙ within_get books i kept no_book (position-Some (is_book pool) books i no_book found).0

-- the place of a book is one of the list
pub stands_within : (pool : List ℕ) (books : List PoolBook) (i len : ℕ) → position (is_book pool) books ≡ Some i → length books ≡ len → i < len
stands_within pool books i len found same = subst (λ (n : ℕ). i < n) same (position-Some (is_book pool) books i no_book found).0

module _ (parts : BooksParts) (are : AreBooks parts) (now : BooksView) (view_is : view_of parts ≡ now) (pool : List ℕ) where
  members_are : members_at parts.books parts.places ≡ now.members
  members_are = ap (λ (v : BooksView). v.members) view_is

  rooms_are : rooms_of parts.books ≡ now.rooms
  rooms_are = ap (λ (v : BooksView). v.rooms) view_is

  -- a place among the rooms is one among the books
  pub rooms_place : position (is_book pool) parts.books ≡ position (λ (r : PoolRoom). same_name pool r.pool) now.rooms
  rooms_place = row_place (λ (b : PoolBook). record { pool = b.pool; room = b.room }) now.rooms parts.books (sym rooms_are) (λ (r : PoolRoom). same_name pool r.pool) _ refl

  -- where there is no book, there is no entry and no room
  pub nothing_there : position (is_book pool) parts.books ≡ None → entries_in pool now.members ≡ []
  nothing_there none = ap (entries_in pool) (sym members_are) ∙ sym (are.histories pool) ∙ no_history pool parts.books none

  pub no_room_there : position (is_book pool) parts.books ≡ None → room_in pool now.rooms ≡ 0
  no_room_there none = ap (room_in pool) (sym rooms_are) ∙ no_room pool parts.books none

  pub not_named : position (is_book pool) parts.books ≡ None → list_any (same_name pool) parts.names ≡ false
  not_named none = no_row (λ (b : PoolBook). b.pool) parts.names parts.books are.names_are (same_name pool) none

  module _ (b : PoolBook) (new : IsNew pool b) (books : List PoolBook) (books_are : books ≡ parts.books ++ b ∷ []) where
    pub pushed_are : (names : List (List ℕ)) → names ≡ parts.names ++ pool ∷ []
        → AreBooks (record { names = names; books = books; places = parts.places; promised = parts.promised; spare = parts.spare; none = parts.none })
    pushed_are names names_are =
        subst₂ (λ (ns : List (List ℕ)) (bs : List PoolBook). AreBooks (record { names = ns; books = bs; places = parts.places; promised = parts.promised; spare = parts.spare; none = parts.none })) (sym names_are) (sym books_are)
        (are_pushed parts pool b are new)

    pub pushed_members : members_at books parts.places ≡ now.members
    pushed_members = ap (λ (bs : List PoolBook). members_at bs parts.places) books_are ∙ members_push parts.books b parts.places are.places_are ∙ members_are

    pub pushed_rooms : (any : List ℕ) → room_in any (rooms_of books) ≡ room_in any now.rooms
    pushed_rooms any = ap (λ (bs : List PoolBook). room_in any (rooms_of bs)) books_are ∙ room_push any parts.books b new.room ∙ ap (room_in any) rooms_are

    pub pushed_place : position (is_book pool) parts.books ≡ None → position (λ (r : PoolRoom). same_name pool r.pool) (rooms_of books) ≡ Some (length parts.books)
    pushed_place none =
        sym (row_place (λ (x : PoolBook). record { pool = x.pool; room = x.room }) (rooms_of books) books refl (λ (r : PoolRoom). same_name pool r.pool) _ refl)
        ∙ ap (position (is_book pool)) books_are
        ∙ pushed_here (is_book pool) parts.books b (position_none (is_book pool) parts.books none) (ap (same_name pool) new.pool_is ∙ name_same pool)

  -- room for one is known
  pub is_known : (xs : List PoolBook) (n : ℕ) → xs ≡ parts.books → 1 ≤ n → n ≤ room_in pool now.rooms → 1 ≤ room_in pool (rooms_of xs)
  is_known xs n same one fits = omega (arith, one, fits, ap (λ (ys : List PoolBook). room_in pool (rooms_of ys)) same, ap (room_in pool) rooms_are)

  module _ (i : ℕ) (found : position (is_book pool) parts.books ≡ Some i) (kept : PoolBook) (kept_is : kept ≡ get_or parts.books i no_book) where
    pub history_is : kept.book.history ≡ entries_in pool now.members
    history_is = ap (λ (b : PoolBook). b.book.history) kept_is ∙ entries_are parts are pool i found kept ∙ ap (entries_in pool) members_are

    pub room_is : kept.room ≡ room_in pool now.rooms
    room_is = ap (λ (b : PoolBook). b.room) kept_is ∙ sym (found_room pool parts.books i no_book found) ∙ ap (room_in pool) rooms_are

    pub room_kept : kept.room ≤ kept.book.room
    room_kept = subst (λ (b : PoolBook). b.room ≤ b.book.room) (sym kept_is) (kept_room parts are pool i found kept)

    pub room_promised : kept.room ≤ parts.promised
    room_promised = subst (λ (b : PoolBook). b.room ≤ parts.promised) (sym kept_is) (promised_room parts are pool i found kept)

    -- where there is room for one, a place is promised for it, and is there
    pub promised_one : (need : ℕ) → 1 ≤ need → need ≤ room_in pool now.rooms → 1 ≤ parts.promised
    promised_one need one fits = one_left kept.room parts.promised (one_left need kept.room one (fits_same need need kept.room _ refl room_is fits)) room_promised

    pub spare_one : (need : ℕ) → 1 ≤ need → need ≤ room_in pool now.rooms → 1 ≤ parts.spare
    spare_one need one fits = one_left parts.promised parts.spare (promised_one need one fits) are.promised_kept

    pub may_follow : (e : Entry) → MayFollow now.members (member_of pool e) → one.MayFollowInPool kept.book.history e
    may_follow e next = subst (λ (es : List Entry). one.MayFollowInPool es e) (sym history_is) (pools_law.next now.members (member_of pool e) next)

    module _ (b : PoolBook) (e : Entry) (grown_kept : HasGrown kept b e) (places : List Place) (at : ℕ) (put : places ≡ parts.places ++ record { pool = i; at = at } ∷ []) (at_is : at ≡ length kept.book.history) where
      grown : HasGrown (get_or parts.books i no_book) b e
      grown = subst (λ (old : PoolBook). HasGrown old b e) kept_is grown_kept

      put_at : places ≡ parts.places ++ record { pool = i; at = length (get_or parts.books i no_book).book.history } ∷ []
      put_at = put ∙ ap (λ (n : ℕ). parts.places ++ record { pool = i; at = n } ∷ []) (at_is ∙ ap (λ (old : PoolBook). length old.book.history) kept_is)

      pub grown_are : (spare : ℕ) → parts.spare ≤ spare + 1 → is_valid e.act ≡ true → MayFollow now.members (member_of pool e)
          → AreBooks (record { names = parts.names; books = set parts.books i b; places = places; promised = parts.promised - 1; spare = spare; none = parts.none })
      grown_are spare enough valid next =
          subst (λ (ps : List Place). AreBooks (record { names = parts.names; books = set parts.books i b; places = ps; promised = parts.promised - 1; spare = spare; none = parts.none })) (sym put_at)
          (are_grown parts are pool i found b e grown spare enough valid (subst (λ (ms : List PoolEntry). MayFollow ms (member_of pool e)) (sym members_are) next))

      pub grown_members : members_at (set parts.books i b) places ≡ now.members ++ member_of pool e ∷ []
      grown_members =
          ap (members_at (set parts.books i b)) put_at ∙ members_grow parts are pool i found b e grown ∙ ap (λ (ms : List PoolEntry). ms ++ member_of pool e ∷ []) members_are

      pub room_less : room_in pool now.rooms ≡ room_in pool (rooms_of (set parts.books i b)) + 1
      room_less = sym (room_shrinks parts are pool i found b e grown ∙ ap (room_in pool) rooms_are)

      pub others_stay : KeepsRooms pool now.rooms (rooms_of (set parts.books i b))
      others_stay = subst (λ (rs : List PoolRoom). KeepsRooms pool rs (rooms_of (set parts.books i b))) rooms_are (rooms_stay parts are pool i found b e grown)

    module _ (b : PoolBook) (made_kept : HasRoomMade kept b) where
      made : HasRoomMade (get_or parts.books i no_book) b
      made = subst (λ (old : PoolBook). HasRoomMade old b) kept_is made_kept

      pub roomy_are : (places : List Place) (promised spare : ℕ) → places ≡ parts.places → promised + kept.room ≡ parts.promised + b.room → promised ≤ spare
          → AreBooks (record { names = parts.names; books = set parts.books i b; places = places; promised = promised; spare = spare; none = parts.none })
      roomy_are places promised spare same sums enough =
          subst (λ (ps : List Place). AreBooks (record { names = parts.names; books = set parts.books i b; places = ps; promised = promised; spare = spare; none = parts.none })) (sym same)
          (are_roomy parts are pool i found b made promised spare (omega (arith, sums, ap (λ (old : PoolBook). old.room) kept_is)) enough)

      pub roomy_members : (places : List Place) → places ≡ parts.places → members_at (set parts.books i b) places ≡ now.members
      roomy_members places same = ap (members_at (set parts.books i b)) same ∙ members_stay parts are pool i found b made ∙ members_are

      pub roomy_room : room_in pool (rooms_of (set parts.books i b)) ≡ b.room
      roomy_room = room_made parts are pool i found b made

      pub roomy_rooms : (any : List ℕ) → room_in any now.rooms ≤ room_in any (rooms_of (set parts.books i b))
      roomy_rooms any = subst (λ (rs : List PoolRoom). room_in any rs ≤ room_in any (rooms_of (set parts.books i b))) rooms_are (rooms_grow parts are pool i found b made any)
