-- The books of all pools, as one of them changes.
use Rattle.std.specs.Prelude.{map, set, find, position, All, Option, Some, None, ◌-◌, if◌then◌else◌}
use Rattle.std.specs.List.{position_or_len}
use Rattle.std.proofs.Common.{◌≡◌, ℕ, zero, suc, ◌+◌, ◌<◌, ◌≤◌, Bool, true, false, cond, List, [], ◌∷◌, ◌++◌, nat_lt, length, get_or, refl, sym, ◌∙◌, ap, ap₂, subst, arith, inl, inr, ◌⊎◌}
use Rattle.std.proofs.lemmas.Bool.{cases_eq, cond-false}
use Rattle.std.proofs.lemmas.Option.{cond_some}
use Rattle.std.proofs.lemmas.List.{length-append, length-set, get_or-append-add, get_or-set_same, get_or-set_other, map-append, map-set, set-get_or, append-nil, get_or-map}
use Rattle.std.proofs.lemmas.List.Elements.{All-append, All-cons, All-get_or, All-head, All-nil, All-set, All-tail, All-weaker}
use Rattle.std.proofs.lemmas.List.Folds.{find-set}
use Rattle.std.proofs.lemmas.List.Quantifiers.{position-Some}
use Rattle.std.proofs.lemmas.List.Sums.{get_or-le-sum_by, sum_by-append, sum_by-cons, sum_by-set}
use Rattle.setoff_model.specs.Same.{same_name}
use Rattle.round_cut.specs.name_index.proofs.Rows.{longer}
use Rattle.setoff_model.proofs.SameNames.{name_same, same_name_is}
use Rattle.round_cut.specs.claim_history.specs.declared.entry.Entry.{Entry}
use Rattle.round_cut.specs.claim_history.specs.declared.call.PoolEntry.{PoolEntry}
use Rattle.round_cut.specs.claim_history.specs.Acts.{is_valid}
use Rattle.round_cut.specs.claim_history.specs.Pools.{IsLegal, AreValid, MayFollow, entries_in, entries_of, member_of}
use Rattle.round_cut.specs.claim_history.proofs.Pools.{in_other, in_own, join_law}
use Rattle.fact_tables.proofs.Places.{find_no_place, find_place}
use Rattle.claim_book.specs.Changes.{HasGrown, HasRoomMade, IsNew}
use Rattle.claim_book.specs.Pools.{AreBooks, BooksParts, IsPlace, KeepsRooms, history_found, history_in, is_book, member_at, members_at, no_book, no_entry, room_in, rooms_of}
use Rattle.claim_book.specs.declared.pool_book.PoolBook.{PoolBook}
use Rattle.claim_book.specs.declared.pool_book.Place.{Place}

-- ---- lists

front : {X : Type 0} (xs ys : List X) (i : ℕ) (d : X) → i < length xs → get_or (xs ++ ys) i d ≡ get_or xs i d
front [] ys i d lt = absurd (omega (arith, lt))
front (x ∷ xs) ys zero d lt = refl
front (x ∷ xs) ys (suc i) d lt = front xs ys i d (omega (arith, lt))

-- what stands behind a list
behind : {X : Type 0} (xs : List X) (y d : X) → get_or (xs ++ y ∷ []) (length xs) d ≡ y
behind xs y d = subst (λ (n : ℕ). get_or (xs ++ y ∷ []) n d ≡ y) (omega arith) (get_or-append-add xs (y ∷ []) 0 d)

find_set_own : {X : Type 0} (p : X → Bool) (xs : List X) (i : ℕ) (y : X) → position p xs ≡ Some i → i < length xs → p y ≡ true → find p (set xs i y) ≡ Some y
find_set_own p xs i y found within own =
    let is = cond_some (nat_lt (position_or_len p xs) (length xs)) (position_or_len p xs) i found in
    find-set p xs i y (sym is.1) within own

find_set_other : {X : Type 0} (p : X → Bool) (xs : List X) (i : ℕ) (y d : X) → p y ≡ false → p (get_or xs i d) ≡ false → find p (set xs i y) ≡ find p xs
find_set_other p [] i y d e f = refl
find_set_other p (x ∷ xs) zero y d e f = cond-false (p y) (Some y) (find p xs) e ∙ sym (cond-false (p x) (Some x) (find p xs) f)
find_set_other p (x ∷ xs) (suc i) y d e f = ap (λ (o : Option _). cond (p x) (Some x) o) (find_set_other p xs i y d e f)

-- ---- what is found of a pool

room_found : Option PoolBook → ℕ
room_found None = 0
room_found (Some b) = b.room

room_step : (t : Bool) (b : PoolBook) (rest : ℕ) (o : Option PoolBook) → rest ≡ room_found o → (if t then b.room else rest) ≡ room_found (cond t (Some b) o)
unfolding room_found
room_step true b rest o e = refl
room_step false b rest o e = e

room_is : (pool : List ℕ) (books : List PoolBook) → room_in pool (rooms_of books) ≡ room_found (find (is_book pool) books)
unfolding room_found
room_is pool [] = refl
room_is pool (b ∷ books) = room_step (is_book pool b) b (room_in pool (rooms_of books)) (find (is_book pool) books) (room_is pool books)

pub found_room : (pool : List ℕ) (books : List PoolBook) (i : ℕ) (d : PoolBook) → position (is_book pool) books ≡ Some i → room_in pool (rooms_of books) ≡ (get_or books i d).room
unfolding room_found
found_room pool books i d found = room_is pool books ∙ ap room_found (sym (find_place (is_book pool) books i d found))

pub no_room : (pool : List ℕ) (books : List PoolBook) → position (is_book pool) books ≡ None → room_in pool (rooms_of books) ≡ 0
unfolding room_found
no_room pool books none = room_is pool books ∙ ap room_found (sym (find_no_place (is_book pool) books none))

pub found_history : (pool : List ℕ) (books : List PoolBook) (i : ℕ) (d : PoolBook) → position (is_book pool) books ≡ Some i → history_in pool books ≡ (get_or books i d).book.history
found_history pool books i d found = ap history_found (sym (find_place (is_book pool) books i d found))

pub no_history : (pool : List ℕ) (books : List PoolBook) → position (is_book pool) books ≡ None → history_in pool books ≡ []
no_history pool books none = ap history_found (sym (find_no_place (is_book pool) books none))

-- where the test of another pool is known
not_this : (any pool : List ℕ) (b : PoolBook) → b.pool ≡ pool → same_name any pool ≡ false → is_book any b ≡ false
not_this any pool b is other = ap (same_name any) is ∙ other

-- ---- one book is another, which begins with the same entries

record Extends (old new : PoolBook) (more : List Entry) : Type 0 where
  pool : new.pool ≡ old.pool
  history : new.book.history ≡ old.book.history ++ more

abbrev member_in : PoolBook → ℕ → PoolEntry
member_in b at = member_of b.pool (get_or b.book.history at no_entry)

same_member : (old new : PoolBook) (more : List Entry) (at : ℕ) → Extends old new more → at < length old.book.history → member_in new at ≡ member_in old at
same_member old new more at ext lt =
    ap₂ member_of ext.pool (ap (λ (es : List Entry). get_or es at no_entry) ext.history ∙ front old.book.history more at no_entry lt)

module _ (books : List PoolBook) (i : ℕ) (b : PoolBook) (more : List Entry) (here : i < length books) (ext : Extends (get_or books i no_book) b more) where
  abbrev after : List PoolBook
  after = set books i b

  at_own : get_or after i no_book ≡ b
  at_own = get_or-set_same books i b no_book here

  place_step : (p : Place) → (p.pool ≡ i) ⊎ (p.pool ≡ i → ⊥) → IsPlace books p → (member_at after p ≡ member_at books p) × IsPlace after p
  place_step p (inl e) is =
      let lt : p.at < length (get_or books i no_book).book.history = subst (λ (n : ℕ). p.at < length (get_or books n no_book).book.history) e is.at in
      let now : get_or after p.pool no_book ≡ b = ap (λ (n : ℕ). get_or after n no_book) e ∙ at_own in (
        ap (λ (x : PoolBook). member_in x p.at) now ∙ same_member (get_or books i no_book) b more p.at ext lt ∙ ap (λ (n : ℕ). member_in (get_or books n no_book) p.at) (sym e),
        record {
          pool = omega (arith, is.pool, length-set books i b);
          at = subst (λ (x : PoolBook). p.at < length x.book.history) (sym now) (omega (arith, lt, ap length ext.history, length-append (get_or books i no_book).book.history more));
        },
      )
  place_step p (inr other) is =
      let now : get_or after p.pool no_book ≡ get_or books p.pool no_book = get_or-set_other books i p.pool b no_book other in (
        ap (λ (x : PoolBook). member_in x p.at) now,
        record {
          pool = omega (arith, is.pool, length-set books i b);
          at = subst (λ (x : PoolBook). p.at < length x.book.history) (sym now) is.at;
        },
      )

  members_same : (places : List Place) → All (IsPlace books) places → members_at after places ≡ members_at books places
  members_same [] are = refl
  members_same (p ∷ places) are =
      ap₂ (λ (m : PoolEntry) (ms : List PoolEntry). m ∷ ms) (place_step p (cases_eq p.pool i) (All-head (IsPlace books) p places are)).0 (members_same places (All-tail (IsPlace books) p places are))

  places_same : (places : List Place) → All (IsPlace books) places → All (IsPlace after) places
  places_same places are = All-weaker (IsPlace books) (IsPlace after) (λ p is. (place_step p (cases_eq p.pool i) is).1) places are

  names_same : map (λ (x : PoolBook). x.pool) after ≡ map (λ (x : PoolBook). x.pool) books
  names_same =
      map-set (λ (x : PoolBook). x.pool) books i b
      ∙ ap (set (map (λ (x : PoolBook). x.pool) books) i) (ext.pool ∙ sym (get_or-map (λ (x : PoolBook). x.pool) books i no_book [] here))
      ∙ set-get_or (map (λ (x : PoolBook). x.pool) books) i []

-- ---- an entry is put at the end of a pool

module _ (parts : BooksParts) (are : AreBooks parts) (pool : List ℕ) (i : ℕ) (found : position (is_book pool) parts.books ≡ Some i) (b : PoolBook) where
  abbrev old : PoolBook
  old = get_or parts.books i no_book

  abbrev members : List PoolEntry
  members = members_at parts.books parts.places

  pub within : i < length parts.books
  within = (position-Some (is_book pool) parts.books i no_book found).0

  pub pool_is : pool ≡ old.pool
  pool_is = (same_name_is pool old.pool).0 (position-Some (is_book pool) parts.books i no_book found).1

  -- its book has the entries of the pool, and its room is no more than the book's
  pub entries_are : old.book.history ≡ entries_in pool members
  entries_are = sym (found_history pool parts.books i no_book found) ∙ are.histories pool

  pub kept_room : old.room ≤ old.book.room
  kept_room = All-get_or (λ x. x.room ≤ x.book.room) parts.books i no_book within are.rooms_kept

  pub promised_room : old.room ≤ parts.promised
  promised_room = omega (arith, are.promised_is, get_or-le-sum_by (λ (x : PoolBook). x.room) parts.books i no_book within)

  -- the books of other pools are as they were
  other_histories : (more : List Entry) → Extends old b more → (any : List ℕ) → same_name any pool ≡ false → history_in any (set parts.books i b) ≡ history_in any parts.books
  other_histories more ext any other =
      ap history_found (find_set_other (is_book any) parts.books i b no_book (not_this any pool b (ext.pool ∙ sym pool_is) other) (not_this any pool old (sym pool_is) other))

  own_history : (more : List Entry) → Extends old b more → history_in pool (set parts.books i b) ≡ b.book.history
  own_history more ext =
      ap history_found (find_set_own (is_book pool) parts.books i b found within (ap (same_name pool) (ext.pool ∙ sym pool_is) ∙ name_same pool))

  own_room : (more : List Entry) → Extends old b more → room_in pool (rooms_of (set parts.books i b)) ≡ b.room
  unfolding room_found
  own_room more ext =
      room_is pool (set parts.books i b)
      ∙ ap room_found (find_set_own (is_book pool) parts.books i b found within (ap (same_name pool) (ext.pool ∙ sym pool_is) ∙ name_same pool))

  other_rooms : (more : List Entry) → Extends old b more → (any : List ℕ) → same_name any pool ≡ false → room_in any (rooms_of (set parts.books i b)) ≡ room_in any (rooms_of parts.books)
  other_rooms more ext any other =
      room_is any (set parts.books i b)
      ∙ ap room_found (find_set_other (is_book any) parts.books i b no_book (not_this any pool b (ext.pool ∙ sym pool_is) other) (not_this any pool old (sym pool_is) other))
      ∙ sym (room_is any parts.books)

  module _ (e : Entry) (grown : HasGrown old b e) where
    abbrev place : Place
    place = record { pool = i; at = length old.book.history }

    ext : Extends old b (e ∷ [])
    ext = record { pool = grown.pool; history = grown.history }

    new_member : member_at (set parts.books i b) place ≡ member_of pool e
    new_member =
        ap (λ (x : PoolBook). member_in x (length old.book.history)) (get_or-set_same parts.books i b no_book within)
        ∙ ap₂ member_of (grown.pool ∙ sym pool_is) (ap (λ (es : List Entry). get_or es (length old.book.history) no_entry) grown.history ∙ behind old.book.history e no_entry)

    pub members_grow : members_at (set parts.books i b) (parts.places ++ place ∷ []) ≡ members ++ member_of pool e ∷ []
    members_grow =
        map-append (member_at (set parts.books i b)) parts.places (place ∷ [])
        ∙ ap₂ (λ (ms : List PoolEntry) (m : PoolEntry). ms ++ m ∷ []) (members_same parts.books i b (e ∷ []) within ext parts.places are.places_are) new_member

    new_place : IsPlace (set parts.books i b) place
    new_place = record {
      pool = omega (arith, within, length-set parts.books i b);
      at = subst (λ (x : PoolBook). length old.book.history < length x.book.history) (sym (get_or-set_same parts.books i b no_book within)) (omega (arith, ap length grown.history, length-append old.book.history (e ∷ [])));
    }

    history_step : (any : List ℕ) (t : Bool) → same_name any pool ≡ t → history_in any (set parts.books i b) ≡ entries_in any (members ++ member_of pool e ∷ [])
    history_step any true is =
        subst (λ (q : List ℕ). history_in q (set parts.books i b) ≡ entries_in q (members ++ member_of pool e ∷ [])) (sym ((same_name_is any pool).0 is))
        (own_history (e ∷ []) ext ∙ grown.history ∙ ap (λ (es : List Entry). es ++ e ∷ []) entries_are ∙ sym (in_own members pool e))
    history_step any false is =
        other_histories (e ∷ []) ext any is ∙ are.histories any ∙ sym (in_other members (member_of pool e) any is)

    pub are_grown : (spare : ℕ) → parts.spare ≤ spare + 1 → is_valid e.act ≡ true → MayFollow members (member_of pool e)
        → AreBooks (record { names = parts.names; books = set parts.books i b; places = parts.places ++ place ∷ []; promised = parts.promised - 1; spare = spare; none = parts.none })
    are_grown spare enough valid next =
        let sum = sum_by-set (λ (x : PoolBook). x.room) parts.books i b no_book within in
        record {
          names_are = are.names_are ∙ sym (names_same parts.books i b (e ∷ []) within ext);
          histories = λ any. history_step any (same_name any pool) refl ∙ ap (entries_in any) (sym members_grow);
          places_are = All-append (IsPlace (set parts.books i b)) parts.places (place ∷ []) (places_same parts.books i b (e ∷ []) within ext parts.places are.places_are) (All-cons (IsPlace (set parts.books i b)) place [] new_place (All-nil (IsPlace (set parts.books i b))));
          rooms_kept = All-set (λ x. x.room ≤ x.book.room) parts.books i b grown.kept are.rooms_kept;
          promised_is = omega (arith, are.promised_is, sum, grown.room);
          promised_kept = omega (arith, are.promised_kept, enough);
          none_is = are.none_is;
          legal = subst IsLegal (sym members_grow) (join_law.legal members (member_of pool e) are.legal next);
          valid = subst AreValid (sym members_grow) (subst (All (λ x. is_valid x.act ≡ true)) (sym (map-append (λ (m : PoolEntry). m.entry) members (member_of pool e ∷ []))) (All-append (λ x. is_valid x.act ≡ true) (entries_of members) (e ∷ []) are.valid (All-cons (λ x. is_valid x.act ≡ true) e [] valid (All-nil (λ x. is_valid x.act ≡ true)))));
        }

    pub room_shrinks : room_in pool (rooms_of (set parts.books i b)) + 1 ≡ room_in pool (rooms_of parts.books)
    room_shrinks = omega (arith, own_room (e ∷ []) ext, found_room pool parts.books i no_book found, grown.room)

    pub rooms_stay : KeepsRooms pool (rooms_of parts.books) (rooms_of (set parts.books i b))
    rooms_stay = λ any other. omega (arith, other_rooms (e ∷ []) ext any other)

  -- ---- room is made in a pool

  module _ (made : HasRoomMade old b) where
    roomy : Extends old b []
    roomy = record { pool = made.pool; history = made.history ∙ sym (append-nil old.book.history) }

    pub members_stay : members_at (set parts.books i b) parts.places ≡ members
    members_stay = members_same parts.books i b [] within roomy parts.places are.places_are

    stay_step : (any : List ℕ) (t : Bool) → same_name any pool ≡ t → history_in any (set parts.books i b) ≡ history_in any parts.books
    stay_step any true is =
        subst (λ (q : List ℕ). history_in q (set parts.books i b) ≡ history_in q parts.books) (sym ((same_name_is any pool).0 is)) (own_history [] roomy ∙ made.history ∙ sym (found_history pool parts.books i no_book found))
    stay_step any false is = other_histories [] roomy any is

    pub are_roomy : (promised spare : ℕ) → promised + old.room ≡ parts.promised + b.room → promised ≤ spare
        → AreBooks (record { names = parts.names; books = set parts.books i b; places = parts.places; promised = promised; spare = spare; none = parts.none })
    are_roomy promised spare sums enough =
        let sum = sum_by-set (λ (x : PoolBook). x.room) parts.books i b no_book within in
        record {
          names_are = are.names_are ∙ sym (names_same parts.books i b [] within roomy);
          histories = λ any. stay_step any (same_name any pool) refl ∙ are.histories any ∙ ap (entries_in any) (sym members_stay);
          places_are = places_same parts.books i b [] within roomy parts.places are.places_are;
          rooms_kept = All-set (λ x. x.room ≤ x.book.room) parts.books i b made.kept are.rooms_kept;
          promised_is = omega (arith, are.promised_is, sum, sums);
          promised_kept = enough;
          none_is = are.none_is;
          legal = subst IsLegal (sym members_stay) are.legal;
          valid = subst AreValid (sym members_stay) are.valid;
        }

    pub room_made : room_in pool (rooms_of (set parts.books i b)) ≡ b.room
    room_made = own_room [] roomy

    rooms_step : (any : List ℕ) (t : Bool) → same_name any pool ≡ t → room_in any (rooms_of parts.books) ≤ room_in any (rooms_of (set parts.books i b))
    rooms_step any true is =
        subst (λ (q : List ℕ). room_in q (rooms_of parts.books) ≤ room_in q (rooms_of (set parts.books i b))) (sym ((same_name_is any pool).0 is)) (omega (arith, own_room [] roomy, found_room pool parts.books i no_book found, made.grows))
    rooms_step any false is = omega (arith, other_rooms [] roomy any is)

    pub rooms_grow : (any : List ℕ) → room_in any (rooms_of parts.books) ≤ room_in any (rooms_of (set parts.books i b))
    rooms_grow any = rooms_step any (same_name any pool) refl

-- ---- a book without entries is added

value_step : (t : Bool) (x : PoolBook) (o p : Option PoolBook) → history_found o ≡ history_found p → history_found (cond t (Some x) o) ≡ history_found (cond t (Some x) p)
value_step true x o p e = refl
value_step false x o p e = e

value_last : (t : Bool) (b : PoolBook) → b.book.history ≡ [] → history_found (cond t (Some b) None) ≡ []
value_last true b e = e
value_last false b e = refl

history_push : (any : List ℕ) (books : List PoolBook) (b : PoolBook) → b.book.history ≡ [] → history_in any (books ++ b ∷ []) ≡ history_in any books
history_push any [] b e = value_last (is_book any b) b e
history_push any (x ∷ books) b e = value_step (is_book any x) x (find (is_book any) (books ++ b ∷ [])) (find (is_book any) books) (history_push any books b e)

room_last : (t : Bool) (n : ℕ) → n ≡ 0 → (if t then n else 0) ≡ 0
room_last true n e = e
room_last false n e = refl

room_value : (t : Bool) (n r s : ℕ) → r ≡ s → (if t then n else r) ≡ (if t then n else s)
room_value true n r s e = refl
room_value false n r s e = e

pub room_push : (any : List ℕ) (books : List PoolBook) (b : PoolBook) → b.room ≡ 0 → room_in any (rooms_of (books ++ b ∷ [])) ≡ room_in any (rooms_of books)
room_push any [] b e = room_last (is_book any b) b.room e
room_push any (x ∷ books) b e = room_value (is_book any x) x.room (room_in any (rooms_of (books ++ b ∷ []))) (room_in any (rooms_of books)) (room_push any books b e)

module _ (books : List PoolBook) (b : PoolBook) where
  place_push : (p : Place) → IsPlace books p → (member_at (books ++ b ∷ []) p ≡ member_at books p) × IsPlace (books ++ b ∷ []) p
  place_push p is =
      let now : get_or (books ++ b ∷ []) p.pool no_book ≡ get_or books p.pool no_book = front books (b ∷ []) p.pool no_book is.pool in (
        ap (λ (x : PoolBook). member_in x p.at) now,
        record {
          pool = omega (arith, is.pool, length-append books (b ∷ []));
          at = subst (λ (x : PoolBook). p.at < length x.book.history) (sym now) is.at;
        },
      )

  pub members_push : (places : List Place) → All (IsPlace books) places → members_at (books ++ b ∷ []) places ≡ members_at books places
  members_push [] are = refl
  members_push (p ∷ places) are =
      ap₂ (λ (m : PoolEntry) (ms : List PoolEntry). m ∷ ms) (place_push p (All-head (IsPlace books) p places are)).0 (members_push places (All-tail (IsPlace books) p places are))

pub are_pushed : (parts : BooksParts) (pool : List ℕ) (b : PoolBook) → AreBooks parts → IsNew pool b
    → AreBooks (record { names = parts.names ++ pool ∷ []; books = parts.books ++ b ∷ []; places = parts.places; promised = parts.promised; spare = parts.spare; none = parts.none })
are_pushed parts pool b are new =
    let same = members_push parts.books b parts.places are.places_are in
    record {
      names_are = ap (λ (name : List ℕ). parts.names ++ name ∷ []) (sym new.pool_is) ∙ longer (λ (x : PoolBook). x.pool) parts.names parts.books are.names_are b;
      histories = λ any. history_push any parts.books b new.history ∙ are.histories any ∙ ap (entries_in any) (sym same);
      places_are = All-weaker (IsPlace parts.books) (IsPlace (parts.books ++ b ∷ [])) (λ p is. (place_push parts.books b p is).1) parts.places are.places_are;
      rooms_kept = All-append (λ x. x.room ≤ x.book.room) parts.books (b ∷ []) are.rooms_kept (All-cons (λ x. x.room ≤ x.book.room) b [] (omega (arith, new.room)) (All-nil (λ x. x.room ≤ x.book.room)));
      promised_is = omega (arith, are.promised_is, new.room, sum_by-append (λ (x : PoolBook). x.room) parts.books (b ∷ []), sum_by-cons (λ (x : PoolBook). x.room) b []);
      promised_kept = are.promised_kept;
      none_is = are.none_is;
      legal = subst IsLegal (sym same) are.legal;
      valid = subst AreValid (sym same) are.valid;
    }
