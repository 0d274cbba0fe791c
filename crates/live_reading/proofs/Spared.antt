-- Room for the answers of all whole lines that were taken.
use Rattle.std.specs.Prelude.{Some, Option, Vec}
use Rattle.live_reading.specs.declared.reading.TheConstants.{MOST_ASKED}
use Rattle.input_front.specs.declared.intake.TheConstants.{PIECE}
use Rattle.std.proofs.Common.{◌≡◌, ◌∙◌, ◌+◌, ◌-◌, ◌<◌, ◌≤◌, ℕ, List, [], ◌∷◌, ◌++◌, cond, count_by, length, drop, refl, sym, ap, arith, length-append, length-drop, vec_len, vec_capacity}
use Rattle.std.proofs.lemmas.List.{take-append-drop}
use Rattle.std.proofs.lemmas.List.Splits.{length-slice_split, slice_split_none}
use Rattle.std.proofs.lemmas.List.Sums.{count_by-le-length, sum_by-append}
use Rattle.std.specs.List.{slice_split}
use Rattle.std.specs.declared.alloc.Global.{Global}
use Rattle.served_lines.specs.declared.answer.Answer.{Answer}
use Rattle.served_lines.specs.request_text.specs.declared.request.Request.{Request}
use Rattle.input_front.specs.Front.{is_feed, whole_lines, whole_of_parts}
use Rattle.input_front.specs.Taken.{HasAsked, HasBatches, HasNoFeed, HasNoLine, HasPiece, HasRead, IntakeView}
use Rattle.live_reading.specs.declared.stop.Stop.{Stop}
use Rattle.live_reading.specs.Sparing.{HasSpare, KeepsSpare}

-- ---- how many whole lines there are

of_parts : (parts : List (List ℕ)) → 0 < length parts → length (whole_of_parts parts) + 1 ≡ length parts
of_parts [] some = absurd (omega (arith, some))
of_parts (x ∷ []) some = refl
of_parts (x ∷ y ∷ more) some = let rest = of_parts (y ∷ more) (omega arith) in omega (arith, rest)

-- as many as line feeds
as_feeds : (bytes : List ℕ) → length (whole_lines bytes) ≡ count_by is_feed bytes
as_feeds bytes =
    let parts = slice_split is_feed bytes in
    let long = length-slice_split is_feed bytes in
    omega (arith, of_parts parts (omega (arith, long)), long)

few_whole : (bytes : List ℕ) → length (whole_lines bytes) ≤ length bytes
few_whole bytes = omega (arith, as_feeds bytes, count_by-le-length is_feed bytes)

-- a piece has at most a line feed for each byte
whole_more : (bytes piece : List ℕ) → length (whole_lines (bytes ++ piece)) ≤ length (whole_lines bytes) + length piece
whole_more bytes piece =
    let both : count_by is_feed (bytes ++ piece) ≡ count_by is_feed bytes + count_by is_feed piece = sum_by-append (λ b. cond (is_feed b) 1 0) bytes piece in
    omega (arith, as_feeds (bytes ++ piece), as_feeds bytes, both, count_by-le-length is_feed piece)

no_whole : (bytes : List ℕ) → HasNoFeed bytes → whole_lines bytes ≡ []
no_whole bytes none = ap whole_of_parts (slice_split_none is_feed bytes none)

-- those that were read, and those that were not
whole_read : (v : IntakeView) (ended : List (List Request)) (batch : List Request) → HasRead v ended batch → length (whole_lines v.taken) ≡ v.lines + length (whole_lines (drop v.read v.taken))
whole_read v ended batch h =
    let rest = drop v.read v.taken in
    let all : whole_lines v.taken ≡ h.before ++ whole_lines rest = ap whole_lines (sym (take-append-drop v.read v.taken)) ∙ h.whole.as_whole rest in
    omega (arith, ap length all, length-append h.before (whole_lines rest), h.counted)

-- ---- room for their answers

pub spare_start : (v : IntakeView) (ended : List (List Request)) (batch : List Request) → HasRead v ended batch → (answers : Vec Answer Global) → vec_len answers ≡ 0 → length v.taken - v.read < vec_capacity answers → HasSpare v answers 0
spare_start v ended batch h answers none room = omega (arith, whole_read v ended batch h, few_whole (drop v.read v.taken), length-drop v.read v.taken, none, room)

module _ (v : IntakeView) (batches : HasBatches v) (olds : Vec Answer Global) (noted : ℕ) (spare : HasSpare v olds noted) where
  all_whole : length (whole_lines v.taken) ≡ v.lines + length (whole_lines (drop v.read v.taken))
  all_whole = whole_read v batches.ended batches.batch batches.read

  -- the batch has ended, or its last line is noted
  pub keeps_over : (w : IntakeView) (now : ℕ) (why : Stop) → now ≤ noted + 1 → KeepsSpare v w olds olds now (Some why)
  keeps_over w now why few = record {
    items = refl;
    len = refl;
    room = omega (arith, all_whole, spare, few);
    spare = λ none. absurd (let is = none in cc);
    moves = λ none. absurd (let is = none in cc);
  }

  -- one line more was read
  pub keeps_asked : (w : IntakeView) (now : ℕ) (request : Request) (why : Option Stop) → HasAsked v w request → now ≡ noted + 1 → KeepsSpare v w olds olds now why
  keeps_asked w now request why h one =
      let taken : w.taken ≡ v.taken = ap (λ (x : IntakeView). x.taken) h.same in
      let lines : w.lines ≡ v.lines + 1 = ap (λ (x : IntakeView). x.lines) h.same in
      record {
        items = refl;
        len = refl;
        room = omega (arith, all_whole, spare, one);
        spare = λ none. omega (arith, spare, one, lines, ap (λ (t : List ℕ). length (whole_lines t)) taken);
        moves = λ none. omega (arith, h.later, ap (λ (t : List ℕ). length t) taken);
      }

  -- room was made before the source was asked
  module _ (news : Vec Answer Global) (items : news.items ≡ olds.items) (len : vec_len news ≡ vec_len olds) where
    module _ (capacity : vec_capacity olds ≤ vec_capacity news) where
      pub keeps_reserved : (w : IntakeView) (now : ℕ) (why : Stop) → now ≤ noted + 1 → KeepsSpare v w olds news now (Some why)
      keeps_reserved w now why few = record {
        items = items;
        len = len;
        room = omega (arith, all_whole, spare, few, len, capacity);
        spare = λ none. absurd (let is = none in cc);
        moves = λ none. absurd (let is = none in cc);
      }

    pub keeps_piece : (left_old left_new : Option (List ℕ)) (u w : IntakeView) (why : Option Stop) → u ≡ v → HasNoLine v → HasPiece left_old left_new u w → noted ≤ MOST_ASKED → vec_len olds + (MOST_ASKED + (PIECE + 1)) ≤ vec_capacity news → KeepsSpare v w olds news noted why
    keeps_piece left_old left_new u w why same none p few room =
        let taken : w.taken ≡ v.taken ++ p.piece = ap (λ (x : IntakeView). x.taken) p.same ∙ ap (λ (x : IntakeView). x.taken ++ p.piece) same in
        let lines : w.lines ≡ v.lines = ap (λ (x : IntakeView). x.lines) p.same ∙ ap (λ (x : IntakeView). x.lines) same in
        let read : w.read ≡ v.read = ap (λ (x : IntakeView). x.read) p.same ∙ ap (λ (x : IntakeView). x.read) same in
        let gone : length (whole_lines (drop v.read v.taken)) ≡ 0 = ap length (no_whole (drop v.read v.taken) none.none) in
        record {
          items = items;
          len = len;
          room = omega (arith, few, room, len);
          spare = λ on. omega (arith, few, room, len, lines, all_whole, gone, ap (λ (t : List ℕ). length (whole_lines t)) taken, whole_more v.taken p.piece, p.few);
          moves = λ on. omega (arith, read, ap (λ (t : List ℕ). length t) taken, length-append v.taken p.piece, p.some);
        }

-- steps of the reader, one after another
pub keeps_twice : (u v w : IntakeView) (firsts olds news : Vec Answer Global) (noted : ℕ) (why : Option Stop) → olds.items ≡ firsts.items → vec_len olds ≡ vec_len firsts → u.read + length u.taken ≤ v.read + length v.taken
    → KeepsSpare v w olds news noted why → KeepsSpare u w firsts news noted why
keeps_twice u v w firsts olds news noted why items len le k = record {
  items = k.items ∙ items;
  len = k.len ∙ len;
  room = k.room;
  spare = k.spare;
  moves = λ none. let one = k.moves none in omega (arith, one, le);
}
