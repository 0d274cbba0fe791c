-- Where the members of each lane are those of its lines, each member is of the lane and the pool of a request of the batch.
use Rattle.std.specs.Prelude.{if◌then◌else◌, filter}
use Rattle.std.specs.List.{list_all, list_any}
use Rattle.std.proofs.Common.{◌≡◌, ◌∙◌, ◌==◌, ◌||◌, ◌&&◌, inl, inr, ℕ, Bool, true, false, List, [], ◌∷◌, ◌++◌, length, refl, sym, ap, ap₂, subst}
use Rattle.std.proofs.lemmas.Bool.{and_parts, eq-eqb, or_right}
use Rattle.limited_book.specs.setoff_model.specs.Same.{same_name}
use Rattle.limited_book.specs.setoff_model.proofs.SameNames.{name_same}
use Rattle.limited_book.specs.claim_history.specs.declared.call.PoolEntry.{PoolEntry}
use Rattle.limited_book.specs.claim_history.specs.Pools.{members_by}
use Rattle.request_text.specs.declared.request.Request.{Request}
use Rattle.served_lines.specs.declared.answer.Answer.{Answer}
use Rattle.served_lines.specs.declared.line_end.LineEnd.{LineEnd}
use Rattle.served_lines.specs.declared.line_end.LineEnd.TheVariants as ends
use Rattle.served_lines.specs.Served.{IsCall, IsRound, Line, LineAdds, LinesAdd, has_request, is_asked_by, lane_lines, lines_of}

-- whether a request is of this lane
abbrev pub is_asked : ℕ → List Request → Bool
is_asked lane requests = list_any (λ (r : Request). r.lane == lane) requests

-- ---- no request of a lane

line_by : (lane : ℕ) (r : Request) (requests : List Request) (a : Answer) (answers : List Answer) (b : Bool) → (r.lane == lane) ≡ b → (b || is_asked lane requests) ≡ false
    → (is_asked lane requests ≡ false → lane_lines lane requests answers ≡ []) → lane_lines lane (r ∷ requests) (a ∷ answers) ≡ []
line_by lane r requests a answers true is none rest = absurd (cc none)
line_by lane r requests a answers false is none rest =
    ap (λ (b : Bool). if b then record { request = r; end = a.end } ∷ lane_lines lane requests answers else lane_lines lane requests answers) is ∙ rest none

pub no_lines : (lane : ℕ) (requests : List Request) (answers : List Answer) → is_asked lane requests ≡ false → lane_lines lane requests answers ≡ []
no_lines lane [] answers none = refl
no_lines lane (r ∷ requests) [] none = refl
no_lines lane (r ∷ requests) (a ∷ answers) none = line_by lane r requests a answers (r.lane == lane) refl none (no_lines lane requests answers)

-- ---- the members of a line are of its request

pub member_by : (caller : ℕ) (m : PoolEntry) (members : List PoolEntry) (b : Bool) → (m.entry.caller == caller) ≡ b
    → members_by caller (m ∷ members) ≡ (if b then m ∷ members_by caller members else members_by caller members)
member_by caller m members b is = ap (λ (c : Bool). if c then m ∷ members_by caller members else members_by caller members) is

asked_by : (request : Request) (m : PoolEntry) → m.entry.caller ≡ request.lane → m.pool ≡ request.pool → is_asked_by m request ≡ true
asked_by request m by in_pool =
    ap₂ (λ (b c : Bool). b && c) (eq-eqb request.lane m.entry.caller (sym by)) (ap (same_name request.pool) in_pool ∙ name_same request.pool)

-- what is asked by the request of each of these lines is asked by one of the requests
module _ (requests : List Request) where
  abbrev Covers : List Line → Type 0
  Covers [] = Unit {0}
  Covers (line ∷ lines) = ((m : PoolEntry) → is_asked_by m line.request ≡ true → has_request requests m ≡ true) × Covers lines

  abbrev AreAsked : List PoolEntry → Type 0
  AreAsked members = list_all (has_request requests) members ≡ true

  both_asked : (front later : List PoolEntry) → AreAsked front → AreAsked later → AreAsked (front ++ later)
  both_asked [] later f l = l
  both_asked (m ∷ front) later f l =
      let parts = and_parts (has_request requests m) (list_all (has_request requests) front) f in
      ap₂ (λ (b c : Bool). b && c) parts.0 (both_asked front later parts.1 l)

  one_asked : (m : PoolEntry) → has_request requests m ≡ true → AreAsked (m ∷ [])
  one_asked m is = ap (λ (b : Bool). b && true) is

  module _ (request : Request) (covers : (m : PoolEntry) → is_asked_by m request ≡ true → has_request requests m ≡ true) where
    call_asked : (m : PoolEntry) → IsCall request m → AreAsked (m ∷ [])
    call_asked m call = one_asked m (covers m (asked_by request m call.by call.in_pool))

    round_asked : (whole members : List PoolEntry) → IsRound whole request members → AreAsked members
    round_asked whole members h =
        let p = h.publishes in
        subst AreAsked (sym h.is) (both_asked (h.close ∷ []) (h.publication ∷ []) (call_asked h.close h.closes.call) (one_asked h.publication (covers h.publication (asked_by request h.publication p.by p.in_pool))))

    line_asked : (whole : List PoolEntry) (opened : ℕ) (done : List PoolEntry) (end : LineEnd) (members : List PoolEntry) → LineAdds whole opened done request end members → AreAsked members
    line_asked whole opened done ends.Replied members (inl h) = subst AreAsked (sym h.is) (call_asked h.call h.asks)
    line_asked whole opened done ends.Replied members (inr h) = round_asked whole members h
    line_asked whole opened done ends.Memory members (inl none) = subst AreAsked (sym none) refl
    line_asked whole opened done ends.Memory members (inr h) = subst AreAsked (sym h.is) (call_asked h.close h.closes.call)
    line_asked whole opened done (ends.Full what needed limit) members h = subst AreAsked (sym h.0) refl

  lines_asked : (whole : List PoolEntry) (opened : ℕ) (done : List PoolEntry) (lines : List Line) (members : List PoolEntry) → Covers lines → LinesAdd whole opened done lines members → AreAsked members
  lines_asked whole opened done [] members covers none = subst AreAsked (sym none) refl
  lines_asked whole opened done (line ∷ lines) members covers h =
      subst AreAsked (sym h.2)
      (both_asked h.0 h.1 (line_asked line.request covers.0 whole opened done line.end h.0 h.3) (lines_asked whole opened (done ++ h.0) lines h.1 covers.1 h.4))

  kept : (b : Bool) (line : Line) (lines : List Line) → ((m : PoolEntry) → is_asked_by m line.request ≡ true → has_request requests m ≡ true) → Covers lines → Covers (if b then line ∷ lines else lines)
  kept true line lines own covers = (own, covers)
  kept false line lines own covers = covers

  filtered : (keep : Line → Bool) (lines : List Line) → Covers lines → Covers (filter keep lines)
  filtered keep [] covers = tt
  filtered keep (line ∷ lines) covers = kept (keep line) line (filter keep lines) covers.0 (filtered keep lines covers.1)

-- the lines of requests are covered by them
wider : (request : Request) (requests : List Request) (lines : List Line) → Covers requests lines → Covers (request ∷ requests) lines
wider request requests [] covers = tt
wider request requests (line ∷ lines) covers =
    (λ m is. or_right (is_asked_by m request) (has_request requests m) (covers.0 m is), wider request requests lines covers.1)

lines_covered : (requests : List Request) (answers : List Answer) → Covers requests (lines_of requests answers)
lines_covered [] answers = tt
lines_covered (request ∷ requests) [] = tt
lines_covered (request ∷ requests) (a ∷ answers) =
    (λ m is. ap (λ (b : Bool). b || has_request requests m) is, wider request requests (lines_of requests answers) (lines_covered requests answers))

-- ---- each member

-- what holds of the members of each caller holds of all
of_all : (p : PoolEntry → Bool) (members : List PoolEntry) → ((lane : ℕ) → list_all p (members_by lane members) ≡ true) → list_all p members ≡ true
of_all p [] each = refl
of_all p (m ∷ members) each =
    let own = ap (list_all p) (sym (member_by m.entry.caller m members true (eq-eqb m.entry.caller m.entry.caller refl))) ∙ each m.entry.caller in
    ap₂ (λ (b c : Bool). b && c) (and_parts (p m) (list_all p (members_by m.entry.caller members)) own).0
    (of_all p members (λ lane. later lane (m.entry.caller == lane) refl)) where
      later : (lane : ℕ) (b : Bool) → (m.entry.caller == lane) ≡ b → list_all p (members_by lane members) ≡ true
      later lane true is =
          (and_parts (p m) (list_all p (members_by lane members)) (ap (list_all p) (sym (member_by lane m members true is)) ∙ each lane)).1
      later lane false is = ap (list_all p) (sym (member_by lane m members false is)) ∙ each lane

pub requests_found : (batch : List Request) (answers : List Answer) (before added : List PoolEntry)
    → ((lane : ℕ) → LinesAdd (before ++ added) (length before) [] (lane_lines lane batch answers) (members_by lane added)) → list_all (has_request batch) added ≡ true
requests_found batch answers before added each =
    of_all (has_request batch) added
    (λ lane. lines_asked batch (before ++ added) (length before) [] (lane_lines lane batch answers) (members_by lane added)
    (filtered batch (λ line. line.request.lane == lane) (lines_of batch answers) (lines_covered batch answers)) (each lane))
