-- Segments that follow one another.
use Rattle.std.proofs.Common.{◌≡◌, ◌∙◌, ◌==◌, ℕ, List, [], ◌∷◌, ◌++◌, map, filter, refl, sym, ap, subst, append_assoc}
use Rattle.std.proofs.lemmas.List.{append-nil}
use Rattle.std.proofs.lemmas.List.Elements.{filter-append}
use Rattle.turn_lock.proofs.Histories.{prefix_self, prefix_trans}
use Rattle.lane_runner.specs.claim_history.specs.declared.call.PoolEntry.{PoolEntry}
use Rattle.lane_runner.specs.request_text.specs.declared.request.Request.{Request}
use Rattle.turn_lock.specs.declared.turn.Seat.{Seat}
use Rattle.turn_lock.specs.Seats.{seen, own, opened}
use Rattle.lane_runner.specs.served_lines.specs.declared.answer.Answer.{Answer}
use Rattle.lane_runner.specs.served_lines.specs.Served.{Line, LinesAdd, lane_lines, lines_of}
use Rattle.lane_runner.specs.served_lines.proofs.Longer.{lines_longer}
use Rattle.lane_runner.specs.Lanes.{HasServedLines}

-- lines and those behind them
pub lines_append : (whole : List PoolEntry) (opened : ℕ) (done : List PoolEntry) (lines later : List Line) (entries more : List PoolEntry)
    → LinesAdd whole opened done lines entries → LinesAdd whole opened (done ++ entries) later more → LinesAdd whole opened done (lines ++ later) (entries ++ more)
lines_append whole opened done [] later entries more none adds =
    subst (λ (l : List PoolEntry). LinesAdd whole opened done later (l ++ more)) (sym none)
    (subst (λ (l : List PoolEntry). LinesAdd whole opened l later more) (ap (λ (l : List PoolEntry). done ++ l) none ∙ append-nil done) adds)
lines_append whole opened done (first ∷ lines) later entries more h adds = (
  h.0,
  h.1 ++ more,
  ap (λ (l : List PoolEntry). l ++ more) h.2 ∙ append_assoc h.0 h.1 more,
  h.3,
  lines_append whole opened (done ++ h.0) lines later h.1 more h.4
      (subst (λ (l : List PoolEntry). LinesAdd whole opened l later more) (ap (λ (l : List PoolEntry). done ++ l) h.2 ∙ sym (append_assoc done h.0 h.1)) adds),
)

module _ {T B : Type 0} where
  pub none_served : (seat : Seat T PoolEntry B) → HasServedLines seat seat []
  none_served seat = record {
    more = [];
    same = record { lock_is = refl; number_is = refl; opened_is = refl; base_is = refl };
    begins = prefix_self (seen seat);
    grows = sym (append-nil (own seat));
    adds = refl;
  }

  pub then_served : (first old new : Seat T PoolEntry B) (lines later : List Line) → HasServedLines first old lines → HasServedLines old new later → HasServedLines first new (lines ++ later)
  then_served first old new lines later h k =
      let opened_is = k.same.opened_is in
      let before : LinesAdd (seen new) (opened new) (own first) lines h.more =
      subst (λ (n : ℕ). LinesAdd (seen new) n (own first) lines h.more) (sym opened_is)
      (subst (λ (l : List PoolEntry). LinesAdd l (opened old) (own first) lines h.more) k.begins.1
      (lines_longer (seen old) k.begins.0 (opened old) (own first) lines h.more h.adds)) in
      let after : LinesAdd (seen new) (opened new) (own first ++ h.more) later k.more =
      subst (λ (l : List PoolEntry). LinesAdd (seen new) (opened new) l later k.more) h.grows k.adds in
      record {
        more = h.more ++ k.more;
        same = record {
          lock_is = k.same.lock_is ∙ h.same.lock_is;
          number_is = k.same.number_is ∙ h.same.number_is;
          opened_is = k.same.opened_is ∙ h.same.opened_is;
          base_is = k.same.base_is ∙ h.same.base_is;
        };
        begins = prefix_trans (seen first) (seen old) (seen new) h.begins k.begins;
        grows = k.grows ∙ ap (λ (l : List PoolEntry). l ++ k.more) h.grows ∙ append_assoc (own first) h.more k.more;
        adds = lines_append (seen new) (opened new) (own first) lines later h.more k.more before after;
      }

-- the lines of a lane, in requests and those behind them
lines_of_append : (requests more : List Request) (answers later : List Answer) → map (λ a. a.line) answers ≡ map (λ r. r.line) requests → lines_of (requests ++ more) (answers ++ later) ≡ lines_of requests answers ++ lines_of more later
lines_of_append [] more [] later same = refl
lines_of_append [] more (a ∷ answers) later same = absurd (cc same)
lines_of_append (r ∷ requests) more [] later same = absurd (cc same)
lines_of_append (r ∷ requests) more (a ∷ answers) later same = ap (λ (l : List Line). record { request = r; end = a.end } ∷ l) (lines_of_append requests more answers later (cc same))

pub lane_lines_append : (lane : ℕ) (requests more : List Request) (answers later : List Answer) → map (λ a. a.line) answers ≡ map (λ r. r.line) requests
    → lane_lines lane (requests ++ more) (answers ++ later) ≡ lane_lines lane requests answers ++ lane_lines lane more later
lane_lines_append lane requests more answers later same =
    ap (filter (λ (line : Line). line.request.lane == lane)) (lines_of_append requests more answers later same)
    ∙ filter-append (λ (line : Line). line.request.lane == lane) (lines_of requests answers) (lines_of more later)
