-- The members of lines in a longer history, and of one line more.
use Rattle.std.proofs.Common.{◌∙◌, ℕ, List, [], ◌∷◌, ◌++◌, refl, sym, ap, subst, inl, inr, append_assoc}
use Rattle.std.proofs.lemmas.List.{append-nil}
use Rattle.limited_book.specs.claim_history.specs.declared.call.Call.{Call}
use Rattle.limited_book.specs.claim_history.specs.declared.call.PoolEntry.{PoolEntry}
use Rattle.limited_book.specs.claim_history.specs.declared.entry.Entry.{Entry}
use Rattle.limited_book.specs.claim_history.specs.Pools.{entries_in}
use Rattle.limited_book.specs.claim_history.specs.Rounds as one
use Rattle.limited_book.specs.claim_history.proofs.OneCut.{cut_longer}
use Rattle.limited_book.specs.claim_history.proofs.Pools.{in_append}
use Rattle.limited_book.specs.declared.full.Full.{Full}
use Rattle.request_text.specs.declared.request.Request.{Request}
use Rattle.served_lines.specs.declared.line_end.LineEnd.{LineEnd}
use Rattle.served_lines.specs.declared.line_end.LineEnd.TheVariants as ends
use Rattle.served_lines.specs.Served.{IsRound, IsPublicationOf, WasFull, asked_call, Line, LineAdds, LinesAdd}

publication_longer : (whole more : List PoolEntry) (request : Request) (round : ℕ) (m : PoolEntry) → IsPublicationOf whole request round m → IsPublicationOf (whole ++ more) request round m
publication_longer whole more request round m h = record {
  outcome = h.outcome;
  cut = h.cut;
  by = h.by;
  in_pool = h.in_pool;
  asks = h.asks;
  ends = h.ends;
  cut_is = subst (λ (es : List Entry). one.IsPoolRoundCut es round h.cut) (sym (in_append request.pool whole more))
      (cut_longer (entries_in request.pool whole) (entries_in request.pool more) round h.cut h.cut_is);
  proved = h.proved;
  oldest_first = h.oldest_first;
}

round_longer : (whole more : List PoolEntry) (request : Request) (members : List PoolEntry) → IsRound whole request members → IsRound (whole ++ more) request members
round_longer whole more request members h = record {
  round = h.round;
  close = h.close;
  publication = h.publication;
  is = h.is;
  closes = h.closes;
  publishes = publication_longer whole more request h.round h.publication h.publishes;
}

was_longer : (whole more : List PoolEntry) (opened : ℕ) (done : List PoolEntry) (call : Call) (full : Full) → WasFull whole opened done call full → WasFull (whole ++ more) opened done call full
was_longer whole more opened done call full h = record {
  place = h.place;
  begins = (h.begins.0 ++ more, sym (append_assoc h.place h.begins.0 more) ∙ ap (λ (l : List PoolEntry). l ++ more) h.begins.1);
  past = h.past;
  done_is = h.done_is;
  is_full = h.is_full;
}

pub line_longer : (whole more : List PoolEntry) (opened : ℕ) (done : List PoolEntry) (request : Request) (end : LineEnd) (members : List PoolEntry) → LineAdds whole opened done request end members → LineAdds (whole ++ more) opened done request end members
line_longer whole more opened done request ends.Replied members (inl one) = inl one
line_longer whole more opened done request ends.Replied members (inr round) = inr (round_longer whole more request members round)
line_longer whole more opened done request ends.Memory members h = h
line_longer whole more opened done request (ends.Full what needed limit) members h = (h.0, was_longer whole more opened done (asked_call request) _ h.1)

pub lines_longer : (whole more : List PoolEntry) (opened : ℕ) (done : List PoolEntry) (lines : List Line) (members : List PoolEntry) → LinesAdd whole opened done lines members → LinesAdd (whole ++ more) opened done lines members
lines_longer whole more opened done [] members h = h
lines_longer whole more opened done (line ∷ lines) members h =
    (h.0, h.1, h.2, line_longer whole more opened done line.request line.end h.0 h.3, lines_longer whole more opened (done ++ h.0) lines h.1 h.4)

-- and one line more adds its members at the end
pub lines_snoc : (whole : List PoolEntry) (opened : ℕ) (done : List PoolEntry) (lines : List Line) (line : Line) (members more : List PoolEntry)
    → LinesAdd whole opened done lines members → LineAdds whole opened (done ++ members) line.request line.end more → LinesAdd whole opened done (lines ++ line ∷ []) (members ++ more)
lines_snoc whole opened done [] line members more none adds = (
  more,
  [],
  ap (λ (l : List PoolEntry). l ++ more) none ∙ sym (append-nil more),
  subst (λ (l : List PoolEntry). LineAdds whole opened l line.request line.end more) (ap (λ (l : List PoolEntry). done ++ l) none ∙ append-nil done) adds,
  refl,
)
lines_snoc whole opened done (first ∷ lines) line members more h adds = (
  h.0,
  h.1 ++ more,
  ap (λ (l : List PoolEntry). l ++ more) h.2 ∙ append_assoc h.0 h.1 more,
  h.3,
  lines_snoc whole opened (done ++ h.0) lines line h.1 more h.4
      (subst (λ (l : List PoolEntry). LineAdds whole opened l line.request line.end more) (ap (λ (l : List PoolEntry). done ++ l) h.2 ∙ sym (append_assoc done h.0 h.1)) adds),
)
