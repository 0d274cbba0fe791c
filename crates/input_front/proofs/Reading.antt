-- The batches of what was read, one line more at a time.
use Rattle.std.proofs.Common.{◌≡◌, ◌∙◌, ◌+◌, ◌≤◌, ◌<◌, ℕ, Bool, true, false, List, [], ◌∷◌, ◌++◌, length, take, drop, refl, sym, ap, subst, arith, length-append, length-drop}
use Rattle.std.specs.Prelude.{MatchBool, Some}
use Rattle.std.specs.Str.Lines.{lines, strip_carriage_return}
use Rattle.std.proofs.lemmas.List.{append-nil, take-append-drop, take-append-le}
use Rattle.request_text.specs.declared.error.LineCause.{LineCause}
use Rattle.request_text.specs.declared.request.Request.{Request}
use Rattle.request_text.specs.Lanes.{fence}
use Rattle.request_text.specs.Causes.{IsBadLine}
use Rattle.request_text.specs.Grammar.{AreBatches, IsLine, IsRequestText}
use Rattle.request_text.proofs.Causes.{asks_nothing}
use Rattle.input_front.specs.declared.line.Line.{Line}
use Rattle.input_front.specs.declared.line.Line.TheVariants as line
use Rattle.input_front.specs.Front.{AsksNothing, IsBatchAt, Says, whole_lines}
use Rattle.input_front.specs.Taken.{HasAsked, HasFenced, HasLast, HasNoFeed, HasNoLine, HasRead, IntakeView, IsAsked, IsEnded, IsFirstBad, IsFrontRead, IsIntake, IsWhole, KeepsRead, OfRead, StaysBad}
use mathlib.Core.Bool.{true≢false}
use Rattle.input_front.proofs.Parts.{comes_next, comes_still, goes_on, last_whole, none_there, none_whole, whole_still}
use Rattle.input_front.proofs.Spelled.{no_fence, with_fence, with_request}

-- what a request asks can be asked
pub can_be_asked : (text : List ℕ) (number : ℕ) (r : Request) → r.line ≡ number → IsLine text r.lane r.pool r.act → IsAsked number r
can_be_asked text number r number_is asks = record { number_is = number_is; can = record { by = asks.by; named = asks.named; valid = asks.valid } }

fence_asks_nothing : AsksNothing fence
fence_asks_nothing = no_fence

bad_asks_nothing : (text : List ℕ) (cause : LineCause) → IsBadLine text cause → AsksNothing text
bad_asks_nothing text cause bad = asks_nothing text cause bad.why

-- ---- one whole line more

module _ (v : IntakeView) (n : ℕ) (e : IsEnded (drop v.read v.taken) n) where
  abbrev pub found : List ℕ
  found = strip_carriage_return e.line

  -- what is read with it
  abbrev With : ℕ → ℕ → Bool → IntakeView
  With read lines fenced = record v { read = read; lines = lines; fenced = fenced }

  pub reads_asked : (read lines : ℕ) (fenced : Bool) → read ≡ v.read + n → lines ≡ v.lines + 1 → (r : Request) → r.line ≡ v.lines + 1 → IsLine found r.lane r.pool r.act
      → OfRead v (λ ended batch. HasRead (With read lines fenced) ended (batch ++ r ∷ []))
  reads_asked read lines fenced to next r number_is asks = λ ended batch h. record {
    before = h.before ++ found ∷ [];
    whole = subst (λ k. IsWhole (take k v.taken) (h.before ++ found ∷ [])) (sym to) (goes_on v.taken v.read n e h.before h.whole);
    spelled = with_request h.before ended batch found r h.spelled (omega (arith, number_is, h.counted)) asks;
    counted = next ∙ omega (arith, h.counted, length-append h.before (found ∷ []));
  }

  pub reads_fence : (read lines : ℕ) (fenced : Bool) → read ≡ v.read + n → lines ≡ v.lines + 1 → found ≡ fence
      → OfRead v (λ ended batch. HasRead (With read lines fenced) (ended ++ batch ∷ []) [])
  reads_fence read lines fenced to next is = λ ended batch h. record {
    before = h.before ++ found ∷ [];
    whole = subst (λ k. IsWhole (take k v.taken) (h.before ++ found ∷ [])) (sym to) (goes_on v.taken v.read n e h.before h.whole);
    spelled = with_fence h.before ended batch found h.spelled is;
    counted = next ∙ omega (arith, h.counted, length-append h.before (found ∷ []));
  }

  -- it ends the batch
  pub ends_at : found ≡ fence → OfRead v (λ ended batch. IsBatchAt v.taken false (length ended) batch)
  ends_at is = λ ended batch h.
      let next = comes_next v.taken v.read n e h.before h.whole in
      record { earlier = ended; place_is = refl; before = h.before; after = found ∷ next.1; cut = next.3; spelled = h.spelled; ends = subst AsksNothing (sym is) fence_asks_nothing }

  -- it is the first bad one
  pub first_bad : (number : ℕ) (cause : LineCause) → number ≡ v.lines + 1 → IsBadLine found cause → IsFirstBad v number cause
  first_bad number cause number_is bad = (
    (λ ended batch h.
        let next = comes_next v.taken v.read n e h.before h.whole in
        record { before = h.before; line = found; after = next.0; cut = next.2; number_is = omega (arith, number_is, h.counted); batches = ended ++ batch ∷ []; spelled = h.spelled; bad = bad }),
    (λ ended batch h.
        let next = comes_next v.taken v.read n e h.before h.whole in
        record { before = h.before; after = found ∷ next.1; cut = next.3; spelled = h.spelled; stops = (bad.no_fence, bad_asks_nothing found cause bad) }),
  )

  -- and is so whatever follows
  pub stays_bad : (number : ℕ) (cause : LineCause) → number ≡ v.lines + 1 → IsBadLine found cause → StaysBad v number cause
  stays_bad number cause number_is bad = λ more ended batch h. record {
    first = record {
      before = h.before;
      line = found;
      after = lines (drop n (drop v.read v.taken) ++ more);
      cut = comes_still v.taken v.read n e h.before h.whole more;
      number_is = omega (arith, number_is, h.counted);
      batches = ended ++ batch ∷ [];
      spelled = h.spelled;
      bad = bad;
    };
    later = whole_lines (drop n (drop v.read v.taken) ++ more);
    whole = whole_still v.taken v.read n e h.before h.whole more;
  }

  more_read : v.read < v.read + n
  more_read = omega (arith, e.some)

  pub has_asked : (read lines : ℕ) (fenced : Bool) → fenced ≡ v.fenced → read ≡ v.read + n → lines ≡ v.lines + 1 → (r : Request) → r.line ≡ v.lines + 1
      → IsLine found r.lane r.pool r.act → HasAsked v (With read lines fenced) r
  has_asked read lines fenced as_before to next r number_is asks = record {
    later = omega (arith, to, e.some);
    same = ap (λ l. With read l fenced) next ∙ ap (λ f. With read (v.lines + 1) f) as_before;
    asked = can_be_asked found (v.lines + 1) r number_is asks;
    reads = reads_asked read lines fenced to next r number_is asks;
  }

  pub has_fenced : (read lines : ℕ) → read ≡ v.read + n → lines ≡ v.lines + 1 → found ≡ fence → HasFenced v (With read lines true)
  has_fenced read lines to next is = record {
    later = omega (arith, to, e.some);
    same = ap (λ l. With read l true) next;
    reads = reads_fence read lines true to next is;
    at = ends_at is;
  }

  -- ---- what is kept

  module _ (sought : ℕ) (kept : IsIntake v sought) (begun : v.fenced ≡ false) where
    placed : v.served ≡ length kept.batches.ended + 1
    placed = subst (λ f. MatchBool f ((kept.batches.batch ≡ []) × (v.served ≡ length kept.batches.ended)) (v.served ≡ length kept.batches.ended + 1)) begun kept.batches.places

    pub keeps_asked : (read lines : ℕ) (fenced : Bool) → fenced ≡ v.fenced → read ≡ v.read + n → lines ≡ v.lines + 1 → (r : Request) → r.line ≡ v.lines + 1
        → IsLine found r.lane r.pool r.act → IsIntake (With read lines fenced) read
    keeps_asked read lines fenced as_before to next r number_is asks =
        let off : fenced ≡ false = as_before ∙ begun in
        record {
          limited = kept.limited;
          behind = omega arith;
          within = omega (arith, to, e.within, length-drop v.read v.taken, kept.behind, kept.within);
          held = kept.held;
          numbered = omega (arith, to, next, e.some, kept.numbered);
          few = omega (arith, next, kept.few);
          fewer = λ on. absurd (true≢false (sym on ∙ off));
          none = none_there read (drop read v.taken);
          batches = record {
            ended = kept.batches.ended;
            batch = kept.batches.batch ++ r ∷ [];
            read = reads_asked read lines fenced to next r number_is asks kept.batches.ended kept.batches.batch kept.batches.read;
            places = subst (λ f. MatchBool f ((kept.batches.batch ++ r ∷ [] ≡ []) × (v.served ≡ length kept.batches.ended)) (v.served ≡ length kept.batches.ended + 1)) (sym off) placed;
          };
        }

    pub keeps_fenced : (read lines : ℕ) → read ≡ v.read + n → lines ≡ v.lines + 1 → found ≡ fence → IsIntake (With read lines true) read
    keeps_fenced read lines to next is = record {
      limited = kept.limited;
      behind = omega arith;
      within = omega (arith, to, e.within, length-drop v.read v.taken, kept.behind, kept.within);
      held = kept.held;
      numbered = omega (arith, to, next, e.some, kept.numbered);
      few = omega (arith, next, kept.few);
      fewer = λ on. omega (arith, next, kept.few);
      none = none_there read (drop read v.taken);
      batches = record {
        ended = kept.batches.ended ++ kept.batches.batch ∷ [];
        batch = [];
        read = reads_fence read lines true to next is kept.batches.ended kept.batches.batch kept.batches.read;
        places = (refl, omega (arith, placed, length-append kept.batches.ended (kept.batches.batch ∷ [])));
      };
    }

-- ---- no line more

module _ (v : IntakeView) where
  -- what stands before the next line
  pub front_read : IsFrontRead v
  front_read = λ ended batch h. record {
    before = h.before;
    after = [];
    cut = ap whole_lines (sym (append-nil (take v.read v.taken))) ∙ h.whole.as_whole [];
    spelled = h.spelled;
    stops = tt;
  }

  whole_is : HasNoFeed (drop v.read v.taken) → (before : List (List ℕ)) → IsWhole (take v.read v.taken) before → whole_lines v.taken ≡ before ++ []
  whole_is none before h =
      ap whole_lines (sym (take-append-drop v.read v.taken)) ∙ h.as_whole (drop v.read v.taken) ∙ ap (λ l. before ++ l) (none_whole (drop v.read v.taken) none)

  pub no_line : HasNoFeed (drop v.read v.taken) → HasNoLine v
  no_line none = record {
    none = none;
    front = λ ended batch h. record { before = h.before; after = []; cut = whole_is none h.before h.whole; spelled = h.spelled; stops = tt };
  }

  -- ---- the rest is the last line

  module _ (none : HasNoFeed (drop v.read v.taken)) where
    pub all_read : drop v.read v.taken ≡ [] → OfRead v (λ ended batch. IsRequestText v.taken (ended ++ batch ∷ []))
    all_read gone = λ ended batch h.
        subst (λ ls. AreBatches 1 ls (ended ++ batch ∷ []))
        (sym (ap lines (sym (take-append-drop v.read v.taken)) ∙ h.whole.as_lines (drop v.read v.taken) ∙ ap (λ t. h.before ++ lines t) gone ∙ append-nil h.before)) h.spelled

    module _ (some : drop v.read v.taken ≡ [] → ⊥) where
      abbrev rest : List ℕ
      rest = drop v.read v.taken

      all_is : (before : List (List ℕ)) → IsWhole (take v.read v.taken) before → lines v.taken ≡ before ++ rest ∷ []
      all_is before h = last_whole v.taken v.read none some before h

      pub last_asked : (r : Request) → r.line ≡ v.lines + 1 → IsLine rest r.lane r.pool r.act → OfRead v (λ ended batch. IsRequestText v.taken (ended ++ (batch ++ r ∷ []) ∷ []))
      last_asked r number_is asks = λ ended batch h.
          subst (λ ls. AreBatches 1 ls (ended ++ (batch ++ r ∷ []) ∷ [])) (sym (all_is h.before h.whole))
          (with_request h.before ended batch rest r h.spelled (omega (arith, number_is, h.counted)) asks)

      pub last_fence : rest ≡ fence → OfRead v (λ ended batch. IsRequestText v.taken ((ended ++ batch ∷ []) ++ [] ∷ []) × IsBatchAt v.taken true (length ended) batch)
      last_fence is = λ ended batch h. (
        subst (λ ls. AreBatches 1 ls ((ended ++ batch ∷ []) ++ [] ∷ [])) (sym (all_is h.before h.whole)) (with_fence h.before ended batch rest h.spelled is),
        record { earlier = ended; place_is = refl; before = h.before; after = rest ∷ []; cut = all_is h.before h.whole; spelled = h.spelled; ends = subst AsksNothing (sym is) fence_asks_nothing },
      )

      pub last_bad : (number : ℕ) (cause : LineCause) → number ≡ v.lines + 1 → IsBadLine rest cause → IsFirstBad v number cause
      last_bad number cause number_is bad = (
        (λ ended batch h.
            record { before = h.before; line = rest; after = []; cut = all_is h.before h.whole; number_is = omega (arith, number_is, h.counted); batches = ended ++ batch ∷ []; spelled = h.spelled; bad = bad }),
        (no_line none).front,
      )

      pub last_says : (said : Line) → Says (v.lines + 1) rest said → HasLast v (Some said)
      last_says (line.Asks r) says = (can_be_asked rest (v.lines + 1) r says.0 says.1, last_asked r says.0 says.1)
      last_says line.Fence says = last_fence says
      last_says (line.Bad number cause) says = last_bad number cause says.0 says.1
      last_says line.Memory says = front_read

-- ---- what a piece more, or a batch begun, leaves

-- what was read stands there still
pub keeps_read : (v : IntakeView) (piece : List ℕ) (taken : List ℕ) → v.read ≤ length v.taken → taken ≡ v.taken ++ piece → KeepsRead v (record v { taken = taken })
keeps_read v piece taken within more = λ ended batch h. record {
  before = h.before;
  whole = subst (λ t. IsWhole t h.before) (sym (ap (take v.read) more ∙ take-append-le v.read v.taken piece within)) h.whole;
  spelled = h.spelled;
  counted = h.counted;
}

pub keeps_begun : (v : IntakeView) (served : ℕ) (fenced : Bool) → KeepsRead v (record v { served = served; fenced = fenced })
keeps_begun v served fenced = λ ended batch h. record { before = h.before; whole = h.whole; spelled = h.spelled; counted = h.counted }
