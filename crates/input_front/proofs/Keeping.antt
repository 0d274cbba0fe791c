-- What an intake keeps, and what its next line says.
use Rattle.std.proofs.Common.{◌≡◌, ◌∙◌, ◌+◌, ◌-◌, ◌≤◌, ℕ, true, false, List, [], ◌∷◌, ◌++◌, length, take, drop, refl, sym, ap, subst, arith, length-append, length-drop}
use Rattle.setoff_model.specs.declared.limits.TheConstants.{MOST_INPUT_BYTES}
use Rattle.std.specs.Prelude.{MatchBool}
use Rattle.std.specs.Str.Lines.{lines}
use Rattle.std.proofs.lemmas.List.{drop-append-le, take-append-le}
use mathlib.Core.Bool.{true≢false}
use Rattle.request_text.specs.declared.error.LineCause.{LineCause}
use Rattle.request_text.specs.declared.request.Request.{Request}
use Rattle.input_front.specs.declared.line.Line.{Line}
use Rattle.input_front.specs.declared.line.Line.TheVariants as line
use Rattle.input_front.specs.Front.{Says}
use Rattle.input_front.specs.Taken.{HasAsked, HasFenced, HasNoFeed, HasNoLine, IntakeView, IsEnded, IsFirstBad, IsIntake, StaysBad}
use Rattle.input_front.proofs.Parts.{ended_behind, no_lines, none_left, sought_to, text_alone}
use Rattle.input_front.proofs.Reading.{found, has_asked, has_fenced, first_bad, keeps_asked, keeps_begun, keeps_fenced, keeps_read, no_line, stays_bad}

-- ---- the next line, whose line feed stands behind a place up to which none does

module _ (v : IntakeView) (sought : ℕ) (kept : IsIntake v sought) (begun : v.fenced ≡ false) (at : ℕ) (e : IsEnded (drop sought v.taken) at) where
  abbrev pub n : ℕ
  n = sought + at - v.read

  line_there : IsEnded (drop v.read v.taken) n
  line_there = ended_behind v.taken v.read sought kept.behind kept.none at kept.within e

  pub within_rest : n ≤ length (drop v.read v.taken)
  within_rest = line_there.within

  to : sought + at ≡ v.read + n
  to = omega (arith, kept.behind)

  module _ (text : List ℕ) (said : Line) (is : text ≡ take n (drop v.read v.taken)) (says : (l : List ℕ) → lines text ≡ l ∷ [] → Says (v.lines + 1) l said) where
    says_found : Says (v.lines + 1) (found v n line_there) said
    says_found = says (found v n line_there) (ap lines is ∙ text_alone v.taken v.read n line_there)

    pub next_asked : (r : Request) → said ≡ line.Asks r → HasAsked v (record v { read = sought + at; lines = v.lines + 1 }) r × IsIntake (record v { read = sought + at; lines = v.lines + 1 }) (sought + at)
    next_asked r asks =
        let s : Says (v.lines + 1) (found v n line_there) (line.Asks r) = subst (Says (v.lines + 1) (found v n line_there)) asks says_found in (
          has_asked v n line_there (sought + at) (v.lines + 1) v.fenced refl to refl r s.0 s.1,
          keeps_asked v n line_there sought kept begun (sought + at) (v.lines + 1) v.fenced refl to refl r s.0 s.1,
        )

    pub next_fence : said ≡ line.Fence
        → HasFenced v (record v { read = sought + at; lines = v.lines + 1; fenced = true }) × IsIntake (record v { read = sought + at; lines = v.lines + 1; fenced = true }) (sought + at)
    next_fence ends =
        let s : Says (v.lines + 1) (found v n line_there) line.Fence = subst (Says (v.lines + 1) (found v n line_there)) ends says_found in (
          has_fenced v n line_there (sought + at) (v.lines + 1) to refl s,
          keeps_fenced v n line_there sought kept begun (sought + at) (v.lines + 1) to refl s,
        )

    pub next_bad : (number : ℕ) (cause : LineCause) → said ≡ line.Bad number cause → IsFirstBad v number cause × StaysBad v number cause
    next_bad number cause bad =
        let s : Says (v.lines + 1) (found v n line_there) (line.Bad number cause) = subst (Says (v.lines + 1) (found v n line_there)) bad says_found in
        (first_bad v n line_there number cause s.0 s.1, stays_bad v n line_there number cause s.0 s.1)

-- ---- what stays

module _ (v : IntakeView) (sought : ℕ) (kept : IsIntake v sought) where
  -- no line feed stands there
  pub nothing_left : HasNoFeed (drop sought v.taken) → HasNoLine v
  nothing_left none = no_line v (none_left v.taken v.read sought kept.behind kept.none none)

  pub kept_sought : (end : ℕ) → end ≡ length v.taken → HasNoFeed (drop sought v.taken) → IsIntake v end
  kept_sought end is none = record {
    limited = kept.limited;
    behind = omega (arith, is, kept.behind, kept.within);
    within = omega (arith, is);
    held = kept.held;
    numbered = kept.numbered;
    few = kept.few;
    fewer = kept.fewer;
    none = sought_to v.taken v.read sought kept.behind kept.none end (omega (arith, is)) (nothing_left none).none;
    batches = kept.batches;
  }

  pub kept_more : (piece taken : List ℕ) → taken ≡ v.taken ++ piece → length taken ≤ v.limit + 1 → IsIntake (record v { taken = taken }) sought
  kept_more piece taken more held =
      let read_in : v.read ≤ length v.taken = omega (arith, kept.behind, kept.within) in
      let short : sought - v.read ≤ length (drop v.read v.taken) = omega (arith, kept.behind, kept.within, length-drop v.read v.taken) in
      let same : take (sought - v.read) (drop v.read taken) ≡ take (sought - v.read) (drop v.read v.taken) =
      ap (λ t. take (sought - v.read) (drop v.read t)) more
      ∙ ap (take (sought - v.read)) (drop-append-le v.read v.taken piece read_in)
      ∙ take-append-le (sought - v.read) (drop v.read v.taken) piece short in
      record {
        limited = kept.limited;
        behind = kept.behind;
        within = omega (arith, kept.within, ap length more, length-append v.taken piece);
        held = held;
        numbered = kept.numbered;
        few = kept.few;
        fewer = kept.fewer;
        none = subst HasNoFeed (sym same) kept.none;
        batches = record {
          ended = kept.batches.ended;
          batch = kept.batches.batch;
          read = keeps_read v piece taken read_in more kept.batches.ended kept.batches.batch kept.batches.read;
          places = kept.batches.places;
        };
      }

  pub kept_begun : v.fenced ≡ true → (served : ℕ) → served ≡ v.served + 1 → IsIntake (record v { served = served; fenced = false }) sought
  kept_begun on served more =
      let placed = subst (λ f. MatchBool f ((kept.batches.batch ≡ []) × (v.served ≡ length kept.batches.ended)) (v.served ≡ length kept.batches.ended + 1)) on kept.batches.places in
      record {
        limited = kept.limited;
        behind = kept.behind;
        within = kept.within;
        held = kept.held;
        numbered = kept.numbered;
        few = omega (arith, more, kept.fewer on);
        fewer = λ off. absurd (true≢false (sym off));
        none = kept.none;
        batches = record {
          ended = kept.batches.ended;
          batch = kept.batches.batch;
          read = keeps_begun v served false kept.batches.ended kept.batches.batch kept.batches.read;
          places = more ∙ ap (λ n. n + 1) placed.1;
        };
      }

-- nothing was taken
pub kept_none : (limit : ℕ) → limit ≤ MOST_INPUT_BYTES → IsIntake (record { limit = limit; taken = []; read = 0; lines = 0; served = 0; fenced = true }) 0
kept_none limit few = record {
  limited = few;
  behind = omega arith;
  within = omega arith;
  held = omega arith;
  numbered = omega arith;
  few = omega arith;
  fewer = λ on. omega arith;
  none = λ k d lt. absurd (omega (arith, lt));
  batches = record {
    ended = [];
    batch = [];
    read = record { before = []; whole = no_lines; spelled = (refl, refl); counted = refl };
    places = (refl, refl);
  };
}
