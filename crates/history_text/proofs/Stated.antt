-- The round that an entry of a pool publishes.
use Rattle.std.specs.Prelude.{slice_get, is_some, Option, Some, None, if◌then◌else◌}
use Rattle.std.specs.Option.{option_map}
use Rattle.std.proofs.Common.{◌≡◌, ◌∙◌, ℕ, ◌<◌, Bool, true, false, List, [], ◌∷◌, get_or, length, take, refl, sym, ap, subst, true≢false, arith}
use Rattle.std.proofs.lemmas.List.{take-map}
use Rattle.std.proofs.lemmas.List.Quantifiers.{position-Some}
use Rattle.std.proofs.lemmas.Option.{slice_get-get_or}
use Rattle.setoff_model.specs.CutView.{CutView}
use Rattle.claim_history.specs.declared.act.Act.{Act}
use Rattle.claim_history.specs.declared.act.Act.TheVariants as act
use Rattle.claim_history.specs.declared.call.PoolEntry.{PoolEntry}
use Rattle.claim_history.specs.declared.entry.Entry.{Entry}
use Rattle.claim_history.specs.declared.entry.Reply.{Reply}
use Rattle.claim_history.specs.declared.entry.Reply.TheVariants as reply
use Rattle.claim_history.specs.States.{OpenRound}
use Rattle.claim_history.specs.Rounds.{open_cut_of}
use Rattle.claim_history.specs.Pools.{AreValid, IsLegal, entries_in, main_pool, member_of}
use Rattle.claim_history.specs.PoolRounds.{cuts_after, open_cut_in}
use Rattle.claim_history.proofs.Pools.{main_law}
use Rattle.printed_text.specs.declared.exit_status.ExitStatus.TheVariants as statuses
use Rattle.printed_text.specs.Printing.{IsPrintable, IsPrintableAt}
use Rattle.printed_text.proofs.Members.{published_at}
use Rattle.history_text.specs.declared.round_form.RoundForm.{RoundForm}
use Rattle.history_text.specs.Histories.{IsFormText, IsTextWhere, is_published_by, no_round_text, publication_place, publishes_round, round_status, text_in_form, told_members, was_published}
use Rattle.history_text.proofs.Telling.{told_entry, told_legal, told_many, told_valid}

-- ---- the entry

-- an act that publishes the round is accepted with a total
published_total : (round : ℕ) (a : Act) (r : Reply) → is_published_by round a r ≡ true → (total : ℕ) × (r ≡ reply.Published total)
published_total round (act.Publish number outcome) (reply.Published total) is = (total, refl)
published_total round (act.Publish number outcome) r is = absurd (true≢false (sym is))
published_total round a r is = absurd (true≢false (sym is))

module _ (round : ℕ) (pool : List ℕ) (history : List PoolEntry) (place : ℕ) (found : publication_place round pool history ≡ Some place) where
  pub place_within : place < length (entries_in pool history)
  place_within = (position-Some (publishes_round round) (entries_in pool history) place (record { caller = 0; act = act.Abandon; reply = reply.Done }) found).0

  pub told_within : place < length (told_members (Some pool) history)
  told_within = omega (arith, place_within, told_many pool history)

  -- the entry at the place publishes the round
  pub publishes_there : (e : Entry) → slice_get (entries_in pool history) place ≡ Some e → (total : ℕ) × (e.reply ≡ reply.Published total)
  publishes_there e is =
      let at = (position-Some (publishes_round round) (entries_in pool history) place e found).1 in
      let here : get_or (entries_in pool history) place e ≡ e =
      let same : Some (get_or (entries_in pool history) place e) ≡ Some e = sym (slice_get-get_or (entries_in pool history) place e place_within) ∙ is in cc same in
      published_total round e.act e.reply (ap (publishes_round round) (sym here) ∙ at)

  -- it is the element of the entries of a book there
  pub stands_at : (entries : List Entry) (e : Entry) → entries ≡ entries_in pool history → e ≡ get_or entries place e → slice_get (entries_in pool history) place ≡ Some e
  stands_at entries e same is =
      let few : place < length entries = omega (arith, place_within, ap (λ (es : List Entry). length es) same) in
      ap (λ (es : List Entry). slice_get es place) (sym same) ∙ slice_get-get_or entries place e few ∙ ap (λ (x : Entry). Some x) (sym is)

-- ---- its cut

-- a round was open whose statement can be written, by its cut and the outcome
pub record IsStated (before : List PoolEntry) (m : PoolEntry) : Type 0 where
  pub given : CutView
  pub was_open : open_cut_in before m.pool ≡ Some given
  pub printable : IsPrintableAt (given ∷ []) 0 m.entry.act

pub stated : (history : List PoolEntry) (i : ℕ) (m : PoolEntry) → slice_get history i ≡ Some m → IsLegal history → AreValid history → (total : ℕ) → m.entry.reply ≡ reply.Published total → IsStated (take i history) m
stated history i m is legal valid total published =
    let next = length (cuts_after 0 (take i history)) in
    let p = published_at 0 history i m is (omega arith) (cuts_after 0 history) next total legal valid refl refl published in
    let same : p.printable.cut ≡ p.round.cut = let both : Some p.printable.cut ≡ Some p.round.cut = sym p.printable.cut_is ∙ p.cut_is in cc both in
    record {
      given = p.round.cut;
      was_open = ap (λ (o : Option OpenRound). option_map (λ (r : OpenRound). r.cut) o) p.was_open;
      printable = record {
        number = p.printable.number;
        outcome = p.printable.outcome;
        cut = p.round.cut;
        asks = p.printable.asks;
        cut_is = refl;
        printable = subst (λ (c : CutView). IsPrintable c p.printable.outcome) same p.printable.printable;
      };
    }

-- ---- what is told of the round

-- the cut that was open in a pool is that of its entries
pub open_told : (pool : List ℕ) (history : List PoolEntry) (i : ℕ) → open_cut_in (take i (told_members (Some pool) history)) main_pool ≡ open_cut_of (take i (entries_in pool history))
open_told pool history i =
    ap (λ (h : List PoolEntry). open_cut_in h main_pool) (take-map (member_of main_pool) i (entries_in pool history))
    ∙ ap open_cut_of (main_law.same (take i (entries_in pool history)))

-- a round was open before the entry at a place whose statement can be written, by its cut and the outcome
pub record IsStatedAt (place : ℕ) (entries : List Entry) (before : List PoolEntry) : Type 0 where
  pub given : CutView
  pub was_open : open_cut_in before main_pool ≡ Some given
  pub was_there : open_cut_of (take place entries) ≡ Some given
  pub printable : (e : Entry) → slice_get entries place ≡ Some e → IsPrintableAt (given ∷ []) 0 e.act

pub stated_at : (round : ℕ) (pool : List ℕ) (history : List PoolEntry) (place : ℕ) → publication_place round pool history ≡ Some place → IsLegal history → AreValid history
    → (before : List PoolEntry) → before ≡ take place (told_members (Some pool) history) → IsStatedAt place (entries_in pool history) before
stated_at round pool history place found legal valid before before_is =
    let h = told_members (Some pool) history in
    let any : Entry = record { caller = 0; act = act.Abandon; reply = reply.Done } in
    let e : Entry = get_or (entries_in pool history) place any in
    let stands : slice_get (entries_in pool history) place ≡ Some e = slice_get-get_or (entries_in pool history) place any (place_within round pool history place found) in
    let p = publishes_there round pool history place found e stands in
    let s = stated h place (member_of main_pool e) (told_entry pool history place e stands) (told_legal (Some pool) history legal) (told_valid (Some pool) history valid) p.0 p.1 in
    record {
      given = s.given;
      was_open = ap (λ (b : List PoolEntry). open_cut_in b main_pool) before_is ∙ s.was_open;
      was_there = sym (open_told pool history place) ∙ s.was_open;
      printable = λ other is.
          let both : Some e ≡ Some other = sym stands ∙ is in
          let same : e ≡ other = cc both in
          subst (λ (x : Entry). IsPrintableAt (s.given ∷ []) 0 x.act) same s.printable;
    }

-- its text is told of a round that was published
pub round_stated : (form : RoundForm) (round : ℕ) (pool : List ℕ) (history : List PoolEntry) (place : ℕ) (e : Entry) (text : List ℕ) → publication_place round pool history ≡ Some place → slice_get (entries_in pool history) place ≡ Some e
    → text ≡ text_in_form form (open_cut_of (take place (entries_in pool history))) e.act e.reply → IsFormText form round pool history text × (round_status round pool history ≡ statuses.Done)
round_stated form round pool history place e text found stands is =
    let yes : was_published round pool history ≡ true = ap is_some found in (
      subst (λ (b : Bool). IsTextWhere b form round pool history text) (sym yes) (record { place = place; entry = e; found = found; stands = stands; text_is = is }),
      ap (λ (b : Bool). if b then statuses.Done else statuses.No) yes,
    )

-- and else that there is none
pub none_stated : (form : RoundForm) (round : ℕ) (pool : List ℕ) (history : List PoolEntry) → publication_place round pool history ≡ None → IsFormText form round pool history (no_round_text round) × (round_status round pool history ≡ statuses.No)
none_stated form round pool history none =
    let no : was_published round pool history ≡ false = ap is_some none in (
      subst (λ (b : Bool). IsTextWhere b form round pool history (no_round_text round)) (sym no) refl,
      ap (λ (b : Bool). if b then statuses.Done else statuses.No) no,
    )
