-- What writes may leave, byte by byte.
use Rattle.std.proofs.Common.{◌≡◌, ◌⊎◌, inl, inr, ⊎_elim, ℕ, ◌+◌, ◌-◌, ◌<◌, ◌≤◌, max, List, [], ◌∷◌, length, take, drop, map, get_or, refl, sym, ◌∙◌, ap, subst, arith, length-drop}
use Rattle.std.proofs.lemmas.List.{get_or-take, get_or-drop, length-take-le}
use Rattle.std.proofs.lemmas.Grind.{same_number_lists}
use Rattle.disk_model.specs.Calls.{Torn, After}
use Rattle.disk_model.specs.Runs.{left_after}
use Rattle.disk_model.specs.Runs.DiskCall.{wrote}
use Rattle.disk_model.specs.Words.{longest, MayLeave, TornLaw, WritesLaw}

-- a byte before the range, and one after it
torn_before : (at n : ℕ) (old new : List ℕ) (i : ℕ) → Torn at n old new → i < at → get_or new i 0 ≡ get_or old i 0
torn_before at n old new i torn lt = sym (get_or-take at new i 0 lt) ∙ ap (λ (l : List ℕ). get_or l i 0) torn.before ∙ get_or-take at old i 0 lt

torn_after : (at n : ℕ) (old new : List ℕ) (i : ℕ) → Torn at n old new → at + n ≤ i → get_or new i 0 ≡ get_or old i 0
torn_after at n old new i torn le =
    let place : at + n + (i - (at + n)) ≡ i = omega (arith, le) in
    ap (λ (k : ℕ). get_or new k 0) (sym place) ∙ sym (get_or-drop (at + n) new (i - (at + n)) 0) ∙ ap (λ (l : List ℕ). get_or l (i - (at + n)) 0) torn.after ∙ get_or-drop (at + n) old (i - (at + n)) 0
    ∙ ap (λ (k : ℕ). get_or old k 0) place

torn_outside : (at n : ℕ) (old new : List ℕ) (i : ℕ) → Torn at n old new → (i < at) ⊎ (at + n ≤ i) → get_or new i 0 ≡ get_or old i 0
torn_outside at n old new i torn out = ⊎_elim (torn_before at n old new i torn) (torn_after at n old new i torn) out

pub torn_leaves : (at n : ℕ) (old new : List ℕ) → Torn at n old new → MayLeave ((at, n) ∷ []) old new
torn_leaves at n old new torn = record {
  no_shorter = torn.no_shorter;
  no_longer = torn.no_longer;
  outside = λ i lt out. torn_outside at n old new i torn out.0;
}

pub leaves_torn : (at n : ℕ) (old new : List ℕ) → at ≤ length old → MayLeave ((at, n) ∷ []) old new → Torn at n old new
leaves_torn at n old new within leaves = record {
  before = same_number_lists (take at new) (take at old) (front ∙ sym back) (λ k lt.
      let below : k < at = omega (arith, lt, front) in
      get_or-take at new k 0 below ∙ leaves.outside k (omega (arith, below, within)) (inl below, tt) ∙ sym (get_or-take at old k 0 below));
  after = same_number_lists (drop (at + n) new) (drop (at + n) old) (omega (arith, leaves.no_shorter, leaves.no_longer, length-drop (at + n) new, length-drop (at + n) old)) (λ k lt.
      get_or-drop (at + n) new k 0 ∙ leaves.outside (at + n + k) (omega (arith, lt, leaves.no_shorter, leaves.no_longer, length-drop (at + n) new)) (inr (omega arith), tt) ∙ sym (get_or-drop (at + n) old k 0));
  no_shorter = leaves.no_shorter;
  no_longer = leaves.no_longer;
}
  where
    front : length (take at new) ≡ at
    front = length-take-le at new (omega (arith, within, leaves.no_shorter))

    back : length (take at old) ≡ at
    back = length-take-le at old within

pub torn_law : TornLaw
torn_law at n old new within = (torn_leaves at n old new, leaves_torn at n old new within)

longest_rises : (m n : ℕ) (writes : List (ℕ × ℕ)) → m ≤ n → longest m writes ≤ longest n writes
longest_rises m n [] le = le
longest_rises m n (write ∷ writes) le = longest_rises (max m (write.0 + write.1)) (max n (write.0 + write.1)) writes (omega (arith, le))

writes_leave : (images : List ℕ → Type 0) (writes : List (ℕ × ℕ)) (c : List ℕ) → left_after images (map (λ (write : ℕ × ℕ). wrote write.0 write.1) writes) c → (d : List ℕ) × images d × MayLeave writes d c
writes_leave images [] c has = (c, has, record { no_shorter = omega arith; no_longer = omega arith; outside = λ i lt out. refl })
writes_leave images (write ∷ writes) c has =
    let rest = writes_leave (After (Torn write.0 write.1) images) writes c has in
    let later : MayLeave writes rest.0 c = rest.2 in
    let first = rest.1 in
    let torn : Torn write.0 write.1 first.0 rest.0 = first.2 in
    let rises : longest (length rest.0) writes ≤ longest (max (length first.0) (write.0 + write.1)) writes = longest_rises (length rest.0) (max (length first.0) (write.0 + write.1)) writes torn.no_longer in (
      first.0,
      first.1,
      record {
        no_shorter = omega (arith, torn.no_shorter, later.no_shorter);
        no_longer = omega (arith, rises, later.no_longer);
        outside = λ i lt out. later.outside i (omega (arith, lt, torn.no_shorter)) out.1 ∙ torn_outside write.0 write.1 first.0 rest.0 i torn out.0;
      },
    )

pub writes_law : WritesLaw
writes_law file writes c has =
    let left = writes_leave (λ d. d ≡ file) writes c has in
    subst (λ (d : List ℕ). MayLeave writes d c) left.1 left.2
