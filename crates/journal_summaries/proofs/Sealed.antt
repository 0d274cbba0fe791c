-- The bytes of the records, act by act.
use Rattle.std.specs.Prelude.{slice_get, Some, if◌then◌else◌}
use Rattle.std.proofs.lemmas.Bool.{le-leb}
use Rattle.std.proofs.Common.{◌≡◌, ◌∙◌, ℕ, ◌+◌, Bool, true, List, [], ◌∷◌, ◌++◌, length, drop, take, ap, refl, sym, arith, append_assoc, length-append}
use Rattle.std.proofs.lemmas.List.{append-nil}
use Rattle.std.proofs.lemmas.Grind.{flat_map-append}
use Rattle.setoff_model.specs.Names.{is_name}
use Rattle.act_bodies.specs.Bodies.{body_of, called, fields_of, four, is_keepable, pool_mark}
use Rattle.act_bodies.proofs.Lengths.{body_long}
use Rattle.printed_text.specs.claim_history.specs.declared.act.Act.{Act}
use Rattle.printed_text.specs.claim_history.specs.declared.call.PoolEntry.{PoolEntry}
use Rattle.printed_text.specs.claim_history.specs.Acts.{is_valid}
use Rattle.printed_text.proofs.Members.{one_more}
use Rattle.journal_summaries.specs.Seal.{no_act_text, record_of, records_of, seal_line}
use Rattle.journal_summaries.specs.SummaryLaws.{SealLaw}

-- a valid act of caller 1 in a pool that has a name can be kept
pub keepable : (pool : List ℕ) (a : Act) → is_name pool ≡ true → is_valid a ≡ true → is_keepable (called 1 pool a) ≡ true
unfolding is_keepable
keepable pool a named valid = rw (named, valid) refl

-- behind the caller's four bytes a body tells the pool and the act
pub tail_is : (pool : List ℕ) (a : Act) → drop 4 (body_of (called 1 pool a)) ≡ pool_mark pool ++ fields_of a
unfolding body_of
tail_is pool a = refl

pub body_is : (caller : ℕ) (pool : List ℕ) (a : Act) → body_of (called caller pool a) ≡ four caller ++ drop 4 (body_of (called 1 pool a))
unfolding body_of
body_is caller pool a = refl

pub same_length : (caller : ℕ) (pool : List ℕ) (a : Act) → is_valid a ≡ true → length (body_of (called caller pool a)) ≡ length (body_of (called 1 pool a))
same_length caller pool a valid = body_long (called caller pool a) valid ∙ sym (body_long (called 1 pool a) valid)

pub records_next : (members : List PoolEntry) (i : ℕ) (m : PoolEntry) → slice_get members i ≡ Some m → records_of (take (i + 1) members) ≡ records_of (take i members) ++ record_of m
records_next members i m is =
    ap records_of (one_more members i m is) ∙ flat_map-append record_of (take i members) (m ∷ []) ∙ ap (λ (bytes : List ℕ). records_of (take i members) ++ bytes) (append-nil (record_of m))

-- a record as it is fed: the gate, the length, the caller, and what the body of caller 1 tells behind it
pub record_fed : (m body : List ℕ) (caller n : ℕ) (pool : List ℕ) (a : Act) → is_valid a ≡ true → body ≡ body_of (called 1 pool a) → n ≡ length (body_of (called 1 pool a))
    → (((m ++ 1 ∷ []) ++ four n) ++ four caller) ++ drop 4 body ≡ m ++ (1 ∷ four (length (body_of (called caller pool a))) ++ body_of (called caller pool a))
record_fed m body caller n pool a valid body_are n_is =
    let tail = drop 4 (body_of (called 1 pool a)) in
    let sized = n_is ∙ sym (same_length caller pool a valid) in
    ap (λ (d : List ℕ). (((m ++ 1 ∷ []) ++ four n) ++ four caller) ++ drop 4 d) body_are
    ∙ append_assoc ((m ++ 1 ∷ []) ++ four n) (four caller) tail
    ∙ append_assoc (m ++ 1 ∷ []) (four n) (four caller ++ tail)
    ∙ append_assoc m (1 ∷ []) (four n ++ (four caller ++ tail))
    ∙ ap (λ (d : List ℕ). m ++ (1 ∷ four n ++ d)) (sym (body_is caller pool a))
    ∙ ap (λ (k : ℕ). m ++ (1 ∷ four k ++ body_of (called caller pool a))) sized

four_long : (n : ℕ) → length (four n) ≡ 4
four_long n = refl

-- and its length
pub record_long : (caller n : ℕ) (pool : List ℕ) (a : Act) → is_valid a ≡ true → n ≡ length (body_of (called 1 pool a)) → n + 5 ≡ length (1 ∷ four (length (body_of (called caller pool a))) ++ body_of (called caller pool a))
record_long caller n pool a valid n_is =
    let body = body_of (called caller pool a) in
    omega (arith, n_is, same_length caller pool a valid, length-append (four (length body)) body, four_long (length body))

-- ---- the law

pub seal_law : SealLaw
seal_law acts one other in_one in_other same =
    ap (λ (b : Bool). if b then seal_line (take acts one) else no_act_text acts) (le-leb acts (length one) in_one)
    ∙ ap seal_line same
    ∙ sym (ap (λ (b : Bool). if b then seal_line (take acts other) else no_act_text acts) (le-leb acts (length other) in_other))
