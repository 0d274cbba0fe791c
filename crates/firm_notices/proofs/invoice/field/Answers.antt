use Rattle.std.proofs.Common.{◌≡◌, ℕ, zero, suc, List, [], ◌∷◌, get_or, Some, None, refl}
use Rattle.csv.specs.Records.{field_at, fields_of}
use Rattle.firm_notices.proofs.invoice.field.Goals as goal

found : (fields : List (List ℕ)) (place : ℕ) (field : List ℕ) → Some field ≡ field_at fields place → field ≡ get_or fields place []
unfolding field_at
found [] place field e = cc
found (x ∷ fields) zero field e = let same : field ≡ x = cc in same
found (x ∷ fields) (suc place) field e = found fields place field e

missing : (fields : List (List ℕ)) (place : ℕ) → None ≡ field_at fields place → [] ≡ get_or fields place []
unfolding field_at
missing [] place e = refl
missing (x ∷ fields) zero e = cc
missing (x ∷ fields) (suc place) e = missing fields place e

pub returns-in-Some : goal.returns-in-Some
returns-in-Some c = found (fields_of c.args.row.now) c.args.place c.in-Some.field.now c.in-Some.ensures.value

pub returns-in-None : goal.returns-in-None
returns-in-None c = missing (fields_of c.args.row.now) c.args.place c.in-None.ensures.value
