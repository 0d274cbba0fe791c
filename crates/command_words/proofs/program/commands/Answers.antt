use Rattle.std.proofs.Common.{◌∙◌, ℕ, ◌+◌, ◌≤◌, Bool, List, Bor, map, length, ap, sym, subst, arith}
use Rattle.std.proofs.lemmas.List.{take_all}
use Rattle.command_words.specs.Program.{shape_of, value_of}
use Rattle.command_words.proofs.Chains.{one_row_more}
use Rattle.command_words.proofs.program.commands.Goals as goal

pub loop-name-preserved : goal.loop-name-preserved
loop-name-preserved c = record {
  shapes = one_row_more (λ (r : Bor (List ℕ) × Bor (List (Bor (List ℕ) × Bool))). shape_of r.0.now (map (λ v. value_of v.0.now v.1) r.1.now)) _ _ c.table-rows.result.now c.loop-name.name-index _ c.in_ok-add.ensures.shapes c.loop-name.invariant.shapes c.loop-name-test.true;
  local = c.in_ok-add.ensures.local c.loop-name.invariant.local;
  so_far = c.in_ok-add.ensures.len ∙ ap (λ (n : ℕ). n + 1) c.loop-name.invariant.so_far;
  room = subst (λ (n : ℕ). length c.table-rows.result.now ≤ n) (sym c.add.ensures.capacity) c.loop-name.invariant.room;
}

pub returns-clause-shapes : goal.returns-clause-shapes
returns-clause-shapes c =
    c.loop-name.invariant.shapes
    ∙ ap (λ (rs : List (Bor (List ℕ) × Bor (List (Bor (List ℕ) × Bool)))). map (λ r. shape_of r.0.now (map (λ v. value_of v.0.now v.1) r.1.now)) rs) (take_all c.loop-name.name-index c.table-rows.result.now (omega arith))
    ∙ c.table-rows.ensures
