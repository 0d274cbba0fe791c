use Rattle.std.proofs.Common.{◌≡◌, ◌++◌, ◌∷◌, [], ap, ◌∙◌, rules}
use Rattle.disk_model.specs.declared.step.Step.TheVariants.{Waited, Wrote}
use Rattle.disk_model.specs.Steps.{overlay}
use Rattle.disk_model.specs.Memory.{MemoryState, first_of}
use Rattle.disk_model.specs.MemoryState.{memory_state}
use Rattle.disk_model.proofs.TwoSteps.{wrote_read_to, wrote_within_to, wrote_state, pushed_two}
use Rattle.disk_model.proofs.memory_disk.MemoryDisk.overwrite.Goals as goal

pub invariant_of-self-2 : goal.invariant_of-self-2
invariant_of-self-2 c =
    let old = memory_state c.args.self.now in
    let is_piece : c.in_ok-kept.kept.items ≡ c.args.piece.now = search rules in
    let first = c.in_ok-keep_first.ensures.kept c.overlay_with.new.bytes.items in
    let bytes : c.overlay_with.new.bytes.items ≡ overlay c.args.at c.args.piece.now old.bytes =
    c.in_ok-overlay_with.ensures.ok ∙ ap (λ (s : MemoryState). overlay c.args.at c.args.piece.now s.bytes) c.keep_first.ensures.state in
    let steps : c.push_reserved-2.new.self.items ≡ old.steps ++ Wrote c.args.at c.in_ok-kept.kept ∷ Waited ∷ [] =
    pushed_two old.steps c.keep_first.new.self.steps.items c.reserve.new.self.items c.push_reserved.new.self.items c.push_reserved-2.new.self.items (Wrote c.args.at c.in_ok-kept.kept) Waited (ap (λ (s : MemoryState). s.steps) c.keep_first.ensures.state)
    c.reserve.ensures.items c.push_reserved.ensures.items c.push_reserved-2.ensures.items in
    record {
      read = wrote_read_to old.first old.bytes old.steps c.push_reserved-2.new.self.items (first_of c.keep_first.new.self.first c.overlay_with.new.bytes.items) c.overlay_with.new.bytes.items c.args.piece.now c.args.at c.in_ok-kept.kept first bytes is_piece c.args.self.now.read steps;
      within = wrote_within_to old.first old.bytes old.steps c.push_reserved-2.new.self.items (first_of c.keep_first.new.self.first c.overlay_with.new.bytes.items) c.args.at c.in_ok-kept.kept first c.requires c.args.self.now.read c.args.self.now.within steps;
    }

pub returns-clause-ok : goal.returns-clause-ok
returns-clause-ok c =
    let old = memory_state c.args.self.now in
    let is_piece : c.in_ok-kept.kept.items ≡ c.args.piece.now = search rules in
    let bytes : c.overlay_with.new.bytes.items ≡ overlay c.args.at c.args.piece.now old.bytes =
    c.in_ok-overlay_with.ensures.ok ∙ ap (λ (s : MemoryState). overlay c.args.at c.args.piece.now s.bytes) c.keep_first.ensures.state in
    let steps : c.push_reserved-2.new.self.items ≡ old.steps ++ Wrote c.args.at c.in_ok-kept.kept ∷ Waited ∷ [] =
    pushed_two old.steps c.keep_first.new.self.steps.items c.reserve.new.self.items c.push_reserved.new.self.items c.push_reserved-2.new.self.items (Wrote c.args.at c.in_ok-kept.kept) Waited (ap (λ (s : MemoryState). s.steps) c.keep_first.ensures.state)
    c.reserve.ensures.items c.push_reserved.ensures.items c.push_reserved-2.ensures.items in
    (c.in_ok-kept.kept, is_piece, wrote_state old (memory_state c.keep_first.new.self) _ _ c.args.piece.now _ c.args.at _ c.in_ok-kept.kept c.keep_first.ensures.state (c.in_ok-keep_first.ensures.kept c.overlay_with.new.bytes.items) bytes is_piece steps (search rules))
