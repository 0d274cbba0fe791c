use Rattle.std.proofs.Common.{◌≡◌, ◌∙◌, ℕ, ◌+◌, ◌≤◌, Bool, false, List, [], All, Bor, get_or, length, ap, sym, subst}
use Rattle.std.proofs.lemmas.List.Elements.{All-push}
use Rattle.clap.specs.Walk.{Rule, rule_of}
use Rattle.clap.specs.declared.builder.arg.Arg.{Arg}
use Rattle.command_words.specs.Program.{value_of}
use Rattle.command_words.proofs.Chains.{IsLocalArg, one_made_more}
use Rattle.command_words.proofs.program.args_of.Goals as goal

pub loop-id-preserved : goal.loop-id-preserved
loop-id-preserved c =
    let i = c.loop-id.id-index in
    let row : Bor (List ℕ) × Bool = get_or c.args.values.now i (record { ref_ptr = (0, 0); now = [] }, false) in
    let rule : rule_of c.required.result ≡ value_of row.0.now row.1 =
    ap (λ (a : Arg). rule_of a) c.required.ensures ∙ ap (λ (r : Rule). record r { required = row.1 }) c.new.ensures.rule in
    let local : c.required.result.global ≡ false = ap (λ (a : Arg). a.global) c.required.ensures ∙ c.new.ensures.optional.1 in
    record {
      rules = one_made_more (λ (a : Arg). rule_of a) (λ (v : Bor (List ℕ) × Bool). value_of v.0.now v.1) _ _ c.required.result c.args.values.now i _ c.push_reserved.ensures.items rule c.loop-id.invariant.rules c.loop-id-test.true;
      local = subst (All IsLocalArg) (sym c.push_reserved.ensures.items) (All-push IsLocalArg c.loop-id.args.items c.required.result c.loop-id.invariant.local local);
      so_far = c.push_reserved.ensures.len ∙ ap (λ (n : ℕ). n + 1) c.loop-id.invariant.so_far;
      room = subst (λ (n : ℕ). length c.args.values.now ≤ n) (sym c.push_reserved.ensures.capacity) c.loop-id.invariant.room;
    }
