use Rattle.std.proofs.Common.{◌∙◌, ap}
use Rattle.setoff_model.specs.Windows.{Window}
use Rattle.round_cut.proofs.Joined.{window_found, window_none}
use Rattle.round_cut.proofs.parties.window_at.Goals as goal

pub returns-in-Some-clause-spend : goal.returns-in-Some-clause-spend
returns-in-Some-clause-spend c =
    c.window.ensures.spend ∙ ap (λ (w : Window). w.spend) (window_found c.args.accounts.now c.args.kind c.args.firm.now c.in-Some.place c.index-accounts-place.result c.in-Some.ensures c.index-accounts-place.is)

pub returns-in-Some-clause-room : goal.returns-in-Some-clause-room
returns-in-Some-clause-room c =
    c.window.ensures.room ∙ ap (λ (w : Window). w.room) (window_found c.args.accounts.now c.args.kind c.args.firm.now c.in-Some.place c.index-accounts-place.result c.in-Some.ensures c.index-accounts-place.is)

pub returns-in-None-clause-spend : goal.returns-in-None-clause-spend
returns-in-None-clause-spend c = ap (λ (w : Window). w.spend) (window_none c.args.accounts.now c.args.kind c.args.firm.now c.in-None.ensures)

pub returns-in-None-clause-room : goal.returns-in-None-clause-room
returns-in-None-clause-room c = ap (λ (w : Window). w.room) (window_none c.args.accounts.now c.args.kind c.args.firm.now c.in-None.ensures)
