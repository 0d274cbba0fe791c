use Rattle.std.proofs.Common.{List, sym, ◌∙◌, ap, subst, arith}
use Rattle.std.specs.Prelude.{vec_capacity}
use Rattle.setoff_model.specs.Same.{same_name}
use Rattle.name_index.proofs.Rows.{no_row}
use Rattle.read_copies.specs.declared.row.Row.{Row}
use Rattle.read_copies.specs.Rows.{firm_of, put_row}
use Rattle.read_copies.specs.Tables.{TableView, IsTable}
use Rattle.read_copies.proofs.Rows.{place_of, put_found, put_last, put_none, set_keeps, push_keeps}
use Rattle.read_copies.proofs.table.Table.put.Goals as goal

pub invariant_of-self : goal.invariant_of-self
invariant_of-self c =
    set_keeps c.self.inside.names.names c.self.inside.names.room c.self.inside.rows.cap c.self.inside.rows.items c.args.row.now c.in-Some.place c.self.invariant
    (place_of c.self.inside.names.names c.self.inside.rows.items (firm_of c.args.row.now) c.place.result c.self.invariant.names_are c.place.ensures ∙ c.in-Some.is)

pub add-requires-clause-new : goal.add-requires-clause-new
add-requires-clause-new c =
    no_row firm_of c.self.inside.names.names c.self.inside.rows.items c.self.invariant.names_are (same_name (firm_of c.args.row.now))
    (place_of c.self.inside.names.names c.self.inside.rows.items (firm_of c.args.row.now) c.place.result c.self.invariant.names_are c.place.ensures ∙ c.in-None.is)

pub invariant_of-self-then-len-lt-MOST_FIRMS : goal.invariant_of-self-then-len-lt-MOST_FIRMS
invariant_of-self-then-len-lt-MOST_FIRMS c =
    let none = no_row firm_of c.self.inside.names.names c.self.inside.rows.items c.self.invariant.names_are (same_name (firm_of c.args.row.now))
    (place_of c.self.inside.names.names c.self.inside.rows.items (firm_of c.args.row.now) c.place.result c.self.invariant.names_are c.place.ensures ∙ c.in-None.is) in
    subst (IsTable c.add.new.self.names c.add.new.self.room (vec_capacity c.push_reserved.new.self)) (sym c.push_reserved.ensures.items) (
    push_keeps c.self.inside.names.names c.add.new.self.names c.self.inside.names.room c.add.new.self.room c.self.inside.rows.cap (vec_capacity c.push_reserved.new.self) c.self.inside.rows.items c.args.row.now c.self.invariant
    none c.add.ensures.names c.add.ensures.room (omega (arith, c.push_reserved.ensures.capacity))
    )

pub returns-in-Some : goal.returns-in-Some
returns-in-Some c =
    let at = place_of c.self.inside.names.names c.self.inside.rows.items (firm_of c.args.row.now) c.place.result c.self.invariant.names_are c.place.ensures ∙ c.in-Some.is in
    ap (λ (rows : List Row). record { board = c.self.inside.told.board; history = c.self.inside.told.history; entries = c.self.inside.entries; rows = rows }) (put_found c.self.inside.rows.items c.args.row.now c.in-Some.place at)
    ∙ ap (λ (t : TableView). record t { rows = put_row t.rows c.args.row.now }) c.self.view_is

pub returns-then-len-lt-MOST_FIRMS : goal.returns-then-len-lt-MOST_FIRMS
returns-then-len-lt-MOST_FIRMS c =
    let at = place_of c.self.inside.names.names c.self.inside.rows.items (firm_of c.args.row.now) c.place.result c.self.invariant.names_are c.place.ensures ∙ c.in-None.is in
    ap (λ (rows : List Row). record { board = c.self.inside.told.board; history = c.self.inside.told.history; entries = c.self.inside.entries; rows = rows })
    (c.push_reserved.ensures.items ∙ put_last c.self.inside.rows.items c.args.row.now at (omega (arith, c.len.ensures)))
    ∙ ap (λ (t : TableView). record t { rows = put_row t.rows c.args.row.now }) c.self.view_is

pub returns-else-len-lt-MOST_FIRMS : goal.returns-else-len-lt-MOST_FIRMS
returns-else-len-lt-MOST_FIRMS c =
    let at = place_of c.self.inside.names.names c.self.inside.rows.items (firm_of c.args.row.now) c.place.result c.self.invariant.names_are c.place.ensures ∙ c.in-None.is in
    sym c.self.view_is
    ∙ ap (λ (rows : List Row). record { board = c.self.inside.told.board; history = c.self.inside.told.history; entries = c.self.inside.entries; rows = rows }) (put_none c.self.inside.rows.items c.args.row.now at (omega (arith, c.len.ensures)))
    ∙ ap (λ (t : TableView). record t { rows = put_row t.rows c.args.row.now }) c.self.view_is
