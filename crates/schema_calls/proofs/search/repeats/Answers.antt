use mathlib.Core.Path.{sym, ap, ◌∙◌}
use Rattle.std.specs.Prelude.{None, is_some}
use Rattle.tables.specs.SchemaTable.{schema_of, key_in}
use Rattle.tables.proofs.Laws.Index.{place-none}
use Rattle.schema_calls.specs.Search.{alike_at}
use Rattle.schema_calls.proofs.Laws.Search.{walk-starts, walk-past, walk_any, walk_end, walk-less, key-of-alike}
use Rattle.schema_calls.proofs.search.repeats.Goals as goal

pub loop-next-init : goal.loop-next-init
loop-next-init c =
    let sc = schema_of c.args.schema.now in
    let key = key_in sc c.args.x in
    walk-starts key (alike_at sc c.args.x c.args.i) (key c.args.i) (key-of-alike sc c.args.x c.args.i) c.args.i c.latest_above-next.ensures

pub returns-then-alike : goal.returns-then-alike
returns-then-alike c =
    let sc = schema_of c.args.schema.now in
    let key = key_in sc c.args.x in
    walk_any key (alike_at sc c.args.x c.args.i) (key c.args.i) c.args.i c.in-Some.k None (rw c.in-Some.is at c.loop-next.invariant) (key-of-alike sc c.args.x c.args.i)
    (sym c.alike.ensures ∙ c.if-alike.true)

pub loop-next-smaller : goal.loop-next-smaller
loop-next-smaller c =
    let key = key_in (schema_of c.args.schema.now) c.args.x in
    rw c.in-Some.is (walk-less key (key c.in-Some.k) c.in-Some.k c.latest_above-next-in-Some.ensures)

pub loop-next-preserved : goal.loop-next-preserved
loop-next-preserved c =
    let sc = schema_of c.args.schema.now in
    let key = key_in sc c.args.x in
    walk-past key (alike_at sc c.args.x c.args.i) (key c.args.i) c.args.i c.in-Some.k None (rw c.in-Some.is at c.loop-next.invariant) (key-of-alike sc c.args.x c.args.i)
    c.latest_above-next-in-Some.ensures (sym c.alike.ensures ∙ c.if-alike.false)

pub returns : goal.returns
returns c =
    let sc = schema_of c.args.schema.now in
    let key = key_in sc c.args.x in
    ap is_some (walk_end key (alike_at sc c.args.x c.args.i) (key c.args.i) c.args.i None (rw (place-none c.loop-next.next c.in_default.not-Some) at c.loop-next.invariant))
