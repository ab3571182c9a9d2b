use mathlib.Core.Path.{ap, ◌∙◌}
use Prim.Native.Nat.{ℕ, ◌≤◌}
use borrow.Author.Rules.{rules}
use Rattle.tables.specs.Index.{latest}
use Rattle.tables.specs.SchemaTable.{schema_of, places_in, key_in}
use Rattle.tables.proofs.Laws.Index.{place-none}
use Rattle.schema_calls.specs.Search.{bucket_for, matches_at}
use Rattle.schema_calls.proofs.Laws.Search.{test_above, tests_above, tests_below, first_above, walk-starts, walk-past, walk-found, walk_end, walk-less, keyed-for}
use Rattle.schema_calls.proofs.search.find.Goals as goal
use Rattle.schema_calls.proofs.search.find.Goals.{else-i-above-via-then-i-above+else-matches, else-i-above-via-else-i-above}

pub loop-next-init : goal.loop-next-init
loop-next-init c =
    let sc = schema_of c.args.schema.now in
    let x = c.index-x.result in
    walk-starts (key_in sc x) (test_above c.args.above (matches_at sc c.args.sought)) (bucket_for c.args.sought)
    (keyed-for sc c.args.sought c.args.above c.index-x.ensures) (places_in sc x)
    (c.latest-next.ensures ∙ ap (λ (b : ℕ). latest (key_in sc x) b (places_in sc x)) c.bucket.ensures.value)

pub loop-next-smaller-then-matches : goal.loop-next-smaller-then-matches
loop-next-smaller-then-matches c =
    let key = key_in (schema_of c.args.schema.now) c.index-x.result in
    rw c.in-Some.is (walk-less key (key c.in-Some.i) c.in-Some.i c.latest_above-next.ensures)

pub loop-next-preserved-then-matches : goal.loop-next-preserved-then-matches
loop-next-preserved-then-matches c =
    let sc = schema_of c.args.schema.now in
    let x = c.index-x.result in
    let test = matches_at sc c.args.sought in
    let i = c.in-Some.i in
    walk-found (key_in sc x) (test_above c.args.above test) (bucket_for c.args.sought) (places_in sc x) i c.loop-next.found (rw c.in-Some.is at c.loop-next.invariant)
    (keyed-for sc c.args.sought c.args.above c.index-x.ensures) c.latest_above-next.ensures
    (tests_above c.args.above test i c.if-i-above.true c.matches.ensures ∙ c.if-matches.true)

pub loop-next-smaller : goal.loop-next-smaller
loop-next-smaller c =
    let key = key_in (schema_of c.args.schema.now) c.index-x.result in
    rw c.in-Some.is (walk-less key (key c.in-Some.i) c.in-Some.i c.latest_above-next.ensures)

pub loop-next-preserved : goal.loop-next-preserved
loop-next-preserved c =
    let sc = schema_of c.args.schema.now in
    let x = c.index-x.result in
    let test = matches_at sc c.args.sought in
    let i = c.in-Some.i in
    walk-past (key_in sc x) (test_above c.args.above test) (bucket_for c.args.sought) (places_in sc x) i c.loop-next.found (rw c.in-Some.is at c.loop-next.invariant)
    (keyed-for sc c.args.sought c.args.above c.index-x.ensures) c.latest_above-next.ensures
    (elim c.else-i-above.branch [
      | else-i-above-via-then-i-above+else-matches w ↦ tests_above c.args.above test i w.if-i-above.true w.matches.ensures ∙ w.if-matches.false
      | else-i-above-via-else-i-above w ↦ tests_below c.args.above test i w.if-i-above.false
    ])

pub returns : goal.returns
returns c =
    let sc = schema_of c.args.schema.now in
    let x = c.index-x.result in
    let test = matches_at sc c.args.sought in
    let fits : c.args.above ≤ places_in sc x = rw c.index-x.ensures (search rules) in
    walk_end (key_in sc x) (test_above c.args.above test) (bucket_for c.args.sought) (places_in sc x) c.loop-next.found
    (rw (place-none c.loop-next.next c.in_default.not-Some) at c.loop-next.invariant)
    ∙ first_above c.args.above test (places_in sc x) fits
