use mathlib.Core.List.{List}
use mathlib.Core.Path.{◌≡◌, refl, sym, ap, ◌∙◌}
use Prim.Native.Nat.{ℕ, ◌+◌, ◌-◌, ◌*◌, ◌≤◌, ◌<◌}
use native.Mathlib.Omega.{arith}
use borrow.Author.Rules.{rules}
use borrow.Rule.Slice.PartMut.{put_mid}
use lib.ListN.{length, get_or, take, set, length-set}
use Rattle.std.proofs.lemmas.List.{places}
use Rattle.std.proofs.lemmas.Slice.{between-put_mid}
use Rattle.pairing.proofs.Laws.Rows.{get_d_part}
use Rattle.tables.specs.Records.{list_of}
use Rattle.tables.specs.ModelTable.{model_of}
use Rattle.merge_rules.specs.Pairing.{children}
use Rattle.pairing.proofs.Laws.Children.{children-text, children-child, children-all, item-small, row-end, rows_none, rows_more}
use Rattle.pairing.proofs.children.copy_rows.Goals as goal

pub loop-i-init : goal.loop-i-init
loop-i-init g c = (omega arith, refl, rows_none g.row.WIDTH c.args.work.now)

pub loop-i-preserved-in_default : goal.loop-i-preserved-in_default
loop-i-preserved-in_default g c =
    let h = c.loop-i-test.true in (
      omega (arith, c.loop-i.invariant.0),
      c.loop-i.invariant.1,
      rw (children-text (list_of (model_of c.args.model.now) c.args.e.0) c.loop-i.i c.item_at.result (omega (arith, h, c.list_length-n.ensures)) c.item_at.ensures _ c.in_default.is) c.loop-i.invariant.2,
    )

pub overflow_cast-work : goal.overflow_cast-work
overflow_cast-work g c =
    let h : c.loop-i.i < length (list_of (model_of c.args.model.now) c.args.e.0) = omega (arith, c.loop-i-test.true, c.list_length-n.ensures) in
    omega (arith, item-small c.args.model.now c.requires.good_model c.args.e.0 c.loop-i.i c.item_at.result h c.item_at.ensures c.in-Child.x c.in-Child.is)

pub loop-i-preserved : goal.loop-i-preserved
loop-i-preserved g c =
    let width = g.row.WIDTH in
    let list = list_of (model_of c.args.model.now) c.args.e.0 in
    let w = c.loop-i.work in
    let k = c.loop-i.k in
    let x = c.in-Child.x.0 in
    let h : c.loop-i.i < length list = omega (arith, c.loop-i-test.true, c.list_length-n.ensures) in
    let fits : width * k + width ≤ length w = omega (arith, row-end width k (length list) (omega (arith, h, c.loop-i.invariant.0)), c.requires.e_in_bounds, c.loop-i.invariant.1) in
    let at : width * k < length w = omega (arith, fits, c.requires.width_positive) in
    let v = set w (width * k) x in
    let a = width * k + 1 in
    let e = width * k + width in
    let zeros = c.fill.new.self in
    let w' = put_mid a (e - a) v zeros in
    let zero : (i : ℕ) → i < length zeros → get_or zeros i 0 ≡ 0 = λ i h. search rules in
    let within : a ≤ length v = omega (arith, at, length-set w (width * k) x) in
    let long : length zeros ≡ e - a = search (rules, places) in
    let size : length w' ≡ length w = search (rules, places) in (
      omega (arith, c.loop-i.invariant.0),
      size ∙ c.loop-i.invariant.1,
      rw (children-child list c.loop-i.i c.item_at.result h c.item_at.ensures c.in-Child.x c.in-Child.is)
          (rows_more width c.requires.width_positive w w' k x (children (take c.loop-i.i list)) (omega (arith, fits, size)) c.loop-i.invariant.2
          (search (rules, places))
          (λ j a. search (rules, places))
          (λ j p q.
          let same : width * k + j ≡ a + (j - 1) = omega (arith, p) in
          rw same
          (sym (get_d_part w' a (e - a) (j - 1) (omega (arith, p, q)))
          ∙ ap (λ (l : List ℕ). get_or l (j - 1) 0) (between-put_mid a (e - a) v zeros e within long)
          ∙ zero (j - 1) (omega (arith, p, q, long))))),
    )

pub returns : goal.returns
returns g c =
    rw (← children-all (model_of c.args.model.now) c.args.e.0 _ c.loop-i.i c.list_length-n.ensures c.loop-i-test.false) c.loop-i.invariant.2
