-- Tables that pass refusal 0 are read without a test of their own. Assumes nothing.
use mathlib.Core.Bool.{true}
use mathlib.Core.List.{List}
use mathlib.Core.Path.{◌≡◌, sym, ap, ◌∙◌}
use Prim.Native.Nat.{ℕ, ◌+◌, ◌≤◌, ◌<◌}
use native.Mathlib.Omega.{arith}
use borrow.Author.Tests.{ltb-true}
use lib.ListN.{length, get_or}
use Rattle.tables.specs.Limits.{depth_limit}
use Rattle.tables.specs.Records.{enum_number, child, list_of}
use Rattle.tables.specs.ElementsTable.{elements_of, no_tree}
use Rattle.tables.specs.ModelTable.{flat, start_of, count_of, model_of}
use Rattle.table_test.specs.ElementsTest.{TextIn, TreeIn}
use Rattle.table_test.specs.ModelTest.{item_in_range, TestedModel}
use Rattle.table_test.specs.TablesTest.{TestedTables}
use Rattle.state_test.specs.StateTest.{lent_tables_pass}
use Rattle.tables.proofs.Laws.Cells.{each-get_d}
use Rattle.tables.proofs.Laws.Lists.{get_d-flat}
use Rattle.tables.proofs.Laws.ModelTable.{start-room, total-flat, listed_below}
use Rattle.tables.proofs.Laws.Scans.{all-at}
use Rattle.state_test.proofs.Laws.Passed.{root-there}
use Rattle.state_test.proofs.Laws.States.{passed-tables}
use Rattle.printing.specs.TreeLines.{Readable}

-- every item of a list is in the range of what it names
item-in-range : (texts : ℕ) (xs : List ℕ) (e i : ℕ) → TestedModel texts xs → i < length (list_of (model_of xs) e)
    → item_in_range (count_of (model_of xs)) texts (get_or (list_of (model_of xs) e) i (child 0)) ≡ true
item-in-range texts xs e i t h =
    let m = model_of xs in
    let r = start-room xs t.good e (listed_below xs t.good e i h) in
    let k : start_of m.lists e + i < length (flat m.lists) = rw (total-flat m t.good.sized) (omega arith) in
    ap (item_in_range (count_of m) texts) (sym (get_d-flat m.lists e i (child 0) h))
    ∙ all-at (item_in_range (count_of m) texts) (flat m.lists) (start_of m.lists e + i) (child 0) t.items k

module _ (deck schema es m log : List ℕ) where
  pub readable : 0 < count_of (model_of m) → TestedTables (length deck) schema es m log → Readable deck es m
  unfolding item_in_range
  readable some t =
      let g = t.elements_tested.good in
      let same = t.same in
      let depths = g.sized.same_depths in
      record {
        elements_good = g;
        model_good = t.model_tested.good;
        some = some;
        same = t.same;
        low = λ e h. each-get_d (λ (d : ℕ). d ≤ depth_limit) (elements_of es).depths e 0 t.elements_tested.depths (omega arith);
        strings = λ i h. each-get_d (TextIn (length deck)) (elements_of es).texts i (enum_number 0) t.elements_tested.texts h;
        texts = λ e i k h f.
            let texts = length (elements_of es).texts in
            ltb-true k texts (sym (ap (item_in_range (count_of (model_of m)) texts) f) ∙ item-in-range texts m e i t.model_tested h);
        roots = λ i h. rw same (each-get_d (TreeIn (length (elements_of es).names)) (elements_of es).trees i no_tree t.elements_tested.trees h).1;
      }

  pub readable-passed : lent_tables_pass deck schema es m log ≡ true → Readable deck es m
  readable-passed p = readable (root-there deck schema es m log p) (passed-tables deck schema es m log p)
