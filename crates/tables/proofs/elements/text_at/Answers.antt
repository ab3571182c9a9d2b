use mathlib.Core.Path.{◌∙◌}
use borrow.Author.Rules.{rules}
use Rattle.tables.specs.Records.{enum_number}
use Rattle.tables.specs.ElementsTable.{elements_of, TextFits}
use Rattle.tables.specs.Texts.{text_from}
use Rattle.tables.proofs.Laws.Cells.{each-get_d}
use Rattle.tables.proofs.Laws.ElementsTable.{text-back}
use Rattle.tables.proofs.elements.text_at.Goals as goal

pub returns : goal.returns
returns c =
    let texts = (elements_of c.args.elements.now).texts in
    let t = c.args.t in
    record {
      is = c.from_cells.ensures.is ∙ (λ i. text_from (c.text_cell.ensures i) (c.text_cell-2.ensures i)) ∙ text-back _ (each-get_d TextFits texts t (enum_number 0) c.requires.good_elements.sized.strings (search rules));
      fits = c.from_cells.ensures.fits;
    }
