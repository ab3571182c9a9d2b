use mathlib.Core.Path.{sym, ◌∙◌, ap}
use Rattle.deck.specs.Answers.{part_at, num_is, line_is}
use Rattle.deck.proofs.Laws.Lines.{read-bad, read-kind}
use Rattle.deck.proofs.lines.read_line.Goals as goal

pub returns-in_err-kind : goal.returns-in_err-kind
unfolding line_is num_is
returns-in_err-kind c =
    record { is = ap line_is c.from_residual.ensures ∙ sym (read-bad c.args.deck.now (part_at c.args.deck.now c.args.start c.args.end) c.split-f.result c.split-f.ensures (sym c.letter_at.ensures ∙ ap num_is c.in_err-kind.was)); fits = rw c.from_residual.ensures tt }

pub returns : goal.returns
unfolding num_is
returns c =
    record { is = c.row.ensures.is ∙ read-kind c.args.deck.now (part_at c.args.deck.now c.args.start c.args.end) c.split-f.result c.split-f.ensures c.in_ok-kind.kind (sym c.letter_at.ensures ∙ ap num_is c.in_ok-kind.was); fits = c.row.ensures.fits }
