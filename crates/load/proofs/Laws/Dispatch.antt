-- What a line that was read gives, by its kind. Assumes nothing.
use mathlib.Core.Path.{◌≡◌}
use Rattle.tables.specs.SetCells.{set_is}
use Rattle.tables.specs.Texts.{stored_is}
use Rattle.deck.specs.Answers.{type_is, group_is, row_is, file_is, line_is}
use Rattle.deck.specs.Load.{Loading, refused, form, given, ◌>>=◌, load_t, load_g, load_s, load_f, load_m, load_b, load_e, load_c, load_line}
use Rattle.std.specs.Prelude as program_option
use Rattle.std.specs.Prelude.{Some, None}
use Rattle.deck.specs.declared.lines.Line as program
use Rattle.deck.specs.declared.lines.Line.TheVariants.{T, G, S, F, M, B, E, C}
use Rattle.deck.specs.declared.lines.TypeCells.{TypeCells}
use Rattle.deck.specs.declared.lines.GroupCells.{GroupCells}
use Rattle.deck.specs.declared.lines.RowCells.{RowCells}
use Rattle.deck.specs.declared.lines.FileCells.{FileCells}
use Rattle.deck.specs.declared.lines.ElementCells.{ElementCells}
use Rattle.deck.specs.declared.lines.TextCells.{TextCells}
use Rattle.tables.specs.declared.numbers.FileNumber.{FileNumber}
use Rattle.load.specs.Lines.{line_result}

module _ (l : Loading) (line : program_option.Option program.Line) where
  pub result-t : (c : TypeCells) → line ≡ Some (T c) → line_result l (line_is line) ≡ load_t l c.ty.0 (type_is c)
  unfolding line_is given ◌>>=◌ load_line
  result-t c e = rw e

  pub result-g : (c : GroupCells) → line ≡ Some (G c) → line_result l (line_is line) ≡ load_g l (group_is c)
  unfolding line_is given ◌>>=◌ load_line
  result-g c e = rw e

  pub result-s : (c : RowCells) → line ≡ Some (S c) → line_result l (line_is line) ≡ load_s l (row_is c)
  unfolding line_is given ◌>>=◌ load_line
  result-s c e = rw e

  pub result_f : (c : FileCells) → line ≡ Some (F c) → line_result l (line_is line) ≡ load_f l (file_is c)
  unfolding line_is given ◌>>=◌ load_line
  result_f c e = rw e

  pub result-m : line ≡ Some M → line_result l (line_is line) ≡ load_m l
  unfolding line_is given ◌>>=◌ load_line
  result-m e = rw e

  pub result-b : (f : FileNumber) → line ≡ Some (B f) → line_result l (line_is line) ≡ load_b l f.0
  unfolding line_is given ◌>>=◌ load_line
  result-b f e = rw e

  pub result-e : (c : ElementCells) → line ≡ Some (E c) → line_result l (line_is line) ≡ load_e l c.depth c.name.0 (set_is c.set)
  unfolding line_is given ◌>>=◌ load_line
  result-e c e = rw e

  pub result-c : (c : TextCells) → line ≡ Some (C c) → line_result l (line_is line) ≡ load_c l c.depth (stored_is c.text)
  unfolding line_is given ◌>>=◌ load_line
  result-c c e = rw e

  pub result-bad : line ≡ None → line_result l (line_is line) ≡ refused form
  unfolding line_is given ◌>>=◌ load_line
  result-bad e = rw e
