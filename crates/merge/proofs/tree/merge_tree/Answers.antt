use mathlib.Core.Path.{◌≡◌}
use native.Mathlib.Omega.{arith}
use Rattle.state_test.specs.StateTest.{fixed_in, state_in}
use Rattle.imports.proofs.Laws.Imports.{not-done}
use Rattle.merge.proofs.Laws.Trees.{tree-done, tree-stop}
use borrow.Author.Rules.{rules}
use Rattle.merge.proofs.tree.merge_tree.Goals as goal

pub returns-in_err-merge_apart-clause-log_after : goal.returns-in_err-merge_apart-clause-log_after
returns-in_err-merge_apart-clause-log_after c =
    let same : c.from_residual.result ≡ c.merge_apart.result = search rules in
    rw same (tree-stop (fixed_in c.args.deck.now c.args.schema.now c.args.elements.now) c.args.f.0 c.args.b.0 (state_in c.args.model.now c.args.log.now) (state_in c.merge_apart.new.model c.merge_apart.new.log) _ c.merge_apart.result c.set_of-files.ensures c.merge_apart.ensures.log_after (not-done c.in_err-merge_apart.was))

pub extend-requires : goal.extend-requires
extend-requires c =
    let fits = c.merge_apart.ensures.keeps_state _ _ c.requires.state_over in record { good_model = fits.model_fits.good; good_log = fits.log_fits.good; e_bound = omega (arith, fits.model_fits.same, c.requires.names_nonzero); f_lt_file_limit = c.requires.f_lt_file_limit }

pub returns : goal.returns
returns c = record { log_after = tree-done (fixed_in c.args.deck.now c.args.schema.now c.args.elements.now) c.args.f.0 c.args.b.0 (state_in c.args.model.now c.args.log.now) (state_in c.merge_apart.new.model c.merge_apart.new.log) _ c.merge_apart.result c.set_of-files.ensures c.merge_apart.ensures.log_after c.in_ok-merge_apart.was c.extend.ensures.log_after; keeps_state = λ n texts f. c.extend.ensures.keeps_state n texts (c.merge_apart.ensures.keeps_state n texts f) }
