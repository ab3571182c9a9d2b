use mathlib.Core.Bool.{true, false}
use mathlib.Core.Path.{◌≡◌, sym, ◌∙◌}
use Rattle.load.specs.LoadCall.{tables_of, sizes_fit}
use Rattle.load.proofs.Laws.Call.{all_fit, call-misfit, call_fits}
use Rattle.load.proofs.Laws.Empty.{empty-schema, empty-elements, empty-model, empty-log, zeros-themselves}
use Rattle.load.proofs.load.load.Goals as goal

pub returns-then-not-fits : goal.returns-then-not-fits
returns-then-not-fits c =
    let fit : sizes_fit (tables_of c.args.schema.now c.args.elements.now c.args.model.now c.args.log.now) ≡ false =
    sym c.sizes_fit-fits.ensures ∙ c.if-not-fits.true
    in
    call-misfit c.args.deck.now c.args.schema.now c.args.elements.now c.args.model.now c.args.log.now _ _ _ _
    c.clear_all.ensures.schema_after c.clear_all.ensures.elements_after c.clear_all.ensures.model_after
    c.clear.ensures fit

pub load_empty-requires : goal.load_empty-requires
load_empty-requires c =
    let fit : sizes_fit (tables_of c.args.schema.now c.args.elements.now c.args.model.now c.args.log.now) ≡ true =
    sym c.sizes_fit-fits.ensures ∙ c.if-not-fits.false
    in
    let f = all_fit _ fit in
    let s = empty-schema c.args.schema.now _ c.clear_all.ensures.schema_after f.schema_fits in
    let e = empty-elements c.args.elements.now _ c.clear_all.ensures.elements_after f.elements_fits in
    record { holds_schema = s; holds_elements = e; holds_model = empty-model c.args.model.now _ c.clear_all.ensures.model_after f.model_fits }

pub returns : goal.returns
returns c =
    let fit : sizes_fit (tables_of c.args.schema.now c.args.elements.now c.args.model.now c.args.log.now) ≡ true =
    sym c.sizes_fit-fits.ensures ∙ c.if-not-fits.false
    in
    c.load_empty.ensures _ (zeros-themselves c.args.log.now _ c.clear.ensures) (empty-log c.args.log.now _ c.clear.ensures (all_fit _ fit).log_fits)
    ∙ call_fits c.args.deck.now c.args.schema.now c.args.elements.now c.args.model.now c.args.log.now _ _ _ _
    c.clear_all.ensures.schema_after c.clear_all.ensures.elements_after c.clear_all.ensures.model_after
    c.clear.ensures fit
