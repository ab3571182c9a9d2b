use borrow.Author.Rules.{rules}
use Rattle.pairing.proofs.Laws.Actions.{is-name, not-name, decide-path, decide-search, decide-named, decide-texts, decide-first}
use Rattle.pairing.specs.Lent.{fixed_of, model_in, element_count}
use Rattle.pairing.proofs.action.cursor_action.Goals.{then-eq-via-then-eq, then-eq-via-else-eq+then-same_element_text}
use Rattle.pairing.proofs.action.cursor_action.Goals as goal

pub returns-then-ne : goal.returns-then-ne
returns-then-ne c =
    let n = element_count c.args.tables.now in
    let x = fixed_of c.args.tables.now in
    let m = model_in c.args.tables.now in
    decide-path n x m c.args.t.0 c.args.a.0 c.args.b.0 c.element_name-m.ensures c.element_name-n.ensures (search rules) c.action_by_path.ensures

pub returns-then-not-same_key : goal.returns-then-not-same_key
returns-then-not-same_key c =
    let n = element_count c.args.tables.now in
    let x = fixed_of c.args.tables.now in
    let m = model_in c.args.tables.now in
    decide-search n x m c.args.t.0 c.args.a.0 c.args.b.0 c.element_name-m.ensures c.element_name-n.ensures (search rules) c.compared_key-kind.ensures c.key_of-key.ensures c.key_of-other.ensures c.same_key.ensures c.if-not-same_key.true

pub returns-then-eq : goal.returns-then-eq
returns-then-eq c =
    let n = element_count c.args.tables.now in
    let x = fixed_of c.args.tables.now in
    let m = model_in c.args.tables.now in
    elim c.then-eq.branch [
      | then-eq-via-then-eq w ↦ decide-named n x m c.args.t.0 c.args.a.0 c.args.b.0 c.element_name-m.ensures c.element_name-n.ensures (search rules) c.compared_key-kind.ensures c.key_of-key.ensures c.key_of-other.ensures c.same_key.ensures c.if-not-same_key.false (is-name _ (search rules))
      | then-eq-via-else-eq+then-same_element_text w ↦ decide-texts n x m c.args.t.0 c.args.a.0 c.args.b.0 c.element_name-m.ensures c.element_name-n.ensures (search rules) c.compared_key-kind.ensures c.key_of-key.ensures c.key_of-other.ensures c.same_key.ensures c.if-not-same_key.false (not-name _ (search rules)) w.same_element_text.ensures w.if-same_element_text.true
    ]

pub returns : goal.returns
returns c =
    let n = element_count c.args.tables.now in
    let x = fixed_of c.args.tables.now in
    let m = model_in c.args.tables.now in
    decide-first n x m c.args.t.0 c.args.a.0 c.args.b.0 c.element_name-m.ensures c.element_name-n.ensures (search rules) c.compared_key-kind.ensures c.key_of-key.ensures c.key_of-other.ensures c.same_key.ensures c.if-not-same_key.false (not-name _ (search rules)) c.same_element_text.ensures c.if-same_element_text.false
