use Rattle.tables.proofs.Laws.SchemaTable.{path-none, path-one, path-two, path-more}
use Rattle.tables.proofs.schema.stored_path.Goals as goal

pub returns-then-a-eq0 : goal.returns-then-a-eq0
returns-then-a-eq0 c = let p = c.args.p in path-none p.0 p.1 p.2 p.3 c.if-a-eq0.true

pub returns-then-b-eq0 : goal.returns-then-b-eq0
returns-then-b-eq0 c = let p = c.args.p in path-one p.0 p.1 p.2 p.3 c.if-a-eq0.false c.if-b-eq0.true

pub returns-then-c-eq0 : goal.returns-then-c-eq0
returns-then-c-eq0 c = let p = c.args.p in path-two p.0 p.1 p.2 p.3 c.if-a-eq0.false c.if-b-eq0.false c.if-c-eq0.true

pub returns : goal.returns
returns c = let p = c.args.p in path-more p.0 p.1 p.2 p.3 c.if-a-eq0.false c.if-b-eq0.false c.if-c-eq0.false
