use Rattle.tables.specs.Records.{text_of}
use Rattle.pairing.proofs.Laws.Keys.{stored-fits, string-is, not-string}
use Rattle.pairing.specs.Lent.{fixed_of}
use Rattle.pairing.proofs.keys.string_key.Goals as goal

pub returns-in-Str : goal.returns-in-Str
returns-in-Str c =
    let x = fixed_of c.args.tables.now in
    string-is x (text_of x c.args.t) (stored-fits c.args.t c.requires c.args.tables.now.good_fixed) c.stored_text.ensures c.in-Str.is

pub returns-in_default : goal.returns-in_default
returns-in_default c =
    let x = fixed_of c.args.tables.now in
    not-string x (text_of x c.args.t) c.stored_text.ensures c.in_default.not-Str
