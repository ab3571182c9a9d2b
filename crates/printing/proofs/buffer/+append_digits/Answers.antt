use Rattle.std.proofs.Common.{suc, ◌/◌, [], ◌∷◌, ◌++◌, ℕ, ap, ◌∙◌}
use Rattle.merge_rules.specs.Program.{digits_before}
use Rattle.printing.proofs.Laws.Buffers.{then, reads}
use Rattle.printing.proofs.Laws.Digits.{one-digit, more-digits}
use Rattle.printing.proofs.buffer.+append_digits.Goals as goal

pub returns-then-n-radix : goal.returns-then-n-radix
returns-then-n-radix t c =
    reads
    (ap (λ (b : ℕ). b ∷ []) c.digit_byte-d.ensures ∙ one-digit c.args.n c.args.radix c.if-n-radix.true)
    c.append_byte.ensures

pub returns : goal.returns
returns t c =
    let n = c.args.n in
    let radix = c.args.radix in
    let high = digits_before (suc (n / radix)) radix (n / radix) [] in
    reads
    (ap (λ (b : ℕ). high ++ (b ∷ [])) c.digit_byte-d.ensures ∙ more-digits n radix c.requires.lt_radix c.if-n-radix.false)
    (then c.append_digits-k.ensures c.append_byte-2.ensures)
