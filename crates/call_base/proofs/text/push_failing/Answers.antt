use Rattle.std.proofs.Common.{◌≡◌, ◌++◌, ◌∙◌, ℕ, List, codes, decimal, ap, append_assoc}
use Rattle.call_base.proofs.text.push_failing.Goals as goal

pub returns-clause-bytes : goal.returns-clause-bytes
returns-clause-bytes c =
    let old = c.args.line.now.items in
    let title = codes "proof fails at line " in
    c.push_number.ensures.bytes
    ∙ ap (λ (t : List ℕ). t ++ decimal c.args.number) c.push_bytes.ensures.bytes
    ∙ append_assoc old title (decimal c.args.number)
