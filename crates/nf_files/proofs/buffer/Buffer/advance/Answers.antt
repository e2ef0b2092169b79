use Rattle.std.proofs.Common.{◌≤◌, ◌-◌, List, ℕ, length, drop, ap, ◌∙◌, arith}
use Rattle.std.proofs.lemmas.List.{length-take}
use Rattle.nf_files.proofs.Ranges.{later_start}
use Rattle.nf_files.proofs.buffer.Buffer.advance.Goals as goal

pub returns : goal.returns
returns c =
    let b = c.self.inside in
    let long = ap (λ (xs : List ℕ). length xs) c.self.view_is in
    let le : c.args.count ≤ b.end - b.at = omega (arith, c.requires, long, length-take (b.end - b.at) (drop b.at b.bytes.items)) in
    later_start b.bytes.items b.at b.end c.args.count le ∙ ap (drop c.args.count) c.self.view_is
