use Rattle.std.proofs.Common.{◌≡◌, ◌++◌, ◌∙◌, ℕ, List, codes, ap, append_assoc}
use Rattle.call_base.specs.Named.{name_bytes}
use Rattle.call_base.specs.Texts.{queued_text}
use Rattle.call_base.proofs.text.push_full.Goals as goal

pub returns-clause-bytes : goal.returns-clause-bytes
returns-clause-bytes c =
    let old = c.args.line.now.items in
    let title = codes "share full: chain " in
    let name = c.as_slice.result.now in
    let queued = queued_text c.args.full.queue c.args.full.packet in
    c.push_queued.ensures.bytes
    ∙ ap (λ (t : List ℕ). t ++ queued) (c.push_bytes-2.ensures.bytes ∙ ap (λ (t : List ℕ). t ++ name) c.push_bytes.ensures.bytes)
    ∙ append_assoc (old ++ title) name queued ∙ append_assoc old title (name ++ queued)
    ∙ ap (λ (n : List ℕ). old ++ (title ++ (n ++ queued))) c.as_slice.ensures.value
