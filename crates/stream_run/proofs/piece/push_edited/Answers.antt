use Rattle.std.proofs.Common.{◌≡◌, ◌∙◌, ◌++◌, ◌+◌, [], ℕ, List, length, take, drop, ap, sym, subst, append-nil, arith}
use Rattle.stream_run.specs.Texts.{with_edits}
use Rattle.capture_format.specs.Written.{packet_bytes, lead_length}
use Rattle.stream_run.proofs.Edited.{packet_edited, bytes_back}
use Rattle.stream_run.proofs.piece.push_edited.Goals as goal

pub returns : goal.returns
returns c =
    let e = c.args.edits.now in
    let format = c.args.format in
    let time = c.args.time in
    let original = c.args.original in
    let old = c.args.buffer.now.items in
    let frame = c.args.frame.now in
    let xs = c.push_packet.new.out.items in
    let ys = c.edit_within.new.bytes in
    let start = c.len-before.result + c.lead_length.result in
    let put : ys ≡ take start xs ++ (with_edits e (take (length frame) (drop start xs)) ++ drop (length frame) (drop start xs)) =
    subst (λ (zs : List ℕ). ys ≡ take start zs ++ (with_edits e (take (length frame) (drop start zs)) ++ drop (length frame) (drop start zs))) c.as_mut_slice.ensures.value c.edit_within.ensures.edited in
    let long : length (with_edits e (take (length frame) (drop start xs))) ≡ length (take (length frame) (drop start xs)) =
    subst (λ (zs : List ℕ). length (with_edits e (take (length frame) (drop start zs))) ≡ length (take (length frame) (drop start zs))) c.as_mut_slice.ensures.value c.edit_within.ensures.long in
    let count : length xs ≡ c.push_packet.new.out.len = omega (arith, ap length c.as_mut_slice.ensures.value) in
    let same : length ys ≡ c.push_packet.new.out.len = omega (arith, c.edit_within.auto.bytes, ap length c.as_mut_slice.ensures.value) in
    let is : xs ≡ old ++ (packet_bytes format time original frame ++ []) = c.in_ok-push_packet.ensures.ok ∙ ap (λ (p : List ℕ). old ++ p) (sym (append-nil (packet_bytes format time original frame))) in
    let at : start ≡ length old + lead_length format = omega (arith, c.len-before.ensures, c.lead_length.ensures.value) in
    bytes_back c.push_packet.new.out.len ys xs same
    ∙ packet_edited format time original e old frame xs ys [] start is at put long
    ∙ ap (λ (p : List ℕ). old ++ p) (append-nil (packet_bytes format time original (with_edits e frame)))
