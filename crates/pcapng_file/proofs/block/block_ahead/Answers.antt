use Rattle.std.proofs.Common.{◌≡◌, ◌∙◌, ◌-◌, ◌≤◌, ℕ, List, length, drop, take, leb, eqb, sym, ap, arith}
use Rattle.std.proofs.lemmas.Bool.{eqb-true}
use Rattle.pcap_file.specs.Form.{number_in}
use Rattle.pcap_file.proofs.Steps.{both_true}
use Rattle.pcapng_file.proofs.Fronts.{rest_is}
use Rattle.pcapng_file.proofs.Ready.{block_there}
use Rattle.pcapng_file.proofs.block.block_ahead.Goals as goal

pub returns-then-says-clause-block : goal.returns-then-says-clause-block
returns-then-says-clause-block c =
    let order = c.args.order in
    let bytes = c.args.bytes.now in
    let total = c.in_ok-total.total in
    let tail = take (length bytes - (total - 4)) (drop (total - 4) bytes) in
    let same = both_true (leb 4 (length tail)) (eqb (number_in order tail) total) (sym c.says.ensures ∙ c.if-says.true) in
    let closing : number_in order (drop (total - 4) bytes) ≡ total = sym (ap (number_in order) (rest_is (total - 4) bytes)) ∙ eqb-true _ _ same.1 in
    block_there order c.args.offset total bytes (omega arith) (sym c.is_pcapng.ensures ∙ c.if-is_pcapng.false) (sym c.in_ok-total.was ∙ c.total_of.ensures) (omega arith) closing (omega arith)
