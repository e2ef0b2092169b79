use Rattle.std.proofs.Common.{◌≡◌, ◌∙◌, ◌+◌, ◌≤◌, ◌++◌, ◌&&◌, leb, eqb, ℕ, List, Some, length, sym, ap, subst}
use Rattle.pcap_file.specs.Form.{number_in}
use Rattle.pcap_file.specs.Held.{Filled, to_come}
use Rattle.pcapng_file.proofs.Fronts.{behind_is}
use Rattle.pcapng_file.proofs.Taking.{closing_of}
use Rattle.pcapng_file.proofs.block.closing.Goals as goal

pub returns-clause-closing : goal.returns-clause-closing
returns-clause-closing g c = λ bytes e.
    let told = g.F.Files.told in
    let held = c.args.front.now.bytes in
    let grows = c.fill.ensures.grows in
    let now = (told c.fill.new.files).rest c.args.front.now.file in
    let b = c.in_ok-fill.field-0 in
    let piece = behind_is c.as_slice.result.now c.as_slice-held.result.now held c.fill.new.self.bytes grows.more c.as_slice.ensures c.as_slice-held.ensures grows.grown in
    let says = c.says-same.ensures ∙ ap (λ (xs : List ℕ). leb 4 (length xs) && eqb (number_in c.args.order xs) c.args.total) piece in
    let same = subst (λ (xs : List ℕ). to_come xs now ≡ Some (held ++ bytes)) grows.grown (grows.same_bytes ∙ ap (to_come held) e) in
    let filled = subst (λ (xs : List ℕ). Filled (length xs + 4) (held ++ grows.more) now b) c.as_slice-held.ensures (subst (λ (xs : List ℕ). Filled (length c.as_slice-held.result.now + 4) xs now b) grows.grown c.in_ok-fill.ensures.filled) in
    let most = subst (λ (xs : List ℕ). length (held ++ grows.more) ≤ length xs + 4) c.as_slice-held.ensures (subst (λ (xs : List ℕ). length xs ≤ length c.as_slice-held.result.now + 4) grows.grown c.fill.ensures.most) in
    closing_of c.args.order c.args.total held grows.more bytes now b c.says-same.result same filled most says
