use Rattle.std.proofs.Common.{◌≡◌, ◌+◌, ◌≤◌, ◌++◌, ℕ, List, length, subst, sym, ap}
use Rattle.pcap_file.specs.Held.{Filled, Skips, to_come}
use Rattle.pcap_file.proofs.Skipping.{skips_filled}
use Rattle.pcap_file.proofs.front.Front.step_over.Goals as goal

pub returns-clause-skipped : goal.returns-clause-skipped
returns-clause-skipped g c =
    let told = g.F.Files.told in
    let file = c.args.self.now.file in
    let held = c.args.self.now.bytes in
    let grows = c.in_ok-whole.ensures.grows in
    let before = (told c.args.files.now).rest file in
    let now = (told c.fill.new.files).rest file in
    let same = subst (λ (xs : List ℕ). to_come xs now ≡ to_come held before) grows.grown grows.same_bytes in
    let size = ap (λ (n : ℕ). n + c.args.piece) c.requires.held in
    let filled = subst (λ (xs : List ℕ). Filled (c.args.held + c.args.piece) xs now c.in_ok-whole.whole) grows.grown c.in_ok-whole.ensures.filled in
    let most = subst (λ (xs : List ℕ). length xs ≤ c.args.held + c.args.piece) grows.grown c.fill.ensures.most in
    skips_filled held grows.more c.args.piece before now c.in_ok-whole.whole same
    (subst (λ (n : ℕ). Filled n (held ++ grows.more) now c.in_ok-whole.whole) size filled)
    (subst (λ (n : ℕ). length (held ++ grows.more) ≤ n) size most)
