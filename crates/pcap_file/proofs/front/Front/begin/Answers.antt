use Rattle.std.proofs.Common.{ℕ, ◌≡◌, ◌∙◌, List, [], subst, sym, ap}
use Rattle.pcap_file.specs.Held.{Held, to_come, Filled}
use Rattle.pcap_file.proofs.Growing.{filled_taken, at_most_taken, takes_header, none_held_after}
use Rattle.pcap_file.proofs.front.Front.begin.Goals as goal

pub returns-in_err-fill-clause-takes : goal.returns-in_err-fill-clause-takes
returns-in_err-fill-clause-takes g c =
    let told = g.F.Files.told in
    let held = c.fill.new.self.bytes in
    let same = subst (λ (h : Held). to_come held ((told c.fill.new.files).rest h.file) ≡ to_come h.bytes ((told c.args.files.now).rest h.file)) c.in-Ok.ensures c.fill.ensures.grows.same_bytes in
    takes_header ((told c.args.files.now).rest c.args.file) ((told c.fill.new.files).rest c.args.file) c.from_residual.result c.in_err-fill.field-0.0 c.from_residual.ensures.1
    (at_most_taken 24 held _ _ c.fill.ensures.most same)

pub returns-clause-takes : goal.returns-clause-takes
returns-clause-takes g c =
    let told = g.F.Files.told in
    let held = c.fill.new.self.bytes in
    let same = subst (λ (h : Held). to_come held ((told c.fill.new.files).rest h.file) ≡ to_come h.bytes ((told c.args.files.now).rest h.file)) c.in-Ok.ensures c.in_ok-fill.ensures.grows.same_bytes in
    let filled = subst (λ (h : Held). Filled 24 held ((told c.fill.new.files).rest h.file) c.in_ok-fill.field-0) c.in-Ok.ensures c.in_ok-fill.ensures.filled in
    filled_taken 24 held ((told c.args.files.now).rest c.args.file) ((told c.fill.new.files).rest c.args.file) c.in_ok-fill.field-0 filled c.fill.ensures.most same
