use Rattle.std.proofs.Common.{ℕ, ◌≤◌, ◌≡◌, ◌+◌, ◌∙◌, Bool, List, length, Some, None, cond, subst, ap}
use Rattle.pcap_file.specs.Capture.{captured_in, is_sized}
use Rattle.pcap_file.specs.Held.{Held, Filled}
use Rattle.pcap_file.specs.Reading.{IsReached}
use Rattle.pcap_file.proofs.Reaching.{reached_short, reached_filled}
use Rattle.pcap_file.proofs.reader.reach.Goals as goal

pub returns-then-not-branch-clause-reached : goal.returns-then-not-branch-clause-reached
returns-then-not-branch-clause-reached g c =
    let bytes = c.fill.new.self.bytes in
    let told = g.F.Files.told c.fill.new.files in
    let filled = subst (λ (h : Held). Filled 16 bytes (told.rest h.file) c.in_ok-fill.field-0) c.clear.ensures c.in_ok-fill.ensures.filled in
    reached_short c.args.order c.args.offset 16 bytes (told.rest c.args.front.now.file)
    (subst (λ (b : Bool). Filled 16 bytes (told.rest c.args.front.now.file) b) c.if-not-branch.true filled)

pub returns-in_ok-fill-in-Some-clause-reached : goal.returns-in_ok-fill-in-Some-clause-reached
returns-in_ok-fill-in-Some-clause-reached g c =
    let told = g.F.Files.told in
    let file = c.fill.new.self.file in
    let before = c.fill.new.self.bytes in
    let after = c.fill-in-Some.new.self.bytes in
    let long : 16 ≤ length before = subst (λ (b : Bool). Filled 16 before ((told c.fill.new.files).rest c.clear.new.self.file) b) c.if-not-branch.false c.in_ok-fill.ensures.filled in
    let sized : Some c.in-Some.wanted ≡ cond (is_sized c.args.order c.args.offset before) (Some (16 + captured_in c.args.order before)) None = subst (λ (xs : List ℕ). Some c.in-Some.wanted ≡ cond (is_sized c.args.order c.args.offset xs) (Some (16 + captured_in c.args.order xs)) None) c.as_slice.ensures c.in-Some.ensures in
    let same : file ≡ c.args.front.now.file = c.in_ok-fill.ensures.grows.same_file ∙ ap (λ (h : Held). h.file) c.clear.ensures in
    subst (λ (f : ℕ). IsReached c.args.order c.args.offset after ((told c.fill-in-Some.new.files).rest f)) same
    (reached_filled c.args.order c.args.offset c.in-Some.wanted before after ((told c.fill.new.files).rest file) ((told c.fill-in-Some.new.files).rest file) c.in_ok-fill-in-Some.field-0 long sized c.in_ok-fill-in-Some.ensures.grows.same_bytes c.in_ok-fill-in-Some.ensures.filled)
