use Rattle.std.proofs.Common.{◌≡◌, ◌∙◌, ◌≤◌, ℕ, List, Bool, true, Some, length, sym, ap, subst, arith}
use Rattle.pcap_file.specs.Held.{Held, Grows, Filled, to_come}
use Rattle.pcapng_file.specs.Blocks.{is_section, header_in}
use Rattle.pcapng_file.proofs.Taking.{grows_then, found_header, none_header, cut_header, filled_long, section_grown}
use Rattle.pcapng_file.proofs.block.order_ahead.Goals as goal

pub returns-in_err-at_least-2-clause-grows : goal.returns-in_err-at_least-2-clause-grows
returns-in_err-at_least-2-clause-grows g c =
    let told = g.F.Files.told in
    grows_then c.args.front.now c.at_least.new.front c.at_least-2.new.front (told c.args.files.now) (told c.at_least.new.files) (told c.at_least-2.new.files) c.at_least.ensures.grows c.at_least-2.ensures.grows

pub returns-then-not-branch-2-clause-grows : goal.returns-then-not-branch-2-clause-grows
returns-then-not-branch-2-clause-grows g c =
    let told = g.F.Files.told in
    grows_then c.args.front.now c.at_least.new.front c.at_least-2.new.front (told c.args.files.now) (told c.at_least.new.files) (told c.at_least-2.new.files) c.at_least.ensures.grows c.at_least-2.ensures.grows

pub returns-then-not-branch-2-clause-none : goal.returns-then-not-branch-2-clause-none
returns-then-not-branch-2-clause-none g c = λ bytes offset e.
    let told = g.F.Files.told in
    let first = c.at_least.new.front in
    let held = c.at_least-2.new.front.bytes in
    let both = grows_then c.args.front.now first c.at_least-2.new.front (told c.args.files.now) (told c.at_least.new.files) (told c.at_least-2.new.files) c.at_least.ensures.grows c.at_least-2.ensures.grows in
    let filled = subst (λ (f : ℕ). Filled 24 held ((told c.at_least-2.new.files).rest f) c.in_ok-at_least-2.field-0) c.at_least.ensures.grows.same_file c.in_ok-at_least-2.ensures.filled in
    let eight = filled_long 8 first.bytes ((told c.at_least.new.files).rest c.args.front.now.file) c.in_ok-at_least.field-0 c.if-not-branch.false c.in_ok-at_least.ensures.filled in
    let begins : is_section first.bytes ≡ true = ap is_section (sym c.as_slice.ensures) ∙ sym c.is_pcapng.ensures ∙ c.if-not-is_pcapng.false in
    cut_header c.args.order offset held bytes ((told c.at_least-2.new.files).rest c.args.front.now.file) c.in_ok-at_least-2.field-0 c.if-not-branch-2.true filled
    (section_grown first.bytes held c.at_least-2.ensures.grows.more c.at_least-2.ensures.grows.grown (omega (arith, eight)) begins)
    (both.same_bytes ∙ e)

pub returns-clause-grows : goal.returns-clause-grows
returns-clause-grows g c =
    let told = g.F.Files.told in
    grows_then c.args.front.now c.at_least.new.front c.at_least-2.new.front (told c.args.files.now) (told c.at_least.new.files) (told c.at_least-2.new.files) c.at_least.ensures.grows c.at_least-2.ensures.grows

pub returns-clause-found : goal.returns-clause-found
returns-clause-found g c =
    let told = g.F.Files.told in
    let first = c.at_least.new.front in
    let held = c.at_least-2.new.front.bytes in
    let eight = filled_long 8 first.bytes ((told c.at_least.new.files).rest c.args.front.now.file) c.in_ok-at_least.field-0 c.if-not-branch.false c.in_ok-at_least.ensures.filled in
    let begins : is_section first.bytes ≡ true = ap is_section (sym c.as_slice.ensures) ∙ sym c.is_pcapng.ensures ∙ c.if-not-is_pcapng.false in
    found_header c.args.order held c.header_in.result (c.header_in.ensures ∙ ap header_in c.as_slice-2.ensures)
    (section_grown first.bytes held c.at_least-2.ensures.grows.more c.at_least-2.ensures.grows.grown (omega (arith, eight)) begins)
    (omega (arith, c.at_least.ensures.most, c.at_least-2.ensures.most, c.requires.ready.0))

pub returns-clause-none : goal.returns-clause-none
returns-clause-none g c = λ bytes offset e.
    let told = g.F.Files.told in
    let first = c.at_least.new.front in
    let held = c.at_least-2.new.front.bytes in
    let both = grows_then c.args.front.now first c.at_least-2.new.front (told c.args.files.now) (told c.at_least.new.files) (told c.at_least-2.new.files) c.at_least.ensures.grows c.at_least-2.ensures.grows in
    let eight = filled_long 8 first.bytes ((told c.at_least.new.files).rest c.args.front.now.file) c.in_ok-at_least.field-0 c.if-not-branch.false c.in_ok-at_least.ensures.filled in
    let begins : is_section first.bytes ≡ true = ap is_section (sym c.as_slice.ensures) ∙ sym c.is_pcapng.ensures ∙ c.if-not-is_pcapng.false in
    none_header c.args.order offset held bytes ((told c.at_least-2.new.files).rest c.args.front.now.file) c.header_in.result (c.header_in.ensures ∙ ap header_in c.as_slice-2.ensures)
    (section_grown first.bytes held c.at_least-2.ensures.grows.more c.at_least-2.ensures.grows.grown (omega (arith, eight)) begins)
    (filled_long 24 held ((told c.at_least-2.new.files).rest first.file) c.in_ok-at_least-2.field-0 c.if-not-branch-2.false c.in_ok-at_least-2.ensures.filled)
    (both.same_bytes ∙ e)
