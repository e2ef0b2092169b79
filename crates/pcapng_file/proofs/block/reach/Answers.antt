use Rattle.std.proofs.Common.{◌≡◌, ◌∙◌, ◌+◌, ◌≤◌, ◌++◌, cond, ℕ, List, Option, Bool, true, false, Some, None, length, sym, ap, subst, arith}
use Rattle.std.specs.Option.{IfSome}
use Rattle.pcap_file.specs.declared.form.Endian.{Endian}
use Rattle.pcap_file.specs.Held.{to_come}
use Rattle.pcapng_file.specs.Blocks.{is_sized, total_in}
use Rattle.pcapng_file.specs.Taking.{IsOrdered, IsRefused, IsAccepted, IsClosed}
use Rattle.pcapng_file.proofs.Taking.{ahead, refused_sized, refused_closed, accepted}
use Rattle.pcapng_file.proofs.block.reach.Goals as goal

pub returns-in-None-total_of-clause-reached : goal.returns-in-None-total_of-clause-reached
returns-in-None-total_of-clause-reached g c = λ bytes e.
    let told = g.F.Files.told in
    let held = c.order_ahead.new.front.bytes in
    let found = c.in-Some.found in
    let a = ahead held bytes ((told c.order_ahead.new.files).rest c.args.front.now.file) (c.order_ahead.ensures.grows.same_bytes ∙ e) in
    let ordered : IsOrdered c.args.order held found = subst (λ (o : Option Endian). IfSome o (IsOrdered c.args.order held)) c.in-Some.is c.in_ok-order_ahead.ensures.found in
    let none = subst (λ (xs : List ℕ). None ≡ cond (is_sized found c.args.offset xs) (Some (total_in found xs)) None) c.as_slice.ensures (sym c.in-None-total_of.is ∙ c.total_of.ensures) in
    subst (λ (xs : List ℕ). IsRefused c.args.order c.args.offset xs held) (sym a.bytes_is) (refused_sized c.args.order found c.args.offset held a.more ordered none)

pub returns-then-branch-clause-reached : goal.returns-then-branch-clause-reached
returns-then-branch-clause-reached g c = λ bytes e.
    let told = g.F.Files.told in
    let file = c.args.front.now.file in
    let held = c.order_ahead.new.front.bytes in
    let last = c.close.new.front.bytes in
    let found = c.in-Some.found in
    let total = c.in-Some-total_of.total in
    let rest = (told c.close.new.files).rest file in
    let there = c.order_ahead.ensures.grows.same_bytes ∙ e in
    let a = ahead held bytes ((told c.order_ahead.new.files).rest file) there in
    let ordered : IsOrdered c.args.order held found = subst (λ (o : Option Endian). IfSome o (IsOrdered c.args.order held)) c.in-Some.is c.in_ok-order_ahead.ensures.found in
    let sized = subst (λ (xs : List ℕ). Some total ≡ cond (is_sized found c.args.offset xs) (Some (total_in found xs)) None) c.as_slice.ensures (sym c.in-Some-total_of.is ∙ c.total_of.ensures) in
    let closed = c.in_ok-close.ensures.closed bytes (subst (λ (f : ℕ). to_come held ((told c.order_ahead.new.files).rest f) ≡ Some bytes) (sym c.order_ahead.ensures.grows.same_file) there) in
    let here = subst (λ (f : ℕ). IsClosed found total bytes last ((told c.close.new.files).rest f) c.in_ok-close.field-0) c.order_ahead.ensures.grows.same_file closed in
    let whole = subst (λ (b : Bool). IsClosed found total bytes last rest b) c.if-branch.true here in
    subst (λ (xs : List ℕ). IsAccepted c.args.order c.args.offset xs last rest found total) (sym a.bytes_is)
    (accepted c.args.order found c.args.offset total held a.more last rest ordered sized (subst (λ (xs : List ℕ). IsClosed found total xs last rest true) a.bytes_is whole))

pub returns-else-branch-clause-reached : goal.returns-else-branch-clause-reached
returns-else-branch-clause-reached g c = λ bytes e.
    let told = g.F.Files.told in
    let file = c.args.front.now.file in
    let held = c.order_ahead.new.front.bytes in
    let last = c.close.new.front.bytes in
    let found = c.in-Some.found in
    let total = c.in-Some-total_of.total in
    let rest = (told c.close.new.files).rest file in
    let there = c.order_ahead.ensures.grows.same_bytes ∙ e in
    let a = ahead held bytes ((told c.order_ahead.new.files).rest file) there in
    let ordered : IsOrdered c.args.order held found = subst (λ (o : Option Endian). IfSome o (IsOrdered c.args.order held)) c.in-Some.is c.in_ok-order_ahead.ensures.found in
    let sized = subst (λ (xs : List ℕ). Some total ≡ cond (is_sized found c.args.offset xs) (Some (total_in found xs)) None) c.as_slice.ensures (sym c.in-Some-total_of.is ∙ c.total_of.ensures) in
    let closed = c.in_ok-close.ensures.closed bytes (subst (λ (f : ℕ). to_come held ((told c.order_ahead.new.files).rest f) ≡ Some bytes) (sym c.order_ahead.ensures.grows.same_file) there) in
    let here = subst (λ (f : ℕ). IsClosed found total bytes last ((told c.close.new.files).rest f) c.in_ok-close.field-0) c.order_ahead.ensures.grows.same_file closed in
    let open_there = subst (λ (b : Bool). IsClosed found total bytes last rest b) c.if-branch.false here in
    subst (λ (xs : List ℕ). IsRefused c.args.order c.args.offset xs last) (sym a.bytes_is)
    (refused_closed c.args.order found c.args.offset total held a.more last rest ordered sized (subst (λ (xs : List ℕ). IsClosed found total xs last rest false) a.bytes_is open_there) c.in_ok-close.ensures.long)
