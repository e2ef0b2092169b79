use Rattle.std.proofs.Common.{true, false, ◌≡◌, ◌∙◌, ◌-◌, ℕ, List, [], take, drop, Option, Some, Ok, sym, ap, subst, refl}
use Rattle.nf_files.specs.Pieces.{Takes}
use Rattle.pcap_file.specs.declared.head.Head.{Head}
use Rattle.pcap_file.specs.declared.reader.State.TheVariants.{Going}
use Rattle.pcap_file.specs.Held.{Held}
use Rattle.pcap_file.proofs.Growing.{none_held_after}
use Rattle.pcapng_file.specs.declared.step.Step.{Step}
use Rattle.pcapng_file.specs.declared.step.Step.TheVariants as step
use Rattle.pcapng_file.specs.declared.reader.Next.TheVariants.{Frame, Other}
use Rattle.pcapng_file.specs.Heard.{Stream}
use Rattle.pcapng_file.specs.Places.{Moved}
use Rattle.pcapng_file.specs.Reading.{Reading, none_left, left, IsNext, Steps}
use Rattle.pcapng_file.proofs.Stepping.{stream_at, is_left, stopped_so, quiet_so, packet_so, left_behind}
use Rattle.pcapng_file.proofs.Ready.{none_in, block_long, front_held, ready_so}
use Rattle.pcapng_file.proofs.reader.NgReader.take_ready.Goals as goal

pub returns-in-Quiet-clause-stepped : goal.returns-in-Quiet-clause-stepped
returns-in-Quiet-clause-stepped g c = λ before e.
    let told = g.F.Files.told in
    let i = c.self.inside in
    let p = i.place in
    let file = i.front.file in
    let going = ap (λ (r : Reading). r.state) c.self.view_is ∙ c.requires.going in
    let here = subst (λ (r : Reading). left r (told c.args.files.now) ≡ Some before) (sym c.self.view_is) e in
    let l = is_left p i.front i.state (told c.args.files.now) before going here in
    let empty : i.front.bytes ≡ [] = none_in i.front.bytes c.is_empty.result c.is_empty.ensures c.if-not-is_empty.false in
    let rest = (told c.take.new.self).rest file in
    let total = c.in_ok-total.total in
    let bytes = c.ahead-ready.result.now in
    let there : (told c.args.files.now).rest file ≡ Some l.bytes = sym (none_held_after i.front.bytes ((told c.args.files.now).rest file) empty) ∙ l.held_is in
    let same : g.F.Files.ready c.args.files.now file ≡ bytes = sym (c.ahead-ready.ensures.value ∙ ap (g.F.Files.ready c.args.files.now) c.file-file.ensures) in
    let taken = subst (λ (f : ℕ). Takes (take total (g.F.Files.ready c.args.files.now f)) ((told c.args.files.now).rest f) ((told c.take.new.self).rest f)) c.file-file.ensures c.take.ensures.taken in
    let these = subst (λ (xs : List ℕ). Takes (take total xs) ((told c.args.files.now).rest file) rest) same taken in
    let block = c.in_ok-total.ensures.block in
    let within = c.in_ok-total.ensures.within in
    let came : c.hear-heard.result ≡ Ok step.Quiet = c.in-Ok.is ∙ ap Ok c.in-Quiet.is in
    let held = take (total - 4) bytes in
    let both = ready_so p c.hear-heard.new.self (take total bytes) held c.hear-heard.new.frame.items l.bytes ((told c.args.files.now).rest file) rest c.order-order.result c.offset.result total c.hear-heard.result (step.Quiet)
    c.order-order.ensures c.offset.ensures block (block_long total bytes within) (front_held total bytes) these there c.hear-heard.ensures.hears came in
    let last : i.front ≡ record { file = file; bytes = [] } = ap (λ (xs : List ℕ). record { file = file; bytes = xs }) empty in
    let after = left_behind c.hear-heard.new.self i.front i.state (told c.take.new.self) file (drop total l.bytes) going last both.0.rest_is in
    after ∙ ap Some (sym (l.stream_is ∙ quiet_so p c.hear-heard.new.self l.bytes held rest (record { order = c.order-order.result; total = total }) both.0 both.1))

pub returns-in-Frame-clause-stepped : goal.returns-in-Frame-clause-stepped
returns-in-Frame-clause-stepped g c = λ before e.
    let told = g.F.Files.told in
    let i = c.self.inside in
    let p = i.place in
    let file = i.front.file in
    let going = ap (λ (r : Reading). r.state) c.self.view_is ∙ c.requires.going in
    let here = subst (λ (r : Reading). left r (told c.args.files.now) ≡ Some before) (sym c.self.view_is) e in
    let l = is_left p i.front i.state (told c.args.files.now) before going here in
    let empty : i.front.bytes ≡ [] = none_in i.front.bytes c.is_empty.result c.is_empty.ensures c.if-not-is_empty.false in
    let rest = (told c.take.new.self).rest file in
    let total = c.in_ok-total.total in
    let bytes = c.ahead-ready.result.now in
    let there : (told c.args.files.now).rest file ≡ Some l.bytes = sym (none_held_after i.front.bytes ((told c.args.files.now).rest file) empty) ∙ l.held_is in
    let same : g.F.Files.ready c.args.files.now file ≡ bytes = sym (c.ahead-ready.ensures.value ∙ ap (g.F.Files.ready c.args.files.now) c.file-file.ensures) in
    let taken = subst (λ (f : ℕ). Takes (take total (g.F.Files.ready c.args.files.now f)) ((told c.args.files.now).rest f) ((told c.take.new.self).rest f)) c.file-file.ensures c.take.ensures.taken in
    let these = subst (λ (xs : List ℕ). Takes (take total xs) ((told c.args.files.now).rest file) rest) same taken in
    let block = c.in_ok-total.ensures.block in
    let within = c.in_ok-total.ensures.within in
    let came : c.hear-heard.result ≡ Ok (step.Frame c.in-Frame.head) = c.in-Ok.is ∙ ap Ok c.in-Frame.is in
    let held = take (total - 4) bytes in
    let both = ready_so p c.hear-heard.new.self (take total bytes) held c.hear-heard.new.frame.items l.bytes ((told c.args.files.now).rest file) rest c.order-order.result c.offset.result total c.hear-heard.result ((step.Frame c.in-Frame.head))
    c.order-order.ensures c.offset.ensures block (block_long total bytes within) (front_held total bytes) these there c.hear-heard.ensures.hears came in
    let last : i.front ≡ record { file = file; bytes = [] } = ap (λ (xs : List ℕ). record { file = file; bytes = xs }) empty in
    let after = left_behind c.hear-heard.new.self i.front i.state (told c.take.new.self) file (drop total l.bytes) going last both.0.rest_is in
    let head = c.in-Frame.head in
    let items = c.hear-heard.new.frame.items in
    let next = packet_so true p c.hear-heard.new.self l.bytes held items rest (record { order = c.order-order.result; total = total }) head both.0 both.1 in
    let all = subst (λ (x : Stream). IsNext true x (stream_at c.hear-heard.new.self (drop total l.bytes)) items head) (sym l.stream_is) next in
    subst (λ (x : Option Stream). Steps (Some before) x items (Ok (Frame head))) (sym after) all

pub returns-in-Other-clause-stepped : goal.returns-in-Other-clause-stepped
returns-in-Other-clause-stepped g c = λ before e.
    let told = g.F.Files.told in
    let i = c.self.inside in
    let p = i.place in
    let file = i.front.file in
    let going = ap (λ (r : Reading). r.state) c.self.view_is ∙ c.requires.going in
    let here = subst (λ (r : Reading). left r (told c.args.files.now) ≡ Some before) (sym c.self.view_is) e in
    let l = is_left p i.front i.state (told c.args.files.now) before going here in
    let empty : i.front.bytes ≡ [] = none_in i.front.bytes c.is_empty.result c.is_empty.ensures c.if-not-is_empty.false in
    let rest = (told c.take.new.self).rest file in
    let total = c.in_ok-total.total in
    let bytes = c.ahead-ready.result.now in
    let there : (told c.args.files.now).rest file ≡ Some l.bytes = sym (none_held_after i.front.bytes ((told c.args.files.now).rest file) empty) ∙ l.held_is in
    let same : g.F.Files.ready c.args.files.now file ≡ bytes = sym (c.ahead-ready.ensures.value ∙ ap (g.F.Files.ready c.args.files.now) c.file-file.ensures) in
    let taken = subst (λ (f : ℕ). Takes (take total (g.F.Files.ready c.args.files.now f)) ((told c.args.files.now).rest f) ((told c.take.new.self).rest f)) c.file-file.ensures c.take.ensures.taken in
    let these = subst (λ (xs : List ℕ). Takes (take total xs) ((told c.args.files.now).rest file) rest) same taken in
    let block = c.in_ok-total.ensures.block in
    let within = c.in_ok-total.ensures.within in
    let came : c.hear-heard.result ≡ Ok (step.Other c.in-Other.head) = c.in-Ok.is ∙ ap Ok c.in-Other.is in
    let held = take (total - 4) bytes in
    let both = ready_so p c.hear-heard.new.self (take total bytes) held c.hear-heard.new.frame.items l.bytes ((told c.args.files.now).rest file) rest c.order-order.result c.offset.result total c.hear-heard.result ((step.Other c.in-Other.head))
    c.order-order.ensures c.offset.ensures block (block_long total bytes within) (front_held total bytes) these there c.hear-heard.ensures.hears came in
    let last : i.front ≡ record { file = file; bytes = [] } = ap (λ (xs : List ℕ). record { file = file; bytes = xs }) empty in
    let after = left_behind c.hear-heard.new.self i.front i.state (told c.take.new.self) file (drop total l.bytes) going last both.0.rest_is in
    let head = c.in-Other.head in
    let items = c.hear-heard.new.frame.items in
    let next = packet_so false p c.hear-heard.new.self l.bytes held items rest (record { order = c.order-order.result; total = total }) head both.0 both.1 in
    let all = subst (λ (x : Stream). IsNext false x (stream_at c.hear-heard.new.self (drop total l.bytes)) items head) (sym l.stream_is) next in
    subst (λ (x : Option Stream). Steps (Some before) x items (Ok (Other head))) (sym after) all

pub returns-in-Stopped-clause-stepped : goal.returns-in-Stopped-clause-stepped
returns-in-Stopped-clause-stepped g c = λ before e.
    let told = g.F.Files.told in
    let i = c.self.inside in
    let p = i.place in
    let file = i.front.file in
    let going = ap (λ (r : Reading). r.state) c.self.view_is ∙ c.requires.going in
    let here = subst (λ (r : Reading). left r (told c.args.files.now) ≡ Some before) (sym c.self.view_is) e in
    let l = is_left p i.front i.state (told c.args.files.now) before going here in
    let empty : i.front.bytes ≡ [] = none_in i.front.bytes c.is_empty.result c.is_empty.ensures c.if-not-is_empty.false in
    let rest = (told c.take.new.self).rest file in
    let total = c.in_ok-total.total in
    let bytes = c.ahead-ready.result.now in
    let there : (told c.args.files.now).rest file ≡ Some l.bytes = sym (none_held_after i.front.bytes ((told c.args.files.now).rest file) empty) ∙ l.held_is in
    let same : g.F.Files.ready c.args.files.now file ≡ bytes = sym (c.ahead-ready.ensures.value ∙ ap (g.F.Files.ready c.args.files.now) c.file-file.ensures) in
    let taken = subst (λ (f : ℕ). Takes (take total (g.F.Files.ready c.args.files.now f)) ((told c.args.files.now).rest f) ((told c.take.new.self).rest f)) c.file-file.ensures c.take.ensures.taken in
    let these = subst (λ (xs : List ℕ). Takes (take total xs) ((told c.args.files.now).rest file) rest) same taken in
    let block = c.in_ok-total.ensures.block in
    let within = c.in_ok-total.ensures.within in
    let came : c.hear-heard.result ≡ Ok step.Stopped = c.in-Ok.is ∙ ap Ok c.in-Stopped.is in
    let held = take (total - 4) bytes in
    let both = ready_so p c.hear-heard.new.self (take total bytes) held c.hear-heard.new.frame.items l.bytes ((told c.args.files.now).rest file) rest c.order-order.result c.offset.result total c.hear-heard.result (step.Stopped)
    c.order-order.ensures c.offset.ensures block (block_long total bytes within) (front_held total bytes) these there c.hear-heard.ensures.hears came in
    let moved = subst (λ (x : Step). Moved p c.hear-heard.new.self total c.args.frame.now.items c.hear-heard.new.frame.items x) c.in-Stopped.is c.in-Ok.ensures.moved in
    l.stream_is ∙ stopped_so p l.bytes held rest (record { order = c.order-order.result; total = total }) both.0 both.1 ∙ ap (λ (n : ℕ). none_left (Some n)) (sym (c.offset-in-Stopped.ensures ∙ moved.1))
