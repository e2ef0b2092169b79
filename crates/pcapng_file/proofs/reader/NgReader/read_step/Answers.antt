use Rattle.std.proofs.Common.{◌≡◌, ◌≢◌, ◌∙◌, ℕ, List, [], Option, Some, None, Ok, Bool, true, false, drop, sym, ap, subst}
use Rattle.nf_files.specs.Told.{Told}
use Rattle.pcap_file.specs.declared.form.Endian.{Endian}
use Rattle.pcap_file.specs.declared.head.Head.{Head}
use Rattle.pcap_file.specs.declared.reader.State.TheVariants.{Going}
use Rattle.pcap_file.specs.Held.{Held, to_come}
use Rattle.pcapng_file.specs.declared.block.Taken.{Taken}
use Rattle.pcapng_file.specs.declared.block.Taken.TheVariants.{Nothing, Torn}
use Rattle.pcapng_file.specs.declared.step.Step.TheVariants as step
use Rattle.pcapng_file.specs.declared.reader.Next.TheVariants.{Frame, Other}
use Rattle.pcapng_file.specs.Heard.{Stream}
use Rattle.pcapng_file.specs.Blocks.{block_order, is_closed}
use Rattle.pcapng_file.specs.declared.step.Step.{Step}
use Rattle.pcapng_file.specs.Taking.{IsTaken}
use Rattle.pcapng_file.specs.Places.{Moved}
use Rattle.pcapng_file.specs.Reading.{Reading, none_left, left, IsNext, Steps}
use Rattle.pcapng_file.proofs.Stepping.{reading_of, stream_at, is_left, ends_so, torn_so, stopped_so, quiet_so, packet_so, left_behind, heard_so}
use Rattle.pcapng_file.proofs.reader.NgReader.read_step.Goals as goal

pub returns-in-Nothing-clause-stepped : goal.returns-in-Nothing-clause-stepped
returns-in-Nothing-clause-stepped g c = λ before e.
    let told = g.F.Files.told in
    let i = c.self.inside in
    let p = i.place in
    let file = i.front.file in
    let going = ap (λ (r : Reading). r.state) c.self.view_is ∙ c.requires.going in
    let here = subst (λ (r : Reading). left r (told c.args.files.now) ≡ Some before) (sym c.self.view_is) e in
    let l = is_left p i.front i.state (told c.args.files.now) before going here in
    let taken = c.in_ok-take.ensures.taken l.bytes l.held_is in
    let none = subst (λ (t : Taken). IsTaken c.order.result c.offset.result l.bytes c.take.new.front.bytes ((told c.take.new.files).rest file) t) c.in-Nothing.is taken in
    l.stream_is ∙ ends_so p l.bytes none

pub returns-in-Torn-clause-stepped : goal.returns-in-Torn-clause-stepped
returns-in-Torn-clause-stepped g c = λ before e.
    let told = g.F.Files.told in
    let i = c.self.inside in
    let p = i.place in
    let file = i.front.file in
    let going = ap (λ (r : Reading). r.state) c.self.view_is ∙ c.requires.going in
    let here = subst (λ (r : Reading). left r (told c.args.files.now) ≡ Some before) (sym c.self.view_is) e in
    let l = is_left p i.front i.state (told c.args.files.now) before going here in
    let taken = c.in_ok-take.ensures.taken l.bytes l.held_is in
    let cut = subst (λ (t : Taken). IsTaken c.order.result c.offset.result l.bytes c.take.new.front.bytes ((told c.take.new.files).rest file) t) c.in-Torn.is taken in
    let one = subst (λ (o : Endian). (found : Endian) → block_order o l.bytes ≡ Some found → is_closed found c.offset.result l.bytes ≡ false) c.order.ensures cut.1 in
    let two = subst (λ (n : ℕ). (found : Endian) → block_order p.section.order l.bytes ≡ Some found → is_closed found n l.bytes ≡ false) c.offset.ensures one in
    l.stream_is ∙ torn_so p l.bytes cut.0 two ∙ ap (λ (n : ℕ). none_left (Some n)) (sym c.offset-in-Torn.ensures)

pub returns-in-Quiet-clause-stepped : goal.returns-in-Quiet-clause-stepped
returns-in-Quiet-clause-stepped g c = λ before e.
    let told = g.F.Files.told in
    let i = c.self.inside in
    let p = i.place in
    let file = i.front.file in
    let going = ap (λ (r : Reading). r.state) c.self.view_is ∙ c.requires.going in
    let here = subst (λ (r : Reading). left r (told c.args.files.now) ≡ Some before) (sym c.self.view_is) e in
    let l = is_left p i.front i.state (told c.args.files.now) before going here in
    let taken = c.in_ok-take.ensures.taken l.bytes l.held_is in
    let rest = (told c.take.new.files).rest file in
    let came : c.hear-heard.result ≡ Ok step.Quiet = c.in-Ok.is ∙ ap Ok c.in-Quiet.is in
    let both = heard_so p c.hear-heard.new.self c.take.new.front.bytes c.as_slice-held.result.now c.hear-heard.new.frame.items rest c.order.result c.offset.result l.bytes c.in_ok-take.field-0 c.in-Whole.block c.hear-heard.result (step.Quiet)
    c.order.ensures c.offset.ensures taken c.in-Whole.is c.as_slice-held.ensures c.hear-heard.ensures.hears came in
    let last = c.clear.ensures ∙ ap (λ (f : ℕ). record { file = f; bytes = [] }) c.take.ensures.same_file in
    let after = left_behind c.hear-heard.new.self c.clear.new.self i.state (told c.take.new.files) file (drop c.in-Whole.block.total l.bytes) going last both.0.rest_is in
    after ∙ ap Some (sym (l.stream_is ∙ quiet_so p c.hear-heard.new.self l.bytes c.take.new.front.bytes rest c.in-Whole.block both.0 both.1))

pub returns-in-Frame-clause-stepped : goal.returns-in-Frame-clause-stepped
returns-in-Frame-clause-stepped g c = λ before e.
    let told = g.F.Files.told in
    let i = c.self.inside in
    let p = i.place in
    let file = i.front.file in
    let going = ap (λ (r : Reading). r.state) c.self.view_is ∙ c.requires.going in
    let here = subst (λ (r : Reading). left r (told c.args.files.now) ≡ Some before) (sym c.self.view_is) e in
    let l = is_left p i.front i.state (told c.args.files.now) before going here in
    let taken = c.in_ok-take.ensures.taken l.bytes l.held_is in
    let rest = (told c.take.new.files).rest file in
    let came : c.hear-heard.result ≡ Ok (step.Frame c.in-Frame.head) = c.in-Ok.is ∙ ap Ok c.in-Frame.is in
    let both = heard_so p c.hear-heard.new.self c.take.new.front.bytes c.as_slice-held.result.now c.hear-heard.new.frame.items rest c.order.result c.offset.result l.bytes c.in_ok-take.field-0 c.in-Whole.block c.hear-heard.result (step.Frame c.in-Frame.head)
    c.order.ensures c.offset.ensures taken c.in-Whole.is c.as_slice-held.ensures c.hear-heard.ensures.hears came in
    let last = c.clear.ensures ∙ ap (λ (f : ℕ). record { file = f; bytes = [] }) c.take.ensures.same_file in
    let after = left_behind c.hear-heard.new.self c.clear.new.self i.state (told c.take.new.files) file (drop c.in-Whole.block.total l.bytes) going last both.0.rest_is in
    let head = c.in-Frame.head in
    let items = c.hear-heard.new.frame.items in
    let next = packet_so true p c.hear-heard.new.self l.bytes c.take.new.front.bytes items rest c.in-Whole.block head both.0 both.1 in
    let all = subst (λ (x : Stream). IsNext true x (stream_at c.hear-heard.new.self (drop c.in-Whole.block.total l.bytes)) items head) (sym l.stream_is) next in
    subst (λ (x : Option Stream). Steps (Some before) x items (Ok (Frame head))) (sym after) all

pub returns-in-Other-clause-stepped : goal.returns-in-Other-clause-stepped
returns-in-Other-clause-stepped g c = λ before e.
    let told = g.F.Files.told in
    let i = c.self.inside in
    let p = i.place in
    let file = i.front.file in
    let going = ap (λ (r : Reading). r.state) c.self.view_is ∙ c.requires.going in
    let here = subst (λ (r : Reading). left r (told c.args.files.now) ≡ Some before) (sym c.self.view_is) e in
    let l = is_left p i.front i.state (told c.args.files.now) before going here in
    let taken = c.in_ok-take.ensures.taken l.bytes l.held_is in
    let rest = (told c.take.new.files).rest file in
    let came : c.hear-heard.result ≡ Ok (step.Other c.in-Other.head) = c.in-Ok.is ∙ ap Ok c.in-Other.is in
    let both = heard_so p c.hear-heard.new.self c.take.new.front.bytes c.as_slice-held.result.now c.hear-heard.new.frame.items rest c.order.result c.offset.result l.bytes c.in_ok-take.field-0 c.in-Whole.block c.hear-heard.result (step.Other c.in-Other.head)
    c.order.ensures c.offset.ensures taken c.in-Whole.is c.as_slice-held.ensures c.hear-heard.ensures.hears came in
    let last = c.clear.ensures ∙ ap (λ (f : ℕ). record { file = f; bytes = [] }) c.take.ensures.same_file in
    let after = left_behind c.hear-heard.new.self c.clear.new.self i.state (told c.take.new.files) file (drop c.in-Whole.block.total l.bytes) going last both.0.rest_is in
    let head = c.in-Other.head in
    let items = c.hear-heard.new.frame.items in
    let next = packet_so false p c.hear-heard.new.self l.bytes c.take.new.front.bytes items rest c.in-Whole.block head both.0 both.1 in
    let all = subst (λ (x : Stream). IsNext false x (stream_at c.hear-heard.new.self (drop c.in-Whole.block.total l.bytes)) items head) (sym l.stream_is) next in
    subst (λ (x : Option Stream). Steps (Some before) x items (Ok (Other head))) (sym after) all

pub returns-in-Stopped-clause-stepped : goal.returns-in-Stopped-clause-stepped
returns-in-Stopped-clause-stepped g c = λ before e.
    let told = g.F.Files.told in
    let i = c.self.inside in
    let p = i.place in
    let file = i.front.file in
    let going = ap (λ (r : Reading). r.state) c.self.view_is ∙ c.requires.going in
    let here = subst (λ (r : Reading). left r (told c.args.files.now) ≡ Some before) (sym c.self.view_is) e in
    let l = is_left p i.front i.state (told c.args.files.now) before going here in
    let taken = c.in_ok-take.ensures.taken l.bytes l.held_is in
    let rest = (told c.take.new.files).rest file in
    let came : c.hear-heard.result ≡ Ok step.Stopped = c.in-Ok.is ∙ ap Ok c.in-Stopped.is in
    let both = heard_so p c.hear-heard.new.self c.take.new.front.bytes c.as_slice-held.result.now c.hear-heard.new.frame.items rest c.order.result c.offset.result l.bytes c.in_ok-take.field-0 c.in-Whole.block c.hear-heard.result (step.Stopped)
    c.order.ensures c.offset.ensures taken c.in-Whole.is c.as_slice-held.ensures c.hear-heard.ensures.hears came in
    let moved = subst (λ (x : Step). Moved p c.hear-heard.new.self c.in-Whole.block.total c.args.frame.now.items c.hear-heard.new.frame.items x) c.in-Stopped.is c.in-Ok.ensures.moved in
    l.stream_is ∙ stopped_so p l.bytes c.take.new.front.bytes rest c.in-Whole.block both.0 both.1 ∙ ap (λ (n : ℕ). none_left (Some n)) (sym (c.offset-in-Stopped.ensures ∙ moved.1))
